-- What the code keeps while it looks for texts in a request: what a fetch leads to, where texts
-- stand, and those that are left of them while they are read.
use Rattle.std.specs.Prelude.{ℕ, List, [], ◌∷◌, ◌++◌, Option}
use Rattle.std.specs.List.{flat_map}
use Rattle.std.specs.Option.{option_copied, option_to_list}
use Rattle.std.specs.Str.{bytes_eq, str_eq_ignore_ascii_case}
use Rattle.hx_lists.specs.HeaderValues.{hdr_values}
use Rattle.hx_lists.specs.NamedValues.{NamedValue, cookies, params}
use Rattle.hx_sample.specs.declared.sample.Value.{Value}
use Rattle.hx_fetch.specs.declared.lookup.TextQuery.{TextQuery}
use Rattle.hx_fetch.specs.declared.texts.LineForm.{LineForm}
use Rattle.hx_fetch.specs.declared.texts.LineForm.TheVariants as form
use Rattle.hx_fetch.specs.declared.texts.LineRest.{LineRest}
use Rattle.hx_fetch.specs.declared.texts.LineRest.TheVariants as rest
use Rattle.hx_fetch.specs.declared.texts.TextSource.{TextSource}
use Rattle.hx_fetch.specs.declared.texts.TextSource.TheVariants as source
use Rattle.hx_fetch.specs.Fetches.{text_occurrences}
use Rattle.hx_fetch.specs.Picks.{selection}
use Rattle.hx_fetch.specs.Names.{values_by, header_lines, header_values, cookie_values}

-- the lines of a header among these, each as what follows the name
abbrev pub lines_under : Option (List ℕ) → List NamedValue → List (List ℕ)
lines_under name lines = values_by str_eq_ignore_ascii_case name lines

-- the values of the cookies or parameters of a name among these
abbrev pub values_under : Option (List ℕ) → List NamedValue → List (List ℕ)
values_under name pairs = values_by bytes_eq name pairs

-- the texts of a source
abbrev pub source_texts : TextSource → List (List ℕ)
source_texts (source.Lines message name) = header_lines (option_copied name) message.now
source_texts (source.Values message name) = header_values (option_copied name) message.now
source_texts (source.Cookies message name) = cookie_values (option_copied name) message.now
source_texts (source.Params message name delim) =
    values_under (option_copied name) (params message.now.target delim)

-- the texts that a header line is cut into; of cookies, those of the name
abbrev pub texts_of_line : LineForm → Option (List ℕ) → List ℕ → List (List ℕ)
texts_of_line form.Whole name line = line ∷ []
texts_of_line form.Values name line = hdr_values line
texts_of_line form.Cookies name line = values_under name (cookies line)

-- the texts that are left of a line, or of a target; of cookies and parameters, those of the name
abbrev pub texts_of_rest : Option (List ℕ) → LineRest → List (List ℕ)
texts_of_rest name (rest.Line line) = option_to_list (option_copied line)
texts_of_rest name (rest.Values values) = values
texts_of_rest name (rest.Cookies pairs) = values_under name pairs
texts_of_rest name (rest.Params pairs) = values_under name pairs

-- the texts that are left of a line, and those of the lines after it
abbrev pub texts_of_reader : Option (List ℕ) → LineRest → LineForm → List (List ℕ) → List (List ℕ)
texts_of_reader name rest form lines =
    texts_of_rest name rest ++ flat_map (texts_of_line form name) lines

-- the occurrences that a fetch about lines, values, cookies or parameters leads to
abbrev pub query_occurrences : TextQuery → List (Option Value)
query_occurrences query =
    text_occurrences query.kind (selection query.at (source_texts query.source))
