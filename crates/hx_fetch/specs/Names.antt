-- The texts that stand under a name in a request: lines and values of headers, cookies, parameters.
-- Where no name is given, those under any name.
use Rattle.std.specs.Prelude.{ℕ, Bool, true, List, map, codes, Option, Some}
use Rattle.std.specs.List.{filter, flat_map}
use Rattle.std.specs.Option.{option_map_or}
use Rattle.std.specs.Str.{bytes_eq, str_eq_ignore_ascii_case}
use Rattle.hx_http.specs.Parts.{Parts}
use Rattle.hx_lists.specs.HeaderValues.{hdr_values}
use Rattle.hx_lists.specs.NamedValues.{NamedValue, cookies}

-- the values of the pairs whose name is the same as the one that is given, where one is
abbrev pub values_by : (List ℕ → List ℕ → Bool) → Option (List ℕ) → List NamedValue → List (List ℕ)
values_by is_same name pairs =
    map (λ pair. pair.1) (filter (λ pair. option_map_or (is_same pair.0) name true) pairs)

-- The lines of a header, each as what follows the name. Names of headers are the same whatever the
-- case of their letters (RFC 9110 section 5.1).
abbrev pub header_lines : Option (List ℕ) → Parts → List (List ℕ)
header_lines name message = values_by str_eq_ignore_ascii_case name message.headers

-- the values of a header: those of its first line, those of its second line, and so on
abbrev pub header_values : Option (List ℕ) → Parts → List (List ℕ)
header_values name message = flat_map hdr_values (header_lines name message)

-- The values of the cookies of a name, in all lines of the header `Cookie`, of which a request may
-- have several (RFC 9113 section 8.2.3). The case of letters counts in the name (HAProxy
-- configuration manual 2.4 section 7.3.6, `req.cook`).
abbrev pub cookie_values : Option (List ℕ) → Parts → List (List ℕ)
cookie_values name message =
    values_by bytes_eq name (flat_map cookies (header_lines (Some (codes "Cookie")) message))
