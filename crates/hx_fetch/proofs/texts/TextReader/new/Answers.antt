use Rattle.std.proofs.Common.{◌∙◌, ap, Some}
use Rattle.std.specs.Prelude.{codes}
use Rattle.hx_fetch.specs.Names.{header_lines}
use Rattle.std.specs.List.{flat_map}
use Rattle.std.specs.Option.{option_copied}
use Rattle.hx_fetch.specs.Views.{texts_of_line}
use Rattle.hx_fetch.specs.declared.texts.LineForm.TheVariants as form
use Rattle.hx_fetch.proofs.ListLemmas.{joined_alone, cookies_by_line}
use Rattle.hx_fetch.proofs.texts.TextReader.new.Goals as goal

pub returns-in-Lines : goal.returns-in-Lines
returns-in-Lines c = rw c.in-Lines.is (c.of_lines.ensures ∙ joined_alone c.new.result ∙ c.new.ensures)

pub returns-in-Cookies : goal.returns-in-Cookies
returns-in-Cookies c =
    let name = option_copied c.in-Cookies.name in
    rw c.in-Cookies.is (c.of_lines-in-Cookies.ensures ∙ ap (flat_map (texts_of_line form.Cookies name)) c.new-in-Cookies.ensures ∙ cookies_by_line name (header_lines (Some (codes "Cookie")) c.in-Cookies.message.now))
