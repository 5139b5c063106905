use Rattle.std.proofs.Common.{◌≡◌, ap, sym, ◌∙◌}
use Rattle.std.specs.List.{position}
use Rattle.hx_calls.specs.Known.{is_of_file}
use Rattle.hx_calls.specs.KnownView.{form_of}
use Rattle.hx_calls.proofs.TableSpecLemmas.{position_map}
use Rattle.hx_calls.proofs.known.Knowledge.file_position.Goals as goal

pub returns : goal.returns
returns c =
    let specs = c.self.inside.references.items in
    let same : c.deref.result.now ≡ specs = c.deref.ensures.value in
    rw (← c.self.view_is) (c.position_of_file.ensures
    ∙ (ap (position (λ spec. is_of_file c.args.name.now (form_of spec))) same
    ∙ sym (position_map form_of (is_of_file c.args.name.now) specs)))
