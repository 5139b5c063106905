use Rattle.std.proofs.Common.{sym, ap, ◌∙◌}
use Rattle.std.specs.Prelude.{option_map}
use Rattle.hx_acl.specs.PredefinedView.{keyed_acl}
use Rattle.hx_acl.proofs.PredefinedLemmas.{predefined_row}
use Rattle.hx_acl.proofs.predefined.predefined_named.Goals as goal

pub returns : goal.returns
returns c = predefined_row c.args.name.now ∙ ap (λ found. option_map keyed_acl found) (sym c.entry_at.ensures)
