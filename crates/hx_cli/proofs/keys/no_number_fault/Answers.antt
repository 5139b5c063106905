use Rattle.std.proofs.Common.{ap, sym, ◌∙◌}
use Rattle.std.specs.Prelude.{Some, if◌then◌else◌}
use Rattle.hx_refs.specs.declared.fault.RefFault.TheVariants.{BadVersion, KeyNotFound}
use Rattle.hx_cli.proofs.KeyLemmas.{none_deleted}
use Rattle.hx_cli.proofs.keys.no_number_fault.Goals as goal

pub returns-then-has_version : goal.returns-then-has_version
returns-then-has_version c =
    none_deleted c.args.refs.now.content c.args.r c.args.ver c.requires
    ∙ ap (λ has. Some (if has then KeyNotFound else BadVersion)) (sym c.has_version.ensures ∙ c.if-has_version.true)

pub returns-else-has_version : goal.returns-else-has_version
returns-else-has_version c =
    none_deleted c.args.refs.now.content c.args.r c.args.ver c.requires
    ∙ ap (λ has. Some (if has then KeyNotFound else BadVersion)) (sym c.has_version.ensures ∙ c.if-has_version.false)
