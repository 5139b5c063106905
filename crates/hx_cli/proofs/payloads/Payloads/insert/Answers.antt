use Rattle.std.proofs.Common.{ap, ◌∙◌}
use Rattle.std.proofs.lemmas.Cmp.{nat_cmp_total}
use Rattle.std.specs.FinMap as finite
use Rattle.std.specs.FinMap.{nat_cmp-IsAntisymmetric}
use Rattle.hx_sample.proofs.MapLemmas.{seen_with}
use Rattle.hx_cli.proofs.payloads.Payloads.insert.Goals as goal

pub returns-clause-ok : goal.returns-clause-ok
returns-clause-ok c =
    seen_with nat_cmp_total nat_cmp-IsAntisymmetric c.self.inside.payloads c.insert.new.self c.args.session c.args.payload c.in_ok-insert.ensures.updates.0
    ∙ ap (λ payloads. finite.insert payloads c.args.session c.args.payload) c.self.view_is
