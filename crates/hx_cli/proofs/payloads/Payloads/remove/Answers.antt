use Rattle.std.proofs.Common.{ap, ◌∙◌}
use Rattle.std.proofs.lemmas.Cmp.{nat_cmp_total}
use Rattle.std.specs.FinMap as finite
use Rattle.std.specs.FinMap.{nat_cmp-IsAntisymmetric}
use Rattle.hx_sample.proofs.MapLemmas.{seen_without}
use Rattle.hx_cli.proofs.payloads.Payloads.remove.Goals as goal

pub returns : goal.returns
returns c =
    seen_without nat_cmp_total nat_cmp-IsAntisymmetric c.self.inside.payloads c.remove.new.self c.args.session c.remove.ensures.updates.0
    ∙ ap (λ payloads. finite.remove payloads c.args.session) c.self.view_is
