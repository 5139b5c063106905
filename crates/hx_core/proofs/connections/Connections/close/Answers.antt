use Rattle.std.proofs.Common.{ap, ◌∙◌}
use Rattle.std.proofs.lemmas.Cmp.{nat_cmp_total}
use Rattle.std.specs.FinMap as map
use Rattle.std.specs.FinMap.{nat_cmp-IsAntisymmetric}
use Rattle.hx_sample.proofs.MapLemmas.{seen_without}
use Rattle.hx_core.proofs.connections.Connections.close.Goals as goal

pub returns : goal.returns
returns c =
    seen_without nat_cmp_total nat_cmp-IsAntisymmetric c.self.inside.conns c.remove.new.self c.args.id c.remove.ensures.updates.0
    ∙ ap (λ conns. map.remove conns c.args.id) c.self.view_is
