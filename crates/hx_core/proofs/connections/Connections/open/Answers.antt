use Rattle.std.proofs.Common.{ap, ◌∙◌}
use Rattle.std.proofs.lemmas.Cmp.{nat_cmp_total}
use Rattle.std.specs.FinMap as map
use Rattle.std.specs.FinMap.{nat_cmp-IsAntisymmetric}
use Rattle.hx_sample.proofs.MapLemmas.{seen_with}
use Rattle.hx_core.proofs.connections.Connections.open.Goals as goal

pub returns-clause-ok : goal.returns-clause-ok
returns-clause-ok c =
    seen_with nat_cmp_total nat_cmp-IsAntisymmetric c.self.inside.conns c.insert.new.self c.args.conn.id c.args.conn c.in_ok-insert.ensures.updates.0
    ∙ ap (λ conns. map.insert conns c.args.conn.id c.args.conn) c.self.view_is
