use Rattle.std.proofs.Common.{ap, sym, ◌∙◌}
use Rattle.std.proofs.lemmas.Cmp.{nat_cmp_total}
use Rattle.std.specs.FinMap as map
use Rattle.hx_sample.proofs.MapLemmas.{answers_alike}
use Rattle.hx_core.proofs.connections.Connections.get.Goals as goal

pub returns : goal.returns
returns c =
    c.get.ensures.value ∙ sym (answers_alike nat_cmp_total c.self.inside.conns c.args.id)
    ∙ ap (λ conns. map.get conns c.args.id) c.self.view_is
