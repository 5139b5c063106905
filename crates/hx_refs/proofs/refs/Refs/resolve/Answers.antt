use Rattle.std.proofs.Common.{refl}
use Rattle.hx_refs.specs.Kept.{table_heads}
use Rattle.hx_refs.proofs.KeptLemmas.{content_of}
use Rattle.hx_refs.proofs.refs.Refs.resolve.Goals as goal

pub resolve-requires : goal.resolve-requires
resolve-requires c = c.self.invariant.all.few

pub returns : goal.returns
returns c =
    rw (← c.self.view_is)
    (c.resolve.ensures (content_of c.self.inside.limits c.self.inside.first (table_heads c.self.inside.heads.items) c.self.inside.kept.kept) refl)
