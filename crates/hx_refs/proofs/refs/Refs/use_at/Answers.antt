use Rattle.std.proofs.Common.{◌≡◌}
use Rattle.std.proofs.lemmas.List.{length-map}
use Rattle.hx_refs.specs.Uses.{uses_of}
use Rattle.hx_refs.specs.Kept.{table_heads}
use Rattle.hx_refs.proofs.KeptLemmas.{found_within}
use Rattle.hx_refs.proofs.refs.Refs.use_at.Goals as goal

pub returns : goal.returns
returns c =
    let kept = c.self.inside.kept.kept in
    let within = rw (length-map kept (λ k. k.shown)) at (rw (← c.self.view_is) at c.requires) in
    let found = found_within kept c.args.r within in
    let same : uses_of (table_heads c.self.inside.heads.items) c.args.r ≡ found.0.uses =
    rw found.1 at (c.self.invariant.all.uses c.args.r) in
    rw (← c.self.view_is) (rw same (c.use_at.ensures found.0 found.1))

pub use_at-requires : goal.use_at-requires
use_at-requires c = rw (length-map c.self.inside.kept.kept (λ k. k.shown)) at (rw (← c.self.view_is) at c.requires)
