use Rattle.std.proofs.Common.{refl}
use Rattle.std.proofs.lemmas.List.{length-map}
use Rattle.hx_refs.specs.Kept.{table_heads}
use Rattle.hx_refs.proofs.KeptLemmas.{kept_with_new}
use Rattle.hx_refs.proofs.refs.Refs.add_ref.Goals as goal

pub invariant_of-self-2 : goal.invariant_of-self-2
invariant_of-self-2 c =
    let heads = table_heads c.self.inside.heads.items in
    let kept = c.self.inside.kept.kept in
    let few = rw (length-map kept (λ k. k.shown)) at (rw (← c.self.view_is) at c.requires.few) in
    let all = c.self.invariant.all in
    let id = rw (← c.self.view_is) at c.requires.id in
    let file = rw (← c.self.view_is) at c.requires.file in record {
      all = rw c.in_ok-push.ensures.ok (kept_with_new heads kept _ few refl id file all);
      placed = c.self.invariant.placed;
    }
