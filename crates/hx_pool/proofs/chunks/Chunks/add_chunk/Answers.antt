use Rattle.std.proofs.Common.{arith, [], ◌∷◌, ◌++◌, ap, ◌∙◌}
use Rattle.hx_pool.proofs.ChunkLemmas.{one_more, one_more_view}
use Rattle.hx_pool.proofs.chunks.Chunks.add_chunk.Goals as goal

pub invariant_of-self-2 : goal.invariant_of-self-2
invariant_of-self-2 g c =
    let few = c.self.inside.chunks.ok in
    one_more c.self.inside.chunks.items _ c.self.inside.len c.self.invariant (omega arith)
    (c.push_reserved.ensures.items ∙ ap (λ xs. xs ++ c.in_ok-chunk.chunk ∷ []) c.reserve.ensures.items
    ∙ ap (λ x. c.self.inside.chunks.items ++ x ∷ []) c.in_ok-chunk.ensures)

pub returns-clause-ok : goal.returns-clause-ok
returns-clause-ok g c =
    rw (← c.self.view_is) (one_more_view c.self.inside.chunks.items _ c.self.inside.len c.self.invariant
    (c.push_reserved.ensures.items ∙ ap (λ xs. xs ++ c.in_ok-chunk.chunk ∷ []) c.reserve.ensures.items
    ∙ ap (λ x. c.self.inside.chunks.items ++ x ∷ []) c.in_ok-chunk.ensures))
