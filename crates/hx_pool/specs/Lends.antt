-- What is left once a `&mut` that was lent has ended.
use Rattle.std.specs.Prelude.{ℕ, List, Some, slice_set}
use Rattle.std.specs.Borrow.{Lends, Fml, RattleType, MutBor}
use Rattle.hx_pool.specs.declared.slot.Slot.{Slot}
use Rattle.hx_pool.specs.contracts.slot.Slot as slot
use Rattle.hx_pool.specs.declared.memory.Places.{Places}
use Rattle.hx_pool.specs.contracts.memory.Places as places
use Rattle.hx_pool.specs.contracts.chunk.Chunk as chunk
use Rattle.hx_pool.specs.contracts.chunks.Chunks as chunks
use Rattle.hx_pool.specs.Pool.{Pool, with_value}
use Rattle.hx_pool.specs.contracts.pool.Pool as pool

module _ (T : RattleType) where
  -- the places with the last value written through r at the index
  abbrev pub lends_place : MutBor (Places T.Denot) → ℕ → MutBor T.Denot → Fml
  lends_place p i r = Lends (places.the_row T) T p r
      (λ x. record
      { mark = p.now.mark; start = p.now.start; values = slice_set p.now.values i (Some x) })

  abbrev pub lends_slot_of_chunk : MutBor (List (Slot T.Denot)) → ℕ → MutBor (Slot T.Denot) → Fml
  lends_slot_of_chunk c i r =
      Lends (chunk.the_row T) (slot.the_row T) c r (λ slot. slice_set c.now i slot)

  abbrev pub lends_slot : MutBor (List (Slot T.Denot) × ℕ) → ℕ → MutBor (Slot T.Denot) → Fml
  lends_slot c i r = Lends (chunks.the_row T) (slot.the_row T) c r
      (λ slot. (slice_set c.now.0 i slot, c.now.1))

  -- the pool with the last value written through r at the number
  abbrev pub lends_value : MutBor (Pool T.Denot) → ℕ → MutBor T.Denot → Fml
  lends_value p id r = Lends (pool.the_row T) T p r (with_value p.now id)
