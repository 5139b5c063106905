-- A source in memory, and its state after a read.
use Rattle.std.specs.Prelude.{ℕ, List, drop, Result, Ok, Err}
use Rattle.hx_outside.specs.Count.{next_count}

-- the bytes not yet read, how many a read gives at most, the numbers of the calls that fail (the
-- first call is 1), how many calls were made, and how many of them failed
pub record MemSourceState : Type 0 where
  pub left : List ℕ
  pub piece : ℕ
  pub fails : List ℕ
  pub calls : ℕ
  pub faults : ℕ

-- the state after a read: the call is counted, the bytes that it gave are gone, and a fault is
-- counted
abbrev pub mem_source_after_read : {E : Type 0} → MemSourceState → Result ℕ E → MemSourceState
mem_source_after_read state (Ok count) =
    record state { left = drop count state.left; calls = next_count state.calls }
mem_source_after_read state (Err _) =
    record state { calls = next_count state.calls; faults = next_count state.faults }
