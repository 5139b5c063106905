-- A sink in memory, and its state after a write.
use Rattle.std.specs.Prelude.{ℕ, List, ◌++◌, take, Result, Ok, Err}
use Rattle.hx_outside.specs.Count.{next_count}
use Rattle.hx_outside.specs.declared.fault.SinkFault.{SinkFault}
use Rattle.hx_outside.specs.declared.fault.SinkFault.TheVariants.{Failed, NoMemory}

-- the bytes written so far, how many a write takes at most, the numbers of the calls that fail (the
-- first call is 1), how many calls were made, and how many of them failed
pub record MemSinkState : Type 0 where
  pub written : List ℕ
  pub piece : ℕ
  pub fails : List ℕ
  pub calls : ℕ
  pub faults : ℕ

-- the state after a write of `bytes`: the call is counted, those bytes that it took are the last
-- ones, and a fault is counted
abbrev pub mem_sink_after_write : MemSinkState → List ℕ → Result ℕ SinkFault → MemSinkState
mem_sink_after_write state bytes (Ok count) =
    record state { written = state.written ++ take count bytes; calls = next_count state.calls }
mem_sink_after_write state bytes (Err Failed) =
    record state { calls = next_count state.calls; faults = next_count state.faults }
mem_sink_after_write state bytes (Err NoMemory) = record state { calls = next_count state.calls }
