-- Files in memory, and their state after a read.
use Rattle.std.specs.Prelude.{ℕ, Option, Some, List, Result, Ok, Err}
use Rattle.hx_base.specs.Pairs.{NamedBytes}
use Rattle.hx_outside.specs.Count.{next_count}
use Rattle.hx_outside.specs.declared.fault.FileFault.{FileFault}
use Rattle.hx_outside.specs.declared.fault.FileFault.TheVariants.{Failed, NoMemory}

-- the pairs of a name and its bytes, the numbers of the calls that fail (the first call is 1), how
-- many calls were made, how many of them failed, and the name of the last one that failed
pub record MemFilesState : Type 0 where
  pub held : NamedBytes
  pub fails : List ℕ
  pub calls : ℕ
  pub faults : ℕ
  pub last : Option (List ℕ)

-- the state after a read of `name`: the call is counted, and so is a fault, whose name is the last
abbrev pub mem_files_after_read :
    {T : Type 0} → MemFilesState → List ℕ → Result T FileFault → MemFilesState
mem_files_after_read state name (Ok _) = record state { calls = next_count state.calls }
mem_files_after_read state name (Err Failed) =
    record state {
      calls = next_count state.calls;
      faults = next_count state.faults;
      last = Some name;
    }
mem_files_after_read state name (Err NoMemory) = record state { calls = next_count state.calls }
