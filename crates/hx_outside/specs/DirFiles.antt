-- The machine's files, of which only the faults are known.
use Rattle.std.specs.Prelude.{ℕ, Option, None, Some, List, Result, Ok, Err}
use Rattle.hx_base.specs.Pairs.{NamedBytes}
use Rattle.hx_outside.specs.Count.{next_count}
use Rattle.hx_outside.specs.declared.fault.FileFault.{FileFault}
use Rattle.hx_outside.specs.declared.fault.FileFault.TheVariants.{Failed, NoMemory}

-- how many reads failed, and the name of the last one that did
pub record DirFilesState : Type 0 where
  pub faults : ℕ
  pub last : Option (List ℕ)

-- the state after a read of `name`: a fault is counted, and its name is the last
abbrev pub dir_files_after_read :
    {T : Type 0} → DirFilesState → List ℕ → Result T FileFault → DirFilesState
dir_files_after_read state name (Ok _) = state
dir_files_after_read state name (Err Failed) =
    record { faults = next_count state.faults; last = Some name }
dir_files_after_read state name (Err NoMemory) = state

-- what the machine's files hold: it isn't known
abbrev pub unknown_files : Option NamedBytes
unknown_files = None
