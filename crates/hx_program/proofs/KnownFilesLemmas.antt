-- The log of files to which each read came.
use Rattle.std.proofs.Common.{ℕ, Bool, true, false, List, Option}
use Rattle.hx_outside.specs.Log.{FileLog, Logs}
use Rattle.hx_program.specs.KnownFiles.{log_where}

-- a read that comes to the files is logged as theirs is
pub logs_where : (complete : Bool) (old new : Option FileLog) (name : List ℕ) → Logs old new name
    → Logs (log_where complete old) (log_where complete new) name
logs_where true old new name one = one
logs_where false old new name one = tt
