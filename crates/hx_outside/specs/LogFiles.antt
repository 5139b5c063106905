-- Files beside the names of their reads.
use Rattle.std.specs.Prelude.{ℕ, Option, List, map, Vec}
use Rattle.hx_outside.specs.Log.{FileLog}

-- the files within, and the log, where that is known
pub record LogFilesState (F : Type 0) : Type 0 where
  pub inner : F
  pub log : Option FileLog

-- names as vectors of bytes, as the log that they make
abbrev pub names_of : {A : Type 0} → List (Vec ℕ A) → FileLog
names_of names = map (λ name. name.items) names
