-- What is known of the files that were read: the text of the first, and the name of the last.
use Rattle.std.specs.Prelude.{ℕ, Bool, true, false, List, Option, None, Some}
use Rattle.hx_outside.specs.Log.{FileLog}

-- Files beside the text of the first one that was read, the name of the last read after it, and
-- whether each read came to them. Without such a text there is no such name.
pub record FilesWithText (F : Type 0) : Type 0 where
  pub files : F
  pub first : Option (List ℕ)
  pub last : Option (List ℕ)
  pub complete : Bool

-- the log of files to which each read came; unknown where one didn't
abbrev pub log_where : Bool → Option FileLog → Option FileLog
log_where true log = log
log_where false log = None

-- the text of the first file, where this is what was read next
abbrev pub first_after : Option (List ℕ) → List ℕ → Option (List ℕ)
first_after None bytes = Some bytes
first_after (Some first) bytes = Some first

-- the name of the last read after the first text, where this one is next
abbrev pub last_after : Option (List ℕ) → Option (List ℕ) → List ℕ → Option (List ℕ)
last_after None last name = last
last_after (Some first) last name = Some name
