-- What the reads of a source or of files were, where that is known.
use Rattle.std.specs.Prelude.{◌≡◌, ℕ, Option, None, Some, List, [], ◌∷◌, ◌++◌, take, Result, Ok, Err, ⊤}

-- The reads of a source so far, oldest first: the bytes that each of them gave, no bytes at the end,
-- and None for one that failed.
abbrev pub Log : Type 0
Log = List (Option (List ℕ))

-- the names of the files that were read so far, oldest first, one for each read whatever it gave
abbrev pub FileLog : Type 0
FileLog = List (List ℕ)

-- what a read with this result gave, where it put its bytes at the start of `buf`
abbrev pub bytes_read : {E : Type 0} → Result ℕ E → List ℕ → Option (List ℕ)
bytes_read (Ok count) buf = Some (take count buf)
bytes_read (Err _) buf = None

-- A known log grows by one read, or is unknown from then on. An unknown log stays unknown.
abbrev pub Logs : {T : Type 0} → Option (List T) → Option (List T) → T → Type 0
Logs old None read = ⊤
Logs None (Some new) read = ⊥
Logs (Some old) (Some new) read = new ≡ old ++ (read ∷ [])

-- where the new log is known, P holds of the reads made since the old log
abbrev pub HoldsSince : {T : Type 0} →
    Option (List T) → Option (List T) → (List T → Type 0) → Type 0
HoldsSince old None P = ⊤
HoldsSince None (Some new) P = ⊥
HoldsSince {T} (Some old) (Some new) P = (reads : List T) × (new ≡ old ++ reads) × P reads
