-- The files that a run reads, in their order: those of the old configuration, and then those of the
-- new one.
use Rattle.std.specs.Prelude.{◌≡◌, ◌⊎◌, ◌++◌, ℕ, List, Option}
use Rattle.hx_replay.specs.ConfigFiles.{ReadsConfigFiles, ReadsPart, ReadsWhole}
use Rattle.hx_diff.specs.Run.{Setting, new_of, old_of}

-- the files of the old configuration, which is accepted, and then those of the new one
pub record ReadsBoth (s : Setting) (last : Option (List ℕ)) (status : ℕ)
    (names : List (List ℕ)) : Type 0 where
  pub old_names : List (List ℕ)
  pub new_names : List (List ℕ)
  pub names_are : names ≡ old_names ++ new_names
  pub old : ReadsWhole (old_of s) old_names
  pub new : ReadsConfigFiles (new_of s) last status new_names

-- The files that were read, in their order, where a run ends with this status, and `last` is the
-- name of the last one that couldn't be read. At statuses 0, 1 and 4 those are all files of both.
abbrev pub ReadsFiles : Setting → (last : Option (List ℕ)) → (status : ℕ) → List (List ℕ) → Type 0
ReadsFiles s last status names =
    ReadsPart (old_of s) last status names ⊎ ReadsBoth s last status names
