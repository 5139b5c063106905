-- The files that are read for a configuration, in their order: itself, and then those that it
-- names.
use Rattle.std.specs.Prelude.{◌≡◌, ◌≢◌, ◌⊎◌, ℕ, List, [], ◌∷◌, Contains, Option, Result, Ok, Err}
use Rattle.hx_load.specs.Configuration.{Refusal}
use Rattle.hx_load.specs.Files.{IsLastRead, ReadsAllFiles, ReadsFirstFiles, ReadsUpToRefusal}
use Rattle.hx_load.specs.declared.LoadFault.{LoadFault}
use Rattle.hx_load.specs.declared.LoadFault.TheVariants as load
use Rattle.hx_refs.specs.References.{RefsState}
use Rattle.hx_replay.specs.Configs.{ConfigSetting, HoldsConfig}
use Rattle.hx_replay.specs.Program.{usual_limits}
use Rattle.hx_rules.specs.Programs.{Rules}

-- the files that are read of a configuration that is accepted: itself, and then all that it names
pub record ReadsWhole (s : ConfigSetting) (names : List (List ℕ)) : Type 0 where
  pub others : List (List ℕ)
  pub names_are : names ≡ s.name ∷ others
  pub all : HoldsConfig s (λ files config. ReadsAllFiles s.env config others)

-- The files that are read of a configuration that isn't loaded, where a run ends with this status
-- for it, and `last` is the name of the last file that couldn't be read: itself, and then, where it
-- is refused, those up to the entry that is, and none where its lines alone are; and at any status
-- the first of those that it names, with no entry refused before the last of these.
pub record ReadsPart (s : ConfigSetting) (last : Option (List ℕ)) (status : ℕ)
    (names : List (List ℕ)) : Type 0 where
  pub ended : Contains (3 ∷ 5 ∷ 6 ∷ 7 ∷ 8 ∷ []) status
  pub others : List (List ℕ)
  pub names_are : names ≡ s.name ∷ others
  pub refused : status ≡ 3
      → HoldsConfig s (λ files config. (refusal : Refusal)
      × ReadsUpToRefusal s.env usual_limits files config refusal others)
  pub unread : status ≡ 5 → IsLastRead last names
  pub first : (others ≡ [])
      ⊎ HoldsConfig s (λ files config.
      ReadsFirstFiles s.env usual_limits files config others)

-- The files that are read where a run ends with this status: all of a configuration that is
-- accepted, which no run ends for with status 3, or those of one that isn't loaded.
abbrev pub ReadsConfigFiles : ConfigSetting → (last : Option (List ℕ)) → (status : ℕ) → List (List ℕ)
    → Type 0
ReadsConfigFiles s last status names =
    ReadsPart s last status names ⊎ ((status ≢ 3) × ReadsWhole s names)

-- the status with which a run ends whose configuration isn't loaded
abbrev pub load_status : LoadFault → ℕ
load_status (load.Refused line code) = 3
load_status load.Failed = 5
load_status load.TooLarge = 8
load_status load.NoMemory = 7

-- the files that are read when a configuration is loaded, by what comes of it
abbrev pub ReadsToLoad : ConfigSetting → (last : Option (List ℕ))
    → Result (Rules × RefsState) LoadFault → List (List ℕ) → Type 0
ReadsToLoad s last (Ok loaded) names = ReadsWhole s names
ReadsToLoad s last (Err fault) names = ReadsPart s last (load_status fault) names
