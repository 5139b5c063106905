-- A configuration by its name: what it loads as, and what is read for that.
use Rattle.std.specs.Prelude.{◌≡◌, ◌⊎◌, ℕ, List, IfSome, IsSomeAnd, Option, None, Some, Result, Ok, Err, ⊤}
use Rattle.std.specs.declared.alloc.Global.{Global}
use Rattle.std.specs.declared.vec.Vec.{Vec}
use Rattle.hx_base.specs.Pairs.{NamedBytes, pairs_of, value_at}
use Rattle.hx_load.specs.Loads.{GivesProgram, Judges, Loading, ReadsFile, loaded}
use Rattle.hx_load.specs.Loads as loading
use Rattle.hx_load.specs.declared.LoadFault.{LoadFault}
use Rattle.hx_load.specs.declared.LoadFault.TheVariants as load
use Rattle.hx_outside.specs.Makers.{ExpressionText}
use Rattle.hx_refs.specs.References.{RefsState}
use Rattle.hx_replay.specs.Program.{Program, usual_limits}
use Rattle.hx_rules.specs.Programs.{Rules}
use Rattle.hx_words.specs.Variable.{Env}

-- What is known of one configuration: the environment, what the files hold, as far as that is
-- known, and its name.
pub record ConfigSetting : Type 0 where
  pub env : Env
  pub held : Option NamedBytes
  pub name : List ℕ

abbrev pub config_setting : List (Vec ℕ Global × Vec ℕ Global) → Option NamedBytes → List ℕ
    → ConfigSetting
config_setting env held name = record { env = pairs_of env; held = held; name = name }

-- these are the files, and the configuration is what they hold under its name, where that is known
abbrev pub HasConfig : ConfigSetting → NamedBytes → Option (List ℕ) → Type 0
HasConfig s files config = IfSome s.held (λ held. (files ≡ held) × (config ≡ value_at held s.name))

-- The files hold a configuration of which this is so, under what they hold besides, as far as it is
-- known.
pub record HoldsConfig (s : ConfigSetting) (P : NamedBytes → List ℕ → Type 0) : Type 0 where
  pub config : List ℕ
  pub files : NamedBytes
  pub of_files : HasConfig s files (Some config)
  pub is : P files config

-- the configuration is accepted as this program
abbrev pub ConfigGives : ConfigSetting → Program → Type 0
ConfigGives s program = HoldsConfig s (λ files config.
    GivesProgram s.env usual_limits files config program.rules program.references)

-- the files that are read for a configuration: itself, and those to which it comes when it is
-- loaded, with no fault before them
abbrev pub IsConfigFile : ConfigSetting → List ℕ → Type 0
IsConfigFile s name = (name ≡ s.name)
    ⊎ HoldsConfig s (λ files config. ReadsFile s.env usual_limits files config name)

-- the last text that was too large for the maker is one that is read as a regular expression when
-- the configuration is loaded
abbrev pub ConfigJudgesLast : ConfigSetting → Option ExpressionText → Type 0
ConfigJudgesLast s large = HoldsConfig s (λ files config.
    IsSomeAnd large (Judges s.env usual_limits files config))

-- ---- what it loads as

-- what a configuration loads as; where there is none, its own file is missing
abbrev pub judgement_of : ConfigSetting → NamedBytes → Option (List ℕ) → Loading
judgement_of s files None = loading.Missing s.name
judgement_of s files (Some config) = loaded s.env usual_limits files config

-- this is what the configuration loads as, as far as the files are known
pub record IsJudgement (s : ConfigSetting) (judgement : Loading) : Type 0 where
  pub config : Option (List ℕ)
  pub files : NamedBytes
  pub of_files : HasConfig s files config
  pub is : judgement ≡ judgement_of s files config

-- a configuration as it was loaded
abbrev pub program_of : Rules × RefsState → Program
program_of loaded = record { rules = loaded.0; references = loaded.1.content }

-- the configuration is accepted, and this was loaded of it
abbrev pub IsAccepted : ConfigSetting → Rules × RefsState → Type 0
IsAccepted s loaded = IsJudgement s (loading.Accepted loaded.0 loaded.1.content)

-- what comes of a configuration is what it loads as
abbrev pub LoadsConfig : ConfigSetting → Result (Rules × RefsState) LoadFault → Type 0
LoadsConfig s (Ok loaded) = IsAccepted s loaded
LoadsConfig s (Err (load.Refused line code)) =
    IsJudgement s (loading.Refused (record { line = line; code = code }))
LoadsConfig s (Err load.Failed) = ⊤
LoadsConfig s (Err load.TooLarge) = ⊤
LoadsConfig s (Err load.NoMemory) = ⊤
