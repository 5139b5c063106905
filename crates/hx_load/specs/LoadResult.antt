-- Views of what `load` answers, for private contracts.
use Rattle.std.specs.Prelude.{◌≡◌, ℕ, List, Option, IsSomeAnd, Result, Ok, Err, ⊤}
use Rattle.hx_base.specs.Pairs.{NamedBytes}
use Rattle.hx_outside.specs.Makers.{ExpressionText}
use Rattle.hx_refs.specs.References.{RefsState}
use Rattle.hx_refs.specs.declared.Limits.{Limits}
use Rattle.hx_rules.specs.Programs.{Rules}
use Rattle.hx_words.specs.Variable.{Env}
use Rattle.hx_filling.specs.Files.{IsLastRead}
use Rattle.hx_filling.specs.References.{HasFiles, HoldsUnder}
use Rattle.hx_filling.specs.declared.load_fault.LoadFault.{LoadFault}
use Rattle.hx_filling.specs.declared.load_fault.LoadFault.TheVariants as load
use Rattle.hx_load.specs.Files.{ReadsAllFiles, ReadsFirstFiles, ReadsUpToRefusal}
use Rattle.hx_load.specs.Loads.{Judges, Loading, ReadsFile, loaded}
use Rattle.hx_load.specs.Loads as loading

-- a configuration is loaded as it should be, under these files
abbrev pub LoadsAs : Result (Rules × RefsState) LoadFault → Loading → Type 0
LoadsAs (Ok given) expected = expected ≡ loading.Accepted given.0 given.1.content
LoadsAs (Err (load.Refused l code)) expected =
    expected ≡ loading.Refused (record { line = l; code = code })
LoadsAs (Err load.Failed) expected = ⊤
LoadsAs (Err load.TooLarge) expected = ⊤
LoadsAs (Err load.NoMemory) expected = ⊤

-- the same under some files, which are those that are held, where that is known
pub record LoadsHeld (held : Option NamedBytes) (env : Env) (limits : Limits)
    (config : List ℕ)
    (result : Result (Rules × RefsState) LoadFault) : Type 0 where
  pub files : NamedBytes
  pub of_files : HasFiles held files
  pub is : LoadsAs result (loaded env limits files config)

-- the last name that was read in vain is that of a file to which the configuration comes
pub record LoadReadsLast (held : Option NamedBytes) (env : Env) (limits : Limits)
    (config : List ℕ)
    (last : Option (List ℕ)) : Type 0 where
  pub files : NamedBytes
  pub of_files : HasFiles held files
  pub reads : IsSomeAnd last (ReadsFile env limits files config)

-- the last text that was too large for a maker is one that loading reads as an expression
pub record LoadJudgesLast (held : Option NamedBytes) (env : Env) (limits : Limits)
    (config : List ℕ)
    (large : Option ExpressionText) : Type 0 where
  pub files : NamedBytes
  pub of_files : HasFiles held files
  pub judged : IsSomeAnd large (Judges env limits files config)

-- The files that were read before loading answered this, where `last` is the name of the last one
-- that couldn't be read: all of them, or those up to the one at which it ended.
abbrev pub LoadReads : Option NamedBytes → Env → Limits → List ℕ
    → Result (Rules × RefsState) LoadFault → Option (List ℕ) → List (List ℕ) → Type 0
LoadReads held env limits config (Ok _) last names = ReadsAllFiles env config names
LoadReads held env limits config (Err (load.Refused l code)) last names =
    HoldsUnder held (λ files.
    ReadsUpToRefusal env limits files config (record { line = l; code = code }) names)
LoadReads held env limits config (Err load.Failed) last names =
    HoldsUnder held (λ files. ReadsFirstFiles env limits files config names)
    × IsLastRead last names
LoadReads held env limits config (Err load.TooLarge) last names =
    HoldsUnder held (λ files. ReadsFirstFiles env limits files config names)
LoadReads held env limits config (Err load.NoMemory) last names =
    HoldsUnder held (λ files. ReadsFirstFiles env limits files config names)
