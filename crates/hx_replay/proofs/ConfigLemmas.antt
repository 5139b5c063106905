-- A configuration by its name: what is known of it, and what it loads as.
use Rattle.std.proofs.Common.{◌≡◌, ℕ, suc, List, [], ◌∷◌, Option, None, Some, Result, Ok, Err, IfOk, IfSome, map, length, IsSomeAnd, ◌⊎◌, inl, inr, refl, ◌∙◌, sym, ap, subst}
use Rattle.hx_base.specs.Pairs.{NamedBytes, value_at}
use Rattle.hx_core.specs.World.{FitRules}
use Rattle.hx_load.specs.LoadResult.{LoadJudgesLast, LoadReadsLast, LoadsHeld}
use Rattle.hx_load.specs.Loads.{Loading, Loads, loaded, ReadsFile}
use Rattle.hx_load.specs.Loads as loading
use Rattle.hx_load.specs.References.{HasFiles}
use Rattle.hx_load.specs.declared.LoadFault.{LoadFault}
use Rattle.hx_load.specs.declared.LoadFault.TheVariants as load
use Rattle.hx_load.proofs.LoadedLemmas.{loads}
use Rattle.hx_outside.specs.Makers.{ExpressionText}
use Rattle.hx_refs.specs.References.{References, version_entries, RefsState}
use Rattle.hx_refs.specs.declared.Limits.{Limits}
use Rattle.hx_rules.specs.Programs.{Rules}
use Rattle.hx_rules.specs.Tables.{HasHeads, HasLists}
use Rattle.hx_replay.specs.Configs.{ConfigGives, ConfigJudgesLast, ConfigSetting, HasConfig, IsConfigFile, IsJudgement, LoadsConfig, judgement_of}
use Rattle.hx_replay.specs.Program.{Program, usual_limits}

-- the files, as far as it is known what they hold
abbrev pub files_in : Option NamedBytes → NamedBytes
files_in None = []
files_in (Some files) = files

pub files_in_are : (held : Option NamedBytes) → HasFiles held (files_in held)
files_in_are None = tt
files_in_are (Some files) = refl

-- the configuration is what the files hold under its name, where that is known
abbrev pub IsConfig : Option NamedBytes → List ℕ → Option (List ℕ) → Type 0
IsConfig held name config = IfSome held (λ files. config ≡ value_at files name)

pub holds : (held : Option NamedBytes) (name : List ℕ) (files : NamedBytes) (config : Option (List ℕ)) → HasFiles held files → IsConfig held name config
    → IfSome held (λ known. (files ≡ known) × (config ≡ value_at known name))
holds None name files config of_files of_config = tt
holds (Some known) name files config of_files of_config = (of_files, of_config)

abbrev config_in : Option NamedBytes → List ℕ → Option (List ℕ)
config_in None name = None
config_in (Some files) name = value_at files name

config_in_is : (held : Option NamedBytes) (name : List ℕ) → IsConfig held name (config_in held name)
config_in_is None name = tt
config_in_is (Some files) name = refl

-- what a configuration loads as, where nothing else is known of it
abbrev pub some_judgement : ConfigSetting → Loading
some_judgement s = judgement_of s (files_in s.held) (config_in s.held s.name)

pub some_is_judgement : (s : ConfigSetting) → IsJudgement s (some_judgement s)
some_is_judgement s = record {
  config = config_in s.held s.name;
  files = files_in s.held;
  of_files = holds s.held s.name (files_in s.held) (config_in s.held s.name) (files_in_are s.held) (config_in_is s.held s.name);
  is = refl;
}

not_missing : (name : List ℕ) (rules : Rules) (refs : References) → loading.Missing name ≡ loading.Accepted rules refs → ⊥
not_missing name rules refs is = cc

accepts_by : (s : ConfigSetting) (program : Program) (judgement : Loading) (files : NamedBytes) (config : Option (List ℕ)) → HasConfig s files config
    → judgement ≡ judgement_of s files config → judgement ≡ loading.Accepted program.rules program.references → ConfigGives s program
accepts_by s program judgement files None of_files is accepted =
    absurd (not_missing s.name program.rules program.references (sym is ∙ accepted))
accepts_by s program judgement files (Some config) of_files is accepted = record {
  config = config;
  files = files;
  of_files = of_files;
  is = subst (λ (said : Loading). Loads s.env usual_limits files config said) (sym is ∙ accepted) (loads s.env usual_limits files config);
}

-- a configuration that loads as a program is accepted
pub accepts : (s : ConfigSetting) (program : Program) (judgement : Loading) → IsJudgement s judgement
    → judgement ≡ loading.Accepted program.rules program.references → ConfigGives s program
accepts s program judgement j accepted = accepts_by s program judgement j.files j.config j.of_files j.is accepted

-- The configuration was read: its bytes, and the files, limits and text that `load` is given.
pub record GivenToLoad (s : ConfigSetting) (now : Option NamedBytes) (limits : Limits) (items text : List ℕ) : Type 0 where
  pub config : IsConfig s.held s.name (Some items)
  pub files : now ≡ s.held
  pub usual : limits ≡ usual_limits
  pub bytes : text ≡ items

is_config : (held : Option NamedBytes) (name items : List ℕ) → IfSome held (λ files. value_at files name ≡ Some items)
    → IsConfig held name (Some items)
is_config None name items known = tt
is_config (Some files) name items known = sym known

pub reads_config : (s : ConfigSetting) (now : Option NamedBytes) (limits : Limits) (items text : List ℕ)
    → IfSome s.held (λ files. value_at files s.name ≡ Some items) → now ≡ s.held → limits ≡ usual_limits → text ≡ items
    → GivenToLoad s now limits items text
reads_config s now limits items text known files usual bytes =
    record { config = is_config s.held s.name items known; files = files; usual = usual; bytes = bytes }

-- what is said of these is said of those of the setting
pub here : (s : ConfigSetting) (now : Option NamedBytes) (limits : Limits) (items text : List ℕ) → GivenToLoad s now limits items text
    → (P : Option NamedBytes → Limits → List ℕ → Type 0) → P now limits text → P s.held usual_limits items
here s now limits items text r P p =
    subst (λ (t : List ℕ). P s.held usual_limits t) r.bytes
    (subst (λ (l : Limits). P s.held l text) r.usual (subst (λ (h : Option NamedBytes). P h limits text) r.files p))

loads_here : (s : ConfigSetting) (items : List ℕ) (result : Result (Rules × RefsState) LoadFault) → IsConfig s.held s.name (Some items)
    → LoadsHeld s.held s.env usual_limits items result → LoadsConfig s result
loads_here s items (Ok made) config l = record {
  config = Some items;
  files = l.files;
  of_files = holds s.held s.name l.files (Some items) l.of_files config;
  is = sym l.is;
}
loads_here s items (Err (load.Refused line code)) config l = record {
  config = Some items;
  files = l.files;
  of_files = holds s.held s.name l.files (Some items) l.of_files config;
  is = sym l.is;
}
loads_here s items (Err load.Failed) config l = tt
loads_here s items (Err load.TooLarge) config l = tt
loads_here s items (Err load.NoMemory) config l = tt

pub config_loads : (s : ConfigSetting) (now : Option NamedBytes) (limits : Limits) (items text : List ℕ) (result : Result (Rules × RefsState) LoadFault)
    → GivenToLoad s now limits items text → LoadsHeld now s.env limits text result → LoadsConfig s result
config_loads s now limits items text result read l =
    loads_here s items result read.config
    (here s now limits items text read (λ (h : Option NamedBytes) (m : Limits) (t : List ℕ). LoadsHeld h s.env m t result) l)

-- the configuration is the file that wasn't read
pub config_unread : (s : ConfigSetting) (last : Option (List ℕ)) → last ≡ Some s.name → IsSomeAnd last (IsConfigFile s)
config_unread s last is = rw is (inl refl)

comes_to : (s : ConfigSetting) (items : List ℕ) (files : NamedBytes) (last : Option (List ℕ)) → IsConfig s.held s.name (Some items)
    → HasFiles s.held files → IsSomeAnd last (ReadsFile s.env usual_limits files items) → IsSomeAnd last (IsConfigFile s)
comes_to s items files None config of_files reads = absurd reads
comes_to s items files (Some name) config of_files reads =
    inr (record { config = items; files = files; of_files = holds s.held s.name files (Some items) of_files config; is = reads })

pub load_reads : (s : ConfigSetting) (now : Option NamedBytes) (limits : Limits) (items text : List ℕ) (last : Option (List ℕ))
    → GivenToLoad s now limits items text → LoadReadsLast now s.env limits text last → IsSomeAnd last (IsConfigFile s)
load_reads s now limits items text last read l =
    let there : LoadReadsLast s.held s.env usual_limits items last =
    here s now limits items text read (λ (h : Option NamedBytes) (m : Limits) (t : List ℕ). LoadReadsLast h s.env m t last) l in
    comes_to s items there.files last read.config there.of_files there.reads

-- the last name stays, or is that of a file that is read: after the configuration was read
pub load_named : (s : ConfigSetting) (now : Option NamedBytes) (limits : Limits) (items text : List ℕ) (old mid new : Option (List ℕ))
    → GivenToLoad s now limits items text → mid ≡ old → (new ≡ mid) ⊎ LoadReadsLast now s.env limits text new
    → (new ≡ old) ⊎ IsSomeAnd new (IsConfigFile s)
load_named s now limits items text old mid new read kept (inl stays) = inl (stays ∙ kept)
load_named s now limits items text old mid new read kept (inr l) = inr (load_reads s now limits items text new read l)

-- a text that loading reads
pub load_judges : (s : ConfigSetting) (now : Option NamedBytes) (limits : Limits) (items text : List ℕ) (large : Option ExpressionText)
    → GivenToLoad s now limits items text → LoadJudgesLast now s.env limits text large → ConfigJudgesLast s large
load_judges s now limits items text large read l =
    let there : LoadJudgesLast s.held s.env usual_limits items large =
    here s now limits items text read (λ (h : Option NamedBytes) (m : Limits) (t : List ℕ). LoadJudgesLast h s.env m t large) l in
    record {
      config = items;
      files = there.files;
      of_files = holds s.held s.name there.files (Some items) there.of_files read.config;
      is = there.judged;
    }

map_count : {A B : Type 0} (f : A → B) (xs : List A) → length xs ≡ length (map f xs)
map_count f [] = refl
map_count f (x ∷ xs) = ap suc (map_count f xs)

-- rules that name heads and lists of the references fit them
pub fits : (refs : References) (rules : Rules) → HasHeads refs.heads rules → HasLists (length refs.references) rules → FitRules refs rules
fits refs rules heads lists = record {
  heads = heads;
  lists = subst (λ (count : ℕ). HasLists count rules) (map_count (λ reference. version_entries reference None) refs.references) lists;
}

pub fits_where : (result : Result (Rules × RefsState) LoadFault) → IfOk result (λ made. HasHeads made.1.content.heads made.0)
    → IfOk result (λ made. HasLists (length made.1.content.references) made.0) → IfOk result (λ made. FitRules made.1.content made.0)
fits_where (Ok made) heads lists = fits made.1.content made.0 heads lists
fits_where (Err fault) heads lists = tt
