-- Lemmas on the files that are read for a configuration.
use Rattle.std.proofs.Common.{◌≡◌, ◌≢◌, ℕ, zero, suc, ◌<◌, ◌⊎◌, List, [], ◌∷◌, ◌++◌, Option, None, Some, Result, Ok, Err, Contains, inl, inr, arith, refl, sym, ap, ◌∙◌, append_assoc}
use Rattle.hx_base.specs.Pairs.{NamedBytes}
use Rattle.hx_load.specs.Configuration.{Refusal}
use Rattle.hx_load.specs.Files.{IsLastRead, ReadsFirstFiles, ReadsUpToRefusal}
use Rattle.hx_load.specs.LoadResult.{LoadReads}
use Rattle.hx_load.specs.References.{HoldsUnder}
use Rattle.hx_load.specs.declared.LoadFault.{LoadFault}
use Rattle.hx_load.specs.declared.LoadFault.TheVariants as load
use Rattle.hx_outside.specs.Log.{FileLog, HoldsSince, Logs}
use Rattle.hx_refs.specs.References.{RefsState}
use Rattle.hx_refs.specs.declared.Limits.{Limits}
use Rattle.hx_replay.specs.ConfigFiles.{ReadsConfigFiles, ReadsPart, ReadsToLoad, ReadsWhole, load_status}
use Rattle.hx_replay.specs.Configs.{ConfigSetting, HoldsConfig}
use Rattle.hx_replay.specs.Program.{usual_limits}
use Rattle.hx_replay.proofs.ConfigLemmas.{IsConfig, GivenToLoad, files_in, files_in_are, here, holds}
use Rattle.hx_replay.proofs.LogLemmas.{since_map}
use Rattle.hx_rules.specs.Programs.{Rules}

-- ---- logs

-- a file, and then what holds of the reads after it
pub after_one : (name : List ℕ) (old now new : Option FileLog) (P Q : FileLog → Type 0) → ((others : FileLog) → P others → Q (name ∷ others))
    → Logs old now name → HoldsSince now new P → HoldsSince old new Q
after_one name None now None P Q both one since = tt
after_one name (Some old) now None P Q both one since = tt
after_one name old None (Some new) P Q both one since = absurd since
after_one name None (Some now) (Some new) P Q both one since = absurd one
after_one name (Some old) (Some now) (Some new) P Q both one since = (
  name ∷ since.0,
  since.1 ∙ ap (λ (log : FileLog). log ++ since.0) one ∙ append_assoc old (name ∷ []) since.0,
  both since.0 since.2,
)

-- a file alone
one_alone : (name : List ℕ) (old new : Option FileLog) (Q : FileLog → Type 0) → Q (name ∷ []) → Logs old new name → HoldsSince old new Q
one_alone name None None Q holds one = tt
one_alone name (Some old) None Q holds one = tt
one_alone name None (Some new) Q holds one = absurd one
one_alone name (Some old) (Some new) Q holds one = (name ∷ [], one, holds)

-- some reads, and then others
pub joined : (old now new : Option FileLog) (P Q R : FileLog → Type 0) → ((first second : FileLog) → P first → Q second → R (first ++ second))
    → HoldsSince old now P → HoldsSince now new Q → HoldsSince old new R
joined None now None P Q R both first second = tt
joined (Some old) now None P Q R both first second = tt
joined old None (Some new) P Q R both first second = absurd second
joined None (Some now) (Some new) P Q R both first second = absurd first
joined (Some old) (Some now) (Some new) P Q R both first second = (
  first.0 ++ second.0,
  second.1 ∙ ap (λ (log : FileLog). log ++ second.0) first.1 ∙ append_assoc old first.0 second.0,
  both first.0 second.0 first.2 second.2,
)

-- ---- a configuration

-- what is so under the files that are s is so of the configuration
of_config : (s : ConfigSetting) (items : List ℕ) (P : NamedBytes → Type 0) (Q : NamedBytes → List ℕ → Type 0) → IsConfig s.held s.name (Some items)
    → ((files : NamedBytes) → P files → Q files items) → HoldsUnder s.held P → HoldsConfig s Q
of_config s items P Q config f under = record {
  config = items;
  files = under.files;
  of_files = holds s.held s.name under.files (Some items) under.of_files config;
  is = f under.files under.is;
}

-- the files up to an entry that is refused are the first ones
first_of_refused : (s : ConfigSetting) (files : NamedBytes) (items : List ℕ) (refusal : Refusal) (names : List (List ℕ))
    → ReadsUpToRefusal s.env usual_limits files items refusal names → ReadsFirstFiles s.env usual_limits files items names
first_of_refused s files items refusal names (inl (refused, none)) = inl none
first_of_refused s files items refusal names (inr (entry, are)) = inr (
  entry.read,
  entry.lines,
  record {
    before = entry.refused.before;
    spec = entry.refused.spec;
    after = entry.refused.after;
    specs_are = entry.refused.specs_are;
    filled = entry.refused.filled;
    accepted = entry.refused.accepted;
    names_are = are;
  },
)

-- the first files are read
first_read : (s : ConfigSetting) (items : List ℕ) (others : List (List ℕ)) → IsConfig s.held s.name (Some items)
    → HoldsUnder s.held (λ files. ReadsFirstFiles s.env usual_limits files items others)
    → HoldsConfig s (λ files config. ReadsFirstFiles s.env usual_limits files config others)
first_read s items others config under =
    of_config s items (λ files. ReadsFirstFiles s.env usual_limits files items others)
    (λ files config. ReadsFirstFiles s.env usual_limits files config others) config (λ files some. some) under

-- the configuration can't be read
pub files_unread : (s : ConfigSetting) (last : Option (List ℕ)) (old new : Option FileLog) → Logs old new s.name → last ≡ Some s.name
    → HoldsSince old new (ReadsToLoad s last (Err load.Failed))
files_unread s last old new one named =
    one_alone s.name old new (ReadsPart s last 5)
    (record {
      ended = (1, omega arith, refl);
      others = [];
      names_are = refl;
      refused = λ is. absurd (omega (arith, is));
      unread = λ is. ([], rw named refl);
      first = inl refl;
    })
    one

pub files_without_memory : (s : ConfigSetting) (last : Option (List ℕ)) (old new : Option FileLog) → Logs old new s.name
    → HoldsSince old new (ReadsToLoad s last (Err load.NoMemory))
files_without_memory s last old new one =
    one_alone s.name old new (ReadsPart s last 7)
    (record {
      ended = (3, omega arith, refl);
      others = [];
      names_are = refl;
      refused = λ is. absurd (omega (arith, is));
      unread = λ is. absurd (omega (arith, is));
      first = inl refl;
    })
    one

-- the name of the last of some files after the first one
last_of_others : (name : List ℕ) (last : Option (List ℕ)) (others : List (List ℕ)) → IsLastRead last others → IsLastRead last (name ∷ others)
last_of_others name None others (earlier, is) = absurd is
last_of_others name (Some found) others (earlier, is) = (name ∷ earlier, ap (λ (xs : List (List ℕ)). name ∷ xs) is)

-- what loading reads, after the configuration
loading_reads : (s : ConfigSetting) (items : List ℕ) (result : Result (Rules × RefsState) LoadFault) (last : Option (List ℕ)) → IsConfig s.held s.name (Some items)
    → (others : List (List ℕ)) → LoadReads s.held s.env usual_limits items result last others → ReadsToLoad s last result (s.name ∷ others)
loading_reads s items (Ok loaded) last config others all = record {
  others = others;
  names_are = refl;
  all = record {
    config = items;
    files = files_in s.held;
    of_files = holds s.held s.name (files_in s.held) (Some items) (files_in_are s.held) config;
    is = all;
  };
}
loading_reads s items (Err (load.Refused line code)) last config others reads =
    let refusal : Refusal = record { line = line; code = code } in
    record {
      ended = (0, omega arith, refl);
      others = others;
      names_are = refl;
      refused = λ is.
          of_config s items (λ files. ReadsUpToRefusal s.env usual_limits files items refusal others)
          (λ files config. (refusal : Refusal) × ReadsUpToRefusal s.env usual_limits files config refusal others) config
          (λ files refused. (refusal, refused)) reads;
      unread = λ is. absurd (omega (arith, is));
      first = inr (of_config s items (λ files. ReadsUpToRefusal s.env usual_limits files items refusal others)
          (λ files config. ReadsFirstFiles s.env usual_limits files config others) config
          (λ files refused. first_of_refused s files items refusal others refused) reads);
    }
loading_reads s items (Err load.Failed) last config others reads = record {
  ended = (1, omega arith, refl);
  others = others;
  names_are = refl;
  refused = λ is. absurd (omega (arith, is));
  unread = λ is. last_of_others s.name last others reads.1;
  first = inr (first_read s items others config reads.0);
}
loading_reads s items (Err load.TooLarge) last config others reads = record {
  ended = (4, omega arith, refl);
  others = others;
  names_are = refl;
  refused = λ is. absurd (omega (arith, is));
  unread = λ is. absurd (omega (arith, is));
  first = inr (first_read s items others config reads);
}
loading_reads s items (Err load.NoMemory) last config others reads = record {
  ended = (3, omega arith, refl);
  others = others;
  names_are = refl;
  refused = λ is. absurd (omega (arith, is));
  unread = λ is. absurd (omega (arith, is));
  first = inr (first_read s items others config reads);
}

pub files_of_load : (s : ConfigSetting) (held : Option NamedBytes) (limits : Limits) (items text : List ℕ) (result : Result (Rules × RefsState) LoadFault)
    (last : Option (List ℕ)) (old now new : Option FileLog) → GivenToLoad s held limits items text → Logs old now s.name
    → HoldsSince now new (LoadReads held s.env limits text result last) → HoldsSince old new (ReadsToLoad s last result)
files_of_load s held limits items text result last old now new read one since =
    after_one s.name old now new (LoadReads s.held s.env usual_limits items result last) (ReadsToLoad s last result)
    (loading_reads s items result last read.config) one
    (here s held limits items text read (λ (h : Option NamedBytes) (m : Limits) (t : List ℕ). HoldsSince now new (LoadReads h s.env m t result last)) since)

-- ---- the end of a run

-- one that isn't loaded
pub files_unloaded : (s : ConfigSetting) (fault : LoadFault) (last : Option (List ℕ)) (status : ℕ) (old new : Option FileLog) → load_status fault ≡ status
    → HoldsSince old new (ReadsToLoad s last (Err fault)) → HoldsSince old new (ReadsConfigFiles s last status)
files_unloaded s fault last status old new same since =
    since_map old new (ReadsPart s last (load_status fault)) (ReadsConfigFiles s last status) since (λ names part. inl (rw same at part))

-- one that is loaded
pub files_loaded : (s : ConfigSetting) (loaded : Rules × RefsState) (load_last last : Option (List ℕ)) (status : ℕ) (old new : Option FileLog) → status ≢ 3
    → HoldsSince old new (ReadsToLoad s load_last (Ok loaded)) → HoldsSince old new (ReadsConfigFiles s last status)
files_loaded s loaded load_last last status old new unrefused since =
    since_map old new (ReadsWhole s) (ReadsConfigFiles s last status) since (λ names whole. inr (unrefused, whole))

-- the status of a run that comes to one: that one, or where its last line couldn't be written 6 or 7
abbrev pub EndsWith : (status final : ℕ) → Type 0
EndsWith status final = (final ≡ status) ⊎ Contains (6 ∷ 7 ∷ []) final

pub ends_small : (status final n : ℕ) → EndsWith status final → n < 6 → final ≡ n → status ≡ n
ends_small status final n (inl same) small is = sym same ∙ is
ends_small status final n (inr (zero, within, six)) small is = absurd (omega (arith, six, small, is))
ends_small status final n (inr (suc zero, within, seven)) small is = absurd (omega (arith, seven, small, is))
ends_small status final n (inr (suc (suc k), within, other)) small is = absurd (omega (arith, within))

ends_later : (status final : ℕ) → EndsWith status final → Contains (3 ∷ 5 ∷ 6 ∷ 7 ∷ 8 ∷ []) status → Contains (3 ∷ 5 ∷ 6 ∷ 7 ∷ 8 ∷ []) final
ends_later status final (inl same) of_status = rw same of_status
ends_later status final (inr (zero, within, is)) of_status = (2, omega arith, is)
ends_later status final (inr (suc zero, within, is)) of_status = (3, omega arith, is)
ends_later status final (inr (suc (suc k), within, is)) of_status = absurd (omega (arith, within))

pub part_at_end : (s : ConfigSetting) (last : Option (List ℕ)) (status final : ℕ) → EndsWith status final → (names : List (List ℕ))
    → ReadsPart s last status names → ReadsPart s last final names
part_at_end s last status final ends names part = record {
  ended = ends_later status final ends part.ended;
  others = part.others;
  names_are = part.names_are;
  refused = λ three. part.refused (ends_small status final 3 ends (omega arith) three);
  unread = λ five. part.unread (ends_small status final 5 ends (omega arith) five);
  first = part.first;
}

pub config_at_end : (s : ConfigSetting) (last : Option (List ℕ)) (status final : ℕ) → EndsWith status final → (names : List (List ℕ))
    → ReadsConfigFiles s last status names → ReadsConfigFiles s last final names
config_at_end s last status final ends names (inl part) = inl (part_at_end s last status final ends names part)
config_at_end s last status final ends names (inr (unrefused, whole)) = inr (λ three. unrefused (ends_small status final 3 ends (omega arith) three), whole)
