-- The code of whatever a configuration is refused for.
use Rattle.std.proofs.Common.{◌≡◌, ◌≢◌, ◌≤◌, ◌==◌, ℕ, ◌+◌, true, List, [], ◌∷◌, length, inl, inr, Err, refl, subst, arith}
use Rattle.std.specs.List.{list_any}
use Rattle.std.proofs.lemmas.Bool.{cases_Bool, eqb-true}
use Rattle.hx_base.specs.Pairs.{NamedBytes}
use Rattle.hx_calls.specs.Codes.{HasLineCode, line_codes}
use Rattle.hx_calls.specs.declared.fault.SpellFault.{SpellFault}
use Rattle.hx_calls.specs.declared.fault.SpellFault.TheVariants as spell
use Rattle.hx_calls.specs.Known.{Known}
use Rattle.hx_calls.specs.TableSpecs.{table_specs}
use Rattle.hx_filling.specs.References.{entry_code}
use Rattle.hx_filling.proofs.EntryLemmas.{HasEntryCode, IsCoded, entry_coded}
use Rattle.hx_load.specs.Configuration.{IsRefused, Refusal, fault_code, spell_code}
use Rattle.hx_load.specs.Loads.{ChangesUnknown, GivesTwice, HasEntryFault, IsRefusedByLines, Loads, declared}
use Rattle.hx_load.specs.Loads as loading
use Rattle.hx_refs.specs.declared.Limits.{Limits}
use Rattle.hx_refs.specs.declared.RefFault.{RefFault}
use Rattle.hx_refs.specs.declared.RefFault.TheVariants as fault
use Rattle.hx_spell.proofs.LineLemmas.{line_has_code}
use Rattle.hx_words.specs.Variable.{Env}
use Rattle.hx_words.specs.Words.{words_of}
use Rattle.hx_words.specs.declared.WordFault.{WordFault}
use Rattle.hx_words.specs.declared.WordFault.TheVariants as word
use Rattle.hx_words.proofs.LineLemmas.{words_never_out_of_memory}

-- it is the code of a configuration
abbrev pub IsWithin : ℕ → Type 0
IsWithin code = (1 ≤ code) × (code ≤ 23)

-- ---- words

word_within : (fault : WordFault) → fault ≢ word.NoMemory → IsWithin (fault_code fault)
word_within word.OpenQuote never = (omega arith, omega arith)
word_within word.BadEscape never = (omega arith, omega arith)
word_within word.BadVariable never = (omega arith, omega arith)
word_within word.TooManyWords never = (omega arith, omega arith)
word_within word.NoMemory never = absurd (never refl)

-- ---- statements

abbrev AreWithin : List ℕ → Type 0
AreWithin [] = Unit {0}
AreWithin (code ∷ codes) = IsWithin code × AreWithin codes

any_within : (codes : List ℕ) (code : ℕ) → AreWithin codes
    → list_any (λ other. other == code) codes ≡ true → IsWithin code
any_within [] code within is = absurd (let no : ⊥ = cc in no)
any_within (other ∷ codes) code within is = elim (cases_Bool (other == code)) [
  | inl same ↦ subst IsWithin (eqb-true other code same) within.0
  | inr differ ↦ any_within codes code within.1 (rw differ at is)
]

lines_within : AreWithin line_codes
lines_within =
    ((omega arith, omega arith), ((omega arith, omega arith), ((omega arith, omega arith), ((omega arith, omega arith), ((omega arith, omega arith), ((omega arith, omega arith), ((omega arith, omega arith), ((omega arith, omega arith), ((omega arith, omega arith), ((omega arith, omega arith), ((omega arith, omega arith), ((omega arith, omega arith), ((omega arith, omega arith), tt)))))))))))))

spelled_within : (fault : SpellFault) → HasLineCode fault → IsWithin (spell_code fault)
spelled_within (spell.Code code) is = any_within line_codes code lines_within is
spelled_within spell.NoMemory is = absurd is

refused_within : (env : Env) (number : ℕ) (line : List ℕ) (known : Known) (code : ℕ)
    → IsRefused env number line known code → IsWithin code
refused_within env number line known code (inl f) =
    rw f.coded (word_within f.fault (λ is. words_never_out_of_memory env line
    (subst (λ (fault : WordFault). words_of env line ≡ Err fault) is f.cut)))
refused_within env number line known code (inr (inl f)) =
    rw f.coded (spelled_within f.fault (line_has_code number f.words known f.fault f.unspelled))
refused_within env number line known code (inr (inr (inl f))) = rw f.coded (omega arith, omega arith)
refused_within env number line known code (inr (inr (inr f))) = rw f.coded (omega arith, omega arith)

-- ---- entries

entry_within : (fault : RefFault) → HasEntryCode fault → IsWithin (entry_code fault)
entry_within fault.BadPattern is = (omega arith, omega arith)
entry_within fault.BadValue is = (omega arith, omega arith)
entry_within fault.VersionFull is = (omega arith, omega arith)
entry_within fault.VersionWorn is = (omega arith, omega arith)
entry_within fault.UnknownRef is = absurd is
entry_within fault.BadVersion is = absurd is
entry_within fault.KeyNotFound is = absurd is
entry_within fault.NeedsMap is = absurd is
entry_within fault.UsedAsMap is = absurd is
entry_within fault.NoMoreVersions is = absurd is
entry_within fault.TooLarge is = absurd is
entry_within fault.NoMemory is = absurd is

-- ---- a configuration

by_lines_within : (env : Env) (config : List ℕ) (refusal : Refusal)
    → IsRefusedByLines env config refusal → IsWithin refusal.code
by_lines_within env config refusal (inl f) =
    refused_within env refusal.line f.line f.read.known refusal.code f.refused
by_lines_within env config refusal (inr (inl f)) = rw f.code (omega arith, omega arith)
by_lines_within env config refusal (inr (inr f)) = rw f.code (omega arith, omega arith)

pub refusal_within : (env : Env) (limits : Limits) (files : NamedBytes) (config : List ℕ)
    (refusal : Refusal) → Loads env limits files config (loading.Refused refusal)
    → IsWithin refusal.code
refusal_within env limits files config refusal (inl f) = by_lines_within env config refusal f
refusal_within env limits files config refusal (inr f) =
    let coded = entry_coded limits (table_specs f.read.known) f.read.known.heads files
    f.refused.before f.refused.filled f.refused.accepted (0 + length f.refused.before)
    f.refused.pairs in
    rw f.refused.code (entry_within f.refused.fault
    (subst IsCoded f.refused.refused coded))
