-- Which entries a word of a removal or of a change of value speaks of.
use Rattle.std.proofs.Common.{◌≡◌, ℕ, ◌<◌, Bool, true, false, List, [], ◌∷◌, length, drop, take, refl, ap, arith, inl, inr}
use Rattle.std.specs.Prelude.{codes, not, Option, None, Some, is_some, slice_get, if◌then◌else◌}
use Rattle.std.specs.List.{list_any}
use Rattle.std.specs.Option.{option_map_or, option_or}
use Rattle.std.proofs.lemmas.Option.{slice_get_cases}
use Rattle.std.specs.Str.{bytes_eq}
use Rattle.hx_base.specs.Bytes.{is_given}
use Rattle.hx_sample.specs.Changes.{has_key}
use Rattle.hx_sample.specs.Find.{Entry}
use Rattle.hx_refs.specs.Changes.{deletion_fault, fault_at, fault_unless, value_fault}
use Rattle.hx_refs.specs.References.{has_version, refuses_value, version_entries, version_place, Reference, References}
use Rattle.hx_refs.specs.declared.fault.RefFault.{RefFault}
use Rattle.hx_refs.specs.declared.fault.RefFault.TheVariants.{BadValue, BadVersion, KeyNotFound}
use Rattle.hx_cli.specs.Effects.{is_meant, number_after_sign}

-- the entry has the number, if there is one
abbrev has_this_number : Option ℕ → Entry → Bool
has_this_number number entry = is_given number entry.number

pub meant_key : (word : List ℕ) → bytes_eq (take 1 word) (codes "#") ≡ false → is_meant word ≡ has_key word
meant_key word other = rw other refl

pub meant_number : (word rest : List ℕ) (number : Option ℕ) → bytes_eq (take 1 word) (codes "#") ≡ true
    → rest ≡ drop 1 word → number ≡ number_after_sign rest → is_meant word ≡ has_this_number number
meant_number word rest number sign is said = rw (sign, ← is, ← said) refl

-- ---- a word that writes no number

none_chosen : (entries : List Entry) → list_any (has_this_number None) entries ≡ false
none_chosen [] = refl
none_chosen (entry ∷ entries) = none_chosen entries

-- the fault of a removal that chooses no entry
pub none_deleted : (refs : References) (r : ℕ) (ver : Option ℕ) → r < length refs.references
    → fault_at refs r (deletion_fault ver (has_this_number None))
    ≡ Some (if has_version refs r ver then KeyNotFound else BadVersion)
none_deleted refs r ver within = elim (slice_get_cases refs.references r).1 [
  | inl w ↦ rw (w.2, none_chosen (version_entries w.0 ver)) (by_place (is_some (version_place w.0 ver)))
  | inr past ↦ absurd (omega (arith, past.0, within))
]
  where
    by_place : (has : Bool)
        → option_or (fault_unless has BadVersion) (fault_unless false KeyNotFound) ≡ Some (if has then KeyNotFound else BadVersion)
    by_place true = refl
    by_place false = refl

-- a change of a value is refused as a removal is
pub none_valued : (refs : References) (r : ℕ) (ver : Option ℕ) (test : Entry → Bool) (v : List ℕ) (fault : RefFault)
    → fault_at refs r (deletion_fault ver test) ≡ Some fault → fault_at refs r (value_fault ver test v) ≡ Some fault
none_valued refs r ver test v fault is = go (slice_get refs.references r) is
  where
    go : (found : Option Reference) → option_map_or (deletion_fault ver test) found None ≡ Some fault
        → option_map_or (value_fault ver test v) found None ≡ Some fault
    go None is = absurd (cc)
    go (Some x) is =
        ap (λ (own : Option RefFault). option_or own (fault_unless (not (refuses_value x.outputs v)) BadValue)) is
