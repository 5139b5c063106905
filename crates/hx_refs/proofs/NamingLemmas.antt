-- Words that name references.
use Rattle.std.proofs.Common.{◌≡◌, ◌≢◌, ℕ, suc, ◌+◌, ◌<◌, ◌≤◌, ◌==◌, true, leb, cond, List, [], ◌∷◌, length, map, get_or, min, refl, sym, ap, arith, inl, inr}
use Rattle.std.specs.Prelude.{Option, None, Some, Result, Err, option_and_then, option_map, slice_get}
use Rattle.std.specs.List.{position_or_len}
use Rattle.std.specs.Option.{option_map_or}
use Rattle.std.specs.Str.{all_ascii_digits}
use Rattle.std.specs.Str.Parse.{digits_value}
use Rattle.std.proofs.lemmas.Bool.{cases_Bool, cases_eq, eq-eqb, leb-false, leb-true, lt-ltb, ne_eqb}
use Rattle.std.proofs.lemmas.Option.{same_Some}
use Rattle.hx_text.specs.Number.{number_of, number_up_to}
use Rattle.hx_refs.specs.declared.fault.RefFault.{RefFault}
use Rattle.hx_refs.specs.declared.fault.RefFault.TheVariants.{UnknownRef}
use Rattle.hx_refs.specs.declared.side.Side.{Side}
use Rattle.hx_refs.specs.declared.side.Side.TheVariants.{Acl, AclWrite, Map}
use Rattle.hx_refs.specs.Changes.{answer}
use Rattle.hx_refs.specs.Kept.{all_filled, filled, shown_references, StoredReference}
use Rattle.hx_refs.specs.Naming.{is_named, named_number, resolution, side_fault}
use Rattle.hx_refs.specs.References.{Reference, References}
use Rattle.hx_versions.specs.Rows.{ShownVersion}

-- ---- numbers

-- a number up to the greatest of 32 bits
pub given_within : (most n : ℕ) (text : List ℕ) → most < 4294967296 → Some n ≡ number_up_to most text
    → Some n ≡ option_map (min 4294967296) (number_of text)
unfolding number_up_to
given_within most n text small is = go (number_of text) is
  where
    some_none : Some n ≡ None → ⊥
    some_none e = cc

    go : (number : Option ℕ) → Some n ≡ option_and_then (λ m. cond (leb m most) (Some m) None) number
        → Some n ≡ option_map (min 4294967296) number
    go None is = absurd (cc)
    go (Some m) is = elim (cases_Bool (leb m most)) [
      | inl le ↦
          let same : n ≡ m = same_Some n m (rw le at is) in
          let least : n ≡ min 4294967296 m = omega (arith, small, same, leb-true m most le) in
          ap (λ (k : ℕ). Some k) least
      | inr gt ↦ absurd (some_none (rw gt at is))
    ]

-- one above it
pub given_above : (most : ℕ) (text : List ℕ) → 4294967295 ≤ most → None ≡ number_up_to most text → all_ascii_digits text ≡ true
    → 0 < length text → Some 4294967296 ≡ option_map (min 4294967296) (number_of text)
unfolding number_up_to number_of
given_above most text great is digits some = go
  where
    here : number_of text ≡ Some (digits_value 10 text)
    here = rw (lt-ltb 0 (length text) some, digits) refl

    none_some : (n : ℕ) → None ≡ Some n → ⊥
    none_some n e = cc

    go : Some 4294967296 ≡ option_map (min 4294967296) (number_of text)
    go = elim (cases_Bool (leb (digits_value 10 text) most)) [
      | inl le ↦ absurd (none_some (digits_value 10 text) (rw (here, le) at is))
      | inr gt ↦
          let least : 4294967296 ≡ min 4294967296 (digits_value 10 text) =
          omega (arith, great, leb-false (digits_value 10 text) most gt) in
          rw here (ap (λ (k : ℕ). Some k) least)
    ]

-- a number of 32 bits is the same as another, or not, also where that is given by the least above
pub same_number : (id given number : ℕ) → id < 4294967296 → given ≡ min 4294967296 number → (id == given) ≡ (id == number)
same_number id given number small is = elim (cases_eq id number) [
  | inl same ↦
      let alike : id ≡ given = omega (arith, small, is, same) in rw (eq-eqb id given alike, eq-eqb id number same) refl
  | inr other ↦
      let apart : id ≢ given = λ same. omega (arith, small, is, same, other) in
      rw (ne_eqb id given apart, ne_eqb id number other) refl
]

-- ---- references

-- what is answered for a number or a word, of references that stand from a position on
abbrev pub resolution_from : Option ℕ → List ℕ → Side → ℕ → List Reference → Result ℕ RefFault
resolution_from number word side position [] = Err UnknownRef
resolution_from number word side position (reference ∷ references) =
    cond (is_named number word reference) (answer position (side_fault side reference))
    (resolution_from number word side (position + 1) references)

resolved_from : (number : Option ℕ) (word : List ℕ) (side : Side) (position : ℕ) (references : List Reference)
    → answer (position + position_or_len (is_named number word) references)
    (option_map_or (side_fault side) (slice_get references (position_or_len (is_named number word) references)) (Some UnknownRef))
    ≡ resolution_from number word side position references
resolved_from number word side position [] = refl
resolved_from number word side position (reference ∷ references) = elim (cases_Bool (is_named number word reference)) [
  | inl named ↦
      let here : position + 0 ≡ position = omega arith in
      rw (named, here) refl
  | inr other ↦
      let n = position_or_len (is_named number word) references in
      let one : 1 + n ≡ suc n = omega arith in
      let next : position + suc n ≡ position + 1 + n = omega arith in
      rw (other, one, next) (resolved_from number word side (position + 1) references)
]

pub resolution_is : (refs : References) (word : List ℕ) (side : Side)
    → resolution_from (named_number word) word side 0 refs.references ≡ resolution refs word side
resolution_is refs word side =
    let n = position_or_len (is_named (named_number word) word) refs.references in
    let same : 0 + n ≡ n = omega arith in
    rw same at (sym (resolved_from (named_number word) word side 0 refs.references))

-- references as they are kept, without their versions
abbrev pub bare_references : List StoredReference → List Reference
bare_references kept = map (λ k. k.kept.shown) kept

-- the first of what is left is named
pub first_named : (number : Option ℕ) (word : List ℕ) (side : Side) (position : ℕ) (rest : List StoredReference) (k : StoredReference) → 0 < length rest
    → k ≡ get_or rest 0 k → is_named number word k.kept.shown ≡ true
    → answer position (side_fault side k.kept.shown) ≡ resolution_from number word side position (bare_references rest)
first_named number word side position [] k within is named = absurd (omega arith)
first_named number word side position (x ∷ rest) k within is named =
    let same : k.kept.shown ≡ x.kept.shown = ap (λ (y : StoredReference). y.kept.shown) is in
    rw (same, rw same at named) refl

pub none_named : (number : Option ℕ) (word : List ℕ) (side : Side) (position : ℕ) (rest : List StoredReference) → length rest < 1
    → Err UnknownRef ≡ resolution_from number word side position (bare_references rest)
none_named number word side position [] none = refl
none_named number word side position (x ∷ rest) none = absurd (omega arith)

-- the versions of references don't matter
filled_named : (number : Option ℕ) (word : List ℕ) (k : StoredReference) (row : List ShownVersion)
    → is_named number word (filled k row).shown ≡ is_named number word k.kept.shown
filled_named None word k row = refl
filled_named (Some n) word k row = refl

filled_fault : (side : Side) (k : StoredReference) (row : List ShownVersion) → side_fault side (filled k row).shown ≡ side_fault side k.kept.shown
filled_fault Acl k row = refl
filled_fault AclWrite k row = refl
filled_fault Map k row = refl

pub filled_resolution : (number : Option ℕ) (word : List ℕ) (side : Side) (position : ℕ) (kept : List StoredReference) (rows : List (List ShownVersion))
    → resolution_from number word side position (shown_references (all_filled kept rows))
    ≡ resolution_from number word side position (bare_references kept)
filled_resolution number word side position [] rows = refl
filled_resolution number word side position (k ∷ kept) [] =
    rw (filled_named number word k [], filled_fault side k [], filled_resolution number word side (position + 1) kept [])
    refl
filled_resolution number word side position (k ∷ kept) (row ∷ rows) =
    rw (filled_named number word k row, filled_fault side k row, filled_resolution number word side (position + 1) kept rows)
    refl
