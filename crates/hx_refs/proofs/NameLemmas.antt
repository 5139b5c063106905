-- The numbers and the files of references stay distinct.
use Rattle.std.proofs.Common.{◌≡◌, ◌≢◌, ℕ, List, [], ◌∷◌, ◌++◌, length, All, refl, sym, ◌∙◌, arith, inl, inr}
use Rattle.std.specs.Prelude.{◌+◌, Option, None, Some, IfSome, ◌⊎◌, slice_get, slice_set, unwrap_or}
use Rattle.std.specs.Option.{option_map_or}
use Rattle.std.proofs.lemmas.Bool.{cases_eq, cases_lt}
use Rattle.std.proofs.lemmas.Option.{same_Some, slice_get_cases}
use Rattle.hx_sample.specs.Find.{Entry}
use Rattle.hx_refs.specs.Additions.{new_entries, with_pairs, Pair}
use Rattle.hx_refs.specs.Changes.{with_entries, with_version}
use Rattle.hx_refs.specs.Numbers.{file_at, number_at, HaveOwnNames}
use Rattle.hx_refs.specs.References.{changed_at, version_place, Reference, Version}
use Rattle.hx_refs.proofs.ListLemmas.{get_last, get_more, get_past, get_set_other, get_set_same}

-- ---- no reference

nothing : {A : Type 0} → (x : A) → None ≡ Some x → ⊥
nothing x is = cc

pub no_names : HaveOwnNames []
no_names = record {
  numbers = λ r other number first second. absurd (nothing number first);
  files = λ r other file first second. absurd (nothing file first);
}

-- ---- one more reference

-- the number and the file of a reference, where there is one more
number_of_more : (xs : List Reference) (y : Reference) (p n : ℕ) → number_at (xs ++ y ∷ []) p ≡ Some n
    → (number_at xs p ≡ Some n) ⊎ ((p ≡ length xs) × (y.id ≡ n))
number_of_more xs y p n is = elim (cases_lt p (length xs)) [
  | inl within ↦ inl (rw (get_more xs y p within) at is)
  | inr past ↦ elim (cases_lt (length xs) p) [
    | inl beyond ↦ absurd (nothing n (rw (get_past xs y p beyond) at is))
    | inr least ↦
        let here : p ≡ length xs = omega arith in
        inr (here, same_Some y.id n (rw (here, get_last xs y) at is))
  ]
]

file_of_more : (xs : List Reference) (y : Reference) (p : ℕ) (name : List ℕ) → file_at (xs ++ y ∷ []) p ≡ Some name
    → (file_at xs p ≡ Some name) ⊎ ((p ≡ length xs) × (y.file ≡ Some name))
file_of_more xs y p name is = elim (cases_lt p (length xs)) [
  | inl within ↦ inl (rw (get_more xs y p within) at is)
  | inr past ↦ elim (cases_lt (length xs) p) [
    | inl beyond ↦ absurd (nothing name (rw (get_past xs y p beyond) at is))
    | inr least ↦
        let here : p ≡ length xs = omega arith in inr (here, rw (here, get_last xs y) at is)
  ]
]

-- none of the references has them yet
fresh_number : (xs : List Reference) (y : Reference) (p n : ℕ) → All (λ x. x.id ≢ y.id) xs → number_at xs p ≡ Some n
    → y.id ≡ n → ⊥
fresh_number xs y p n fresh is same = elim (slice_get_cases xs p).1 [
  | inl w ↦
      let here : w.0.id ≢ y.id = rw w.3 at (fresh p w.0 w.1) in
      here (same_Some w.0.id n (rw w.2 at is) ∙ sym same)
  | inr past ↦ nothing n (rw past.1 at is)
]

fresh_file : (xs : List Reference) (y : Reference) (p : ℕ) (name : List ℕ)
    → IfSome y.file (λ file. All (λ x. x.file ≢ Some file) xs) → file_at xs p ≡ Some name → y.file ≡ Some name → ⊥
fresh_file xs y p name fresh is same = elim (slice_get_cases xs p).1 [
  | inl w ↦
      let none : All (λ x. x.file ≢ Some name) xs = rw same at fresh in
      let here : w.0.file ≢ Some name = rw w.3 at (none p w.0 w.1) in
      here (rw w.2 at is)
  | inr past ↦ nothing name (rw past.1 at is)
]

pub own_names_more : (xs : List Reference) (y : Reference) → All (λ x. x.id ≢ y.id) xs
    → IfSome y.file (λ file. All (λ x. x.file ≢ Some file) xs) → HaveOwnNames xs → HaveOwnNames (xs ++ y ∷ [])
own_names_more xs y number file names = record {
  numbers = λ p q n first second. elim (number_of_more xs y p n first) [
    | inl before ↦ elim (number_of_more xs y q n second) [
      | inl too ↦ names.numbers p q n before too
      | inr last ↦ absurd (fresh_number xs y p n number before last.1)
    ]
    | inr last ↦ elim (number_of_more xs y q n second) [
      | inl before ↦ absurd (fresh_number xs y q n number before last.1)
      | inr too ↦ last.0 ∙ sym too.0
    ]
  ];
  files = λ p q n first second. elim (file_of_more xs y p n first) [
    | inl before ↦ elim (file_of_more xs y q n second) [
      | inl too ↦ names.files p q n before too
      | inr last ↦ absurd (fresh_file xs y p n file before last.1)
    ]
    | inr last ↦ elim (file_of_more xs y q n second) [
      | inl before ↦ absurd (fresh_file xs y q n file before last.1)
      | inr too ↦ last.0 ∙ sym too.0
    ]
  ];
}

-- ---- a change of a reference

number_stays : (xs : List Reference) (r q : ℕ) (x y : Reference) → slice_get xs r ≡ Some x → y.id ≡ x.id
    → number_at (slice_set xs r y) q ≡ number_at xs q
number_stays xs r q x y found same = elim (cases_eq r q) [
  | inl here ↦ rw (← here, get_set_same xs r x y found, found, same) refl
  | inr apart ↦ rw (get_set_other xs r q y apart) refl
]

file_stays : (xs : List Reference) (r q : ℕ) (x y : Reference) → slice_get xs r ≡ Some x → y.file ≡ x.file
    → file_at (slice_set xs r y) q ≡ file_at xs q
file_stays xs r q x y found same = elim (cases_eq r q) [
  | inl here ↦ rw (← here, get_set_same xs r x y found, found, same) refl
  | inr apart ↦ rw (get_set_other xs r q y apart) refl
]

-- a change leaves the number of each reference, and its file
abbrev pub KeepsNames : (Reference → Reference) → Type 0
KeepsNames change = (x : Reference) → ((change x).id ≡ x.id) × ((change x).file ≡ x.file)

pub own_names_stay : (xs : List Reference) (r : ℕ) (change : Reference → Reference) → KeepsNames change
    → HaveOwnNames xs → HaveOwnNames (changed_at r change xs)
own_names_stay xs r change keeps names = elim (slice_get_cases xs r).1 [
  | inl w ↦
      rw w.2
      (record {
        numbers = λ p q n first second.
            names.numbers p q n (sym (number_stays xs r p w.0 (change w.0) w.2 (keeps w.0).0) ∙ first)
            (sym (number_stays xs r q w.0 (change w.0) w.2 (keeps w.0).0) ∙ second);
        files = λ p q n first second.
            names.files p q n (sym (file_stays xs r p w.0 (change w.0) w.2 (keeps w.0).1) ∙ first)
            (sym (file_stays xs r q w.0 (change w.0) w.2 (keeps w.0).1) ∙ second);
      })
  | inr past ↦ rw past.1 names
]

-- ---- changes that leave them

pub version_keeps : (number : Option ℕ) (change : Version → Version) → KeepsNames (with_version number change)
version_keeps number change x = go (version_place x number)
  where
    go : (found : Option ℕ)
        → ((option_map_or (λ (place : ℕ). record x { versions = changed_at place change x.versions }) found x).id ≡ x.id)
        × ((option_map_or (λ (place : ℕ). record x { versions = changed_at place change x.versions }) found x).file ≡ x.file)
    go None = (refl, refl)
    go (Some place) = (refl, refl)

pub entries_keep : (number : Option ℕ) (change : List Entry → List Entry) → KeepsNames (with_entries number change)
entries_keep number change x = version_keeps number (λ version. record version { entries = change version.entries }) x

pub pairs_keep : (number : Option ℕ) (pairs : List Pair) → KeepsNames (with_pairs number pairs)
pairs_keep number pairs x =
    version_keeps number
    (λ old. record {
      serial = old.serial + length pairs;
      entries = old.entries ++ new_entries (unwrap_or number x.curr) old.serial pairs;
    })
    x
