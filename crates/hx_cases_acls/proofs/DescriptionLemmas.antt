-- No reference has a number or a file that was looked for at each position and not found.
use Rattle.std.proofs.Common.{◌≡◌, ◌≢◌, ℕ, zero, suc, ◌+◌, ◌≤◌, List, [], ◌∷◌, length, ap, subst, ◌∙◌, arith}
use Rattle.std.specs.Prelude.{Option, None, Some, IfSome, slice_get, option_map, option_and_then, ⊤}
use Rattle.std.specs.List.{All}
use Rattle.std.proofs.lemmas.List.Elements.{All-cons, All-nil}
use Rattle.hx_refs.specs.References.{info_of, Reference}
use Rattle.hx_refs.specs.declared.info.RefInfo.{RefInfo}

-- P holds of the references before a place
abbrev pub HoldsBefore : (Reference → Type 0) → ℕ → List Reference → Type 0
HoldsBefore P zero xs = ⊤
HoldsBefore P (suc n) [] = ⊤
HoldsBefore P (suc n) (x ∷ xs) = P x × HoldsBefore P n xs

one_more : (P : Reference → Type 0) (n : ℕ) (xs : List Reference) → HoldsBefore P n xs → IfSome (slice_get xs n) P
    → HoldsBefore P (suc n) xs
one_more P zero [] before this = tt
one_more P zero (x ∷ xs) before this = (this, tt)
one_more P (suc n) [] before this = tt
one_more P (suc n) (x ∷ xs) before this = (before.0, one_more P n xs before.1 this)

one_place_more : (P : Reference → Type 0) (n : ℕ) (xs : List Reference) → HoldsBefore P n xs → IfSome (slice_get xs n) P
    → HoldsBefore P (n + 1) xs
one_place_more P n xs before this =
    let next : suc n ≡ n + 1 = omega arith in
    subst (λ (m : ℕ). HoldsBefore P m xs) next (one_more P n xs before this)

pub all_before : (P : Reference → Type 0) (n : ℕ) (xs : List Reference) → length xs ≤ n → HoldsBefore P n xs → All P xs
all_before P n [] le before = All-nil P
all_before P zero (x ∷ xs) le before = absurd (omega (arith, le))
all_before P (suc n) (x ∷ xs) le before = All-cons P x xs before.0 (all_before P n xs (omega (arith, le)) before.1)

-- ---- numbers

abbrev pub HasOtherNumber : ℕ → Reference → Type 0
HasOtherNumber number reference = reference.id ≢ number

other_number : (number : ℕ) (found : Option Reference) (info : RefInfo) → Some info ≡ option_map info_of found
    → info.id ≢ number → IfSome found (HasOtherNumber number)
other_number number None info is other = tt
other_number number (Some reference) info is other =
    let whole : info ≡ info_of reference = cc in
    λ same. other (ap (λ (i : RefInfo). i.id) whole ∙ same)

pub no_number_so_far : (number n : ℕ) (xs : List Reference) (info : RefInfo) → HoldsBefore (HasOtherNumber number) n xs
    → Some info ≡ option_map info_of (slice_get xs n) → info.id ≢ number → HoldsBefore (HasOtherNumber number) (n + 1) xs
no_number_so_far number n xs info before is other =
    one_place_more (HasOtherNumber number) n xs before (other_number number (slice_get xs n) info is other)

-- ---- files

abbrev pub HasOtherFile : List ℕ → Reference → Type 0
HasOtherFile name reference = reference.file ≢ Some name

other_file : (name : List ℕ) (found : Option Reference) (file : Option (List ℕ))
    → file ≡ option_and_then (λ reference. reference.file) found → file ≢ Some name → IfSome found (HasOtherFile name)
other_file name None file is other = tt
other_file name (Some reference) file is other = λ same. other (is ∙ same)

pub no_file_so_far : (name : List ℕ) (n : ℕ) (xs : List Reference) (file : Option (List ℕ)) → HoldsBefore (HasOtherFile name) n xs
    → file ≡ option_and_then (λ reference. reference.file) (slice_get xs n) → file ≢ Some name
    → HoldsBefore (HasOtherFile name) (n + 1) xs
no_file_so_far name n xs file before is other =
    one_place_more (HasOtherFile name) n xs before (other_file name (slice_get xs n) file is other)
