-- References as the code has them: with flags for what each is used for, which are noted at the end.
use Rattle.std.proofs.Common.{◌≡◌, ℕ, zero, suc, ◌+◌, ◌<◌, Bool, cond, List, [], ◌∷◌, ◌++◌, length, take, map, get_or, add-one, add-zero, zero-add, arith, refl, sym, ◌∙◌, ap}
use Rattle.std.specs.Prelude.{not, slice_set}
use Rattle.std.specs.List.{position, prefix_len}
use Rattle.std.proofs.Math.ListN.{get_or-map, set}
use Rattle.std.proofs.Math.Seq.{take-suc, take-suc-set}
use Rattle.std.proofs.lemmas.List.{length-map, length-take-le, take-map}
use Rattle.hx_calls.specs.declared.table_specs.MapOutput.{MapOutput}
use Rattle.hx_calls.specs.declared.table_specs.TableSpec.{TableSpec}
use Rattle.hx_calls.specs.Known.{Known, ReferenceForm}
use Rattle.hx_calls.specs.KnownView.{form_of, spec_of, specs_from, tables_of}
use Rattle.hx_calls.specs.TableSpecs.{reference_specs, table_specs_from}

-- ---- lists of references

prefix_map : {A B : Type 0} (f : A → B) (p : B → Bool) (xs : List A)
    → prefix_len p (map f xs) ≡ prefix_len (λ x. p (f x)) xs
prefix_map f p [] = refl
prefix_map f p (x ∷ xs) = ap (λ n. cond (p (f x)) (1 + n) 0) (prefix_map f p xs)

-- the first of a list of other things
pub position_map : {A B : Type 0} (f : A → B) (p : B → Bool) (xs : List A)
    → position p (map f xs) ≡ position (λ x. p (f x)) xs
position_map f p xs =
    rw (prefix_map f (λ y. not (p y)) xs, length-map xs f) refl

pub take_forms : (n : ℕ) (specs : List TableSpec)
    → map form_of (take n specs) ≡ take n (map form_of specs)
take_forms n specs = sym (take-map form_of n specs)

-- ---- what they are used for

-- one reference more
specs_last : (acls named : List ℕ) (outputs : List MapOutput) (place : ℕ)
    (forms : List ReferenceForm) (form : ReferenceForm)
    → specs_from acls named outputs place (forms ++ form ∷ [])
    ≡ specs_from acls named outputs place forms
    ++ spec_of acls named outputs (place + length forms) form ∷ []
specs_last acls named outputs place [] form = rw (add-zero place) refl
specs_last acls named outputs place (first ∷ forms) form =
    let next : suc place + length forms ≡ place + suc (length forms) = omega arith in
    ap (λ specs. spec_of acls named outputs place first ∷ specs)
    (specs_last acls named outputs (suc place) forms form
    ∙ ap (λ n. specs_from acls named outputs (suc place) forms
    ++ spec_of acls named outputs n form ∷ []) next)

map_set : (specs : List TableSpec) (i : ℕ) (spec other : TableSpec) → i < length specs
    → form_of spec ≡ form_of (get_or specs i other)
    → map form_of (set specs i spec) ≡ map form_of specs
map_set [] i spec other within same = refl
map_set (first ∷ specs) zero spec other within same = ap (λ f. f ∷ map form_of specs) same
map_set (first ∷ specs) (suc i) spec other within same =
    ap (λ l. form_of first ∷ l) (map_set specs i spec other (omega (arith, within)) same)

-- the references up to a place are noted
abbrev pub Noted : List ℕ → List ℕ → List MapOutput → List ReferenceForm → ℕ → List TableSpec
    → Type 0
Noted acls named outputs forms place specs =
    (map form_of specs ≡ forms)
    × (take place specs ≡ specs_from acls named outputs 0 (take place forms))

noted_form : (acls named : List ℕ) (outputs : List MapOutput) (place : ℕ) (form : ReferenceForm)
    → form_of (spec_of acls named outputs place form) ≡ form
noted_form acls named outputs place form = refl

pub note_next : (acls named : List ℕ) (outputs : List MapOutput) (forms : List ReferenceForm)
    (place : ℕ) (specs : List TableSpec) (spec other : TableSpec) → place < length specs
    → spec ≡ spec_of acls named outputs place (form_of (get_or specs place other))
    → Noted acls named outputs forms place specs
    → Noted acls named outputs forms (place + 1) (slice_set specs place spec)
note_next acls named outputs forms place specs spec other within is (same, done) =
    let next : place + 1 ≡ suc place = add-one place in
    let form : ReferenceForm = form_of (get_or specs place other) in
    let form_is : get_or forms place (form_of other) ≡ form =
    ap (λ l. get_or l place (form_of other)) (sym same) ∙ get_or-map form_of specs place other in
    let size : length forms ≡ length specs =
    ap (λ (l : List ReferenceForm). length l) (sym same) ∙ length-map specs form_of in
    let count : length (take place forms) ≡ place =
    length-take-le place forms (omega (arith, size, within)) in
    let kept : form_of spec ≡ form = ap form_of is ∙ noted_form acls named outputs place form in
    let taken : take (suc place) forms ≡ take place forms ++ form ∷ [] =
    take-suc forms place (form_of other) (omega (arith, size, within))
    ∙ ap (λ f. take place forms ++ f ∷ []) form_is in
    let noted : take (suc place) (set specs place spec)
    ≡ specs_from acls named outputs 0 (take (suc place) forms) =
    take-suc-set specs place spec within
    ∙ (ap (λ l. l ++ spec ∷ []) done
    ∙ (ap (λ s. specs_from acls named outputs 0 (take place forms) ++ s ∷ [])
    (is ∙ ap (λ n. spec_of acls named outputs n form)
    (sym (zero-add (length (take place forms)) ∙ count)))
    ∙ (sym (specs_last acls named outputs 0 (take place forms) form)
    ∙ ap (specs_from acls named outputs 0) (sym taken)))) in (
      map_set specs place spec other within kept ∙ same,
      rw next noted,
    )

-- ---- as contracts say it

specs_same : (known : Known) (place : ℕ) (forms : List ReferenceForm)
    → specs_from known.acls known.named known.outputs place forms
    ≡ table_specs_from known place forms
specs_same known place [] = refl
specs_same known place (form ∷ forms) =
    let next : suc place ≡ place + 1 = sym (add-one place) in
    ap (λ specs. spec_of known.acls known.named known.outputs place form ∷ specs)
    (ap (λ n. specs_from known.acls known.named known.outputs n forms) next
    ∙ specs_same known (place + 1) forms)

pub tables_same : (known : Known) → tables_of known ≡ reference_specs known
tables_same known =
    ap (λ (specs : List TableSpec). record { specs = specs; heads = known.heads })
    (specs_same known 0 known.references)
