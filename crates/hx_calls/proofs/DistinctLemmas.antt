-- References keep files of their own, and heads stay of one kind each, where what is added is like
-- none of those that are there.
use Rattle.std.proofs.Common.{◌≡◌, ◌≢◌, ℕ, ◌+◌, ◌≤◌, Bool, true, false, cond, List, [], ◌∷◌, ◌++◌, ◌&&◌, ◌==◌, length, suc, Option, None, Some, arith, refl, sym, subst, inl, inr}
use Rattle.std.specs.Prelude.{IfSome, nat_lt, not, position}
use Rattle.std.specs.Bool.{beq}
use Rattle.std.specs.List.{All, prefix_len}
use Rattle.std.proofs.lemmas.Bool.{both_ways, cases_Bool, eqb-true, le-ltb, lt-ltb, ltb-false}
use Rattle.std.proofs.lemmas.List.Elements.{All-cons, All-head, All-nil, All-push, All-tail}
use Rattle.std.proofs.lemmas.Slice.Eq.{bytes_eq-Decides}
use Rattle.hx_text.specs.Methods.{method_number}
use Rattle.hx_text.proofs.MethodLemmas.{same_method}
use Rattle.hx_calls.specs.declared.table_specs.HeadSpec.{HeadSpec}
use Rattle.hx_calls.specs.Known.{ReferenceForm, is_head, is_of_file}
use Rattle.hx_calls.specs.Sound.{HaveOwnFiles}
use Rattle.hx_calls.specs.TableSpecs.{HaveDistinctHeads}
use Rattle.hx_calls.proofs.ResultLemmas.{both}

-- ---- none is found

unfound : (b : Bool) (i : ℕ) → cond b (Some i) None ≡ None → b ≡ false
unfound true i none = absurd (let no : ⊥ = cc in no)
unfound false i none = refl

past : (m n : ℕ) → cond (nat_lt (1 + m) (suc n)) (Some (1 + m)) None ≡ None
    → cond (nat_lt m n) (Some m) None ≡ None
past m n none =
    let least : suc n ≤ 1 + m =
    ltb-false (1 + m) (suc n) (unfound (nat_lt (1 + m) (suc n)) (1 + m) none) in
    let over : nat_lt m n ≡ false = le-ltb m n (omega (arith, least)) in
    rw over refl

none_by : {A : Type 0} (p : A → Bool) (b : Bool) (x : A) (xs : List A) → p x ≡ b
    → position p (x ∷ xs) ≡ None → (p x ≡ false) × (position p xs ≡ None)
none_by p true x xs is none =
    let n = suc (length xs) in
    absurd (both_ways (nat_lt 0 n) (unfound (nat_lt 0 n) 0 (rw is at none))
    (lt-ltb 0 n (omega arith)))
none_by p false x xs is none =
    (is, past (prefix_len (λ y. not (p y)) xs) (length xs) (rw is at none))

-- no item passes a test that finds none
pub none_found : {A : Type 0} (p : A → Bool) (xs : List A) → position p xs ≡ None
    → All (λ x. p x ≡ false) xs
none_found p [] none = All-nil (λ x. p x ≡ false)
none_found p (x ∷ xs) none =
    let (first, others) = none_by p (p x) x xs refl none in
    All-cons (λ x. p x ≡ false) x xs first (none_found p xs others)

-- ---- files

-- the reference isn't of the file of any of these
abbrev pub HasOtherFile : ReferenceForm → List ReferenceForm → Type 0
HasOtherFile form forms = IfSome form.file (λ name. All (λ other. is_of_file name other ≡ false) forms)

same_file : (name : List ℕ) (form : ReferenceForm) → form.file ≡ Some name
    → is_of_file name form ≡ true
same_file name form is = rw is ((bytes_eq-Decides name name).1 refl)

other_differs : (form first : ReferenceForm) (forms : List ReferenceForm) (name : List ℕ)
    → first.file ≡ Some name → HasOtherFile form (first ∷ forms) → form.file ≢ Some name
other_differs form first forms name is other same =
    let each : All (λ other. is_of_file name other ≡ false) (first ∷ forms) = rw same at other in
    both_ways (is_of_file name first) (each 0 first (omega arith)) (same_file name first is)

other_rest : (file : Option (List ℕ)) (first : ReferenceForm) (forms : List ReferenceForm)
    → IfSome file (λ name. All (λ other. is_of_file name other ≡ false) (first ∷ forms))
    → IfSome file (λ name. All (λ other. is_of_file name other ≡ false) forms)
other_rest None first forms other = tt
other_rest (Some name) first forms other =
    All-tail (λ other. is_of_file name other ≡ false) first forms other

own_with : (file : Option (List ℕ)) (forms : List ReferenceForm) (form : ReferenceForm)
    → ((name : List ℕ) → file ≡ Some name → form.file ≢ Some name)
    → IfSome file (λ name. All (λ other. other.file ≢ Some name) forms)
    → IfSome file (λ name. All (λ other. other.file ≢ Some name) (forms ++ form ∷ []))
own_with None forms form differs own = tt
own_with (Some name) forms form differs own =
    All-push (λ other. other.file ≢ Some name) forms form own (differs name refl)

none_before : (file : Option (List ℕ))
    → IfSome file (λ name. All (λ (other : ReferenceForm). other.file ≢ Some name) [])
none_before None = tt
none_before (Some name) = All-nil (λ (other : ReferenceForm). other.file ≢ Some name)

-- one more reference, which isn't of the file of another
pub own_added : (forms : List ReferenceForm) (form : ReferenceForm) → HasOtherFile form forms
    → HaveOwnFiles forms → HaveOwnFiles (forms ++ form ∷ [])
own_added [] form other own = (none_before form.file, tt)
own_added (first ∷ forms) form other (own, others) = (
  own_with first.file forms form (λ name is. other_differs form first forms name is other) own,
  own_added forms form (other_rest form.file first forms other) others,
)

-- ---- heads

same_case : (a b : Bool) → beq a b ≡ true → a ≡ b
same_case true true same = refl
same_case false false same = refl
same_case true false same = absurd (let no : ⊥ = cc in no)
same_case false true same = absurd (let no : ⊥ = cc in no)

-- heads that are the same are one
pub same_head : (head other : HeadSpec) → is_head head other ≡ true → other ≡ head
same_head head other is =
    let (both_are, ci) =
    both (other.table == head.table && method_number other.by == method_number head.by)
    (beq other.ci head.ci) is in
    let (table, by) =
    both (other.table == head.table) (method_number other.by == method_number head.by) both_are in
    let tables = eqb-true other.table head.table table in
    let methods = same_method other.by head.by (eqb-true (method_number other.by) (method_number head.by) by) in
    let cases = same_case other.ci head.ci ci in
    λ i. record { table = tables i; by = methods i; ci = cases i }

not_head : (head other : HeadSpec) → is_head head other ≡ false → is_head other head ≡ false
not_head head other differs = elim (cases_Bool (is_head other head)) [
  | inl is ↦
      let one : head ≡ other = same_head other head is in
      let back : is_head other head ≡ false =
      subst (λ (h : HeadSpec). is_head h head ≡ false) one
      (subst (λ (h : HeadSpec). is_head head h ≡ false) (sym one) differs) in
      back
  | inr other_way ↦ other_way
]

-- one more head, which is none of those that are there
pub distinct_added : (heads : List HeadSpec) (head : HeadSpec)
    → All (λ other. is_head head other ≡ false) heads → HaveDistinctHeads heads
    → HaveDistinctHeads (heads ++ head ∷ [])
distinct_added [] head other distinct = (All-nil (λ other. is_head head other ≡ false), tt)
distinct_added (first ∷ heads) head other (apart, others) = (
  All-push (λ other. is_head first other ≡ false) heads head apart
      (not_head head first (All-head (λ other. is_head head other ≡ false) first heads other)),
  distinct_added heads head
      (All-tail (λ other. is_head head other ≡ false) first heads other) others,
)
