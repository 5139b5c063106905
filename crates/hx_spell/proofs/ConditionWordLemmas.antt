-- The words of conditions: marks, names, and what stands between conjunctions.
use Rattle.std.proofs.Common.{◌≡◌, ◌≢◌, ℕ, zero, suc, ◌+◌, ◌<◌, ◌%◌, Bool, true, false, List, [], ◌∷◌, ◌++◌, length, drop, refl, sym, ◌∙◌, ap, subst, arith, inl, inr}
use Rattle.std.specs.Prelude.{◌==◌, ◌||◌, ◌⊎◌, codes, nat_lt, not, sum}
use Rattle.std.specs.List.{All, list_all}
use Rattle.std.specs.Str.{bytes_eq}
use Rattle.std.proofs.Math.Numerals.{one-add}
use Rattle.std.proofs.lemmas.Bool.{eqb-true, lt-ltb, ltb-true}
use Rattle.std.proofs.lemmas.Bool.Decides.{eqb_tells}
use Rattle.std.proofs.lemmas.List.Elements.{All-head}
use Rattle.std.proofs.lemmas.List.Sums.{AllPass-from_list_all, list_all-from_AllPass, sum_by-cons}
use Rattle.std.proofs.lemmas.Slice.Eq.{bytes_eq-Decides}
use Rattle.hx_base.specs.Bytes.{ascii}
use Rattle.hx_ast.specs.Acls.{IsAclName, is_name_byte}
use Rattle.hx_spell.specs.Conditions.{Marks, after_marks, is_acl_name, is_name, is_odd, is_or, marks_of, no_marks, turned, with_marks}
use Rattle.hx_spell.specs.ConditionRelation.{IsOr, marks}
use Rattle.hx_calls.proofs.ResultLemmas.{both}

-- ---- bytes

pub same_bytes : (a b : List ℕ) → bytes_eq a b ≡ true → a ≡ b
same_bytes a b is = (bytes_eq-Decides a b).0 is

pub equal_bytes : (a b : List ℕ) → a ≡ b → bytes_eq a b ≡ true
equal_bytes a b is = (bytes_eq-Decides a b).1 is

other_bytes_by : (a b : List ℕ) (same : Bool) → bytes_eq a b ≡ same → a ≢ b → same ≡ false
other_bytes_by a b true is other = absurd (other (same_bytes a b is))
other_bytes_by a b false is other = refl

pub other_bytes : (a b : List ℕ) → a ≢ b → bytes_eq a b ≡ false
other_bytes a b other = other_bytes_by a b (bytes_eq a b) refl other

-- ---- names

pub not_true : (b : Bool) → not b ≡ true → b ≡ false
not_true true is = absurd (let no : ⊥ = cc in no)
not_true false is = refl

pub name_is : (name : List ℕ) → is_acl_name name ≡ true → IsAclName name
name_is name is =
    let (form, other) = both (is_name name) (not (bytes_eq name (codes "or"))) is in
    let (some, all) = both (nat_lt 0 (length name)) (list_all is_name_byte name) form in
    record {
      some = ltb-true 0 (length name) some;
      bytes = AllPass-from_list_all is_name_byte name all;
      other = λ same. let no : true ≡ false =
          sym (equal_bytes name (codes "or") same)
          ∙ not_true (bytes_eq name (codes "or")) other in cc;
    }

pub name_reads : (name : List ℕ) → IsAclName name → is_acl_name name ≡ true
name_reads name named =
    rw (
      lt-ltb 0 (length name) named.some,
      list_all-from_AllPass is_name_byte name named.bytes,
      other_bytes name (codes "or") named.other,
    ) refl

-- ---- what stands between conjunctions

pub or_is : (word : List ℕ) → is_or word ≡ true → IsOr word
or_is word is = or_by word (bytes_eq word (codes "or")) refl is
  where
    or_by : (word : List ℕ) (b : Bool) → bytes_eq word (codes "or") ≡ b
        → (b || bytes_eq word (codes "||")) ≡ true → IsOr word
    or_by word true same is = inl (same_bytes word (codes "or") same)
    or_by word false same is = inr (same_bytes word (codes "||") is)

pub is_or_of : (word : List ℕ) → IsOr word → is_or word ≡ true
is_or_of word (inl is) = rw is refl
is_or_of word (inr is) = rw is refl

-- ---- marks

-- a word doesn't begin with a mark
abbrev pub BeginsUnmarked : List ℕ → Type 0
BeginsUnmarked [] = Unit {0}
BeginsUnmarked (b ∷ bs) = (b == ascii "!") ≡ false

-- a byte of a name is no mark
name_byte : (b : ℕ) (same : Bool) → (b == ascii "!") ≡ same → is_name_byte b ≡ true
    → same ≡ false
name_byte b true is name =
    let no : is_name_byte (ascii "!") ≡ true =
    subst (λ (c : ℕ). is_name_byte c ≡ true) (eqb-true b (ascii "!") is) name in
    absurd (let bad : ⊥ = cc in bad)
name_byte b false is name = refl

pub name_unmarked : (name : List ℕ) → IsAclName name → BeginsUnmarked name
name_unmarked [] named = tt
name_unmarked (b ∷ bs) named =
    name_byte b (b == ascii "!") refl (All-head (λ c. is_name_byte c ≡ true) b bs named.bytes)

-- so many marks, and what doesn't begin with one
pub marks_written : (n : ℕ) (rest : List ℕ) → BeginsUnmarked rest → marks_of (marks n ++ rest) ≡ n
marks_written zero [] unmarked = refl
marks_written zero (b ∷ bs) unmarked = rw unmarked refl
marks_written (suc n) rest unmarked =
    ap (λ m. 1 + m) (marks_written n rest unmarked) ∙ one-add n

pub after_written : (n : ℕ) (rest : List ℕ) → drop n (marks n ++ rest) ≡ rest
after_written zero rest = refl
after_written (suc n) rest = after_written n rest

-- a word is its marks and what follows them
marks_by : (b : ℕ) (bs : List ℕ) (same : Bool) → (b == ascii "!") ≡ same
    → marks (marks_of bs) ++ after_marks bs ≡ bs
    → marks (marks_of (b ∷ bs)) ++ after_marks (b ∷ bs) ≡ b ∷ bs
marks_by b bs true is split =
    let one : 1 + marks_of bs ≡ suc (marks_of bs) = one-add (marks_of bs) in
    rw (is, one) (
    ap (λ c. c ∷ (marks (marks_of bs) ++ after_marks bs))
    (sym (eqb-true b (ascii "!") is)) ∙ ap (λ l. b ∷ l) split
    )
marks_by b bs false is split = rw is refl

pub marks_split : (word : List ℕ) → marks (marks_of word) ++ after_marks word ≡ word
marks_split [] = refl
marks_split (b ∷ bs) = marks_by b bs (b == ascii "!") refl (marks_split bs)

-- a word that begins with a mark isn't `or`, nor is a name or a brace
pub marked_no_or : (n : ℕ) (rest : List ℕ) → is_or (marks (suc n) ++ rest) ≡ false
marked_no_or n rest = refl

-- ---- the marks before a term

-- words of marks, each with one at least
abbrev pub AreMarks : List ℕ → Type 0
AreMarks counts = All (λ n. 0 < n) counts

-- the marks after so many in each of further words
abbrev pub counted : Marks → List ℕ → Marks
counted before [] = before
counted before (n ∷ ns) = counted (with_marks n before) ns

pub counted_last : (before : Marks) (ns : List ℕ) (n : ℕ)
    → counted before (ns ++ n ∷ []) ≡ with_marks n (counted before ns)
counted_last before [] n = refl
counted_last before (m ∷ ns) n = counted_last (with_marks m before) ns n

or_true : (b : Bool) → (b || true) ≡ true
or_true true = refl
or_true false = refl

stays : (before : Marks) (ns : List ℕ) → before.some ≡ true → (counted before ns).some ≡ true
stays before [] is = is
stays before (n ∷ ns) is = stays (with_marks n before) ns (rw is refl)

-- where there are no marks, no word has brought any
pub none_counted : (ns : List ℕ) → AreMarks ns → (counted no_marks ns).some ≡ false → ns ≡ []
none_counted [] each none = refl
none_counted (n ∷ ns) each none =
    let some : (counted no_marks (n ∷ ns)).some ≡ true =
    stays (with_marks n no_marks) ns (lt-ltb 0 n (All-head (λ m. 0 < m) n ns each)) in
    absurd (let no : true ≡ false = sym some ∙ none in let bad : ⊥ = cc in bad)

turned_twice : (a b c : Bool) → turned a (turned b c) ≡ turned (turned a b) c
turned_twice true true true = refl
turned_twice true true false = refl
turned_twice true false c = refl
turned_twice false b c = refl

abbrev Tells : ℕ → Type 0
Tells n = ((is_odd n ≡ true) × (n % 2 ≡ 1)) ⊎ ((is_odd n ≡ false) × (n % 2 ≢ 1))

odd_by : (a b : ℕ) → Tells a → Tells b → Tells (a + b)
    → is_odd (a + b) ≡ turned (is_odd a) (is_odd b)
odd_by a b (inl (p, pn)) (inl (q, qn)) (inl (r, rn)) = absurd (omega (arith, pn, qn, rn))
odd_by a b (inl (p, pn)) (inl (q, qn)) (inr (r, rn)) = rw (p, q, r) refl
odd_by a b (inl (p, pn)) (inr (q, qn)) (inl (r, rn)) = rw (p, q, r) refl
odd_by a b (inl (p, pn)) (inr (q, qn)) (inr (r, rn)) = absurd (omega (arith, pn, qn, rn))
odd_by a b (inr (p, pn)) (inl (q, qn)) (inl (r, rn)) = rw (p, q, r) refl
odd_by a b (inr (p, pn)) (inl (q, qn)) (inr (r, rn)) = absurd (omega (arith, pn, qn, rn))
odd_by a b (inr (p, pn)) (inr (q, qn)) (inl (r, rn)) = absurd (omega (arith, pn, qn, rn))
odd_by a b (inr (p, pn)) (inr (q, qn)) (inr (r, rn)) = rw (p, q, r) refl

-- a sum is odd where one of two numbers is
pub odd_sum : (a b : ℕ) → is_odd (a + b) ≡ turned (is_odd a) (is_odd b)
odd_sum a b =
    odd_by a b (eqb_tells (a % 2) 1) (eqb_tells (b % 2) 1) (eqb_tells ((a + b) % 2) 1)

sum_odd : (n : ℕ) (ns : List ℕ)
    → turned (is_odd (sum ns)) (is_odd n) ≡ is_odd (sum (n ∷ ns))
sum_odd n ns =
    let swapped : sum ns + n ≡ n + sum ns = omega arith in
    sym (odd_sum (sum ns) n)
    ∙ (ap is_odd swapped ∙ ap is_odd (sym (sum_by-cons (λ m. m) n ns)))

pub negated_by : (before : Marks) (ns : List ℕ)
    → (counted before ns).negated ≡ turned (is_odd (sum ns)) before.negated
negated_by before [] = refl
negated_by before (n ∷ ns) =
    negated_by (with_marks n before) ns
    ∙ (turned_twice (is_odd (sum ns)) (is_odd n) before.negated
    ∙ ap (λ o. turned o before.negated) (sum_odd n ns))
