-- The first reference that is refused, by the function that finds it and by the relation that says
-- which it is: the first with a number that is given again, and the first with a file that is named
-- nowhere else.
use Rattle.std.proofs.Common.{◌≡◌, ℕ, ◌==◌, ◌&&◌, ◌||◌, Bool, true, false, cond, inl, inr, List, [], ◌∷◌, ◌++◌, refl, sym, ap, ◌∙◌, subst}
use Rattle.std.specs.Prelude.{Option, None, Some, is_none, is_some, not}
use Rattle.std.specs.List.{AllByRecursion, IsDistinct, list_all}
use Rattle.std.proofs.lemmas.Bool.{cases_Bool}
use Rattle.std.proofs.lemmas.Option.{none-some, same_Some}
use Rattle.hx_calls.specs.declared.TableSpec.{TableSpec}
use Rattle.hx_filling.specs.References.{HaveDistinctNumbers, IsFirstRepeated, IsFirstUnknown, first_unknown, given_numbers, is_among, is_known, repeated_after}
use Rattle.hx_filling.proofs.NumberLemmas.{given_or_not}

-- ---- numbers

-- none of these numbers is one of those
abbrev AreNew : List ℕ → List ℕ → Type 0
AreNew seen numbers = AllByRecursion (λ m. is_among seen m ≡ false) numbers

all_new : (numbers : List ℕ) → AreNew [] numbers
all_new [] = tt
all_new (n ∷ numbers) = (refl, all_new numbers)

-- nor is it one more, which differs from all
new_after : (n : ℕ) (seen numbers : List ℕ) → AreNew seen numbers
    → AllByRecursion (λ m. (n == m) ≡ false) numbers → AreNew (n ∷ seen) numbers
new_after n seen [] new apart = tt
new_after n seen (m ∷ numbers) new apart =
    (rw (apart.0) (new.0), new_after n seen numbers new.1 apart.1)

or_false : (a b : Bool) → (a || b) ≡ false → (a ≡ false) × (b ≡ false)
or_false true b is = absurd (cc is)
or_false false b is = (refl, is)

new_before : (n : ℕ) (seen numbers : List ℕ) → AreNew (n ∷ seen) numbers
    → AllByRecursion (λ m. (n == m) ≡ false) numbers × AreNew seen numbers
new_before n seen [] new = (tt, tt)
new_before n seen (m ∷ numbers) new =
    let (differ, first) = or_false (n == m) (is_among seen m) new.0 in
    let (apart, others) = new_before n seen numbers new.1 in
    ((differ, apart), (first, others))

or_none : (a : Bool) → (a || false) ≡ a
or_none true = refl
or_none false = refl

turned : (a b c : Bool) → ((b || a) || c) ≡ (a || (b || c))
turned true true c = refl
turned true false c = refl
turned false true c = refl
turned false false c = refl

seen_first : (a b c : Bool) → (a || (b || c)) ≡ true → ((b || a) || c) ≡ true
seen_first a b c is = turned a b c ∙ is

seen_later : (a b c : Bool) → ((b || a) || c) ≡ true → (a || (b || c)) ≡ true
seen_later a b c is = sym (turned a b c) ∙ is

-- where the numbers differ, none is given again
none_again : (seen : List ℕ) (specs : List TableSpec) → HaveDistinctNumbers specs
    → AreNew seen (given_numbers specs) → repeated_after seen specs ≡ None
unfolding IsDistinct
none_again seen [] distinct new = refl
none_again seen (spec ∷ specs) distinct new = elim (given_or_not spec.given) [
  | inr none ↦ rw none (none_again seen specs (rw none at distinct) (rw none at new))
  | inl given ↦
      let differ : AllByRecursion (λ m. (given.0 == m) ≡ false) (given_numbers specs)
      × HaveDistinctNumbers specs = rw (given.1) at distinct in
      let first : (is_among seen given.0 ≡ false) × AreNew seen (given_numbers specs) = rw (given.1) at new in
      rw (given.1, first.0)
      (none_again (given.0 ∷ seen) specs differ.1
      (new_after given.0 seen (given_numbers specs) first.1 differ.0))
]

pub none_repeated : (specs : List TableSpec) → HaveDistinctNumbers specs → repeated_after [] specs ≡ None
none_repeated specs distinct = none_again [] specs distinct (all_new (given_numbers specs))

-- where those before one differ, and its number is one of them, it is the first
again_at : (seen : List ℕ) (before : List TableSpec) (spec : TableSpec) (after : List TableSpec) (n : ℕ)
    → HaveDistinctNumbers before → AreNew seen (given_numbers before) → spec.given ≡ Some n
    → (is_among seen n || is_among (given_numbers before) n) ≡ true
    → repeated_after seen (before ++ spec ∷ after) ≡ Some spec.line
unfolding IsDistinct
again_at seen [] spec after n distinct new is again =
    let among : is_among seen n ≡ true = sym (or_none (is_among seen n)) ∙ again in
    rw (is, among) refl
again_at seen (first ∷ before) spec after n distinct new is again = elim (given_or_not first.given) [
  | inr none ↦ rw none
      (again_at seen before spec after n (rw none at distinct) (rw none at new) is (rw none at again))
  | inl given ↦
      let differ : AllByRecursion (λ m. (given.0 == m) ≡ false) (given_numbers before)
      × HaveDistinctNumbers before = rw (given.1) at distinct in
      let other : (is_among seen given.0 ≡ false) × AreNew seen (given_numbers before) = rw (given.1) at new in
      let among : (is_among seen n || (given.0 == n || is_among (given_numbers before) n)) ≡ true =
      rw (given.1) at again in
      rw (given.1, other.0)
      (again_at (given.0 ∷ seen) before spec after n differ.1
      (new_after given.0 seen (given_numbers before) other.1 differ.0) is
      (seen_first (is_among seen n) (given.0 == n) (is_among (given_numbers before) n) among))
]

pub repeated_is : (specs : List TableSpec) (line : ℕ) → IsFirstRepeated specs line
    → repeated_after [] specs ≡ Some line
repeated_is specs line f =
    ap (repeated_after []) f.specs_are
    ∙ again_at [] f.before f.spec f.after f.number f.distinct (all_new (given_numbers f.before)) f.given f.again
    ∙ ap Some (sym f.line_is)

-- the first whose number is one of those that were seen, or of those before it
record IsRepeatedAfter (seen : List ℕ) (specs : List TableSpec) (line : ℕ) : Type 0 where
  before : List TableSpec
  spec : TableSpec
  after : List TableSpec
  specs_are : specs ≡ before ++ spec ∷ after
  distinct : HaveDistinctNumbers before
  new : AreNew seen (given_numbers before)
  number : ℕ
  given : spec.given ≡ Some number
  again : (is_among seen number || is_among (given_numbers before) number) ≡ true
  line_is : line ≡ spec.line

-- a reference without a number in front changes nothing
after_none : (seen : List ℕ) (spec : TableSpec) (specs : List TableSpec) (line : ℕ) → spec.given ≡ None
    → IsRepeatedAfter seen specs line → IsRepeatedAfter seen (spec ∷ specs) line
after_none seen spec specs line none f = record {
  before = spec ∷ f.before;
  spec = f.spec;
  after = f.after;
  specs_are = ap (λ (xs : List TableSpec). spec ∷ xs) f.specs_are;
  distinct = rw none f.distinct;
  new = rw none f.new;
  number = f.number;
  given = f.given;
  again = rw none f.again;
  line_is = f.line_is;
}

-- nor does one with a number that is new, where that is one of those that were seen then
after_new : (seen : List ℕ) (spec : TableSpec) (specs : List TableSpec) (line n : ℕ) → spec.given ≡ Some n
    → is_among seen n ≡ false → IsRepeatedAfter (n ∷ seen) specs line → IsRepeatedAfter seen (spec ∷ specs) line
unfolding IsDistinct
after_new seen spec specs line n is new f =
    let (apart, others) = new_before n seen (given_numbers f.before) f.new in
    record {
      before = spec ∷ f.before;
      spec = f.spec;
      after = f.after;
      specs_are = ap (λ (xs : List TableSpec). spec ∷ xs) f.specs_are;
      distinct = rw is (apart, f.distinct);
      new = rw is (new, others);
      number = f.number;
      given = f.given;
      again = rw is
          (seen_later (is_among seen f.number) (n == f.number) (is_among (given_numbers f.before) f.number) f.again);
      line_is = f.line_is;
    }

-- one with a number that was seen is the first
here_again : (seen : List ℕ) (spec : TableSpec) (specs : List TableSpec) (n : ℕ) → spec.given ≡ Some n
    → is_among seen n ≡ true → IsRepeatedAfter seen (spec ∷ specs) spec.line
unfolding IsDistinct
here_again seen spec specs n is among = record {
  before = [];
  spec = spec;
  after = specs;
  specs_are = refl;
  distinct = tt;
  new = tt;
  number = n;
  given = is;
  again = rw among refl;
  line_is = refl;
}

first_again : (seen : List ℕ) (specs : List TableSpec) (line : ℕ) → repeated_after seen specs ≡ Some line
    → IsRepeatedAfter seen specs line
first_again seen [] line is = absurd (none-some line is)
first_again seen (spec ∷ specs) line is = elim (given_or_not spec.given) [
  | inr none ↦ after_none seen spec specs line none (first_again seen specs line (rw none at is))
  | inl given ↦ elim (cases_Bool (is_among seen given.0)) [
    | inl among ↦
        let same : Some spec.line ≡ Some line = rw (given.1, among) at is in
        subst (IsRepeatedAfter seen (spec ∷ specs)) (same_Some spec.line line same)
        (here_again seen spec specs given.0 given.1 among)
    | inr new ↦
        after_new seen spec specs line given.0 given.1 new
        (first_again (given.0 ∷ seen) specs line (rw (given.1, new) at is))
  ]
]

pub is_repeated : (specs : List TableSpec) (line : ℕ) → repeated_after [] specs ≡ Some line
    → IsFirstRepeated specs line
is_repeated specs line is =
    let f = first_again [] specs line is in
    record {
      before = f.before;
      spec = f.spec;
      after = f.after;
      specs_are = f.specs_are;
      distinct = f.distinct;
      number = f.number;
      given = f.given;
      again = f.again;
      line_is = f.line_is;
    }

-- ---- files

and_true : (a b : Bool) → (a && b) ≡ true → (a ≡ true) × (b ≡ true)
and_true true b is = (refl, is)
and_true false b is = absurd (cc is)

both_true : (a b : Bool) → a ≡ true → b ≡ true → (a && b) ≡ true
both_true true b first second = second
both_true false b first second = absurd (cc first)

-- what is found first, by whether the file of the first reference is named
known_first : (file : Option (List ℕ)) (named : Bool) (line : ℕ) (unknown : Option ℕ)
    → (is_none file || named) ≡ true → cond (is_some file && not named) (Some line) unknown ≡ unknown
known_first None named line unknown is = refl
known_first (Some file) true line unknown is = refl
known_first (Some file) false line unknown is = absurd (cc is)

unknown_first : (file : Option (List ℕ)) (named : Bool) (line : ℕ) (unknown : Option ℕ)
    → (is_none file || named) ≡ false → cond (is_some file && not named) (Some line) unknown ≡ Some line
unknown_first None named line unknown is = absurd (cc is)
unknown_first (Some file) true line unknown is = absurd (cc is)
unknown_first (Some file) false line unknown is = refl

-- where each file is named, none is unknown
pub all_known : (specs : List TableSpec) → list_all is_known specs ≡ true → first_unknown specs ≡ None
all_known [] is = refl
all_known (spec ∷ specs) is =
    let (first, others) = and_true (is_known spec) (list_all is_known specs) is in
    known_first spec.file spec.named spec.line (first_unknown specs) first ∙ all_known specs others

-- where none is unknown, each file is named
pub none_unknown : (specs : List TableSpec) → first_unknown specs ≡ None → list_all is_known specs ≡ true
none_unknown [] is = refl
none_unknown (spec ∷ specs) is = elim (cases_Bool (is_known spec)) [
  | inl known ↦
      let others : first_unknown specs ≡ None =
      sym (known_first spec.file spec.named spec.line (first_unknown specs) known) ∙ is in
      both_true (is_known spec) (list_all is_known specs) known (none_unknown specs others)
  | inr unknown ↦ absurd (none-some spec.line
      (sym is ∙ unknown_first spec.file spec.named spec.line (first_unknown specs) unknown))
]

unknown_at : (before : List TableSpec) (spec : TableSpec) (after : List TableSpec)
    → list_all is_known before ≡ true → is_known spec ≡ false
    → first_unknown (before ++ spec ∷ after) ≡ Some spec.line
unknown_at [] spec after known unknown =
    unknown_first spec.file spec.named spec.line (first_unknown after) unknown
unknown_at (first ∷ before) spec after known unknown =
    let (one, others) = and_true (is_known first) (list_all is_known before) known in
    known_first first.file first.named first.line (first_unknown (before ++ spec ∷ after)) one
    ∙ unknown_at before spec after others unknown

pub unknown_is : (specs : List TableSpec) (line : ℕ) → IsFirstUnknown specs line
    → first_unknown specs ≡ Some line
unknown_is specs line f =
    ap first_unknown f.specs_are ∙ unknown_at f.before f.spec f.after f.known f.unknown
    ∙ ap Some (sym f.line_is)

pub is_unknown : (specs : List TableSpec) (line : ℕ) → first_unknown specs ≡ Some line
    → IsFirstUnknown specs line
is_unknown [] line is = absurd (none-some line is)
is_unknown (spec ∷ specs) line is = elim (cases_Bool (is_known spec)) [
  | inl known ↦
      let f = is_unknown specs line (sym (known_first spec.file spec.named spec.line (first_unknown specs) known) ∙ is) in
      record {
        before = spec ∷ f.before;
        spec = f.spec;
        after = f.after;
        specs_are = ap (λ (xs : List TableSpec). spec ∷ xs) f.specs_are;
        known = both_true (is_known spec) (list_all is_known f.before) known f.known;
        unknown = f.unknown;
        line_is = f.line_is;
      }
  | inr unknown ↦
      let same : Some spec.line ≡ Some line =
      sym (unknown_first spec.file spec.named spec.line (first_unknown specs) unknown) ∙ is in
      record {
        before = [];
        spec = spec;
        after = specs;
        specs_are = refl;
        known = refl;
        unknown = unknown;
        line_is = sym (same_Some spec.line line same);
      }
]
