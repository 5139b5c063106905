-- The first entry of the highest rank.
use Rattle.std.proofs.Common.{◌≡◌, ℕ, ◌<◌, ◌≤◌, max, Bool, true, false, cond, ◌&&◌, ◌==◌, not, List, [], ◌∷◌, length, Option, Some, None, refl, ap, sym, ◌∙◌, arith, inl, inr, eq-eqb, ne_eqb, le-ltb, lt-ltb}
use Rattle.std.specs.Prelude.{nat_lt}
use Rattle.std.specs.List.{filter, find, list_all}
use Rattle.std.proofs.lemmas.Bool.{cases_Bool, cases_eq, cases_lt, false≢true}
use Rattle.std.proofs.lemmas.Bool.Decides.{nat_tests}
use Rattle.hx_text.specs.declared.kinds.By.{By}
use Rattle.hx_text.specs.declared.kinds.By.TheVariants as by
use Rattle.hx_sample.specs.declared.sample.Value.{Value}
use Rattle.hx_sample.specs.declared.sample.Value.TheVariants as value
use Rattle.hx_sample.specs.Find.{by_network, first_item, found_entry, greatest, hitting_entries, nearness, preferred_entries, prefix_width, with_greatest, Entry}
use Rattle.hx_trace.specs.declared.ranks.Rank.{Rank}
use Rattle.hx_trace.specs.Ranks.{better_of, first_highest, highest_entry, is_lower, rank_of, with_best}

-- ---- the order of ranks

none_below : (r : Rank) → is_lower r (record { near = 0; long = 0 }) ≡ false
none_below r = grind (arith, nat_tests)

not_below_itself : (r : Rank) → is_lower r r ≡ false
not_below_itself r = grind (arith, nat_tests)

below_both : (a b c : Rank) → is_lower a b ≡ true → is_lower b c ≡ true → is_lower a c ≡ true
below_both a b c = λ p q. grind (arith, nat_tests)

below_neither : (a b c : Rank) → is_lower a b ≡ false → is_lower b c ≡ false → is_lower a c ≡ false
below_neither a b c = λ p q. grind (arith, nat_tests)

-- ---- the highest rank of a list, and the first item that has it

abbrev top : {A : Type 0} → (A → Rank) → List A → Rank
top rank [] = record { near = 0; long = 0 }
top rank (x ∷ xs) = cond (is_lower (rank x) (top rank xs)) (top rank xs) (rank x)

abbrev picked : {A : Type 0} → (A → Rank) → List A → Option A
picked rank [] = None
picked rank (x ∷ xs) = cond (is_lower (rank x) (top rank xs)) (picked rank xs) (Some x)

below_none : (r x t : Rank) (rest : Bool) → rest ≡ not (is_lower r t)
    → (not (is_lower r x) && rest) ≡ not (is_lower r (cond (is_lower x t) t x))
below_none r x t rest is = elim (cases_Bool (is_lower x t)) [
  | inl later ↦ elim (cases_Bool (is_lower r t)) [
    | inl below ↦ rw (is, later, below) (go (not (is_lower r x)))
    | inr above ↦
        let past : is_lower r x ≡ false = elim (cases_Bool (is_lower r x)) [
          | inl under ↦ absurd (false≢true (sym above ∙ below_both r x t under later))
          | inr over ↦ over
        ] in
        rw (is, later, above, past) refl
  ]
  | inr this ↦ elim (cases_Bool (is_lower r x)) [
    | inl below ↦ rw (this, below) refl
    | inr above ↦ rw (is, this, above, below_neither r x t above this) refl
  ]
]
  where
    go : (b : Bool) → (b && false) ≡ false
    go true = refl
    go false = refl

all_below : {A : Type 0} (rank : A → Rank) (r : Rank) (xs : List A)
    → list_all (λ y. not (is_lower r (rank y))) xs ≡ not (is_lower r (top rank xs))
all_below rank r [] = ap not (sym (none_below r))
all_below rank r (x ∷ xs) =
    below_none r (rank x) (top rank xs) (list_all (λ y. not (is_lower r (rank y))) xs) (all_below rank r xs)

find_same : {A : Type 0} (p q : A → Bool) (xs : List A) → ((x : A) → p x ≡ q x) → find p xs ≡ find q xs
find_same p q [] same = refl
find_same p q (x ∷ xs) same = rw (same x, find_same p q xs same) refl

find_top : {A : Type 0} (rank : A → Rank) (xs : List A) (t : Rank) → t ≡ top rank xs
    → find (λ x. not (is_lower (rank x) t)) xs ≡ picked rank xs
find_top rank [] t is = refl
find_top rank (x ∷ xs) t is = elim (cases_Bool (is_lower (rank x) (top rank xs))) [
  | inl later ↦
      let same : t ≡ top rank xs = rw later at is in
      let below : is_lower (rank x) t ≡ true = rw same later in
      rw (below, later) (find_top rank xs t same)
  | inr this ↦
      let same : t ≡ rank x = rw this at is in
      let equal : is_lower (rank x) t ≡ false = rw same (not_below_itself (rank x)) in
      rw (equal, this) refl
]

highest_picked : {A : Type 0} (rank : A → Rank) (xs : List A) → first_highest rank xs ≡ picked rank xs
highest_picked rank xs =
    find_same (λ x. list_all (λ y. not (is_lower (rank x) (rank y))) xs)
    (λ x. not (is_lower (rank x) (top rank xs))) xs (λ x. all_below rank (rank x) xs)
    ∙ find_top rank xs (top rank xs) refl

-- ---- one item after another

-- of two items that stand before others the one that isn't lower stands for both, or else the first
highest_of_two : {A : Type 0} (rank : A → Rank) (b x : A) (xs : List A)
    → picked rank (b ∷ x ∷ xs) ≡ picked rank (cond (is_lower (rank b) (rank x)) x b ∷ xs)
highest_of_two rank b x xs = elim (cases_Bool (is_lower (rank b) (rank x))) [
  | inl lower ↦ elim (cases_Bool (is_lower (rank x) (top rank xs))) [
    | inl later ↦ rw (lower, later, below_both (rank b) (rank x) (top rank xs) lower later) refl
    | inr this ↦ rw (lower, this, lower) refl
  ]
  | inr higher ↦ elim (cases_Bool (is_lower (rank x) (top rank xs))) [
    | inl later ↦ rw (higher, later) refl
    | inr this ↦ rw (higher, this, higher, below_neither (rank b) (rank x) (top rank xs) higher this) refl
  ]
]

pub highest_of_better : {A : Type 0} (rank : A → Rank) (best : Option A) (x : A) (xs : List A)
    → first_highest rank (with_best best (x ∷ xs)) ≡ first_highest rank (better_of rank best x ∷ xs)
highest_of_better rank None x xs = refl
highest_of_better rank (Some b) x xs =
    highest_picked rank (b ∷ x ∷ xs) ∙ highest_of_two rank b x xs
    ∙ sym (highest_picked rank (cond (is_lower (rank b) (rank x)) x b ∷ xs))

pub highest_of_best : {A : Type 0} (rank : A → Rank) (best : Option A)
    → first_highest rank (with_best best []) ≡ best
highest_of_best rank None = refl
highest_of_best rank (Some b) =
    highest_picked rank (b ∷ []) ∙ rw (none_below (rank b)) refl

-- ---- what is found, by measures

-- by a greatest measure that is the same for all, none is left out
all_greatest : {A : Type 0} (xs : List A) → with_greatest (λ x. 0) xs ≡ xs
all_greatest xs = go xs (greatest (λ x. 0) xs) (none xs)
  where
    none : {A : Type 0} (ys : List A) → greatest (λ y. 0) ys ≡ 0
    none [] = refl
    none (y ∷ ys) = omega (arith, none ys)

    go : {A : Type 0} (ys : List A) (n : ℕ) → n ≡ 0 → filter (λ y. 0 == n) ys ≡ ys
    go [] n is = refl
    go (y ∷ ys) n is = rw (eq-eqb 0 n (sym is)) (ap (λ zs. y ∷ zs) (go ys n is))

none_reach : {A : Type 0} (measure : A → ℕ) (xs : List A) (n : ℕ) → greatest measure xs < n
    → filter (λ x. measure x == n) xs ≡ []
none_reach measure [] n past = refl
none_reach measure (x ∷ xs) n past =
    let here : ¬ (measure x ≡ n) = λ e. omega (arith, e, past) in
    rw (ne_eqb (measure x) n here) (none_reach measure xs n (omega (arith, past)))

-- the items of the greatest measure of one and of others
later_greatest : {A : Type 0} (measure : A → ℕ) (x : A) (xs : List A) → measure x < greatest measure xs
    → with_greatest measure (x ∷ xs) ≡ with_greatest measure xs
later_greatest measure x xs lower = go (max (measure x) (greatest measure xs)) (omega (arith, lower))
  where
    go : (n : ℕ) → n ≡ greatest measure xs → filter (λ y. measure y == n) (x ∷ xs) ≡ with_greatest measure xs
    go n is =
        let other : ¬ (measure x ≡ n) = λ e. omega (arith, e, is, lower) in
        rw (ne_eqb (measure x) n other) (ap (λ k. filter (λ y. measure y == k) xs) is)

as_great : {A : Type 0} (measure : A → ℕ) (x : A) (xs : List A) → measure x ≡ greatest measure xs
    → with_greatest measure (x ∷ xs) ≡ x ∷ with_greatest measure xs
as_great measure x xs same = go (max (measure x) (greatest measure xs)) (omega (arith, same))
  where
    go : (n : ℕ) → n ≡ greatest measure xs → filter (λ y. measure y == n) (x ∷ xs) ≡ x ∷ with_greatest measure xs
    go n is =
        rw (eq-eqb (measure x) n (same ∙ sym is))
        (ap (λ k. x ∷ filter (λ y. measure y == k) xs) is)

alone_greatest : {A : Type 0} (measure : A → ℕ) (x : A) (xs : List A) → greatest measure xs < measure x
    → with_greatest measure (x ∷ xs) ≡ x ∷ []
alone_greatest measure x xs higher = go (max (measure x) (greatest measure xs)) (omega (arith, higher))
  where
    go : (n : ℕ) → n ≡ measure x → filter (λ y. measure y == n) (x ∷ xs) ≡ x ∷ []
    go n is =
        rw (eq-eqb (measure x) n (sym is))
        (ap (λ ys. x ∷ ys) (none_reach measure xs n (omega (arith, is, higher))))

-- the first of the greatest measure of one and of others
first_great : {A : Type 0} (measure : A → ℕ) (x : A) (xs : List A)
    → first_item (with_greatest measure (x ∷ xs))
    ≡ cond (nat_lt (measure x) (greatest measure xs)) (first_item (with_greatest measure xs)) (Some x)
first_great measure x xs = elim (cases_lt (measure x) (greatest measure xs)) [
  | inl lower ↦ rw (lt-ltb (measure x) (greatest measure xs) lower) (ap first_item (later_greatest measure x xs lower))
  | inr other ↦ rw (le-ltb (measure x) (greatest measure xs) other) (go other)
]
  where
    go : greatest measure xs ≤ measure x → first_item (with_greatest measure (x ∷ xs)) ≡ Some x
    go high = elim (cases_eq (measure x) (greatest measure xs)) [
      | inl same ↦ ap first_item (as_great measure x xs same)
      | inr apart ↦ ap first_item (alone_greatest measure x xs (omega (arith, high, apart)))
    ]

-- ---- two measures are a rank

-- a rank by two numbers
abbrev rank_by : ℕ → ℕ → Rank
rank_by near long = record { near = near; long = long }

same_ranks : (m n p q : ℕ) → m ≡ p → n ≡ q → rank_by m n ≡ rank_by p q
same_ranks m n p q first second = ap (λ k. rank_by k n) first ∙ ap (rank_by p) second

less_near : (a b m n : ℕ) → a < m → is_lower (rank_by a b) (rank_by m n) ≡ true
less_near a b m n lower = rw (lt-ltb a m lower) refl

more_near : (a b m n : ℕ) → m < a → is_lower (rank_by a b) (rank_by m n) ≡ false
more_near a b m n higher =
    let other : ¬ (a ≡ m) = λ e. omega (arith, e, higher) in
    rw (le-ltb a m (omega (arith, higher)), ne_eqb a m other) refl

as_near : (a b m n : ℕ) → a ≡ m → is_lower (rank_by a b) (rank_by m n) ≡ nat_lt b n
as_near a b m n same = rw (le-ltb a m (omega (arith, same)), eq-eqb a m same) refl

-- the items of the greatest first measure, and of these those of the greatest second
abbrev both_greatest : {A : Type 0} → (A → ℕ) → (A → ℕ) → List A → List A
both_greatest f g xs = with_greatest g (with_greatest f xs)

-- the highest rank is the two greatest measures, and the first item that has both is picked
record IsByRank {A : Type 0} (f g : A → ℕ) (xs : List A) : Type 0 where
  pub highest :
      top (λ x. rank_by (f x) (g x)) xs ≡ rank_by (greatest f xs) (greatest g (with_greatest f xs))
  pub first : first_item (both_greatest f g xs) ≡ picked (λ x. rank_by (f x) (g x)) xs

-- an item that is less near than those after it
by_later : {A : Type 0} (f g : A → ℕ) (x : A) (xs : List A) → IsByRank f g xs → f x < greatest f xs
    → IsByRank f g (x ∷ xs)
by_later f g x xs rest lower =
    let m = greatest f xs in
    let n = greatest g (with_greatest f xs) in
    let same = later_greatest f x xs lower in
    let below : is_lower (rank_by (f x) (g x)) (top (λ x. rank_by (f x) (g x)) xs) ≡ true =
    rw rest.highest (less_near (f x) (g x) m n lower) in
    record {
      highest = rw below
          (rest.highest
          ∙ same_ranks m n (max (f x) m) (greatest g (with_greatest f (x ∷ xs))) (omega (arith, lower))
          (ap (greatest g) (sym same)));
      first = rw below (ap (λ ys. first_item (with_greatest g ys)) same ∙ rest.first);
    }

-- one that is as near, and shorter
by_longer : {A : Type 0} (f g : A → ℕ) (x : A) (xs : List A) → IsByRank f g xs → f x ≡ greatest f xs
    → g x < greatest g (with_greatest f xs) → IsByRank f g (x ∷ xs)
by_longer f g x xs rest near shorter =
    let m = greatest f xs in
    let n = greatest g (with_greatest f xs) in
    let same = as_great f x xs near in
    let below : is_lower (rank_by (f x) (g x)) (top (λ x. rank_by (f x) (g x)) xs) ≡ true =
    rw rest.highest (as_near (f x) (g x) m n near ∙ lt-ltb (g x) n shorter) in
    let longest : n ≡ max (g x) n = omega (arith, shorter) in
    let later : cond (nat_lt (g x) n) (first_item (both_greatest f g xs)) (Some x) ≡ first_item (both_greatest f g xs) =
    rw (lt-ltb (g x) n shorter) refl in
    record {
      highest = rw below
          (rest.highest
          ∙ same_ranks m n (max (f x) m) (greatest g (with_greatest f (x ∷ xs))) (omega (arith, near))
          (longest ∙ ap (greatest g) (sym same)));
      first = rw below
          (ap (λ ys. first_item (with_greatest g ys)) same ∙ first_great g x (with_greatest f xs)
          ∙ later ∙ rest.first);
    }

-- one that is as near, and as long
by_first : {A : Type 0} (f g : A → ℕ) (x : A) (xs : List A) → IsByRank f g xs → f x ≡ greatest f xs
    → greatest g (with_greatest f xs) ≤ g x → IsByRank f g (x ∷ xs)
by_first f g x xs rest near long =
    let m = greatest f xs in
    let n = greatest g (with_greatest f xs) in
    let same = as_great f x xs near in
    let above : is_lower (rank_by (f x) (g x)) (top (λ x. rank_by (f x) (g x)) xs) ≡ false =
    rw rest.highest (as_near (f x) (g x) m n near ∙ le-ltb (g x) n long) in
    let longest : g x ≡ max (g x) n = omega (arith, long) in
    let this : cond (nat_lt (g x) n) (first_item (both_greatest f g xs)) (Some x) ≡ Some x =
    rw (le-ltb (g x) n long) refl in
    record {
      highest = rw above
          (same_ranks (f x) (g x) (max (f x) m) (greatest g (with_greatest f (x ∷ xs))) (omega (arith, near))
          (longest ∙ ap (greatest g) (sym same)));
      first = rw above
          (ap (λ ys. first_item (with_greatest g ys)) same ∙ first_great g x (with_greatest f xs) ∙ this);
    }

-- one that is nearer
by_nearest : {A : Type 0} (f g : A → ℕ) (x : A) (xs : List A) → IsByRank f g xs → greatest f xs < f x
    → IsByRank f g (x ∷ xs)
by_nearest f g x xs rest nearer =
    let m = greatest f xs in
    let n = greatest g (with_greatest f xs) in
    let same = alone_greatest f x xs nearer in
    let above : is_lower (rank_by (f x) (g x)) (top (λ x. rank_by (f x) (g x)) xs) ≡ false =
    rw rest.highest (more_near (f x) (g x) m n nearer) in
    let longest : g x ≡ max (g x) 0 = omega arith in
    let this : cond (nat_lt (g x) 0) None (Some x) ≡ Some x = rw (le-ltb (g x) 0 (omega arith)) refl in
    record {
      highest = rw above
          (same_ranks (f x) (g x) (max (f x) m) (greatest g (with_greatest f (x ∷ xs))) (omega (arith, nearer))
          (longest ∙ ap (greatest g) (sym same)));
      first = rw above
          (ap (λ ys. first_item (with_greatest g ys)) same ∙ first_great g x [] ∙ this);
    }

by_rank : {A : Type 0} (f g : A → ℕ) (xs : List A) → IsByRank f g xs
by_rank f g [] = record { highest = refl; first = refl }
by_rank f g (x ∷ xs) = elim (cases_lt (f x) (greatest f xs)) [
  | inl lower ↦ by_later f g x xs (by_rank f g xs) lower
  | inr other ↦ elim (cases_eq (f x) (greatest f xs)) [
    | inr apart ↦ by_nearest f g x xs (by_rank f g xs) (omega (arith, other, apart))
    | inl near ↦ elim (cases_lt (g x) (greatest g (with_greatest f xs))) [
      | inl shorter ↦ by_longer f g x xs (by_rank f g xs) near shorter
      | inr long ↦ by_first f g x xs (by_rank f g xs) near long
    ]
  ]
]

-- the first item of two greatest measures is that of the highest rank
highest_by_both : {A : Type 0} (f g : A → ℕ) (xs : List A)
    → first_item (both_greatest f g xs) ≡ first_highest (λ x. rank_by (f x) (g x)) xs
highest_by_both f g xs =
    (by_rank f g xs).first ∙ sym (highest_picked (λ x. rank_by (f x) (g x)) xs)

-- that of one is that of the highest rank by it alone
highest_by_one : {A : Type 0} (g : A → ℕ) (xs : List A)
    → first_item (with_greatest g xs) ≡ first_highest (λ x. rank_by 0 (g x)) xs
highest_by_one g xs =
    ap (λ ys. first_item (with_greatest g ys)) (sym (all_greatest xs)) ∙ highest_by_both (λ x. 0) g xs

-- the first of all is that of the highest of ranks that are all the same
highest_by_none : {A : Type 0} (xs : List A) → first_item xs ≡ first_highest (λ x. rank_by 0 0) xs
highest_by_none xs = ap first_item (sym (all_greatest xs)) ∙ highest_by_one (λ x. 0) xs

-- ---- what is found

preferred_highest : (method : By) (ci : Bool) (v : Value) (entries : List Entry)
    → first_item (preferred_entries method ci v entries)
    ≡ first_highest (λ entry. rank_of method ci v entry.key) entries
preferred_highest by.Beg false v entries = highest_by_one (λ entry. length entry.key) entries
preferred_highest by.Ip ci (value.Ip ip) entries =
    highest_by_both (by_network (nearness ip)) (by_network prefix_width) entries
preferred_highest _ ci v entries = highest_by_none entries

pub found_is_highest : (method : By) (ci : Bool) (entries : List Entry) (v : Value)
    → found_entry method ci entries v ≡ highest_entry method ci entries v
found_is_highest method ci entries v =
    preferred_highest method ci v (hitting_entries method ci entries v)
