-- The item of a list that is found by its key, and what the scans of keys of bits find.
use Rattle.std.proofs.Common.{◌≡◌, ℕ, ◌*◌, max, Bool, true, false, cond, ◌==◌, nat_lt, List, [], ◌∷◌, map, length, All, Option, Some, None, refl, ap, sym, ◌∙◌, subst, arith, inl, inr, eq-eqb, ne_eqb, eqb-true, le-ltb, lt-ltb, option_map, filter, find}
use Rattle.std.proofs.lemmas.Bool.{cases_lt, cases_eq}
use Rattle.std.proofs.lemmas.List.Elements.{All-head, All-tail, All-filter, All-weaker, filter_agree}
use Rattle.std.specs.Option.{option_map_or, unwrap_or}
use Rattle.hx_text.specs.declared.kinds.By.{By}
use Rattle.hx_text.specs.declared.kinds.By.TheVariants as by
use Rattle.hx_text.specs.declared.network.Net.{Net}
use Rattle.hx_text.specs.Network.{net_of}
use Rattle.hx_sample.specs.declared.sample.Value.{Value}
use Rattle.hx_sample.specs.declared.sample.Value.TheVariants as value
use Rattle.hx_sample.specs.Find.{Entry, first_item, greatest, with_greatest, nearness, prefix_width, by_network, preferred_entries, found_entry}
use Rattle.hx_sample.specs.Keys.{hits}
use Rattle.hx_sample.proofs.FindLemmas.{first_filtered, none_greatest}
use Rattle.hx_ebtree.specs.KeyList.{is_prefix, is_same_key, exact_of, longer_of, longest_pair_of, longest_of}

-- ---- what is found, by the keys of items of any kind

-- a measure of the network that the key of an item writes
abbrev pub network_measure : {A : Type 0} → (A → List ℕ) → (Net → ℕ) → A → ℕ
network_measure key measure x = option_map_or measure (net_of (key x)) 0

-- of the items that hit a value, those that go before the others
abbrev pub preferred_items : {A : Type 0} → (A → List ℕ) → By → Bool → Value → List A → List A
preferred_items key by.Beg false v xs = with_greatest (λ x. length (key x)) xs
preferred_items key by.Ip ci (value.Ip ip) xs =
    with_greatest (network_measure key prefix_width)
    (with_greatest (network_measure key (nearness ip)) xs)
preferred_items key _ ci v xs = xs

-- the item that is found for a value: of those that hit and go before the others, the first
abbrev pub found_item : {A : Type 0} → (A → List ℕ) → By → Bool → List A → Value → Option A
found_item key method ci xs v =
    first_item (preferred_items key method ci v (filter (λ x. hits method ci (key x) v) xs))

-- the first of the items of the greatest measure
abbrev pub first_greatest : {A : Type 0} → (A → ℕ) → List A → Option A
first_greatest measure xs = first_item (with_greatest measure xs)

-- an item with its key of bits and its number
abbrev pub pair_by : {A : Type 0} → (A → List Bool) → (A → ℕ) → A → List Bool × ℕ
pair_by bits node x = (bits x, node x)

-- ---- an entry for each item

first_mapped : {A B : Type 0} (f : A → B) (xs : List A)
    → first_item (map f xs) ≡ option_map f (first_item xs)
first_mapped f [] = refl
first_mapped f (x ∷ xs) = refl

mapped_if : {A B : Type 0} (f : A → B) (b : Bool) (x : A) (xs : List A)
    → cond b (f x ∷ map f xs) (map f xs) ≡ map f (cond b (x ∷ xs) xs)
mapped_if f true x xs = refl
mapped_if f false x xs = refl

pub filter-map : {A B : Type 0} (f : A → B) (p : B → Bool) (xs : List A)
    → filter p (map f xs) ≡ map f (filter (λ x. p (f x)) xs)
filter-map f p [] = refl
filter-map f p (x ∷ xs) =
    rw (filter-map f p xs) (mapped_if f (p (f x)) x (filter (λ y. p (f y)) xs))

greatest-map : {A B : Type 0} (f : A → B) (measure : B → ℕ) (xs : List A)
    → greatest measure (map f xs) ≡ greatest (λ x. measure (f x)) xs
greatest-map f measure [] = refl
greatest-map f measure (x ∷ xs) = ap (max (measure (f x))) (greatest-map f measure xs)

with_greatest-map : {A B : Type 0} (f : A → B) (measure : B → ℕ) (xs : List A)
    → with_greatest measure (map f xs) ≡ map f (with_greatest (λ x. measure (f x)) xs)
with_greatest-map f measure xs =
    filter-map f (λ y. measure y == greatest measure (map f xs)) xs
    ∙ ap (λ n. map f (filter (λ x. measure (f x) == n) xs)) (greatest-map f measure xs)

preferred_shown : {A : Type 0} (shown : A → Entry) (method : By) (ci : Bool) (v : Value)
    (xs : List A) → preferred_entries method ci v (map shown xs)
    ≡ map shown (preferred_items (λ x. (shown x).key) method ci v xs)
preferred_shown shown by.Beg false v xs =
    with_greatest-map shown (λ entry. length entry.key) xs
preferred_shown shown by.Ip ci (value.Ip ip) xs =
    ap (with_greatest (by_network prefix_width))
    (with_greatest-map shown (by_network (nearness ip)) xs)
    ∙ with_greatest-map shown (by_network prefix_width)
    (with_greatest (λ x. by_network (nearness ip) (shown x)) xs)
preferred_shown shown _ ci v xs = refl

-- the entry that is found is that of the item that is found: keys alone decide
pub found_shown : {A : Type 0} (shown : A → Entry) (method : By) (ci : Bool) (xs : List A)
    (v : Value) → found_entry method ci (map shown xs) v
    ≡ option_map shown (found_item (λ x. (shown x).key) method ci xs v)
found_shown shown method ci xs v =
    let hitting = filter (λ x. hits method ci (shown x).key v) xs in
    ap (λ entries. first_item (preferred_entries method ci v entries))
    (filter-map shown (λ entry. hits method ci entry.key v) xs)
    ∙ ap first_item (preferred_shown shown method ci v hitting)
    ∙ first_mapped shown (preferred_items (λ x. (shown x).key) method ci v hitting)

-- ---- tests and measures that agree on a list

pub find_agrees : {A : Type 0} (p q : A → Bool) (xs : List A) → All (λ x. p x ≡ q x) xs
    → find p xs ≡ find q xs
find_agrees p q [] same = refl
find_agrees p q (x ∷ xs) same =
    rw (
      All-head (λ x. p x ≡ q x) x xs same,
      find_agrees p q xs (All-tail (λ x. p x ≡ q x) x xs same),
    ) refl

pub filter_agrees : {A : Type 0} (p q : A → Bool) (xs : List A) → All (λ x. p x ≡ q x) xs
    → filter p xs ≡ filter q xs
filter_agrees p q [] same = refl
filter_agrees p q (x ∷ xs) same =
    rw (
      All-head (λ x. p x ≡ q x) x xs same,
      filter_agrees p q xs (All-tail (λ x. p x ≡ q x) x xs same),
    ) refl

greatest_agrees : {A : Type 0} (f g : A → ℕ) (xs : List A) → All (λ x. f x ≡ g x) xs
    → greatest f xs ≡ greatest g xs
greatest_agrees f g [] same = refl
greatest_agrees f g (x ∷ xs) same =
    rw (
      All-head (λ x. f x ≡ g x) x xs same,
      greatest_agrees f g xs (All-tail (λ x. f x ≡ g x) x xs same),
    ) refl

pub first_greatest_agrees : {A : Type 0} (f g : A → ℕ) (xs : List A) → All (λ x. f x ≡ g x) xs
    → first_greatest f xs ≡ first_greatest g xs
first_greatest_agrees f g xs same =
    ap first_item
    (ap (λ n. filter (λ x. f x == n) xs) (greatest_agrees f g xs same)
    ∙ filter_agrees (λ x. f x == greatest g xs) (λ x. g x == greatest g xs) xs
    (All-weaker (λ x. f x ≡ g x) (λ x. (f x == greatest g xs) ≡ (g x == greatest g xs))
    (λ x e. ap (λ n. n == greatest g xs) e) xs same))

-- every item passes
pub filter_all : {A : Type 0} (p : A → Bool) (xs : List A) → All (λ x. p x ≡ true) xs
    → filter p xs ≡ xs
filter_all p [] passes = refl
filter_all p (x ∷ xs) passes =
    rw (
      All-head (λ x. p x ≡ true) x xs passes,
      filter_all p xs (All-tail (λ x. p x ≡ true) x xs passes),
    ) refl

-- ---- the first of the greatest measure

find_measure : {A : Type 0} (measure : A → ℕ) (xs : List A) (n : ℕ) (z : A)
    → find (λ x. measure x == n) xs ≡ Some z → measure z ≡ n
find_measure measure [] n z found = cc
find_measure measure (x ∷ xs) n z found =
    by (find_measure measure xs n z) (measure x == n) refl found
  where
    by : (find (λ y. measure y == n) xs ≡ Some z → measure z ≡ n)
        → (b : Bool) → (measure x == n) ≡ b
        → cond b (Some x) (find (λ y. measure y == n) xs) ≡ Some z → measure z ≡ n
    by later true is found' =
        eqb-true (measure z) n
        (subst (λ w. (measure w == n) ≡ true) (ap (λ o. unwrap_or o x) found') is)
    by later false is found' = later found'

pub greatest_nil : {A : Type 0} (measure : A → ℕ) (xs : List A) → xs ≡ []
    → greatest measure xs ≡ 0
greatest_nil measure [] none = refl
greatest_nil measure (x ∷ xs) none = cc

has_greatest : {A : Type 0} (measure : A → ℕ) (xs : List A) (z : A)
    → first_greatest measure xs ≡ Some z → measure z ≡ greatest measure xs
has_greatest measure xs z found =
    find_measure measure xs (greatest measure xs) z
    (sym (first_filtered (λ x. measure x == greatest measure xs) xs) ∙ found)

this_greatest : {A : Type 0} (measure : A → ℕ) (x : A) (xs : List A) (n : ℕ) → measure x ≡ n
    → first_item (filter (λ y. measure y == n) (x ∷ xs)) ≡ Some x
this_greatest measure x xs n is = rw (eq-eqb (measure x) n is) refl

later_greatest : {A : Type 0} (measure : A → ℕ) (x : A) (xs : List A) (n : ℕ)
    → n ≡ greatest measure xs → (measure x ≡ n → ⊥)
    → first_item (filter (λ y. measure y == n) (x ∷ xs)) ≡ first_greatest measure xs
later_greatest measure x xs n is other =
    rw (ne_eqb (measure x) n other)
    (ap (λ k. first_item (filter (λ y. measure y == k) xs)) is)

-- the first item is that of the greatest measure unless a later one has a greater
pub first_greatest_cons : {A : Type 0} (measure : A → ℕ) (x : A) (xs : List A)
    → first_greatest measure (x ∷ xs)
    ≡ cond (nat_lt (measure x) (greatest measure xs)) (first_greatest measure xs) (Some x)
first_greatest_cons measure x xs =
    let n = greatest measure xs in
    elim (cases_lt (measure x) n) [
      | inl lt ↦ rw (lt-ltb (measure x) n lt)
          (later_greatest measure x xs (max (measure x) n) (omega (arith, lt)) (omega (arith, lt)))
      | inr ge ↦ rw (le-ltb (measure x) n ge)
          (this_greatest measure x xs (max (measure x) n) (omega (arith, ge)))
    ]

greatest_of_bits : {A : Type 0} (measure : A → ℕ) (xs : List A)
    → greatest (λ x. 8 * measure x) xs ≡ 8 * greatest measure xs
greatest_of_bits measure [] = refl
greatest_of_bits measure (x ∷ xs) = omega (arith, greatest_of_bits measure xs)

same_in_bits : (m n : ℕ) → (8 * m == 8 * n) ≡ (m == n)
same_in_bits m n =
    elim (cases_eq m n) [
      | inl e ↦ eq-eqb (8 * m) (8 * n) (omega (arith, e)) ∙ sym (eq-eqb m n e)
      | inr d ↦ ne_eqb (8 * m) (8 * n) (λ e. d (omega (arith, e))) ∙ sym (ne_eqb m n d)
    ]

-- to count in bits changes nothing
pub first_greatest_in_bits : {A : Type 0} (measure : A → ℕ) (xs : List A)
    → first_greatest (λ x. 8 * measure x) xs ≡ first_greatest measure xs
first_greatest_in_bits measure xs =
    ap first_item
    (ap (λ n. filter (λ x. 8 * measure x == n) xs) (greatest_of_bits measure xs)
    ∙ filter_agree (λ x. 8 * measure x == 8 * greatest measure xs)
    (λ x. measure x == greatest measure xs)
    (λ x. same_in_bits (measure x) (greatest measure xs)) xs)

-- ---- what the scans of keys of bits find

module _ {A : Type 0} (bits : A → List Bool) (node : A → ℕ) where
  exact_if : (b : Bool) (x : A) (o : Option A)
      → cond b (Some (node x)) (option_map node o) ≡ option_map node (cond b (Some x) o)
  exact_if true x o = refl
  exact_if false x o = refl

  pub exact_found : (xs : List A) (key : List Bool) → exact_of (map (pair_by bits node) xs) key
      ≡ option_map node (find (λ x. is_same_key (bits x) key) xs)
  exact_found [] key = refl
  exact_found (x ∷ xs) key =
      rw (exact_found xs key)
      (exact_if (is_same_key (bits x) key) x (find (λ y. is_same_key (bits y) key) xs))

  abbrev size : A → ℕ
  size x = length (bits x)

  pair_if : (b : Bool) (x z : A) → cond b (Some (pair_by bits node z)) (Some (pair_by bits node x))
      ≡ option_map (pair_by bits node) (cond b (Some z) (Some x))
  pair_if true x z = refl
  pair_if false x z = refl

  longer_pair : (x : A) (xs : List A) (o : Option A) → first_greatest size xs ≡ o
      → longer_of (pair_by bits node x) (option_map (pair_by bits node) o)
      ≡ option_map (pair_by bits node) (cond (nat_lt (size x) (greatest size xs)) o (Some x))
  longer_pair x xs None found =
      let none = greatest_nil size xs (none_greatest size xs found) in
      rw (le-ltb (size x) (greatest size xs) (omega (arith, none))) refl
  longer_pair x xs (Some z) found =
      rw (sym (has_greatest size xs z found)) (pair_if (nat_lt (size x) (size z)) x z)

  longest_if : (b : Bool) (x : A) (xs : List A) (o : Option (List Bool × ℕ))
      → o ≡ option_map (pair_by bits node) (first_greatest size xs)
      → cond b (longer_of (pair_by bits node x) o) o
      ≡ option_map (pair_by bits node) (first_greatest size (cond b (x ∷ xs) xs))
  longest_if true x xs o is =
      ap (longer_of (pair_by bits node x)) is
      ∙ longer_pair x xs (first_greatest size xs) refl
      ∙ ap (option_map (pair_by bits node)) (sym (first_greatest_cons size x xs))
  longest_if false x xs o is = is

  longest_pair_found : (xs : List A) (key : List Bool)
      → longest_pair_of (map (pair_by bits node) xs) key
      ≡ option_map (pair_by bits node)
      (first_greatest size (filter (λ x. is_prefix (bits x) key) xs))
  longest_pair_found [] key = refl
  longest_pair_found (x ∷ xs) key =
      longest_if (is_prefix (bits x) key) x (filter (λ y. is_prefix (bits y) key) xs)
      (longest_pair_of (map (pair_by bits node) xs) key) (longest_pair_found xs key)

  number_in : (o : Option A)
      → option_map (λ (pair : List Bool × ℕ). pair.1) (option_map (pair_by bits node) o)
      ≡ option_map node o
  number_in None = refl
  number_in (Some x) = refl

  pub longest_found : (xs : List A) (key : List Bool)
      → longest_of (map (pair_by bits node) xs) key
      ≡ option_map node (first_greatest size (filter (λ x. is_prefix (bits x) key) xs))
  longest_found xs key =
      ap (option_map (λ (pair : List Bool × ℕ). pair.1)) (longest_pair_found xs key)
      ∙ number_in (first_greatest size (filter (λ x. is_prefix (bits x) key) xs))

  -- by a test and a measure that agree with the keys of bits
  pub exact_agrees : (test : A → Bool) (xs : List A) (key : List Bool)
      → All (λ x. is_same_key (bits x) key ≡ test x) xs
      → exact_of (map (pair_by bits node) xs) key ≡ option_map node (find test xs)
  exact_agrees test xs key same =
      exact_found xs key
      ∙ ap (option_map node) (find_agrees (λ x. is_same_key (bits x) key) test xs same)

  pub longest_agrees : (test : A → Bool) (measure : A → ℕ) (xs : List A) (key : List Bool)
      → All (λ x. is_prefix (bits x) key ≡ test x) xs → All (λ x. length (bits x) ≡ measure x) xs
      → longest_of (map (pair_by bits node) xs) key
      ≡ option_map node (first_greatest measure (filter test xs))
  longest_agrees test measure xs key same sizes =
      longest_found xs key
      ∙ ap (λ ys. option_map node (first_greatest size ys))
      (filter_agrees (λ x. is_prefix (bits x) key) test xs same)
      ∙ ap (option_map node)
      (first_greatest_agrees size measure (filter test xs)
      (All-filter test (λ x. length (bits x) ≡ measure x) xs sizes))
