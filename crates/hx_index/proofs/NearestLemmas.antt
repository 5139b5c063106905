-- The item that is found for an address: networks by their distance, and the first that hits.
use Rattle.std.proofs.Common.{◌≡◌, ℕ, zero, suc, ◌<◌, ◌≤◌, Bool, true, false, ◌&&◌, ◌==◌, List, [], ◌∷◌, All, Option, Some, None, refl, ap, sym, ◌∙◌, arith, eq-eqb, ne_eqb, filter, find}
use Rattle.std.proofs.lemmas.Bool.{false≢true}
use Rattle.std.proofs.lemmas.List.Elements.{All-head, All-tail, All-weaker, filter_agree, filter_passes}
use Rattle.std.specs.Option.{option_map_or, option_or}
use Rattle.hx_text.specs.declared.address.Ip.{Ip}
use Rattle.hx_text.specs.declared.address.Ip.TheVariants.{V4, V6}
use Rattle.hx_text.specs.declared.kinds.By.{By}
use Rattle.hx_text.specs.declared.kinds.By.TheVariants as by
use Rattle.hx_text.specs.declared.network.Net.{Net}
use Rattle.hx_text.specs.declared.network.Net.TheVariants.{Plain, Masked}
use Rattle.hx_text.specs.Network.{net_of}
use Rattle.hx_sample.specs.declared.sample.Value.{Value}
use Rattle.hx_sample.specs.declared.sample.Value.TheVariants as value
use Rattle.hx_sample.specs.Find.{first_item, greatest, with_greatest, nearness, prefix_width}
use Rattle.hx_sample.specs.Keys.{has_address, hits, is_in_network}
use Rattle.hx_sample.proofs.FindLemmas.{first_filtered, filtered_twice, none_greatest}
use Rattle.hx_index.proofs.FoundItemLemmas.{found_item, preferred_items, network_measure, first_greatest, filter_all, greatest_nil}

-- ---- methods that take the first hit

-- whether the method finds the first of the items that hit
abbrev pub takes_first : By → Bool → Bool
takes_first by.Beg ci = ci
takes_first by.Ip ci = false
takes_first _ ci = true

pub first_hit_found : {A : Type 0} (key : A → List ℕ) (method : By) (ci : Bool) (xs : List A)
    (v : Value) → takes_first method ci ≡ true
    → found_item key method ci xs v ≡ find (λ x. hits method ci (key x) v) xs
first_hit_found key by.Beg false xs v takes = absurd (false≢true takes)
first_hit_found key by.Ip ci xs v takes = absurd (false≢true takes)
first_hit_found key method ci xs v takes =
    first_filtered (λ x. hits method ci (key x) v) xs

pub nothing_passes : {A : Type 0} (p : A → Bool) (xs : List A) → All (λ x. p x ≡ false) xs
    → filter p xs ≡ []
nothing_passes p [] fails = refl
nothing_passes p (x ∷ xs) fails =
    rw (
      All-head (λ y. p y ≡ false) x xs fails,
      nothing_passes p xs (All-tail (λ y. p y ≡ false) x xs fails),
    ) refl

-- where no item hits, none is found
pub none_hits : {A : Type 0} (key : A → List ℕ) (method : By) (ci : Bool) (xs : List A)
    (v : Value) → All (λ x. hits method ci (key x) v ≡ false) xs
    → found_item key method ci xs v ≡ None
none_hits key method ci xs v none =
    ap (λ ys. first_item (preferred_items key method ci v ys))
    (nothing_passes (λ x. hits method ci (key x) v) xs none)
    ∙ ap first_item (preferred_nothing method ci v)
  where
    preferred_nothing : (m : By) (c : Bool) (w : Value) → preferred_items key m c w [] ≡ []
    preferred_nothing by.Beg false w = refl
    preferred_nothing by.Ip c (value.Ip ip) = refl
    preferred_nothing _ c w = refl

and_true : (b : Bool) → (b && true) ≡ b
and_true true = refl
and_true false = refl

and_false : (b : Bool) → (b && false) ≡ false
and_false true = refl
and_false false = refl

-- the first item that passes is the first of any class that all that pass are in
pub find_in_class : {A : Type 0} (p class : A → Bool) (xs : List A)
    → ((x : A) → p x ≡ true → class x ≡ true) → find p (filter class xs) ≡ find p xs
find_in_class {A} p class xs within =
    sym (first_filtered p (filter class xs))
    ∙ ap first_item
    (filtered_twice class p xs
    ∙ filter_agree (λ x. class x && p x) p (λ x. by x (p x) refl) xs)
    ∙ first_filtered p xs
  where
    by : (x : A) (b : Bool) → p x ≡ b → (class x && b) ≡ b
    by x true passes = rw (within x passes) refl
    by x false passes = and_false (class x)

-- ---- three classes

-- no item has a measure above the greatest
none_above : {A : Type 0} (measure : A → ℕ) (xs : List A) (n : ℕ) → greatest measure xs < n
    → filter (λ x. measure x == n) xs ≡ []
none_above measure [] n above = refl
none_above measure (x ∷ xs) n above =
    rw (
      ne_eqb (measure x) n (λ e. omega (arith, above, e)),
      none_above measure xs n (omega (arith, above)),
    ) refl

greatest_within : {A : Type 0} (measure : A → ℕ) (n : ℕ) → ((x : A) → measure x ≤ n)
    → (xs : List A) → greatest measure xs ≤ n
greatest_within measure n within [] = omega arith
greatest_within measure n within (x ∷ xs) =
    omega (arith, within x, greatest_within measure n within xs)

greatest_zero : {A : Type 0} (measure : A → ℕ) (xs : List A) → All (λ x. measure x ≡ 0) xs
    → greatest measure xs ≡ 0
greatest_zero measure [] zeros = refl
greatest_zero measure (x ∷ xs) zeros =
    omega (
      arith,
      All-head (λ y. measure y ≡ 0) x xs zeros,
      greatest_zero measure xs (All-tail (λ y. measure y ≡ 0) x xs zeros),
    )

-- items without a measure are all alike
all_greatest : {A : Type 0} (measure : A → ℕ) (xs : List A) → All (λ x. measure x ≡ 0) xs
    → with_greatest measure xs ≡ xs
all_greatest measure xs zeros =
    ap (λ n. filter (λ x. measure x == n) xs) (greatest_zero measure xs zeros)
    ∙ filter_all (λ x. measure x == 0) xs
    (All-weaker (λ x. measure x ≡ 0) (λ x. (measure x == 0) ≡ true)
    (λ x e. eq-eqb (measure x) 0 e) xs zeros)

module _ {A : Type 0} (near width : A → ℕ) (xs : List A) where
  -- where an item has a measure above zero, the greatest is that of some item
  some_nearest : (n : ℕ) → greatest near xs ≡ suc n
      → first_greatest width (filter (λ x. near x == suc n) xs) ≡ None → ⊥
  some_nearest n is none =
      let left = none_greatest width (filter (λ x. near x == suc n) xs) none in
      let nothing = none_greatest near xs
      (ap (λ k. first_item (filter (λ x. near x == k) xs)) is ∙ ap first_item left) in
      omega (arith, is, greatest_nil near xs nothing)

  first_wins : (o p : Option A) → (o ≡ None → ⊥) → o ≡ option_or o p
  first_wins None p some = absurd (some refl)
  first_wins (Some x) p some = refl

  -- Of three distances the least one that an item has decides: at 2 and at 1 the first of the
  -- widest is found, and at 0, where no item has a width, the first.
  pub three_classes : greatest near xs ≤ 2
      → All (λ x. width x ≡ 0) (filter (λ x. near x == 0) xs)
      → first_greatest width (with_greatest near xs)
      ≡ option_or (first_greatest width (filter (λ x. near x == 2) xs))
      (option_or (first_greatest width (filter (λ x. near x == 1) xs))
      (first_item (filter (λ x. near x == 0) xs)))
  three_classes within zeros = by (greatest near xs) refl within
    where
      by : (n : ℕ) → greatest near xs ≡ n → n ≤ 2
          → first_greatest width (filter (λ x. near x == n) xs)
          ≡ option_or (first_greatest width (filter (λ x. near x == 2) xs))
          (option_or (first_greatest width (filter (λ x. near x == 1) xs))
          (first_item (filter (λ x. near x == 0) xs)))
      by zero is most =
          rw (none_above near xs 2 (omega (arith, is)), none_above near xs 1 (omega (arith, is)))
          (ap first_item (all_greatest width (filter (λ x. near x == 0) xs) zeros))
      by (suc zero) is most =
          rw (none_above near xs 2 (omega (arith, is))) (first_wins _ _ (some_nearest 0 is))
      by (suc (suc zero)) is most = first_wins _ _ (some_nearest 1 is)
      by (suc (suc (suc n))) is most = absurd (omega (arith, most))

-- ---- networks by what they are

abbrev pub is_ipv4_prefix : Option Net → Bool
is_ipv4_prefix (Some (Plain (V4 network) width)) = true
is_ipv4_prefix _ = false

abbrev pub is_ipv6_prefix : Option Net → Bool
is_ipv6_prefix (Some (Plain (V6 network) width)) = true
is_ipv6_prefix _ = false

-- a mask, or no network
abbrev pub is_no_prefix : Option Net → Bool
is_no_prefix (Some (Plain network width)) = false
is_no_prefix _ = true

-- whether the network that the key of an item writes passes the test
abbrev pub by_net : {A : Type 0} → (A → List ℕ) → (Option Net → Bool) → A → Bool
by_net key test x = test (net_of (key x))

-- of the items that hit an address, the first of those with the longest prefix
abbrev pub longest_hit : {A : Type 0} → (A → List ℕ) → Ip → List A → Option A
longest_hit key ip xs =
    first_greatest (network_measure key prefix_width) (filter (λ x. is_in_network (key x) ip) xs)

-- the first of the items that hit an address
abbrev pub first_hit : {A : Type 0} → (A → List ℕ) → Ip → List A → Option A
first_hit key ip xs = find (λ x. is_in_network (key x) ip) xs

abbrev has_in : Ip → Option Net → Bool
has_in ip o = option_map_or (λ net. has_address net ip) o false

abbrev distance : Ip → Option Net → ℕ
distance ip o = option_map_or (nearness ip) o 0

-- the networks at a distance that have an address are those of a class that have it
abbrev IsClass : Ip → ℕ → (Option Net → Bool) → Type 0
IsClass ip n class = (o : Option Net) → (has_in ip o && distance ip o == n) ≡ (class o && has_in ip o)

ipv4_own : (a : ℕ) → IsClass (V4 a) 2 is_ipv4_prefix
ipv4_own a None = refl
ipv4_own a (Some (Plain (V4 n) w)) = and_true (has_address (Plain (V4 n) w) (V4 a))
ipv4_own a (Some (Plain (V6 n) w)) = and_false (has_address (Plain (V6 n) w) (V4 a))
ipv4_own a (Some (Masked n m)) = and_false (has_address (Masked n m) (V4 a))

ipv4_other : (a : ℕ) → IsClass (V4 a) 1 is_ipv6_prefix
ipv4_other a None = refl
ipv4_other a (Some (Plain (V4 n) w)) = and_false (has_address (Plain (V4 n) w) (V4 a))
ipv4_other a (Some (Plain (V6 n) w)) = and_true (has_address (Plain (V6 n) w) (V4 a))
ipv4_other a (Some (Masked n m)) = and_false (has_address (Masked n m) (V4 a))

ipv6_own : (a : ℕ) → IsClass (V6 a) 2 is_ipv6_prefix
ipv6_own a None = refl
ipv6_own a (Some (Plain (V4 n) w)) = and_false (has_address (Plain (V4 n) w) (V6 a))
ipv6_own a (Some (Plain (V6 n) w)) = and_true (has_address (Plain (V6 n) w) (V6 a))
ipv6_own a (Some (Masked n m)) = and_false (has_address (Masked n m) (V6 a))

ipv6_other : (a : ℕ) → IsClass (V6 a) 1 is_ipv4_prefix
ipv6_other a None = refl
ipv6_other a (Some (Plain (V4 n) w)) = and_true (has_address (Plain (V4 n) w) (V6 a))
ipv6_other a (Some (Plain (V6 n) w)) = and_false (has_address (Plain (V6 n) w) (V6 a))
ipv6_other a (Some (Masked n m)) = and_false (has_address (Masked n m) (V6 a))

no_prefix : (ip : Ip) → IsClass ip 0 is_no_prefix
no_prefix ip None = refl
no_prefix (V4 a) (Some (Plain (V4 n) w)) = and_false (has_address (Plain (V4 n) w) (V4 a))
no_prefix (V4 a) (Some (Plain (V6 n) w)) = and_false (has_address (Plain (V6 n) w) (V4 a))
no_prefix (V6 a) (Some (Plain (V4 n) w)) = and_false (has_address (Plain (V4 n) w) (V6 a))
no_prefix (V6 a) (Some (Plain (V6 n) w)) = and_false (has_address (Plain (V6 n) w) (V6 a))
no_prefix ip (Some (Masked n m)) = and_true (has_address (Masked n m) ip)

distance_within : (ip : Ip) (o : Option Net) → distance ip o ≤ 2
distance_within ip None = omega arith
distance_within (V4 a) (Some (Plain (V4 n) w)) = omega arith
distance_within (V4 a) (Some (Plain (V6 n) w)) = omega arith
distance_within (V6 a) (Some (Plain (V4 n) w)) = omega arith
distance_within (V6 a) (Some (Plain (V6 n) w)) = omega arith
distance_within ip (Some (Masked n m)) = omega arith

-- at the distance of a mask there is no width
no_width : (ip : Ip) (o : Option Net) → (distance ip o == 0) ≡ true
    → option_map_or prefix_width o 0 ≡ 0
no_width ip None at = refl
no_width (V4 a) (Some (Plain (V4 n) w)) at = absurd (false≢true at)
no_width (V4 a) (Some (Plain (V6 n) w)) at = absurd (false≢true at)
no_width (V6 a) (Some (Plain (V4 n) w)) at = absurd (false≢true at)
no_width (V6 a) (Some (Plain (V6 n) w)) at = absurd (false≢true at)
no_width ip (Some (Masked n m)) at = refl

-- ---- the item that is found for an address

module _ {A : Type 0} (key : A → List ℕ) where
  class_hits : (ip : Ip) (n : ℕ) (class : Option Net → Bool) → IsClass ip n class → (xs : List A)
      → filter (λ x. network_measure key (nearness ip) x == n)
      (filter (λ x. is_in_network (key x) ip) xs)
      ≡ filter (λ x. is_in_network (key x) ip) (filter (by_net key class) xs)
  class_hits ip n class is xs =
      filtered_twice (λ x. is_in_network (key x) ip)
      (λ x. network_measure key (nearness ip) x == n) xs
      ∙ filter_agree _ _ (λ x. is (net_of (key x))) xs
      ∙ sym (filtered_twice (by_net key class) (λ x. is_in_network (key x) ip) xs)

  by_classes : (ip : Ip) (own other : Option Net → Bool) → IsClass ip 2 own → IsClass ip 1 other
      → (ci : Bool) (xs : List A) → found_item key by.Ip ci xs (value.Ip ip)
      ≡ option_or (longest_hit key ip (filter (by_net key own) xs))
      (option_or (longest_hit key ip (filter (by_net key other) xs))
      (first_hit key ip (filter (by_net key is_no_prefix) xs)))
  by_classes ip own other is_own is_other ci xs =
      let hitting = filter (λ x. is_in_network (key x) ip) xs in
      let near = network_measure key (nearness ip) in
      three_classes near (network_measure key prefix_width) hitting
      (greatest_within near 2 (λ x. distance_within ip (net_of (key x))) hitting)
      (All-weaker (λ x. (near x == 0) ≡ true) (λ x. network_measure key prefix_width x ≡ 0)
      (λ x. no_width ip (net_of (key x))) (filter (λ x. near x == 0) hitting)
      (filter_passes (λ x. near x == 0) hitting))
      ∙ rw (
        class_hits ip 2 own is_own xs,
        class_hits ip 1 other is_other xs,
        class_hits ip 0 is_no_prefix (no_prefix ip) xs,
        first_filtered (λ x. is_in_network (key x) ip) (filter (by_net key is_no_prefix) xs),
      ) refl

  -- For an IPv4 address: the longest prefix of those of IPv4, else of those of IPv6, else the
  -- first mask.
  pub ipv4_by_classes : (ci : Bool) (xs : List A) (address : ℕ)
      → found_item key by.Ip ci xs (value.Ip (V4 address))
      ≡ option_or (longest_hit key (V4 address) (filter (by_net key is_ipv4_prefix) xs))
      (option_or (longest_hit key (V4 address) (filter (by_net key is_ipv6_prefix) xs))
      (first_hit key (V4 address) (filter (by_net key is_no_prefix) xs)))
  ipv4_by_classes ci xs address =
      by_classes (V4 address) is_ipv4_prefix is_ipv6_prefix (ipv4_own address) (ipv4_other address)
      ci xs

  -- for an IPv6 address the two families change places
  pub ipv6_by_classes : (ci : Bool) (xs : List A) (address : ℕ)
      → found_item key by.Ip ci xs (value.Ip (V6 address))
      ≡ option_or (longest_hit key (V6 address) (filter (by_net key is_ipv6_prefix) xs))
      (option_or (longest_hit key (V6 address) (filter (by_net key is_ipv4_prefix) xs))
      (first_hit key (V6 address) (filter (by_net key is_no_prefix) xs)))
  ipv6_by_classes ci xs address =
      by_classes (V6 address) is_ipv6_prefix is_ipv4_prefix (ipv6_own address) (ipv6_other address)
      ci xs
