-- The item that is found for an address, by a tree for each family of networks and by a chain.
use Rattle.std.proofs.Common.{◌≡◌, ℕ, ◌/◌, ◌%◌, ◌^◌, ◌<◌, ◌≤◌, Bool, true, false, cond, ◌&&◌, ◌==◌, List, [], map, length, All, Option, Some, None, refl, ap, sym, ◌∙◌, arith, option_map, option_and_then, filter, eqb-true}
use Rattle.std.proofs.lemmas.Bool.{false≢true}
use Rattle.std.proofs.lemmas.List.Elements.{All-filter, filter_passes}
use Rattle.std.specs.Bool.{⊤}
use Rattle.std.specs.Int.{w32, w128, to_be_bytes}
use Rattle.std.specs.Option.{option_map_or, option_or}
use Rattle.hx_text.specs.declared.address.Ip.{Ip}
use Rattle.hx_text.specs.declared.address.Ip.TheVariants.{V4, V6}
use Rattle.hx_text.specs.declared.kinds.By.TheVariants as by
use Rattle.hx_text.specs.declared.network.Net.{Net}
use Rattle.hx_text.specs.declared.network.Net.TheVariants.{Plain, Masked}
use Rattle.hx_text.specs.Mapping.{ipv4_of, mapped_address}
use Rattle.hx_text.specs.Network.{net_of, prefix_bits}
use Rattle.hx_sample.specs.declared.sample.Value.TheVariants as value
use Rattle.hx_sample.specs.Find.{prefix_width}
use Rattle.hx_sample.specs.Keys.{as_ipv4, as_ipv6, has_address, is_in_network}
use Rattle.hx_ebtree.specs.KeyList.{is_prefix, longest_of}
use Rattle.hx_index.specs.Parts.{network_bits}
use Rattle.hx_index.specs.Search.{ipv4_bits, ipv6_bits}
use Rattle.hx_index.proofs.FoundItemLemmas.{found_item, network_measure, pair_by, longest_agrees, first_greatest}
use Rattle.hx_index.proofs.TextKeyLemmas.{bits_of-length}
use Rattle.hx_index.proofs.NearestLemmas.{is_ipv4_prefix, is_ipv6_prefix, is_no_prefix, by_net, longest_hit, first_hit, ipv4_by_classes, ipv6_by_classes, nothing_passes}
use Rattle.hx_index.proofs.AddressKeyLemmas.{ipv4_prefix, ipv6_prefix}

-- ---- networks and their keys

-- a prefix is no longer than an address of its family, and has no bit outside its width
abbrev pub FitsFamily : Option Net → Type 0
FitsFamily (Some (Plain (V4 network) width)) =
    (network < 2 ^ 32) × (width ≤ 32) × (prefix_bits 32 width network ≡ network)
FitsFamily (Some (Plain (V6 network) width)) =
    (network < 2 ^ 128) × (width ≤ 128) × (prefix_bits 128 width network ≡ network)
FitsFamily _ = ⊤

-- the bits of a key that writes a network
pub record IsNetworkKey (key : List ℕ) (bits : List Bool) : Type 0 where
  pub whole : bits ≡ network_bits (net_of key)
  pub fits : FitsFamily (net_of key)

abbrev has_in : Ip → Option Net → Bool
has_in ip o = option_map_or (λ net. has_address net ip) o false

ipv4_hits : (ip : Ip) (address : ℕ) (o : Option Net) → as_ipv4 ip ≡ Some address
    → address < 2 ^ 32 → FitsFamily o → is_ipv4_prefix o ≡ true
    → is_prefix (network_bits o) (ipv4_bits address) ≡ has_in ip o
ipv4_hits ip address (Some (Plain (V4 n) w)) is a_fits fits in_class =
    ipv4_prefix n address w fits.0 a_fits fits.1 fits.2
    ∙ ap (λ o. option_map_or (λ a. prefix_bits 32 w a == n) o false) (sym is)
ipv4_hits ip address (Some (Plain (V6 n) w)) is a_fits fits in_class = absurd (false≢true in_class)
ipv4_hits ip address (Some (Masked n m)) is a_fits fits in_class = absurd (false≢true in_class)
ipv4_hits ip address None is a_fits fits in_class = absurd (false≢true in_class)

ipv6_hits : (ip : Ip) (o : Option Net) → as_ipv6 ip < 2 ^ 128 → FitsFamily o
    → is_ipv6_prefix o ≡ true → is_prefix (network_bits o) (ipv6_bits (as_ipv6 ip)) ≡ has_in ip o
ipv6_hits ip (Some (Plain (V6 n) w)) a_fits fits in_class =
    ipv6_prefix n (as_ipv6 ip) w fits.0 a_fits fits.1 fits.2
ipv6_hits ip (Some (Plain (V4 n) w)) a_fits fits in_class = absurd (false≢true in_class)
ipv6_hits ip (Some (Masked n m)) a_fits fits in_class = absurd (false≢true in_class)
ipv6_hits ip None a_fits fits in_class = absurd (false≢true in_class)

-- an address that is and stands for no IPv4 address is in no prefix of that family
ipv4_misses : (ip : Ip) (o : Option Net) → as_ipv4 ip ≡ None → is_ipv4_prefix o ≡ true
    → has_in ip o ≡ false
ipv4_misses ip (Some (Plain (V4 n) w)) is in_class =
    ap (λ o. option_map_or (λ a. prefix_bits 32 w a == n) o false) is
ipv4_misses ip (Some (Plain (V6 n) w)) is in_class = absurd (false≢true in_class)
ipv4_misses ip (Some (Masked n m)) is in_class = absurd (false≢true in_class)
ipv4_misses ip None is in_class = absurd (false≢true in_class)

width_bits : (o : Option Net) → length (network_bits o) ≡ option_map_or prefix_width o 0
width_bits (Some (Plain (V4 n) w)) = bits_of-length (to_be_bytes w32 n) w
width_bits (Some (Plain (V6 n) w)) = bits_of-length (to_be_bytes w128 n) w
width_bits (Some (Masked n m)) = refl
width_bits None = refl

-- the IPv4 address that an IPv6 address stands for has 32 bits
pub stands_for_fits : (address ipv4 : ℕ) → ipv4_of address ≡ Some ipv4 → ipv4 < 2 ^ 32
unfolding ipv4_of
stands_for_fits address ipv4 is =
    by (address / 2 ^ 32 == 0xffff) (address / 2 ^ 32 == 0)
    (address / 2 ^ 112 == 0x2002 && address % 2 ^ 80 == 0) refl is
  where
    by : (a b c : Bool) → (address / 2 ^ 32 == 0) ≡ b
        → cond a (Some (address % 2 ^ 32))
        (cond b (Some address) (cond c (Some (address / 2 ^ 80 % 2 ^ 32)) None)) ≡ Some ipv4
        → ipv4 < 2 ^ 32
    by true b c low e = let same : address % 2 ^ 32 ≡ ipv4 = cc in omega (arith, same)
    by false true c low e =
        let same : address ≡ ipv4 = cc in
        let zero_high = eqb-true (address / 2 ^ 32) 0 low in omega (arith, same, zero_high)
    by false false true low e =
        let same : address / 2 ^ 80 % 2 ^ 32 ≡ ipv4 = cc in omega (arith, same)
    by false false false low e = cc

-- what is seen of the first of three that is there
three_mapped : {A B : Type 0} (f : A → B) (o p q : Option A) (a b : Option B)
    → a ≡ option_map f o → b ≡ option_map f p
    → option_map f (option_or o (option_or p q)) ≡ option_or a (option_or b (option_map f q))
three_mapped f (Some x) p q a b is_first is_second = rw is_first refl
three_mapped f None (Some x) q a b is_first is_second = rw (is_first, is_second) refl
three_mapped f None None q a b is_first is_second = rw (is_first, is_second) refl

-- ---- what the trees find

module _ {A : Type 0} (key : A → List ℕ) (bits : A → List Bool) (node : A → ℕ) where
  -- the items of a class of networks, as a tree has them
  abbrev pub class_pairs : (Option Net → Bool) → List A → List (List Bool × ℕ)
  class_pairs class xs = map (pair_by bits node) (filter (by_net key class) xs)

  longest_in_class : (ip : Ip) (class : Option Net → Bool) (address : List Bool) (xs : List A)
      → ((o : Option Net) → FitsFamily o → class o ≡ true
      → is_prefix (network_bits o) address ≡ has_in ip o)
      → All (λ x. IsNetworkKey (key x) (bits x)) xs
      → longest_of (class_pairs class xs) address
      ≡ option_map node (longest_hit key ip (filter (by_net key class) xs))
  longest_in_class ip class address xs hit keys =
      let kept = All-filter (by_net key class) (λ x. IsNetworkKey (key x) (bits x)) xs keys in
      let passes = filter_passes (by_net key class) xs in
      longest_agrees bits node (λ x. is_in_network (key x) ip) (network_measure key prefix_width)
      (filter (by_net key class) xs) address
      (λ k d below. let is = kept k d below in
      ap (λ bs. is_prefix bs address) is.whole ∙ hit _ is.fits (passes k d below))
      (λ k d below. let is = kept k d below in ap length is.whole ∙ width_bits _)

  no_ipv4 : (ip : Ip) (xs : List A) → as_ipv4 ip ≡ None
      → longest_hit key ip (filter (by_net key is_ipv4_prefix) xs) ≡ None
  no_ipv4 ip xs is =
      let passes = filter_passes (by_net key is_ipv4_prefix) xs in
      ap (first_greatest (network_measure key prefix_width))
      (nothing_passes (λ x. is_in_network (key x) ip) (filter (by_net key is_ipv4_prefix) xs)
      (λ k d below. ipv4_misses ip _ is (passes k d below)))

  -- For an IPv4 address: the longest prefix among the networks of IPv4, else that of the mapped
  -- address among the networks of IPv6, else the first hit among the others.
  pub ipv4_found : (ci : Bool) (xs : List A) (address : ℕ) → address < 2 ^ 32
      → All (λ x. IsNetworkKey (key x) (bits x)) xs
      → option_map node (found_item key by.Ip ci xs (value.Ip (V4 address)))
      ≡ option_or (longest_of (class_pairs is_ipv4_prefix xs) (ipv4_bits address))
      (option_or
      (longest_of (class_pairs is_ipv6_prefix xs) (ipv6_bits (mapped_address address)))
      (option_map node (first_hit key (V4 address) (filter (by_net key is_no_prefix) xs))))
  ipv4_found ci xs address fits keys =
      let ip = V4 address in
      let mapped_fits : mapped_address address < 2 ^ 128 = omega (arith, fits) in
      let own = longest_in_class ip is_ipv4_prefix (ipv4_bits address) xs
      (λ o. ipv4_hits ip address o refl fits) keys in
      let other = longest_in_class ip is_ipv6_prefix (ipv6_bits (mapped_address address)) xs
      (λ o. ipv6_hits ip o mapped_fits) keys in
      ap (option_map node) (ipv4_by_classes key ci xs address)
      ∙ three_mapped node (longest_hit key ip (filter (by_net key is_ipv4_prefix) xs))
      (longest_hit key ip (filter (by_net key is_ipv6_prefix) xs))
      (first_hit key ip (filter (by_net key is_no_prefix) xs)) _ _ own other

  found_by_ipv4 : (ip : Ip) (o : Option ℕ) (xs : List A) → as_ipv4 ip ≡ o
      → ((ipv4 : ℕ) → o ≡ Some ipv4 → ipv4 < 2 ^ 32)
      → All (λ x. IsNetworkKey (key x) (bits x)) xs
      → option_and_then (λ ipv4. longest_of (class_pairs is_ipv4_prefix xs) (ipv4_bits ipv4)) o
      ≡ option_map node (longest_hit key ip (filter (by_net key is_ipv4_prefix) xs))
  found_by_ipv4 ip None xs is fits keys = ap (option_map node) (sym (no_ipv4 ip xs is))
  found_by_ipv4 ip (Some ipv4) xs is fits keys =
      longest_in_class ip is_ipv4_prefix (ipv4_bits ipv4) xs
      (λ o. ipv4_hits ip ipv4 o is (fits ipv4 refl)) keys

  -- For an IPv6 address: the longest prefix among the networks of IPv6, else that of the IPv4
  -- address that it stands for, if there is one, else the first hit among the others.
  pub ipv6_found : (ci : Bool) (xs : List A) (address : ℕ) → address < 2 ^ 128
      → All (λ x. IsNetworkKey (key x) (bits x)) xs
      → option_map node (found_item key by.Ip ci xs (value.Ip (V6 address)))
      ≡ option_or (longest_of (class_pairs is_ipv6_prefix xs) (ipv6_bits address))
      (option_or
      (option_and_then (λ ipv4. longest_of (class_pairs is_ipv4_prefix xs) (ipv4_bits ipv4))
      (ipv4_of address))
      (option_map node (first_hit key (V6 address) (filter (by_net key is_no_prefix) xs))))
  ipv6_found ci xs address fits keys =
      let ip = V6 address in
      let own = longest_in_class ip is_ipv6_prefix (ipv6_bits address) xs
      (λ o. ipv6_hits ip o fits) keys in
      let other = found_by_ipv4 ip (ipv4_of address) xs refl (stands_for_fits address) keys in
      ap (option_map node) (ipv6_by_classes key ci xs address)
      ∙ three_mapped node (longest_hit key ip (filter (by_net key is_ipv6_prefix) xs))
      (longest_hit key ip (filter (by_net key is_ipv4_prefix) xs))
      (first_hit key ip (filter (by_net key is_no_prefix) xs)) _ _ own other
