-- The network that a text writes fits its family: its number and its width are within the bits of
-- an address.
use Rattle.std.proofs.Common.{◌≡◌, ℕ, zero, suc, ◌+◌, ◌-◌, ◌*◌, ◌^◌, ◌<◌, ◌≤◌, Bool, true, false, cond, ◌==◌, leb, leb-true, List, [], ◌∷◌, ◌++◌, length, take, replicate, slice_index, Option, Some, None, refl, ap, sym, ◌∙◌, subst, arith, inl, inr, lit≤, option_map, option_and_then, filter_map, bit_and, codes, fold, length-append, length-take-le}
use Rattle.std.proofs.lemmas.Int.Digits.{digits_value-lt}
use Rattle.std.proofs.lemmas.Nat.{leading_le, pow-add}
use Rattle.std.proofs.lemmas.List.{length-replicate}
use Rattle.std.proofs.Math.Nat.{div-mul-le_self, pow-le-pow_right}
use Rattle.std.specs.Bool.{⊤}
use Rattle.std.specs.Int.{w32, bit_not, leading_ones, from_be_bytes}
use Rattle.std.specs.List.{cons_option}
use Rattle.std.specs.Net.Addr.{segments_of}
use Rattle.std.specs.Net.Grammar.{IsDotted, IsGroup, IsGroupsAfter, IsColonHex}
use Rattle.std.specs.Option.{option_map_or, option_or}
use Rattle.hx_text.specs.declared.address.Ip.{Ip}
use Rattle.hx_text.specs.declared.address.Ip.TheVariants.{V4, V6}
use Rattle.hx_text.specs.declared.network.Net.TheVariants.{Plain, Masked}
use Rattle.hx_text.specs.Address.{octet_of, dotted_of, groups_number, colon_hex_of, IsIpText, ip_of}
use Rattle.hx_text.specs.Cut.{cut_of, pieces}
use Rattle.hx_text.specs.Network.{prefix_bits, mask_of, masked_network, width_of, host_network, network_with, net_of}
use Rattle.hx_text.specs.Number.{number_of, number_up_to}
use Rattle.hx_text.proofs.GrammarLemmas.{six_spelled}
use Rattle.hx_text.proofs.NetworkLemmas.{prefix_twice}
use Rattle.hx_index.proofs.AddressFoundLemmas.{FitsFamily}

-- ---- numbers

kept_below : (b : Bool) (m n most : ℕ) → (b ≡ true → m ≤ most) → cond b (Some m) None ≡ Some n
    → n ≤ most
kept_below true m n most below is = let same : m ≡ n = cc in omega (arith, below refl, same)
kept_below false m n most below is = cc

up_to_within : (most : ℕ) (text : List ℕ) (n : ℕ) → number_up_to most text ≡ Some n → n ≤ most
unfolding number_up_to
up_to_within most text n is = by (number_of text) is
  where
    by : (o : Option ℕ) → option_and_then (λ m. cond (leb m most) (Some m) None) o ≡ Some n
        → n ≤ most
    by None e = cc
    by (Some m) e = kept_below (leb m most) m n most (leb-true m most) e

guarded : {A : Type 0} (b : Bool) (o : Option A) (x : A) → cond b o None ≡ Some x → o ≡ Some x
guarded true o x is = is
guarded false o x is = cc

unguarded : {A : Type 0} (b : Bool) (o : Option A) (x : A) → cond b None o ≡ Some x → o ≡ Some x
unguarded true o x is = cc
unguarded false o x is = is

width_within : (most : ℕ) (text : List ℕ) (n : ℕ) → width_of most text ≡ Some n → n ≤ most
unfolding width_of
width_within most text n is = up_to_within most text n (unguarded _ (number_up_to most text) n is)

-- ---- addresses in dotted decimal

octet_within : (piece : List ℕ) (n : ℕ) → octet_of piece ≡ Some n → n ≤ 255
unfolding octet_of
octet_within piece n is = up_to_within 255 piece n (guarded _ (number_up_to 255 piece) n is)

octets_within : (parts : List (List ℕ)) (i : ℕ) → slice_index (filter_map octet_of parts) i < 256
octets_within [] i = omega arith
octets_within (piece ∷ parts) i =
    by (octets_within parts) (octet_of piece) (octet_within piece) i
  where
    by : ((k : ℕ) → slice_index (filter_map octet_of parts) k < 256) → (o : Option ℕ)
        → ((n : ℕ) → o ≡ Some n → n ≤ 255) → (j : ℕ)
        → slice_index (cons_option o (filter_map octet_of parts)) j < 256
    by later None within j = later j
    by later (Some n) within zero = omega (arith, within n refl)
    by later (Some n) within (suc j) = later j

four_bytes_fit : (octets : List ℕ) → ((i : ℕ) → slice_index octets i < 256)
    → from_be_bytes w32 octets < 2 ^ 32
four_bytes_fit octets within =
    omega (arith, within 0, within 1, within 2, within 3)

dotted_fits : (text : List ℕ) (a : ℕ) → dotted_of text ≡ Some a → a < 2 ^ 32
unfolding dotted_of
dotted_fits text a is =
    let octets = filter_map octet_of (pieces 46 text) in
    let read : Some (from_be_bytes w32 octets) ≡ Some a =
    guarded _ (Some (from_be_bytes w32 octets)) a is in
    let same : from_be_bytes w32 octets ≡ a = cc in
    subst (λ n. n < 2 ^ 32) same (four_bytes_fit octets (octets_within (pieces 46 text)))

-- ---- addresses of groups

abbrev AreGroups : List ℕ → Type 0
AreGroups [] = ⊤
AreGroups (g ∷ groups) = (g < 2 ^ 16) × AreGroups groups

group_fits : (group : List ℕ) (g : ℕ) → IsGroup group g → g < 2 ^ 16
group_fits group g is =
    let below = digits_value-lt 16 group is.0.0.1 in
    let most : 16 ^ length group ≤ 16 ^ 4 = pow-le-pow_right (lit≤ tt) is.1 in
    omega (arith, below, most, is.0.1)

dotted_groups : (text octets : List ℕ) → IsDotted text octets → AreGroups (segments_of octets)
dotted_groups text octets is =
    subst (λ bytes. AreGroups (segments_of bytes)) (sym is.value)
    (omega (arith, is.fit), (omega (arith, is.fit), tt))

groups_after_fit : (ipv4 : Bool) (lead text groups : List ℕ)
    → IsGroupsAfter ipv4 lead text groups → AreGroups groups
groups_after_fit ipv4 lead text [] is = tt
groups_after_fit ipv4 lead text (g ∷ groups) (inl is) =
    (group_fits is.0 g is.3, groups_after_fit ipv4 (codes ":") is.1 groups is.4)
groups_after_fit ipv4 lead text (g ∷ groups) (inr is) =
    subst AreGroups (sym is.5) (dotted_groups is.0 is.1 is.4)

groups_append : (xs ys : List ℕ) → AreGroups xs → AreGroups ys → AreGroups (xs ++ ys)
groups_append [] ys fit_xs fit_ys = fit_ys
groups_append (x ∷ xs) ys fit_xs fit_ys = (fit_xs.0, groups_append xs ys fit_xs.1 fit_ys)

zero_groups : (n : ℕ) → AreGroups (replicate n 0)
zero_groups zero = tt
zero_groups (suc n) = (omega arith, zero_groups n)

groups_take : (n : ℕ) (xs : List ℕ) → AreGroups xs → AreGroups (take n xs)
groups_take zero xs fit = tt
groups_take (suc n) [] fit = tt
groups_take (suc n) (x ∷ xs) fit = (fit.0, groups_take n xs fit.1)

colon_hex_groups : (text groups : List ℕ) → IsColonHex text groups
    → (length groups ≡ 8) × AreGroups groups
colon_hex_groups text groups (inl is) =
    (is.1, groups_after_fit true [] text groups is.0)
colon_hex_groups text groups (inr is) =
    let zeros = 8 - length is.head - length is.tail in (
      ap length is.value ∙ omega (
        arith,
        is.room,
        length-append (is.head ++ replicate zeros 0) is.tail,
        length-append is.head (replicate zeros 0),
        length-replicate {A = ℕ} zeros 0,
      ),
      subst AreGroups (sym is.value)
          (groups_append (is.head ++ replicate zeros 0) is.tail
          (groups_append is.head (replicate zeros 0)
          (groups_after_fit false [] is.head_text is.head is.head_groups) (zero_groups zeros))
          (groups_after_fit true [] is.tail_text is.tail is.tail_groups)),
    )

-- each group adds sixteen bits
groups_below : (groups : List ℕ) (n k : ℕ) → n < 2 ^ k → AreGroups groups
    → fold (λ m g. m * 2 ^ 16 + g) n groups < 2 ^ (k + 16 * length groups)
groups_below [] n k below fit =
    let e : k ≡ k + 16 * 0 = omega arith in subst (λ j. n < 2 ^ j) e below
groups_below (g ∷ groups) n k below fit =
    let e : k + 16 + 16 * length groups ≡ k + 16 * suc (length groups) = omega arith in
    let next : n * 2 ^ 16 + g < 2 ^ (k + 16) = omega (arith, below, fit.0, pow-add 2 k 16) in
    subst (λ j. fold (λ m h. m * 2 ^ 16 + h) (n * 2 ^ 16 + g) groups < 2 ^ j) e
    (groups_below groups (n * 2 ^ 16 + g) (k + 16) next fit.1)

groups_fit : (groups : List ℕ) (count : ℕ) → length groups ≡ count → AreGroups groups
    → groups_number groups < 2 ^ (0 + 16 * count)
groups_fit groups count long fit =
    subst (λ k. groups_number groups < 2 ^ (0 + 16 * k)) long
    (groups_below groups 0 0 (omega arith) fit)

six_fit : (text : List ℕ) (a : ℕ) → IsIpText text (V6 a) → a < 2 ^ 128
six_fit text a (inl is) =
    let groups = colon_hex_groups text is.groups is.spelled in
    subst (λ n. n < 2 ^ 128) (sym is.number) (groups_fit is.groups 8 groups.0 groups.1)
six_fit text a (inr is) =
    let groups = colon_hex_groups (is.before ++ codes ":0:0") is.groups is.plain in
    let high = groups_fit (take 6 is.groups) 6
    (length-take-le 6 is.groups (omega (arith, groups.0))) (groups_take 6 is.groups groups.1) in
    let low = dotted_fits is.end is.ipv4 is.dotted in
    subst (λ n. n < 2 ^ 128) (sym is.number) (omega (arith, high, low))

-- ---- addresses and networks

abbrev FitsIp : Ip → Type 0
FitsIp (V4 a) = a < 2 ^ 32
FitsIp (V6 a) = a < 2 ^ 128

ip_fits : (text : List ℕ) (ip : Ip) → ip_of text ≡ Some ip → FitsIp ip
unfolding ip_of
ip_fits text ip is =
    by (colon_hex_of text) (dotted_of text) ip (λ a e. six_fit text a (six_spelled text a e))
    (dotted_fits text) is
  where
    by : (six four : Option ℕ) (found : Ip) → ((a : ℕ) → six ≡ Some a → a < 2 ^ 128)
        → ((a : ℕ) → four ≡ Some a → a < 2 ^ 32)
        → option_or (option_map V6 six) (option_map V4 four) ≡ Some found → FitsIp found
    by (Some a) four found six_fits four_fits e = let same : V6 a ≡ found = cc in
        subst FitsIp same (six_fits a refl)
    by None (Some a) found six_fits four_fits e = let same : V4 a ≡ found = cc in
        subst FitsIp same (four_fits a refl)
    by None None found six_fits four_fits e = cc

prefix_fits : (w n a : ℕ) → a < 2 ^ w → prefix_bits w n a < 2 ^ w
prefix_fits w n a fits = omega (arith, fits, div-mul-le_self a (2 ^ (w - n)))

host_fits : (o : Option Ip) → ((ip : Ip) → o ≡ Some ip → FitsIp ip)
    → FitsFamily (option_map host_network o)
host_fits None fits = tt
host_fits (Some (V4 a)) fits = (fits (V4 a) refl, omega arith, omega arith)
host_fits (Some (V6 a)) fits = (fits (V6 a) refl, omega arith, omega arith)

masked_fits : (address mask : ℕ) → address < 2 ^ 32
    → FitsFamily (Some (masked_network address mask))
unfolding masked_network
masked_fits address mask fits = by (mask == mask_of n)
  where
    n : ℕ
    n = leading_ones w32 mask

    by : (b : Bool) → FitsFamily (Some (cond b (Plain (V4 (prefix_bits 32 n address)) n)
        (Masked (bit_and address mask) mask)))
    by true = (
      prefix_fits 32 n address fits,
      leading_le 32 (bit_not w32 mask),
      prefix_twice 32 n address,
    )
    by false = tt

after_ipv4 : (address : ℕ) (width mask : Option ℕ) → address < 2 ^ 32
    → ((n : ℕ) → width ≡ Some n → n ≤ 32)
    → FitsFamily (option_or (option_map (λ n. Plain (V4 (prefix_bits 32 n address)) n) width)
    (option_map (masked_network address) mask))
after_ipv4 address (Some n) mask fits within =
    (prefix_fits 32 n address fits, within n refl, prefix_twice 32 n address)
after_ipv4 address None (Some mask) fits within = masked_fits address mask fits
after_ipv4 address None None fits within = tt

after_ipv6 : (address : ℕ) (width : Option ℕ) → address < 2 ^ 128
    → ((n : ℕ) → width ≡ Some n → n ≤ 128)
    → FitsFamily (option_map (λ n. Plain (V6 (prefix_bits 128 n address)) n) width)
after_ipv6 address (Some n) fits within =
    (prefix_fits 128 n address fits, within n refl, prefix_twice 128 n address)
after_ipv6 address None fits within = tt

with_fits : (text : List ℕ) (o : Option Ip) → ((ip : Ip) → o ≡ Some ip → FitsIp ip)
    → FitsFamily (option_and_then (network_with text) o)
with_fits text None fits = tt
with_fits text (Some (V4 a)) fits =
    after_ipv4 a (width_of 32 text) (dotted_of text) (fits (V4 a) refl) (width_within 32 text)
with_fits text (Some (V6 a)) fits =
    after_ipv6 a (width_of 128 text) (fits (V6 a) refl) (width_within 128 text)

-- the network that a text writes fits its family
pub network_fits : (text : List ℕ) → FitsFamily (net_of text)
unfolding net_of
network_fits text = by (cut_of 47 text)
  where
    by : (cut : Option (List ℕ × List ℕ))
        → FitsFamily (option_map_or (λ parts. option_and_then (network_with parts.1) (ip_of parts.0))
        cut (option_map host_network (ip_of text)))
    by None = host_fits (ip_of text) (ip_fits text)
    by (Some parts) = with_fits parts.1 (ip_of parts.0) (ip_fits parts.0)
