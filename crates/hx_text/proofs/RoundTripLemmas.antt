-- What is printed of an address reads back as the same address.
use Rattle.std.proofs.Common.{◌≡◌, ℕ, zero, suc, ◌+◌, ◌*◌, ◌/◌, ◌%◌, ◌^◌, ◌<◌, eqb, List, [], ◌∷◌, ◌++◌, length, get_or, Some, All, decimal, refl, sym, ap, ◌∙◌, arith, append_assoc, inl, inr}
use Rattle.std.specs.Int.{w32, from_be_bytes, to_be_bytes}
use Rattle.std.proofs.lemmas.Nat.{shr-shr, from_be_bytes-to_be_bytes_4}
use Rattle.std.proofs.lemmas.Fmt.{length-decimal-le}
use Rattle.std.proofs.lemmas.Bool.{le-leb, ne_eqb}
use Rattle.std.proofs.lemmas.List.Splits.{slice_split_at, slice_split_none}
use Rattle.std.specs.Net.Text.{dotted_text, ipv4_text, ipv6_text}
use Rattle.std.proofs.NetLemmas.Ipv6.{IsDotted-not_colon_hex}
use Rattle.std.proofs.NetLemmas.Alphabet.{IsDigitOrDot, All-ipv4_text}
use Rattle.std.proofs.lemmas.List.Elements.{All-weaker}
use Rattle.std.proofs.NetLemmas.Texts.{AllSegments, IsDotted-ipv4_text, IsColonHex-ipv6_text}
use Rattle.hx_text.specs.declared.address.Ip.TheVariants.{V4, V6}
use Rattle.hx_text.specs.Address.{octet_of, dotted_of, groups_number, ip_of, ip_text}
use Rattle.hx_text.specs.Cut.{pieces}
use Rattle.hx_text.specs.Printing.{groups_of}
use Rattle.hx_text.proofs.NumberLemmas.{decimal_digits, up_to-decimal}
use Rattle.hx_text.proofs.AddressLemmas.{IsOther, no_byte, last_cut_of_none}
use Rattle.hx_text.proofs.ColonHexLemmas.{colon_hex_spelled, colon_hex_none, plain_none}

-- ---- the groups of an address, and their number

joined : (a j : ℕ) → a / 2 ^ (j + 16) * 2 ^ 16 + a / 2 ^ j % 2 ^ 16 ≡ a / 2 ^ j
joined a j = rw (sym (shr-shr a j 16)) (omega arith)

pub groups_number-groups_of : (a : ℕ) → a < 2 ^ 128 → groups_number (groups_of a) ≡ a
groups_number-groups_of a fits =
    let top : a / 2 ^ 112 % 2 ^ 16 ≡ a / 2 ^ 112 = omega arith in
    omega (
      arith,
      top,
      joined a 96,
      joined a 80,
      joined a 64,
      joined a 48,
      joined a 32,
      joined a 16,
      joined a 0,
    )

-- numbers below a bound, and nothing after them
unfoldable pub Below : ℕ → List ℕ → Type 0
Below most xs = (k : ℕ) → get_or xs k 0 < most

pub below_none : (most : ℕ) → 0 < most → Below most []
unfolding Below
below_none most h k = h

pub below_more : (most x : ℕ) (xs : List ℕ) → x < most → Below most xs → Below most (x ∷ xs)
unfolding Below
below_more most x xs h later k =
    elim k as (λ j. get_or (x ∷ xs) j 0 < most) [ zero ↦ h | suc j ↦ later j ]

groups_below : (a : ℕ) → Below (2 ^ 16) (groups_of a)
groups_below a =
    let M = 2 ^ 16 in
    let one = below_more M (a % M) [] (omega arith) (below_none M (omega arith)) in
    let two = below_more M (a / 2 ^ 16 % M) _ (omega arith) one in
    let three = below_more M (a / 2 ^ 32 % M) _ (omega arith) two in
    let four = below_more M (a / 2 ^ 48 % M) _ (omega arith) three in
    let five = below_more M (a / 2 ^ 64 % M) _ (omega arith) four in
    let six = below_more M (a / 2 ^ 80 % M) _ (omega arith) five in
    let seven = below_more M (a / 2 ^ 96 % M) _ (omega arith) six in
    below_more M (a / 2 ^ 112 % M) _ (omega arith) seven

pub groups_fit : (a : ℕ) → AllSegments (groups_of a)
unfolding Below
groups_fit a = groups_below a

octets_fit : (a : ℕ) → Below (2 ^ 8) (to_be_bytes w32 a)
octets_fit a =
    let M = 2 ^ 8 in
    let one = below_more M (a % 256) [] (omega arith) (below_none M (omega arith)) in
    let two = below_more M (a / 256 % 256) _ (omega arith) one in
    let three = below_more M (a / 65536 % 256) _ (omega arith) two in
    below_more M (a / 16777216 % 256) _ (omega arith) three

pub ipv6_reads_back : (a : ℕ) → a < 2 ^ 128 → ip_of (ip_text (V6 a)) ≡ Some (V6 a)
unfolding ip_of ip_text
ipv6_reads_back a fits =
    let spelled = IsColonHex-ipv6_text (groups_of a) refl (groups_fit a) in
    rw (
      colon_hex_spelled (ipv6_text (groups_of a)) (groups_of a) spelled,
      groups_number-groups_of a fits,
    ) refl

-- ---- dotted decimal

octet_of-decimal : (n : ℕ) → n < 256 → octet_of (decimal n) ≡ Some n
unfolding octet_of
octet_of-decimal n fits =
    rw (
      le-leb (length (decimal n)) 3
          (length-decimal-le 3 n (omega arith) (omega arith) (omega arith)),
      up_to-decimal 255 n (omega arith) (omega arith),
    ) refl

no_dot : (n : ℕ) → n < 256 → All (IsOther 46) (decimal n)
no_dot n fits = no_byte 46 (omega arith) (decimal n) (decimal_digits n (omega arith))

pub dotted_of-dotted_text : (a b c d : ℕ) → a < 256 → b < 256 → c < 256 → d < 256
    → dotted_of (dotted_text a b c d) ≡ Some (from_be_bytes w32 (a ∷ b ∷ c ∷ d ∷ []))
unfolding dotted_of
dotted_of-dotted_text a b c d ha hb hc hd =
    let is_dot = λ (b : ℕ). eqb b 46 in
    let shown : dotted_text a b c d ≡ decimal
    a ++ 46 ∷ (decimal b ++ 46 ∷ (decimal c ++ 46 ∷ decimal d)) = simp append_assoc in
    let cut : pieces 46 (dotted_text a b c d) ≡ decimal a ∷ decimal b ∷ decimal c ∷ decimal d ∷ [] =
    ap (pieces 46) shown
    ∙ slice_split_at is_dot (decimal a) 46 _ (no_dot a ha) refl
    ∙ ap (λ ps. decimal a ∷ ps) (slice_split_at is_dot (decimal b) 46 _ (no_dot b hb) refl
    ∙ ap (λ ps. decimal b ∷ ps) (slice_split_at is_dot (decimal c) 46 _ (no_dot c hc) refl
    ∙ ap (λ ps. decimal c ∷ ps) (slice_split_none is_dot (decimal d) (no_dot d hd)))) in
    rw (
      cut,
      octet_of-decimal a ha,
      octet_of-decimal b hb,
      octet_of-decimal c hc,
      octet_of-decimal d hd,
    ) refl

not_colon : (b : ℕ) → IsDigitOrDot b → IsOther 58 b
not_colon b (inl digit) = ne_eqb b 58 (omega arith)
not_colon b (inr dot) = ne_eqb b 58 (omega arith)

pub ipv4_reads_back : (a : ℕ) → a < 2 ^ 32 → ip_of (ip_text (V4 a)) ≡ Some (V4 a)
unfolding ip_of ip_text Below
ipv4_reads_back a fits =
    let octets = to_be_bytes w32 a in
    let dotted = IsDotted-ipv4_text octets refl (octets_fit a) in
    let plain =
    sym (plain_none (ipv4_text octets)
    (λ groups. IsDotted-not_colon_hex (ipv4_text octets) octets groups dotted)) in
    let no_colon =
    All-weaker IsDigitOrDot (IsOther 58) (λ b h. not_colon b h) (ipv4_text octets)
    (All-ipv4_text octets (octets_fit a)) in
    let other =
    colon_hex_none (ipv4_text octets) plain (last_cut_of_none 58 (ipv4_text octets) no_colon) in
    let fit = octets_fit a in
    let four =
    dotted_of-dotted_text (get_or octets 0 0) (get_or octets 1 0) (get_or octets 2 0)
    (get_or octets 3 0) (fit 0) (fit 1) (fit 2) (fit 3) in
    rw (other, four) (ap (λ n. Some (V4 n)) (from_be_bytes-to_be_bytes_4 a fits))
