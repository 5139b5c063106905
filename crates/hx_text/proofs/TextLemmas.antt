-- What the text of an IPv6 address looks like: its dotted end, its letters, and its groups.
use Rattle.std.proofs.Common.{◌≡◌, ◌≢◌, get_or, ℕ, ◌*◌, ◌+◌, ◌/◌, ◌%◌, ◌^◌, ◌<◌, Bool, true, false, [], ◌∷◌, ◌++◌, drop, All, refl, ap, sym, ◌∙◌, arith, inl, inr, subst}
use Rattle.std.proofs.lemmas.Bool.{lt-leb, le-leb, cases_lt, lt-ltb, le-ltb}
use Rattle.std.proofs.lemmas.List.Elements.{All-from_recursion, All-append, All-weaker}
use Rattle.std.proofs.NetLemmas.Alphabet.{IsDigitOrDot, IsHexOrColon, All-ipv4_text, All-hex_groups_text}
use Rattle.std.specs.Char.{digit_char, is_ascii_uppercase}
use Rattle.std.specs.Int.{w32, to_be_bytes}
use Rattle.std.specs.Net.Addr.{octets_of}
use Rattle.std.specs.Net.Text.{hex, ipv4_text, ipv6_text}
use Rattle.std.specs.Prelude.{codes}
use Rattle.hx_text.specs.Printing.{groups_of, is_mapped}
use Rattle.hx_text.specs.Mapping.{mapped_address}
use Rattle.hx_text.proofs.PrintLemmas.{hex_one, hex_two, hex_three, hex_four, mapped_text, other_text}
use Rattle.hx_text.proofs.RoundTripLemmas.{Below, below_none, below_more, groups_fit}

-- ---- a dotted end

mapped_groups : (four : ℕ) → four < 2 ^ 32
    → groups_of (mapped_address four) ≡ 0 ∷ 0 ∷ 0 ∷ 0 ∷ 0 ∷ 0xffff ∷ (four / 2 ^ 16)
    ∷ (four % 2 ^ 16) ∷ []
mapped_groups four fits =
    let a = 0xffff * 2 ^ 32 + four in
    let one : a / 2 ^ 112 % 2 ^ 16 ≡ 0 = omega arith in
    let two : a / 2 ^ 96 % 2 ^ 16 ≡ 0 = omega arith in
    let three : a / 2 ^ 80 % 2 ^ 16 ≡ 0 = omega arith in
    let four' : a / 2 ^ 64 % 2 ^ 16 ≡ 0 = omega arith in
    let five : a / 2 ^ 48 % 2 ^ 16 ≡ 0 = omega arith in
    let six : a / 2 ^ 32 % 2 ^ 16 ≡ 0xffff = omega arith in
    let seven : a / 2 ^ 16 % 2 ^ 16 ≡ four / 2 ^ 16 = omega arith in
    let eight : a % 2 ^ 16 ≡ four % 2 ^ 16 = omega arith in
    rw (one, two, three, four', five, six, seven, eight) refl

mapped_octets : (four : ℕ) → four < 2 ^ 32
    → octets_of ((four / 2 ^ 16) ∷ (four % 2 ^ 16) ∷ []) ≡ to_be_bytes w32 four
mapped_octets four fits =
    let one : four / 2 ^ 16 / 256 ≡ four / 16777216 % 256 = omega arith in
    let two : four / 2 ^ 16 % 256 ≡ four / 65536 % 256 = omega arith in
    let three : four % 2 ^ 16 / 256 ≡ four / 256 % 256 = omega arith in
    let last : four % 2 ^ 16 % 256 ≡ four % 256 = omega arith in
    rw (one, two, three, last) refl

pub mapped_shown : (four : ℕ) → four < 2 ^ 32
    → ipv6_text (groups_of (mapped_address four)) ≡ codes "::ffff:" ++ ipv4_text
    (to_be_bytes w32 four)
mapped_shown four fits =
    ap ipv6_text (mapped_groups four fits)
    ∙ mapped_text (0 ∷ 0 ∷ 0 ∷ 0 ∷ 0 ∷ 0xffff ∷ (four / 2 ^ 16) ∷ (four % 2 ^ 16) ∷ []) refl
    ∙ ap (λ o. codes "::ffff:" ++ ipv4_text o) (mapped_octets four fits)

-- ---- no capital letter

abbrev IsNoCapital : ℕ → Type 0
IsNoCapital c = is_ascii_uppercase c ≡ false

hex_no_capital : (c : ℕ) → IsHexOrColon c → IsNoCapital c
hex_no_capital c (inl h) = rw (lt-leb 65 c (omega arith)) refl
hex_no_capital c (inr h) = rw (le-leb 65 c (omega arith), lt-leb c 90 (omega arith)) refl

dotted_no_capital : (c : ℕ) → IsDigitOrDot c → IsNoCapital c
dotted_no_capital c (inl h) = rw (lt-leb 65 c (omega arith)) refl
dotted_no_capital c (inr h) = rw (lt-leb 65 c (omega arith)) refl

last_octets_fit : (address : ℕ) → Below (2 ^ 8) (octets_of (drop 6 (groups_of address)))
last_octets_fit address =
    let M = 2 ^ 8 in
    let g = address / 2 ^ 16 % 2 ^ 16 in
    let h = address % 2 ^ 16 in
    let one = below_more M (h % 256) [] (omega arith) (below_none M (omega arith)) in
    let two = below_more M (h / 256) _ (omega arith) one in
    let three = below_more M (g % 256) _ (omega arith) two in
    below_more M (g / 256) _ (omega arith) three

prefix_no_capital : All IsNoCapital (codes "::ffff:")
prefix_no_capital =
    All-from_recursion IsNoCapital (codes "::ffff:") (
      refl,
      (refl, (refl, (refl, (refl, (refl, (refl, tt)))))),
    )

no_capital_by : (address : ℕ) (is : Bool) → is_mapped (groups_of address) ≡ is
    → All IsNoCapital (ipv6_text (groups_of address))
unfolding Below
no_capital_by address true is =
    let octets = octets_of (drop 6 (groups_of address)) in
    let end =
    All-weaker IsDigitOrDot IsNoCapital dotted_no_capital (ipv4_text octets)
    (All-ipv4_text octets (last_octets_fit address)) in
    subst (All IsNoCapital) (sym (mapped_text (groups_of address) is))
    (All-append IsNoCapital (codes "::ffff:") (ipv4_text octets) prefix_no_capital end)
no_capital_by address false is =
    subst (All IsNoCapital) (sym (other_text (groups_of address) is))
    (All-weaker IsHexOrColon IsNoCapital hex_no_capital _
    (All-hex_groups_text (groups_of address) (groups_fit address)))

pub no_capital : (address : ℕ) → All IsNoCapital (ipv6_text (groups_of address))
no_capital address = no_capital_by address (is_mapped (groups_of address)) refl

-- ---- no leading zero

digit_other_than_0 : (d : ℕ) → 0 < d → digit_char d ≢ 48
digit_other_than_0 d some = elim (cases_lt d 10) [
  | inl low ↦ rw (lt-ltb d 10 low) (omega (arith, some))
  | inr high ↦ rw (le-ltb d 10 high) (omega (arith, high))
]

pub no_leading_zero : (group : ℕ) → 0 < group → group < 2 ^ 16 → get_or (hex group) 0 0 ≢ 48
no_leading_zero group some fits = elim (cases_lt group 16) [
  | inl one ↦ rw (hex_one group one) (digit_other_than_0 (group % 16) (omega arith))
  | inr more ↦ elim (cases_lt group 256) [
    | inl two ↦ rw (hex_two group more two) (digit_other_than_0 (group / 16 % 16) (omega arith))
    | inr more ↦ elim (cases_lt group 4096) [
      | inl three ↦ rw (hex_three group more three)
          (digit_other_than_0 (group / 256 % 16) (omega arith))
      | inr four ↦ rw (hex_four group four) (digit_other_than_0 (group / 4096) (omega arith))
    ]
  ]
]
