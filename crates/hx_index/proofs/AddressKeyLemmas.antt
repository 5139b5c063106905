-- Networks as keys of bits: a prefix hits an address exactly where its bits begin the address's.
use Rattle.std.proofs.Common.{◌≡◌, ℕ, zero, suc, ◌+◌, ◌-◌, ◌*◌, ◌/◌, ◌%◌, ◌^◌, ◌<◌, ◌≤◌, ◌==◌, get_or, refl, ap, sym, ◌∙◌, subst, arith}
use Rattle.std.proofs.lemmas.Bool.Decides.{Decides-eqb, same_from_decides}
use Rattle.std.proofs.lemmas.Nat.{pow-add, shl-shr, shr-shr, shr_split, shr_below}
use Rattle.std.proofs.lemmas.Nat.Bits.{bit_at_cat_low, same_from_bits_below}
use Rattle.std.proofs.Math.Nat.{pow-suc}
use Rattle.std.specs.Bool.{Decides}
use Rattle.std.specs.Int.{w32, w128, bit_at, byte_at, bytes_high_first, to_be_bytes}
use Rattle.hx_text.specs.Network.{prefix_bits}
use Rattle.hx_ebtree.specs.Bits.{bit_of, bits_of}
use Rattle.hx_ebtree.specs.KeyList.{is_prefix}
use Rattle.hx_index.proofs.TextKeyLemmas.{AgreeBelow, prefix_bits-Decides, one_bit}

-- ---- the bits of the bytes of a number, the highest first

pow_256 : (i : ℕ) → 256 ^ i ≡ 2 ^ (8 * i)
pow_256 zero = refl
pow_256 (suc i) =
    let e : 8 * suc i ≡ 8 * i + 8 = omega arith in
    pow-suc 256 i ∙ ap (λ p. p * 256) (pow_256 i) ∙ sym (pow-add 2 (8 * i) 8) ∙ ap (λ k. 2 ^ k) (sym e)

byte_is : (i n : ℕ) → byte_at i n ≡ n / 2 ^ (8 * i) % 256
byte_is zero n = let e : n ≡ n / 1 = omega arith in ap (λ k. k % 256) e
byte_is (suc i) n = ap (λ p. n / p % 256) (pow_256 (suc i))

byte_from_high : (k n j : ℕ) → j < k → get_or (bytes_high_first k n) j 0 ≡ byte_at (k - 1 - j) n
byte_from_high zero n j below = absurd (omega (arith, below))
byte_from_high (suc k) n zero below =
    let e : k ≡ suc k - 1 - 0 = omega arith in ap (λ i. byte_at i n) e
byte_from_high (suc k) n (suc j) below =
    let e : k - 1 - j ≡ suc k - 1 - suc j = omega arith in
    byte_from_high k n j (omega (arith, below)) ∙ ap (λ i. byte_at i n) e

-- what is above a byte has no part in its bits
bit_of_low : (m r : ℕ) → r < 8 → bit_at (m % 256) r ≡ bit_at m r
bit_of_low m r below =
    sym (bit_at_cat_low (m / 256) 8 (m % 256) r below) ∙ ap (λ k. bit_at k r) (shr_split m 8)

-- bit i of the bytes of n, of which there are k
pub bit_of_number : (k n i : ℕ) → i < 8 * k
    → bit_of (bytes_high_first k n) i ≡ (bit_at n (8 * k - 1 - i) == 1)
bit_of_number k n i below =
    let j = k - 1 - i / 8 in
    let r = 7 - i % 8 in
    let at : 8 * j + r ≡ 8 * k - 1 - i = omega (arith, below) in
    let byte = byte_from_high k n (i / 8) (omega (arith, below)) ∙ byte_is j n in
    let low : bit_at (n / 2 ^ (8 * j) % 256) r ≡ bit_at n (8 * k - 1 - i) =
    bit_of_low (n / 2 ^ (8 * j)) r (omega arith)
    ∙ ap (λ m. m % 2) (shr-shr n (8 * j) r ∙ ap (λ s. n / 2 ^ s) at) in
    ap (λ b. b / 2 ^ r % 2 == 1) byte ∙ ap (λ b. b == 1) low

-- ---- prefixes of addresses

-- the first bits of two numbers of w + q bits are the same exactly where their first w bits make
-- the same number
same_high_bits : (k n a w q : ℕ) → w + q ≡ 8 * k → n < 2 ^ (w + q) → a < 2 ^ (w + q)
    → AgreeBelow (bytes_high_first k n) (bytes_high_first k a) w → n / 2 ^ q ≡ a / 2 ^ q
same_high_bits k n a w q whole n_fits a_fits agree =
    same_from_bits_below w (n / 2 ^ q) (a / 2 ^ q) (shr_below n w q n_fits) (shr_below a w q a_fits)
    (λ i below.
    let at : 8 * k - 1 - (w - 1 - i) ≡ q + i = omega (arith, below, whole) in
    let within : w - 1 - i < 8 * k = omega (arith, below, whole) in
    let same = sym (bit_of_number k n (w - 1 - i) within)
    ∙ agree (w - 1 - i) (omega (arith, below))
    ∙ bit_of_number k a (w - 1 - i) within in
    let bit : bit_at n (q + i) ≡ bit_at a (q + i) =
    one_bit (bit_at n (q + i)) (bit_at a (q + i)) (omega arith) (omega arith)
    (subst (λ s. (bit_at n s == 1) ≡ (bit_at a s == 1)) at same) in
    ap (λ m. m % 2) (shr-shr n q i) ∙ bit ∙ sym (ap (λ m. m % 2) (shr-shr a q i)))

high_bits_agree : (k n a w q : ℕ) → w + q ≡ 8 * k → n / 2 ^ q ≡ a / 2 ^ q
    → AgreeBelow (bytes_high_first k n) (bytes_high_first k a) w
high_bits_agree k n a w q whole same i below =
    let at : q + (w - 1 - i) ≡ 8 * k - 1 - i = omega (arith, below, whole) in
    let within : i < 8 * k = omega (arith, below, whole) in
    let bit : bit_at n (q + (w - 1 - i)) ≡ bit_at a (q + (w - 1 - i)) =
    sym (ap (λ m. m % 2) (shr-shr n q (w - 1 - i)))
    ∙ ap (λ m. m / 2 ^ (w - 1 - i) % 2) same
    ∙ ap (λ m. m % 2) (shr-shr a q (w - 1 - i)) in
    bit_of_number k n i within
    ∙ ap (λ b. b == 1) (subst (λ s. bit_at n s ≡ bit_at a s) at bit)
    ∙ sym (bit_of_number k a i within)

has_by_bits : (k n a w q : ℕ) → w + q ≡ 8 * k → n < 2 ^ (w + q) → a < 2 ^ (w + q)
    → n / 2 ^ q * 2 ^ q ≡ n
    → Decides (is_prefix (bits_of (bytes_high_first k n) w) (bits_of (bytes_high_first k a) (8 * k)))
    (a / 2 ^ q * 2 ^ q ≡ n)
has_by_bits k n a w q whole n_fits a_fits kept =
    let d = prefix_bits-Decides (bytes_high_first k n) (bytes_high_first k a) w (8 * k) in (
      λ e. ap (λ m. m * 2 ^ q) (sym (same_high_bits k n a w q whole n_fits a_fits (d.0 e).1)) ∙ kept,
      λ e. d.1 (
        omega (arith, whole),
        high_bits_agree k n a w q whole
            (ap (λ m. m / 2 ^ q) (sym e) ∙ shl-shr (a / 2 ^ q) q),
      ),
    )

-- the first w bits of a network begin an address of k bytes exactly where the network has it
prefix_number : (k n a w q : ℕ) → w + q ≡ 8 * k → n < 2 ^ (w + q) → a < 2 ^ (w + q)
    → n / 2 ^ q * 2 ^ q ≡ n
    → is_prefix (bits_of (bytes_high_first k n) w) (bits_of (bytes_high_first k a) (8 * k))
    ≡ (a / 2 ^ q * 2 ^ q == n)
prefix_number k n a w q whole n_fits a_fits kept =
    same_from_decides
    (is_prefix (bits_of (bytes_high_first k n) w) (bits_of (bytes_high_first k a) (8 * k)))
    (a / 2 ^ q * 2 ^ q == n) (has_by_bits k n a w q whole n_fits a_fits kept)
    (Decides-eqb (a / 2 ^ q * 2 ^ q) n)

pub ipv4_prefix : (network address width : ℕ) → network < 2 ^ 32 → address < 2 ^ 32 → width ≤ 32
    → prefix_bits 32 width network ≡ network
    → is_prefix (bits_of (to_be_bytes w32 network) width) (bits_of (to_be_bytes w32 address) 32)
    ≡ (prefix_bits 32 width address == network)
ipv4_prefix network address width n_fits a_fits within kept =
    let whole : width + (32 - width) ≡ 32 = omega (arith, within) in
    prefix_number 4 network address width (32 - width) whole
    (subst (λ w. network < 2 ^ w) (sym whole) n_fits)
    (subst (λ w. address < 2 ^ w) (sym whole) a_fits) kept

pub ipv6_prefix : (network address width : ℕ) → network < 2 ^ 128 → address < 2 ^ 128
    → width ≤ 128 → prefix_bits 128 width network ≡ network
    → is_prefix (bits_of (to_be_bytes w128 network) width)
    (bits_of (to_be_bytes w128 address) 128)
    ≡ (prefix_bits 128 width address == network)
ipv6_prefix network address width n_fits a_fits within kept =
    let whole : width + (128 - width) ≡ 128 = omega (arith, within) in
    prefix_number 16 network address width (128 - width) whole
    (subst (λ w. network < 2 ^ w) (sym whole) n_fits)
    (subst (λ w. address < 2 ^ w) (sym whole) a_fits) kept
