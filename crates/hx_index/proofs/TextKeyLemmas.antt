-- Texts as keys of bits: equal bits are equal texts, and a prefix of bits is a prefix of the text.
use Rattle.std.proofs.Common.{◌≡◌, ℕ, zero, suc, ◌+◌, ◌-◌, ◌*◌, ◌/◌, ◌%◌, ◌<◌, ◌≤◌, Bool, true, false, ◌==◌, List, map, length, get_or, drop, All, refl, ap, sym, ◌∙◌, subst, arith, option_map, filter, bytes_eq, nat_eq, slice_index, true≢false}
use Rattle.std.proofs.lemmas.Bool.{false≢true}
use Rattle.std.proofs.lemmas.Bool.Decides.{Decides-eqb, Decides-and, same_from_decides}
use Rattle.std.proofs.lemmas.List.{ext_get_or}
use Rattle.std.proofs.lemmas.List.Elements.{All-weaker}
use Rattle.std.proofs.lemmas.List.Prefix.{front_fits, front_reads, front_from_reads}
use Rattle.std.proofs.lemmas.Nat.Bits.{same_from_bits_below}
use Rattle.std.proofs.lemmas.Slice.Eq.{bytes_eq-Decides, starts_is}
use Rattle.std.specs.Bool.{Decides}
use Rattle.std.specs.Int.{bit_at}
use Rattle.std.specs.List.{starts_with}
use Rattle.hx_text.specs.declared.kinds.By.TheVariants as by
use Rattle.hx_sample.specs.declared.sample.Value.TheVariants as value
use Rattle.hx_ebtree.specs.Bits.{bit_of, bits_from, bits_of, is_same_bit}
use Rattle.hx_ebtree.specs.KeyList.{is_prefix, is_same_key, longest_of}
use Rattle.hx_index.proofs.FoundItemLemmas.{found_item, pair_by, longest_agrees, first_greatest_in_bits}

-- the numbers of a text are bytes
abbrev pub AreBytes : List ℕ → Type 0
AreBytes text = (i : ℕ) → slice_index text i < 256

-- ---- bits that agree

-- the bits of both below a place are the same
abbrev pub AgreeBelow : List ℕ → List ℕ → ℕ → Type 0
AgreeBelow bs cs n = (k : ℕ) → k < n → bit_of bs k ≡ bit_of cs k

abbrev AgreeFrom : List ℕ → List ℕ → ℕ → ℕ → Type 0
AgreeFrom bs cs i n = (k : ℕ) → k < n → bit_of bs (i + k) ≡ bit_of cs (i + k)

same_bit-Decides : (x y : Bool) → Decides (is_same_bit x y) (x ≡ y)
same_bit-Decides false false = (λ _. refl, λ _. refl)
same_bit-Decides true true = (λ _. refl, λ _. refl)
same_bit-Decides false true = (λ e. absurd (false≢true e), λ e. absurd (false≢true e))
same_bit-Decides true false = (λ e. absurd (false≢true e), λ e. absurd (true≢false e))

agree_here : (bs cs : List ℕ) (i n : ℕ) → AgreeFrom bs cs i (suc n) → bit_of bs i ≡ bit_of cs i
agree_here bs cs i n agree =
    let e : i + 0 ≡ i = omega arith in
    subst (λ k. bit_of bs k ≡ bit_of cs k) e (agree 0 (omega arith))

agree_after : (bs cs : List ℕ) (i n : ℕ) → AgreeFrom bs cs i (suc n) → AgreeFrom bs cs (i + 1) n
agree_after bs cs i n agree k below =
    let e : i + suc k ≡ i + 1 + k = omega arith in
    subst (λ j. bit_of bs j ≡ bit_of cs j) e (agree (suc k) (omega (arith, below)))

agree_cons : (bs cs : List ℕ) (i n : ℕ) → bit_of bs i ≡ bit_of cs i → AgreeFrom bs cs (i + 1) n
    → AgreeFrom bs cs i (suc n)
agree_cons bs cs i n first rest zero below =
    let e : i ≡ i + 0 = omega arith in subst (λ k. bit_of bs k ≡ bit_of cs k) e first
agree_cons bs cs i n first rest (suc k) below =
    let e : i + 1 + k ≡ i + suc k = omega arith in
    subst (λ j. bit_of bs j ≡ bit_of cs j) e (rest k (omega (arith, below)))

prefix_from : (bs cs : List ℕ) (i m n : ℕ)
    → Decides (is_prefix (bits_from bs i m) (bits_from cs i n)) ((m ≤ n) × AgreeFrom bs cs i m)
prefix_from bs cs i zero n = (λ _. (omega arith, λ k below. absurd (omega (arith, below))), λ _. refl)
prefix_from bs cs i (suc m) zero =
    (λ e. absurd (false≢true e), λ p. absurd (omega (arith, p.0)))
prefix_from bs cs i (suc m) (suc n) =
    let first = same_bit-Decides (bit_of bs i) (bit_of cs i) in
    let rest = prefix_from bs cs (i + 1) m n in
    let both = Decides-and (is_same_bit (bit_of bs i) (bit_of cs i))
    (is_prefix (bits_from bs (i + 1) m) (bits_from cs (i + 1) n)) first rest in (
      λ e. let p = both.0 e in (omega (arith, p.1.0), agree_cons bs cs i m p.0 p.1.1),
      λ p. both.1 (agree_here bs cs i m p.1, (omega (arith, p.0), agree_after bs cs i m p.1)),
    )

same_from : (bs cs : List ℕ) (i m n : ℕ)
    → Decides (is_same_key (bits_from bs i m) (bits_from cs i n)) ((m ≡ n) × AgreeFrom bs cs i m)
same_from bs cs i zero zero = (λ _. (refl, λ k below. absurd (omega (arith, below))), λ _. refl)
same_from bs cs i zero (suc n) = (λ e. absurd (false≢true e), λ p. absurd (omega (arith, p.0)))
same_from bs cs i (suc m) zero = (λ e. absurd (false≢true e), λ p. absurd (omega (arith, p.0)))
same_from bs cs i (suc m) (suc n) =
    let first = same_bit-Decides (bit_of bs i) (bit_of cs i) in
    let rest = same_from bs cs (i + 1) m n in
    let both = Decides-and (is_same_bit (bit_of bs i) (bit_of cs i))
    (is_same_key (bits_from bs (i + 1) m) (bits_from cs (i + 1) n)) first rest in (
      λ e. let p = both.0 e in (omega (arith, p.1.0), agree_cons bs cs i m p.0 p.1.1),
      λ p. both.1 (agree_here bs cs i m p.1, (omega (arith, p.0), agree_after bs cs i m p.1)),
    )

from_start : (bs cs : List ℕ) (n : ℕ) → AgreeFrom bs cs 0 n → AgreeBelow bs cs n
from_start bs cs n agree k below =
    let e : 0 + k ≡ k = omega arith in
    subst (λ j. bit_of bs j ≡ bit_of cs j) e (agree k below)

to_start : (bs cs : List ℕ) (n : ℕ) → AgreeBelow bs cs n → AgreeFrom bs cs 0 n
to_start bs cs n agree k below =
    let e : k ≡ 0 + k = omega arith in
    subst (λ j. bit_of bs j ≡ bit_of cs j) e (agree k below)

-- the first m bits of the one begin the first n bits of the other
pub prefix_bits-Decides : (bs cs : List ℕ) (m n : ℕ)
    → Decides (is_prefix (bits_of bs m) (bits_of cs n)) ((m ≤ n) × AgreeBelow bs cs m)
unfolding bits_of
prefix_bits-Decides bs cs m n =
    let d = prefix_from bs cs 0 m n in (
      λ e. let p = d.0 e in (p.0, from_start bs cs m p.1),
      λ p. d.1 (p.0, to_start bs cs m p.1),
    )

pub same_bits-Decides : (bs cs : List ℕ) (m n : ℕ)
    → Decides (is_same_key (bits_of bs m) (bits_of cs n)) ((m ≡ n) × AgreeBelow bs cs m)
unfolding bits_of
same_bits-Decides bs cs m n =
    let d = same_from bs cs 0 m n in (
      λ e. let p = d.0 e in (p.0, from_start bs cs m p.1),
      λ p. d.1 (p.0, to_start bs cs m p.1),
    )

bits_from-length : (bs : List ℕ) (i n : ℕ) → length (bits_from bs i n) ≡ n
bits_from-length bs i zero = refl
bits_from-length bs i (suc n) = ap suc (bits_from-length bs (i + 1) n)

pub bits_of-length : (bs : List ℕ) (n : ℕ) → length (bits_of bs n) ≡ n
unfolding bits_of
bits_of-length bs n = bits_from-length bs 0 n

-- ---- bytes whose bits agree

-- a number with one bit is told by the test of that bit
pub one_bit : (m n : ℕ) → m < 2 → n < 2 → (m == 1) ≡ (n == 1) → m ≡ n
one_bit zero zero lm ln e = refl
one_bit zero (suc zero) lm ln e = absurd (false≢true e)
one_bit (suc zero) zero lm ln e = absurd (true≢false e)
one_bit (suc zero) (suc zero) lm ln e = refl
one_bit zero (suc (suc n)) lm ln e = absurd (omega (arith, ln))
one_bit (suc zero) (suc (suc n)) lm ln e = absurd (omega (arith, ln))
one_bit (suc (suc m)) n lm ln e = absurd (omega (arith, lm))

-- bit r of byte j, counted from the lowest
bit_in_byte : (bs : List ℕ) (j r : ℕ) → r < 8
    → bit_of bs (8 * j + (7 - r)) ≡ (bit_at (get_or bs j 0) r == 1)
bit_in_byte bs j r below =
    let e : (8 * j + (7 - r)) / 8 ≡ j = omega (arith, below) in
    let f : 7 - (8 * j + (7 - r)) % 8 ≡ r = omega (arith, below) in
    rw (e, f) refl

bytes_agree : (bs cs : List ℕ) (n : ℕ) → AreBytes bs → AreBytes cs
    → AgreeBelow bs cs (8 * n) → (j : ℕ) → j < n → get_or bs j 0 ≡ get_or cs j 0
bytes_agree bs cs n bs_bytes cs_bytes agree j below =
    same_from_bits_below 8 (get_or bs j 0) (get_or cs j 0) (bs_bytes j) (cs_bytes j)
    (λ r within. one_bit (bit_at (get_or bs j 0) r) (bit_at (get_or cs j 0) r) (omega arith)
    (omega arith)
    (sym (bit_in_byte bs j r within)
    ∙ agree (8 * j + (7 - r)) (omega (arith, below))
    ∙ bit_in_byte cs j r within))

bits_agree : (bs cs : List ℕ) (n : ℕ) → ((j : ℕ) → j < n → get_or bs j 0 ≡ get_or cs j 0)
    → AgreeBelow bs cs (8 * n)
bits_agree bs cs n same k below =
    let within : k / 8 < n = omega (arith, below) in
    rw (same (k / 8) within) refl

-- ---- texts

-- the key begins the text
abbrev Begins : List ℕ → List ℕ → Type 0
Begins key text =
    (length key ≤ length text) × ((j : ℕ) → j < length key → get_or key j 0 ≡ get_or text j 0)

starts-Decides : (key text : List ℕ) → Decides (starts_with nat_eq text key) (Begins key text)
starts-Decides key text =
    let is = starts_is Decides-eqb text key (starts_with nat_eq text key) refl in (
      λ e. (
        front_fits text key (drop (length key) text) (is.0 e),
        λ j below. sym (front_reads 0 text key (drop (length key) text) (is.0 e) j below),
      ),
      λ p. is.1 (drop (length key) text)
          (front_from_reads 0 text key p.0 (λ j below. sym (p.1 j below))),
    )

begins_by_bits : (key text : List ℕ) → AreBytes key → AreBytes text
    → Decides (is_prefix (bits_of key (8 * length key)) (bits_of text (8 * length text)))
    (Begins key text)
begins_by_bits key text key_bytes text_bytes =
    let d = prefix_bits-Decides key text (8 * length key) (8 * length text) in (
      λ e. let p = d.0 e in
          (omega (arith, p.0), bytes_agree key text (length key) key_bytes text_bytes p.1),
      λ p. d.1 (omega (arith, p.0), bits_agree key text (length key) p.1),
    )

-- the bits of a key begin those of a text exactly where the key begins the text
pub text_prefix : (key text : List ℕ) → AreBytes key → AreBytes text
    → is_prefix (bits_of key (8 * length key)) (bits_of text (8 * length text))
    ≡ starts_with nat_eq text key
text_prefix key text key_bytes text_bytes =
    same_from_decides (is_prefix (bits_of key (8 * length key)) (bits_of text (8 * length text)))
    (starts_with nat_eq text key) (begins_by_bits key text key_bytes text_bytes)
    (starts-Decides key text)

equal_by_bits : (key text : List ℕ) → AreBytes key → AreBytes text
    → Decides (is_same_key (bits_of key (8 * length key)) (bits_of text (8 * length text)))
    (text ≡ key)
equal_by_bits key text key_bytes text_bytes =
    let d = same_bits-Decides key text (8 * length key) (8 * length text) in (
      λ e. let p = d.0 e in
          let long : length text ≡ length key = omega (arith, p.0) in
          let same = bytes_agree key text (length key) key_bytes text_bytes p.1 in
          ext_get_or 0 text key long (λ j below. sym (same j (omega (arith, below, long)))),
      λ e. d.1 (
        omega (arith, ap length e),
        bits_agree key text (length key) (λ j below. ap (λ bs. get_or bs j 0) (sym e)),
      ),
    )

-- the bits of a key are those of a text exactly where the key is the text
pub text_equal : (key text : List ℕ) → AreBytes key → AreBytes text
    → is_same_key (bits_of key (8 * length key)) (bits_of text (8 * length text))
    ≡ bytes_eq text key
text_equal key text key_bytes text_bytes =
    same_from_decides (is_same_key (bits_of key (8 * length key)) (bits_of text (8 * length text)))
    (bytes_eq text key) (equal_by_bits key text key_bytes text_bytes)
    (bytes_eq-Decides text key)

-- ---- items whose keys are texts

-- the bits of a key that is a text
pub record IsTextKey (key : List ℕ) (bits : List Bool) : Type 0 where
  pub whole : bits ≡ bits_of key (8 * length key)
  pub bytes : AreBytes key

module _ {A : Type 0} (key : A → List ℕ) (bits : A → List Bool) (node : A → ℕ) where
  -- the scan for the longest prefix of a text finds the first of the items with the longest key
  -- that begins the text
  pub longest_text : (xs : List A) (text : List ℕ) → All (λ x. IsTextKey (key x) (bits x)) xs
      → AreBytes text
      → longest_of (map (pair_by bits node) xs) (bits_of text (8 * length text))
      ≡ option_map node (found_item key by.Beg false xs (value.Str text))
  longest_text xs text keys text_bytes =
      longest_agrees bits node (λ x. starts_with nat_eq text (key x)) (λ x. 8 * length (key x)) xs
      (bits_of text (8 * length text))
      (All-weaker (λ x. IsTextKey (key x) (bits x))
      (λ x. is_prefix (bits x) (bits_of text (8 * length text)) ≡ starts_with nat_eq text (key x))
      (λ x is. rw is.whole (text_prefix (key x) text is.bytes text_bytes)) xs keys)
      (All-weaker (λ x. IsTextKey (key x) (bits x)) (λ x. length (bits x) ≡ 8 * length (key x))
      (λ x is. rw is.whole (bits_of-length (key x) (8 * length (key x)))) xs keys)
      ∙ ap (option_map node)
      (first_greatest_in_bits (λ x. length (key x)) (filter (λ x. starts_with nat_eq text (key x)) xs))
