-- Components: case doesn't matter to delimiters, and what follows each delimiter.
use Rattle.std.proofs.Common.{◌≡◌, ℕ, ◌+◌, ◌-◌, ◌<◌, ◌≤◌, Bool, true, false, cond, ◌||◌, ◌&&◌, ◌==◌, List, [], ◌∷◌, ◌++◌, length, map, take, drop, refl, sym, ap, ap₂, ◌∙◌, arith, inl, inr, ◌⊎◌}
use Rattle.std.specs.Prelude.{reverse}
use Rattle.std.specs.Char.{to_ascii_lowercase}
use Rattle.std.specs.List.{prefix_len, suffix_len}
use Rattle.std.proofs.lemmas.Bool.{cases_lt, ne_eqb}
use Rattle.std.proofs.lemmas.List.{drop-map, length-map, map-append, take-map}
use mathlib.Core.List.{reverse-cons}
use Rattle.std.proofs.lemmas.Str.Ascii.{lowercase_is}
use Rattle.hx_base.specs.Bytes.{ascii}
use Rattle.hx_sample.specs.Keys.{folded, is_component, is_delimited_part, is_ended, parts_path, trimmed}
use Rattle.hx_match.specs.Read.{is_delim}
use Rattle.hx_match.specs.declared.components.Delims.{Delims}
use Rattle.hx_match.specs.declared.components.Delims.TheVariants.{Path, Domain}

-- ---- case

-- a test that doesn't look at the case of letters
abbrev IgnoresCase : (ℕ → Bool) → Type 0
IgnoresCase test = (b : ℕ) → test (to_ascii_lowercase b) ≡ test b

from_capitals : (c : ℕ) → c < 65 → (b : ℕ) → 65 ≤ b → (b < 91) ⊎ (91 ≤ b)
    → (to_ascii_lowercase b == c) ≡ (b == c)
from_capitals c le b above (inl within) =
    let is : to_ascii_lowercase b ≡ b + 32 = (lowercase_is b).0 (omega arith, omega arith) in
    ne_eqb (to_ascii_lowercase b) c (λ e. absurd (omega (arith, is, e)))
    ∙ sym (ne_eqb b c (λ e. absurd (omega (arith, e))))
from_capitals c le b above (inr past) = ap (λ n. n == c) ((lowercase_is b).2 (omega arith))

-- a byte before the capitals is the same in whatever case
not_lower : (c : ℕ) → c < 65 → (b : ℕ) → (to_ascii_lowercase b == c) ≡ (b == c)
not_lower c le b = elim (cases_lt b 65) [
  | inl below ↦ ap (λ n. n == c) ((lowercase_is b).1 below)
  | inr above ↦ from_capitals c le b above (cases_lt b 91)
]

path_ignores : IgnoresCase parts_path
path_ignores b = ap₂ (λ p q. p || q) (not_lower (ascii "/") (omega arith) b) (not_lower (ascii "?") (omega arith) b)

pub ignores : (delims : Delims) → IgnoresCase (is_delim delims)
ignores Path b = path_ignores b
ignores Domain b =
    ap₂ (λ p q. p || q)
    (ap₂ (λ p q. p || q) (path_ignores b) (not_lower (ascii ".") (omega arith) b))
    (not_lower (ascii ":") (omega arith) b)

-- ---- texts without their delimiters

prefix_folded : (test : ℕ → Bool) → IgnoresCase test → (text : List ℕ)
    → prefix_len test (map to_ascii_lowercase text) ≡ prefix_len test text
prefix_folded test h [] = refl
prefix_folded test h (b ∷ text) =
    ap₂ (λ p n. cond p (1 + n) 0) (h b) (prefix_folded test h text)

reverse_map : (f : ℕ → ℕ) (xs : List ℕ) → reverse (map f xs) ≡ map f (reverse xs)
reverse_map f [] = refl
reverse_map f (x ∷ xs) =
    reverse-cons (f x) (map f xs)
    ∙ ap (λ l. l ++ f x ∷ []) (reverse_map f xs)
    ∙ sym (ap (λ l. map f l) (reverse-cons x xs) ∙ map-append f (reverse xs) (x ∷ []))

suffix_folded : (test : ℕ → Bool) → IgnoresCase test → (text : List ℕ)
    → suffix_len test (map to_ascii_lowercase text) ≡ suffix_len test text
suffix_folded test h text =
    ap (λ l. prefix_len test l) (reverse_map to_ascii_lowercase text)
    ∙ prefix_folded test h (reverse text)

without : (n : ℕ) (m : ℕ) (text : List ℕ)
    → take (length (drop n (map to_ascii_lowercase text)) - m) (drop n (map to_ascii_lowercase text))
    ≡ map to_ascii_lowercase (take (length (drop n text) - m) (drop n text))
without n m text =
    rw (drop-map to_ascii_lowercase n text, length-map (drop n text) to_ascii_lowercase)
    (take-map to_ascii_lowercase (length (drop n text) - m) (drop n text))

trimmed_lower : (test : ℕ → Bool) → IgnoresCase test → (text : List ℕ)
    → map to_ascii_lowercase (trimmed test text) ≡ trimmed test (map to_ascii_lowercase text)
trimmed_lower test h text =
    let n = prefix_len test text in
    let suffix : suffix_len test (drop n (map to_ascii_lowercase text)) ≡ suffix_len test (drop n text) =
    ap (λ l. suffix_len test l) (drop-map to_ascii_lowercase n text) ∙ suffix_folded test h (drop n text) in
    rw (prefix_folded test h text, suffix) (sym (without n (suffix_len test (drop n text)) text))

-- the delimiters at the ends of a text are the same in whatever case
pub trimmed_folded : (delims : Delims) (ci : Bool) (text : List ℕ)
    → folded ci (trimmed (is_delim delims) text) ≡ trimmed (is_delim delims) (folded ci text)
trimmed_folded delims true text = trimmed_lower (is_delim delims) (ignores delims) text
trimmed_folded delims false text = refl

-- ---- parts between delimiters

ended_lower : (test : ℕ → Bool) → IgnoresCase test → (text : List ℕ)
    → is_ended test (map to_ascii_lowercase text) ≡ is_ended test text
ended_lower test h [] = refl
ended_lower test h (b ∷ text) = h b

-- what ends before a place of a text and begins at another does so in whatever case
pub between_folded : (delims : Delims) (ci : Bool) (text : List ℕ) (start end : ℕ)
    → (is_ended (is_delim delims) (reverse (take start (folded ci text))) && is_ended (is_delim delims) (drop end (folded ci text)))
    ≡ (is_ended (is_delim delims) (reverse (take start text)) && is_ended (is_delim delims) (drop end text))
between_folded delims true text start end =
    ap₂ (λ p q. p && q)
    (ap (λ l. is_ended (is_delim delims) l)
    (ap (λ l. reverse l) (take-map to_ascii_lowercase start text) ∙ reverse_map to_ascii_lowercase (take start text))
    ∙ ended_lower (is_delim delims) (ignores delims) (reverse (take start text)))
    (ap (λ l. is_ended (is_delim delims) l) (drop-map to_ascii_lowercase end text)
    ∙ ended_lower (is_delim delims) (ignores delims) (drop end text))
between_folded delims false text start end = refl

-- a part that isn't empty is a component where it stands between delimiters
pub filled_component : (test : ℕ → Bool) (part text : List ℕ) → 0 < length part
    → is_component test part text ≡ is_delimited_part test part text
filled_component test [] text some = absurd (omega (arith, some))
filled_component test (b ∷ part) text some = refl

pub empty_component : (test : ℕ → Bool) (part text : List ℕ) → length part ≡ 0
    → is_component test part text ≡ false
empty_component test [] text none = refl
empty_component test (b ∷ part) text none = absurd (omega (arith, none))

-- a needle of the key that was trimmed first is a component where the trimmed key is
pub component_of_key : (delims : Delims) (ci : Bool) (key part text : List ℕ) (hit : Bool)
    → hit ≡ is_component (is_delim delims) part text
    → part ≡ folded ci (trimmed (is_delim delims) key)
    → hit ≡ is_component (is_delim delims) (trimmed (is_delim delims) (folded ci key)) text
component_of_key delims ci key part text hit is read =
    is ∙ ap (λ p. is_component (is_delim delims) p text) (read ∙ trimmed_folded delims ci key)
