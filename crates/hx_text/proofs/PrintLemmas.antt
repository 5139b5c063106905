-- The parts of std's text of an IPv6 address, by cases.
use Rattle.std.proofs.Common.{◌≡◌, ℕ, ◌+◌, ◌/◌, ◌%◌, ◌<◌, ◌≤◌, true, false, List, [], ◌∷◌, ◌++◌, take, drop, arith, refl, append_assoc, subst, sym, ap, ◌∙◌, get_or}
use Rattle.std.proofs.lemmas.Bool.{lt-leb, le-leb, lt-ltb, le-ltb}
use Rattle.std.specs.Char.{digit_char}
use Rattle.std.specs.Net.Addr.{octets_of}
use Rattle.std.specs.Str.{bytes_eq}
use Rattle.std.specs.Prelude.{codes}
use Rattle.std.proofs.NetLemmas.Texts.{IsZeroRun-longest_zero_run, longest_zero_run_first}
use Rattle.hx_text.specs.Printing.{groups_of, is_mapped, IsZeroRun, IsFirstLongestRun}
use Rattle.std.specs.Net.Text.{dotted_text, ipv4_text, ipv6_text, hex, groups_text, longest_zero_run, hex_groups_text}

-- a group of one, two, three and four digits
pub hex_one : (n : ℕ) → n < 16 → hex n ≡ digit_char (n % 16) ∷ []
unfolding hex
hex_one n low =
    rw (
      lt-leb 0x1000 n (omega arith),
      lt-leb 0x100 n (omega arith),
      lt-leb 0x10 n (omega arith),
    ) refl

pub hex_two : (n : ℕ) → 16 ≤ n → n < 256
    → hex n ≡ digit_char (n / 16 % 16) ∷ digit_char (n % 16) ∷ []
unfolding hex
hex_two n high low =
    rw (lt-leb 0x1000 n (omega arith), lt-leb 0x100 n (omega arith), le-leb 0x10 n high) refl

pub hex_three : (n : ℕ) → 256 ≤ n → n < 4096
    → hex n ≡ digit_char (n / 256 % 16) ∷ digit_char (n / 16 % 16) ∷ digit_char (n % 16) ∷ []
unfolding hex
hex_three n high low = rw (lt-leb 0x1000 n (omega arith), le-leb 0x100 n high) refl

pub hex_four : (n : ℕ) → 4096 ≤ n
    → hex n ≡ digit_char (n / 4096) ∷ digit_char (n / 256 % 16) ∷ digit_char
    (n / 16 % 16) ∷ digit_char (n % 16) ∷ []
unfolding hex
hex_four n high = rw (le-leb 0x1000 n high) refl

-- by how many digits the group has
pub ruleset hex_cases = (hex_one, hex_two, hex_three, hex_four)

-- groups without a run that is compressed, and with one
pub plain_text : (groups : List ℕ) → (longest_zero_run groups).1 < 2
    → hex_groups_text groups ≡ groups_text groups
unfolding hex_groups_text
plain_text groups short = rw (le-ltb 1 (longest_zero_run groups).1 (omega arith)) refl

pub compressed : (groups : List ℕ) (run : ℕ × ℕ) → run ≡ longest_zero_run groups → 2 ≤ run.1
    → (line : List ℕ) → ((line ++ groups_text (take run.0 groups)) ++ 58 ∷ 58 ∷ []) ++ groups_text
    (drop (run.0 + run.1) groups) ≡ line ++ hex_groups_text groups
unfolding hex_groups_text
compressed groups run is_run long line =
    let long' : 2 ≤ (longest_zero_run groups).1 = subst (λ (r : ℕ × ℕ). 2 ≤ r.1) is_run long in
    rw (is_run, lt-ltb 1 (longest_zero_run groups).1 (omega arith)) (simp append_assoc)

-- an address with an IPv4 address at its end, and any other
pub mapped_text : (groups : List ℕ)
    → bytes_eq (take 6 groups) (0 ∷ 0 ∷ 0 ∷ 0 ∷ 0 ∷ 0xffff ∷ []) ≡ true
    → ipv6_text groups ≡ codes "::ffff:" ++ ipv4_text (octets_of (drop 6 groups))
unfolding ipv6_text
mapped_text groups is = rw is refl

pub other_text : (groups : List ℕ)
    → bytes_eq (take 6 groups) (0 ∷ 0 ∷ 0 ∷ 0 ∷ 0 ∷ 0xffff ∷ []) ≡ false
    → ipv6_text groups ≡ hex_groups_text groups
unfolding ipv6_text
other_text groups is_not = rw is_not refl

-- the same, as the code reads the groups
pub mapped_line : (address : ℕ) (groups : List ℕ) → groups ≡ groups_of address
    → is_mapped groups ≡ true
    → ([] ++ codes "::ffff:") ++ dotted_text (get_or groups 6 0 / 256) (get_or groups 6 0 % 256)
    (get_or groups 7 0 / 256) (get_or groups 7 0 % 256) ≡ ipv6_text (groups_of address)
mapped_line address groups e is =
    let is' : is_mapped (groups_of address) ≡ true = subst (λ gs. is_mapped gs ≡ true) e is in
    let P : List ℕ → Type 0 =
    λ gs. ([] ++ codes "::ffff:") ++ dotted_text (get_or gs 6 0 / 256) (get_or gs 6 0 % 256)
    (get_or gs 7 0 / 256) (get_or gs 7 0 % 256) ≡ ipv6_text (groups_of address) in
    subst P (sym e) (sym (mapped_text (groups_of address) is'))

pub other_line : (address : ℕ) (groups : List ℕ) → groups ≡ groups_of address
    → is_mapped groups ≡ false → [] ++ hex_groups_text groups ≡ ipv6_text (groups_of address)
other_line address groups e is_not =
    ap hex_groups_text e ∙ sym
    (other_text (groups_of address) (subst (λ gs. is_mapped gs ≡ false) e is_not))

-- the run that is written `::`
pub first_longest_run : (groups : List ℕ) → IsFirstLongestRun groups (longest_zero_run groups)
first_longest_run groups = record {
  zeros = IsZeroRun-longest_zero_run groups;
  longest = λ start len run. (longest_zero_run_first groups start len run).0;
  first = λ start run. (longest_zero_run_first groups start _ run).1 refl;
}

same_run : (groups : List ℕ) (run other : ℕ × ℕ) → IsFirstLongestRun groups run
    → IsFirstLongestRun groups other → run ≡ other
same_run groups run other a b =
    let len : run.1 ≡ other.1 =
    omega (arith, b.longest run.0 run.1 a.zeros, a.longest other.0 other.1 b.zeros) in
    let here : IsZeroRun groups other.0 run.1 =
    subst (λ n. IsZeroRun groups other.0 n) (sym len) b.zeros in
    let there : IsZeroRun groups run.0 other.1 =
    subst (λ n. IsZeroRun groups run.0 n) len a.zeros in
    let start : run.0 ≡ other.0 = omega (arith, a.first other.0 here, b.first run.0 there) in
    ap (λ s. (s, run.1)) start ∙ ap (λ n. (other.0, n)) len

-- the text of an address with a run that is compressed, and of one without
pub compressed_run : (groups : List ℕ) (run : ℕ × ℕ) → is_mapped groups ≡ false
    → IsFirstLongestRun groups run → 2 ≤ run.1
    → ipv6_text groups ≡ groups_text (take run.0 groups) ++ codes "::" ++ groups_text
    (drop (run.0 + run.1) groups)
compressed_run groups run other is long =
    other_text groups other ∙ sym
    (compressed groups run (same_run groups run (longest_zero_run groups) is
    (first_longest_run groups)) long [])

pub plain_groups : (groups : List ℕ) → is_mapped groups ≡ false
    → ((start len : ℕ) → IsZeroRun groups start len → len ≤ 1)
    → ipv6_text groups ≡ groups_text groups
plain_groups groups other short =
    let run = longest_zero_run groups in
    let most : run.1 ≤ 1 = short run.0 run.1 (first_longest_run groups).zeros in
    other_text groups other ∙ plain_text groups (omega (arith, most))
