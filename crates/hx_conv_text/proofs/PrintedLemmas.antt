-- A value that is printed has a text with a byte.
use Rattle.std.proofs.Common.{◌≡◌, ℕ, zero, suc, ◌/◌, ◌%◌, ◌==◌, ℤ, pos, negsuc, Bool, true, false, cond, List, [], ◌∷◌, ◌++◌, take, codes, decimal, nat_lt, bytes_eq, unwrap_or, refl}
use Rattle.std.specs.Fmt.{digits, digits_onto, digit_glyph, signed_decimal}
use Rattle.std.specs.Int.{w32, to_be_bytes}
use Rattle.std.specs.List.{flat_map}
use Rattle.std.specs.Net.Text.{compressed_text, groups_text, hex, hex_groups_text, ipv4_text, ipv6_text, longest_zero_run}
use Rattle.hx_text.specs.Address.{ip_text}
use Rattle.hx_text.specs.declared.address.Ip.{Ip}
use Rattle.hx_text.specs.declared.address.Ip.TheVariants.{V4, V6}
use Rattle.hx_text.specs.declared.kinds.Kind.TheVariants as kind
use Rattle.hx_sample.specs.Cast.{is_printed}
use Rattle.hx_sample.specs.declared.sample.Value.{Value}
use Rattle.hx_sample.specs.declared.sample.Value.TheVariants as value
use Rattle.hx_conv_text.specs.Converters.{cast_content}

-- both parts of nothing are nothing
both_empty : (xs ys : List ℕ) → xs ++ ys ≡ [] → (xs ≡ []) × (ys ≡ [])
both_empty [] ys none = (refl, none)
both_empty (x ∷ xs) ys none = absurd cc

-- what one of two texts is, by a test
either_some : (test : Bool) (xs ys : List ℕ) → (xs ≡ [] → ⊥) → (ys ≡ [] → ⊥) → cond test xs ys ≡ [] → ⊥
either_some true xs ys some other none = some none
either_some false xs ys some other none = other none

digits_onto_some : (k base : ℕ) (upper : Bool) (n x : ℕ) (acc : List ℕ) → digits_onto k base upper n (x ∷ acc) ≡ [] → ⊥
digits_onto_some zero base upper n x acc none = cc
digits_onto_some (suc k) base upper n x acc none =
    either_some (n / base == 0) (digit_glyph upper (n % base) ∷ x ∷ acc) (digits_onto k base upper (n / base) (digit_glyph upper (n % base) ∷ x ∷ acc))
    (λ no. cc) (digits_onto_some k base upper (n / base) (digit_glyph upper (n % base)) (x ∷ acc)) none

digits_some : (k base : ℕ) (upper : Bool) (n : ℕ) → digits_onto (suc k) base upper n [] ≡ [] → ⊥
digits_some k base upper n none =
    either_some (n / base == 0) (digit_glyph upper (n % base) ∷ []) (digits_onto k base upper (n / base) (digit_glyph upper (n % base) ∷ []))
    (λ no. cc) (digits_onto_some k base upper (n / base) (digit_glyph upper (n % base)) []) none

decimal_some : (n : ℕ) → decimal n ≡ [] → ⊥
unfolding digits
decimal_some n none = digits_some 63 10 false n none

number_some : (n : ℤ) → signed_decimal n ≡ [] → ⊥
number_some (pos n) none = decimal_some n none
number_some (negsuc n) none = cc

dotted_some : (a b c d : List ℕ) → a ++ codes "." ++ b ++ codes "." ++ c ++ codes "." ++ d ≡ [] → ⊥
dotted_some a b c d none =
    let front = both_empty (a ++ codes "." ++ b ++ codes "." ++ c ++ codes ".") d none in
    let dot = both_empty (a ++ codes "." ++ b ++ codes "." ++ c) (codes ".") front.0 in
    let no : codes "." ≡ [] = dot.1 in
    cc

ipv4_some : (octets : List ℕ) → ipv4_text octets ≡ [] → ⊥
ipv4_some octets none = dotted_some _ _ _ _ none

marked_some : (front mark end : List ℕ) → (mark ≡ [] → ⊥) → front ++ mark ++ end ≡ [] → ⊥
marked_some front mark end some none = some (both_empty front mark (both_empty (front ++ mark) end none).0).1

groups_some : (first second : ℕ) (rest : List ℕ) → groups_text (first ∷ second ∷ rest) ≡ [] → ⊥
groups_some first second rest none =
    let end = (both_empty (hex first) (flat_map (λ t. codes ":" ++ hex t) (second ∷ rest)) none).1 in
    let next = (both_empty (codes ":" ++ hex second) (flat_map (λ t. codes ":" ++ hex t) rest) end).0 in
    let colon : codes ":" ≡ [] = (both_empty (codes ":") (hex second) next).0 in
    cc

compressed_some : (first second : ℕ) (rest : List ℕ) (run : ℕ × ℕ) → compressed_text (first ∷ second ∷ rest) run ≡ [] → ⊥
compressed_some first second rest run none =
    either_some (nat_lt 1 run.1) _ _
    (marked_some (groups_text (take run.0 (first ∷ second ∷ rest))) (codes "::") _ (λ no. cc))
    (groups_some first second rest) none

ipv6_some : (first second : ℕ) (rest : List ℕ) → ipv6_text (first ∷ second ∷ rest) ≡ [] → ⊥
unfolding ipv6_text hex_groups_text
ipv6_some first second rest none =
    either_some (bytes_eq (take 6 (first ∷ second ∷ rest)) (0 ∷ 0 ∷ 0 ∷ 0 ∷ 0 ∷ 0xffff ∷ [])) _ _
    (λ no. let mark : codes "::ffff:" ≡ [] = (both_empty (codes "::ffff:") _ no).0 in cc)
    (compressed_some first second rest (longest_zero_run (first ∷ second ∷ rest))) none

address_some : (ip : Ip) → ip_text ip ≡ [] → ⊥
unfolding ip_text
address_some (V4 a) none = ipv4_some (to_be_bytes w32 a) none
address_some (V6 a) none = ipv6_some _ _ _ none

-- a value whose text is empty isn't printed
pub empty_not_printed : (v : Value) → unwrap_or (cast_content kind.Str v) [] ≡ [] → is_printed v kind.Str ≡ false
empty_not_printed (value.Bool b) none = refl
empty_not_printed (value.Int n) none = absurd (number_some n none)
empty_not_printed (value.Ip ip) none = absurd (address_some ip none)
empty_not_printed (value.Str text) none = refl
empty_not_printed (value.Bin bytes) none = refl
empty_not_printed (value.Method name) none = refl
