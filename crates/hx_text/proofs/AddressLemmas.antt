-- What the readers of addresses answer, in the words of `specs/Address.antt`.
use Rattle.std.proofs.Common.{◌≡◌, ℕ, suc, ◌<◌, ◌≤◌, Bool, true, false, if◌then◌else◌, ◌==◌, ◌&&◌, eqb, List, [], ◌∷◌, ◌++◌, length, get_or, take, drop, Option, Some, None, All, refl, sym, ap, ◌∙◌, arith, take-append-drop, drop-cons, length-take-le, length-drop, add-one, cond, leb, ◌+◌}
use Rattle.std.proofs.lemmas.Str.Parse.{digit_at}
use Rattle.std.specs.Option.{option_and_then}
use Rattle.std.specs.Int.{w32, from_be_bytes}
use Rattle.std.specs.List.{cons_option, filter_map, join_with_byte}
use Rattle.std.proofs.lemmas.Bool.{false_from_ne_true, ne_eqb}
use Rattle.std.proofs.lemmas.List.{get_or-take, get_or-drop, take_more}
use Rattle.std.proofs.lemmas.List.Elements.{All-head, All-tail, All-from_get_or}
use Rattle.std.proofs.lemmas.List.Splits.{slice_split_at, slice_split_none, join_with_byte-slice_split}
use Rattle.memchr.specs.Find.{is_byte, Passes, Nowhere}
use Rattle.hx_text.specs.Number.{number_up_to}
use Rattle.hx_text.specs.Address.{octet_of, four_octets, dotted_of}
use Rattle.hx_text.specs.Cut.{pieces, cut_of, last_cut_of}
use Rattle.hx_text.proofs.NumberLemmas.{IsDigits, own, up_to_has_digits}

-- ---- a text cut at a byte

abbrev pub IsOther : ℕ → ℕ → Type 0
IsOther byte b = eqb b byte ≡ false

-- the text round the first byte of the value that is sought
split_at_offset : (byte at : ℕ) (text : List ℕ) → at < length text
    → Nowhere (Passes (is_byte byte) text) 0 at → All (IsOther byte) (take at text)
    × ((text ≡ take at text ++ get_or text at 0 ∷ drop (suc at) text)
    × (drop 1 (drop at text) ≡ drop (suc at) text))
split_at_offset byte at text within before =
    let len = length-take-le at text (omega arith) in
    let prefix : All (IsOther byte) (take at text) =
    All-from_get_or (IsOther byte) (take at text) 0
    (λ k h. let below : k < at = omega arith in rw (get_or-take at text k 0 below)
    (false_from_ne_true _ (before k (omega arith) below))) in
    let whole : text ≡ take at text ++ get_or text at 0 ∷ drop (suc at) text =
    sym (ap (λ t. take at text ++ t) (sym (drop-cons text at 0 within))
    ∙ take-append-drop at text) in
    (prefix, (whole, ap (drop 1) (drop-cons text at 0 within)))

no_such_byte : (byte : ℕ) (text : List ℕ) → Nowhere (Passes (is_byte byte) text) 0 (length text)
    → All (IsOther byte) text
no_such_byte byte text never =
    All-from_get_or (IsOther byte) text 0 (λ k h. false_from_ne_true _ (never k (omega arith) h))

pub pieces_at_offset : (byte at : ℕ) (text : List ℕ) → at < length text
    → Nowhere (Passes (is_byte byte) text) 0 at → eqb (get_or text at 0) byte ≡ true
    → pieces byte text ≡ take at text ∷ pieces byte (drop 1 (drop at text))
pieces_at_offset byte at text within before found =
    let split = split_at_offset byte at text within before in
    rw split.1.1 (ap (pieces byte) split.1.0
    ∙ slice_split_at (λ b. eqb b byte) (take at text) (get_or text at 0) (drop (suc at) text)
    split.0 found)

pub cut_nowhere : (byte : ℕ) (text : List ℕ) → Nowhere (Passes (is_byte byte) text) 0 (length text)
    → pieces byte text ≡ text ∷ []
cut_nowhere byte text never = slice_split_none (λ b. eqb b byte) text (no_such_byte byte text never)

cut_of-append : (byte : ℕ) (prefix : List ℕ) (b : ℕ) (back : List ℕ) → All (IsOther byte) prefix
    → eqb b byte ≡ true → cut_of byte (prefix ++ b ∷ back) ≡ Some (prefix, back)
cut_of-append byte [] b back other is = rw is refl
cut_of-append byte (x ∷ prefix) b back other is =
    rw (
      All-head (IsOther byte) x prefix other,
      cut_of-append byte prefix b back (All-tail (IsOther byte) x prefix other) is,
    ) refl

cut_of_none : (byte : ℕ) (text : List ℕ) → All (IsOther byte) text → cut_of byte text ≡ None
cut_of_none byte [] other = refl
cut_of_none byte (x ∷ text) other =
    rw (
      All-head (IsOther byte) x text other,
      cut_of_none byte text (All-tail (IsOther byte) x text other),
    ) refl

pub cut_of_at_offset : (byte at : ℕ) (text : List ℕ) → at < length text
    → Nowhere (Passes (is_byte byte) text) 0 at → eqb (get_or text at 0) byte ≡ true
    → cut_of byte text ≡ Some (take at text, drop 1 (drop at text))
cut_of_at_offset byte at text within before found =
    let split = split_at_offset byte at text within before in
    rw split.1.1 (ap (cut_of byte) split.1.0
    ∙ cut_of-append byte (take at text) (get_or text at 0) (drop (suc at) text) split.0 found)

pub cut_of_nowhere : (byte : ℕ) (text : List ℕ)
    → Nowhere (Passes (is_byte byte) text) 0 (length text) → cut_of byte text ≡ None
cut_of_nowhere byte text never = cut_of_none byte text (no_such_byte byte text never)

-- the last such byte

pub last_cut_of_none : (byte : ℕ) (text : List ℕ) → All (IsOther byte) text
    → last_cut_of byte text ≡ None
last_cut_of_none byte [] other = refl
last_cut_of_none byte (x ∷ text) other =
    rw (
      last_cut_of_none byte text (All-tail (IsOther byte) x text other),
      All-head (IsOther byte) x text other,
    ) refl

pub last_cut_of-append : (byte : ℕ) (prefix : List ℕ) (b : ℕ) (back : List ℕ) → eqb b byte ≡ true
    → All (IsOther byte) back → last_cut_of byte (prefix ++ b ∷ back) ≡ Some (
      prefix ++ b ∷ [],
      back,
    )
last_cut_of-append byte [] b back is other = rw (last_cut_of_none byte back other, is) refl
last_cut_of-append byte (x ∷ prefix) b back is other =
    rw (last_cut_of-append byte prefix b back is other) refl

pub last_cut_of_at_offset : (byte at : ℕ) (text : List ℕ) → at < length text
    → Nowhere (Passes (is_byte byte) text) (at + 1) (length text)
    → eqb (get_or text at 0) byte ≡ true → last_cut_of byte text ≡ Some (
      take (at + 1) text,
      drop (at + 1) text,
    )
last_cut_of_at_offset byte at text within after found =
    let len = length-drop (at + 1) text in
    let back : All (IsOther byte) (drop (at + 1) text) =
    All-from_get_or (IsOther byte) (drop (at + 1) text) 0
    (λ k h. rw (get_or-drop (at + 1) text k 0)
    (false_from_ne_true _ (after (at + 1 + k) (omega arith) (omega arith)))) in
    let whole : text ≡ take at text ++ get_or text at 0 ∷ drop (at + 1) text =
    sym (ap (λ t. take at text ++ t) (rw add-one (sym (drop-cons text at 0 within)))
    ∙ take-append-drop at text) in
    let prefix : take (at + 1) text ≡ take at text ++ get_or text at 0 ∷ [] =
    take_more text at 0 within in
    rw prefix (ap (last_cut_of byte) whole
    ∙ last_cut_of-append byte (take at text) (get_or text at 0) (drop (at + 1) text) found back)

pub last_cut_of_nowhere : (byte : ℕ) (text : List ℕ)
    → Nowhere (Passes (is_byte byte) text) 0 (length text) → last_cut_of byte text ≡ None
last_cut_of_nowhere byte text never = last_cut_of_none byte text (no_such_byte byte text never)

-- ---- four octets

after_none : {A B : Type 0} (o : Option A) (f : A → Option B) → ((x : A) → f x ≡ None)
    → option_and_then f o ≡ None
after_none None f h = refl
after_none (Some x) f h = h x

pub kept_some : (b : Bool) (o : Option ℕ) (n : ℕ) → cond b o None ≡ Some n → o ≡ Some n
kept_some true o n e = e
kept_some false o n e = cc

-- four octets, one after the other
abbrev pub octet_by_octet : List (List ℕ) → Option ℕ
octet_by_octet (p ∷ q ∷ r ∷ s ∷ []) =
    option_and_then (λ a. option_and_then (λ b. option_and_then (λ c. option_and_then
    (λ d. Some (from_be_bytes w32 (a ∷ b ∷ c ∷ d ∷ []))) (octet_of s)) (octet_of r))
    (octet_of q)) (octet_of p)
octet_by_octet _ = None

one_more : (o : Option ℕ) (octets : List ℕ) → length (cons_option o octets) ≤ 1 + length octets
one_more None octets = omega arith
one_more (Some a) octets = omega arith

less_than_four : (octets : List ℕ) → length octets ≤ 3
    → (if length octets == 4 then Some (from_be_bytes w32 octets) else None) ≡ None
less_than_four octets few = let other : (length octets == 4) ≡ false = grind arith in
    ap (λ b. if b then Some (from_be_bytes w32 octets) else None) other

four_values : (o p q r : Option ℕ) → let octets =
    cons_option o (cons_option p (cons_option q (cons_option r []))) in
    (if length octets == 4 then Some (from_be_bytes w32 octets) else None) ≡ option_and_then
    (λ a. option_and_then (λ b. option_and_then (λ c. option_and_then
    (λ d. Some (from_be_bytes w32 (a ∷ b ∷ c ∷ d ∷ []))) r) q) p) o
four_values None p q r =
    less_than_four (cons_option p (cons_option q (cons_option r [])))
    (omega (
      arith,
      one_more p (cons_option q (cons_option r [])),
      one_more q (cons_option r []),
      one_more r [],
    ))
four_values (Some a) None q r =
    less_than_four (a ∷ cons_option q (cons_option r []))
    (omega (arith, one_more q (cons_option r []), one_more r []))
four_values (Some a) (Some b) None r =
    less_than_four (a ∷ b ∷ cons_option r []) (omega (arith, one_more r []))
four_values (Some a) (Some b) (Some c) None = refl
four_values (Some a) (Some b) (Some c) (Some d) = refl

more_than_four : (n : ℕ) → (suc (suc (suc (suc (suc n)))) == 4) ≡ false
more_than_four n = grind arith

pub four_octets_are : (parts : List (List ℕ)) → four_octets parts ≡ octet_by_octet parts
four_octets_are [] = refl
four_octets_are (p ∷ []) = refl
four_octets_are (p ∷ q ∷ []) = refl
four_octets_are (p ∷ q ∷ r ∷ []) = refl
four_octets_are (p ∷ q ∷ r ∷ s ∷ []) =
    four_values (octet_of p) (octet_of q) (octet_of r) (octet_of s)
four_octets_are (p ∷ q ∷ r ∷ s ∷ t ∷ more) = let parts = p ∷ q ∷ r ∷ s ∷ t ∷ more in
    ap (λ b. if b && length (filter_map octet_of parts) == 4
    then Some (from_be_bytes w32 (filter_map octet_of parts)) else None)
    (more_than_four (length more))

-- a text of digits has no byte below them
pub no_byte : (byte : ℕ) → byte < 48 → (text : List ℕ) → IsDigits text → All (IsOther byte) text
no_byte byte low text digits =
    All-from_get_or (IsOther byte) text 0
    (λ k h. let d = digit_at text k (own.to text digits) h in ne_eqb (get_or text k 0) byte
    (omega arith))

pub dotted_one : (text : List ℕ) → pieces 46 text ≡ text ∷ [] → None ≡ dotted_of text
unfolding dotted_of
dotted_one text one = rw one refl

pub dotted_two : (text p rest : List ℕ) → pieces 46 text ≡ p ∷ pieces 46 rest
    → pieces 46 rest ≡ rest ∷ [] → None ≡ dotted_of text
unfolding dotted_of
dotted_two text p rest first two = rw (first, two) refl

pub dotted_three : (text p rest q last : List ℕ) → pieces 46 text ≡ p ∷ pieces 46 rest
    → pieces 46 rest ≡ q ∷ pieces 46 last → pieces 46 last ≡ last ∷ [] → None ≡ dotted_of text
unfolding dotted_of
dotted_three text p rest q last first second three = rw (first, second, three) refl

-- an octet has no dot
octet_one_piece : (piece : List ℕ) (n : ℕ) → octet_of piece ≡ Some n → pieces 46 piece ≡ piece ∷ []
unfolding octet_of
octet_one_piece piece n e =
    let read : number_up_to 255 piece ≡ Some n = kept_some (leb (length piece) 3) _ _ e in
    slice_split_none (λ b. eqb b 46) piece
    (no_byte 46 (omega arith) piece (up_to_has_digits 255 piece n read))

-- a last piece that is no octet leaves no address
no_last : (p q r : List ℕ) (parts : List (List ℕ)) (s : List ℕ) → join_with_byte 46 parts ≡ s
    → octet_of s ≡ None → octet_by_octet (p ∷ q ∷ r ∷ parts) ≡ None
no_last p q r [] s joined none = refl
no_last p q r (t ∷ []) s joined none =
    let last : octet_of t ≡ None = ap octet_of joined ∙ none in
    after_none (octet_of p) _
    (λ a. after_none (octet_of q) _ (λ b. after_none (octet_of r) _ (λ c. rw last)))
no_last p q r (t ∷ u ∷ more) s joined none = refl

last_piece : (p q r s : List ℕ) (o : Option ℕ) → octet_of s ≡ o
    → octet_by_octet (p ∷ q ∷ r ∷ s ∷ []) ≡ octet_by_octet (p ∷ q ∷ r ∷ pieces 46 s)
last_piece p q r s (Some n) e =
    ap (λ ps. octet_by_octet (p ∷ q ∷ r ∷ ps)) (sym (octet_one_piece s n e))
last_piece p q r s None e =
    no_last p q r (s ∷ []) s refl e
    ∙ sym (no_last p q r (pieces 46 s) s (join_with_byte-slice_split 46 s) e)

pub dotted_four : (text p rest q last r s : List ℕ) → pieces 46 text ≡ p ∷ pieces 46 rest
    → pieces 46 rest ≡ q ∷ pieces 46 last → pieces 46 last ≡ r ∷ pieces 46 s
    → four_octets (p ∷ q ∷ r ∷ s ∷ []) ≡ dotted_of text
unfolding dotted_of
dotted_four text p rest q last r s first second third =
    rw (first, second, third) (four_octets_are (p ∷ q ∷ r ∷ s ∷ [])
    ∙ last_piece p q r s (octet_of s) refl
    ∙ sym (four_octets_are (p ∷ q ∷ r ∷ pieces 46 s)))

-- by how many dots the text has
pub ruleset dotted_cases = (dotted_one, dotted_two, dotted_three, dotted_four)
