-- Texts without line feeds, and the last line of a text.
use Rattle.std.proofs.Common.{◌≡◌, ℕ, zero, suc, ◌+◌, ◌-◌, ◌<◌, ◌/◌, ◌%◌, ◌==◌, false, List, [], ◌∷◌, ◌++◌, get_or, take, length, None, Some, refl, sym, ◌∙◌, ap, append_assoc, length-append, arith, inl, inr}
use Rattle.std.specs.List.{list_any}
use Rattle.std.specs.Fmt.{decimal, digit_glyph, digits, digits_onto}
use Rattle.std.specs.Int.{to_be_bytes, w64}
use Rattle.std.proofs.lemmas.Bool.{lt-ltb, ne_eqb, true≢false, cases_Bool, cases_lt}
use Rattle.std.proofs.lemmas.List.{get_or-append_right}
use Rattle.std.proofs.Math.Seq.{get_or-append_seam, take-append_seam}
use Rattle.memchr.specs.Find.{IsLastByte, is_byte}
use Rattle.hex.specs.Hex.{encode_with, lower_digits}
use Rattle.hx_cli.specs.Replies.{number_text}
use Rattle.hx_http.proofs.CutLemmas.{neither}
use Rattle.hx_diff.specs.AnswerView.{AreLines, HasLastLine, LacksLineFeed}

pub lacks_both : (first second : List ℕ) → LacksLineFeed first → LacksLineFeed second → LacksLineFeed (first ++ second)
lacks_both [] second one other = other
lacks_both (b ∷ first) second one other =
    let parts = neither (b == 10) (list_any (λ x. x == 10) first) one in rw parts.0 (lacks_both first second parts.1 other)

lacks_at : (text : List ℕ) (k : ℕ) → LacksLineFeed text → (get_or text k 0 == 10) ≡ false
lacks_at [] k lacks = refl
lacks_at (b ∷ text) zero lacks = (neither (b == 10) (list_any (λ x. x == 10) text) lacks).0
lacks_at (b ∷ text) (suc k) lacks = lacks_at text k (neither (b == 10) (list_any (λ x. x == 10) text) lacks).1

-- ---- numbers

glyph_lacks : (n : ℕ) → (digit_glyph false (n % 10) == 10) ≡ false
glyph_lacks n =
    let small : n % 10 < 10 = omega arith in
    rw (lt-ltb (n % 10) 10 small) (ne_eqb (48 + n % 10) 10 (λ same. omega (arith, same)))

onto_lacks : (k n : ℕ) (bs : List ℕ) → LacksLineFeed bs → LacksLineFeed (digits_onto k 10 false n bs)
onto_lacks zero n bs lacks = lacks
onto_lacks (suc k) n bs lacks = elim (cases_Bool (n / 10 == 0)) [
  | inl last ↦ rw last (rw (glyph_lacks n) lacks)
  | inr more ↦ rw more (onto_lacks k (n / 10) (digit_glyph false (n % 10) ∷ bs) (rw (glyph_lacks n) lacks))
]

pub decimal_lacks : (n : ℕ) → LacksLineFeed (decimal n)
unfolding digits
decimal_lacks n = onto_lacks 64 n [] refl

encoded_lacks : (table bytes : List ℕ) → LacksLineFeed table → LacksLineFeed (encode_with table bytes)
unfolding encode_with
encoded_lacks table [] lacks = refl
encoded_lacks table (b ∷ bytes) lacks =
    rw (lacks_at table (b / 16) lacks, lacks_at table (b % 16) lacks) (encoded_lacks table bytes lacks)

pub number_lacks : (n : ℕ) → LacksLineFeed (number_text n)
number_lacks n = encoded_lacks lower_digits (to_be_bytes w64 n) refl

-- ---- the last line

-- the last line feed before the last line
seam_is : (others last : List ℕ) (at : ℕ) → LacksLineFeed last → IsLastByte (is_byte 10) (others ++ 10 ∷ last) (Some at) → at ≡ length others
seam_is others last at lacks is = elim (cases_lt at (length others)) [
  | inl before ↦
      let whole : length (others ++ 10 ∷ last) ≡ length others + suc (length last) = length-append others (10 ∷ last) in
      absurd (is.0.after (length others) (omega (arith, before)) (omega (arith, whole)) (rw (get_or-append_seam others 10 last 0) refl))
  | inr from ↦ elim (cases_lt (length others) at) [
    | inl further ↦
        let rest : get_or (others ++ 10 ∷ last) at 0 ≡ get_or (10 ∷ last) (at - length others) 0 =
        get_or-append_right others (10 ∷ last) (length others) at 0 refl (omega (arith, further)) in
        let next : at - length others ≡ suc (at - length others - 1) = omega (arith, further) in
        let own : get_or (others ++ 10 ∷ last) at 0 ≡ get_or last (at - length others - 1) 0 =
        rest ∙ ap (λ n. get_or (10 ∷ last) n 0) next in
        absurd (true≢false (sym (rw own at is.1) ∙ lacks_at last (at - length others - 1) lacks))
    | inr same ↦ omega (arith, from, same)
  ]
]

taken : (text last : List ℕ) (end : ℕ) → end + 1 ≡ length (text ++ (last ++ 10 ∷ [])) → take end (text ++ (last ++ 10 ∷ [])) ≡ text ++ last
taken text last end is =
    let len : length (text ++ last ++ 10 ∷ []) ≡ length (text ++ last) + 1 = length-append (text ++ last) (10 ∷ []) in
    let same : end ≡ length (text ++ last) = omega (arith, len, rw (sym (append_assoc text last (10 ∷ []))) at is) in
    rw (sym (append_assoc text last (10 ∷ [])), same) (take-append_seam (text ++ last) (10 ∷ []))

none_there : (last : List ℕ) (at : ℕ) → LacksLineFeed last → IsLastByte (is_byte 10) last (Some at) → ⊥
none_there last at lacks is = true≢false (sym is.1 ∙ lacks_at last at lacks)

found_in : (lines last : List ℕ) (at : ℕ) → AreLines lines → LacksLineFeed last → IsLastByte (is_byte 10) (lines ++ last) (Some at)
    → take (at + 1) (lines ++ (last ++ 10 ∷ [])) ≡ lines
found_in lines last at (inl none) lacks is = absurd (none_there last at lacks (rw none at is))
found_in lines last at (inr (others, are)) lacks is =
    let same : at ≡ length others = seam_is others last at lacks (rw (are, append_assoc others (10 ∷ []) last) at is) in
    let len : length (others ++ 10 ∷ []) ≡ length others + 1 = length-append others (10 ∷ []) in
    let there : at + 1 ≡ length (others ++ 10 ∷ []) = omega (arith, same, len) in
    rw (are, there) (take-append_seam (others ++ 10 ∷ []) (last ++ 10 ∷ []))

-- what stands before the last line, up to the line feed that is found
pub before_last : (lines text : List ℕ) (end at : ℕ) → HasLastLine lines text → end + 1 ≡ length text → IsLastByte (is_byte 10) (take end text) (Some at)
    → take (at + 1) text ≡ lines
before_last lines text end at h len is =
    rw h.whole (found_in lines h.last at h.are_lines h.lacks
    (rw (h.whole, taken lines h.last end (rw h.whole at len)) at is))

missed_in : (lines last : List ℕ) → AreLines lines → IsLastByte (is_byte 10) (lines ++ last) None → [] ≡ lines
missed_in lines last (inl none) is = sym none
missed_in lines last (inr (others, are)) is =
    let whole : length (others ++ 10 ∷ last) ≡ length others + suc (length last) = length-append others (10 ∷ last) in
    absurd ((rw (are, append_assoc others (10 ∷ []) last) at is) (length others) (omega arith) (omega (arith, whole))
    (rw (get_or-append_seam others 10 last 0) refl))

-- and where none is found, that is the only line
pub alone : (lines text : List ℕ) (end : ℕ) → HasLastLine lines text → end + 1 ≡ length text → IsLastByte (is_byte 10) (take end text) None → [] ≡ lines
alone lines text end h len is =
    missed_in lines h.last h.are_lines (rw (h.whole, taken lines h.last end (rw h.whole at len)) at is)
