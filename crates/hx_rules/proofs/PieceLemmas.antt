-- The pieces of a header line, joined again one by one.
use Rattle.std.proofs.Common.{◌≡◌, ℕ, ◌<◌, Bool, true, false, List, [], ◌∷◌, ◌++◌, cond, length, map, refl, ap, sym, ◌∙◌, arith, append_assoc}
use Rattle.std.specs.Prelude.{is_some, ◌||◌}
use Rattle.std.specs.List.{join_with_byte, list_any, onto_first, slice_split}
use Rattle.std.proofs.lemmas.List.{length-map}
use Rattle.hx_base.specs.Bytes.{ascii}
use Rattle.hx_lists.specs.Blanks.{trim_blanks}
use Rattle.hx_lists.specs.HeaderValues.{bytes_with_quoting, hdr_pieces, is_cut, Outside}
use Rattle.hx_rules.specs.Rewrites.{piece_after, Replacement}

-- the line with its values replaced
abbrev pub joined : Replacement → List ℕ → List ℕ
joined replacement line = join_with_byte (ascii ",") (map (piece_after replacement) (hdr_pieces line))

-- whether one of its values is replaced
abbrev pub any_replaced : Replacement → List ℕ → Bool
any_replaced replacement line = list_any (λ piece. is_some (replacement (trim_blanks piece))) (hdr_pieces line)

-- ---- there is a piece

one_more : {X : Type 0} (cut : Bool) (x : X) (rest : List (List X)) → 0 < length (cond cut ([] ∷ rest) (onto_first x rest))
one_more true x rest = omega arith
one_more false x [] = omega arith
one_more false x (first ∷ rest) = omega arith

some_piece : {X : Type 0} (p : X → Bool) (xs : List X) → 0 < length (slice_split p xs)
some_piece p [] = omega arith
some_piece p (x ∷ xs) = one_more (p x) x (slice_split p xs)

join_cons : (c : ℕ) (piece : List ℕ) (pieces : List (List ℕ)) → 0 < length pieces
    → join_with_byte c (piece ∷ pieces) ≡ piece ++ (c ∷ join_with_byte c pieces)
join_cons c piece [] some = absurd (omega arith)
join_cons c piece (next ∷ pieces) some = refl

some_replaced : (replacement : Replacement) (line : List ℕ) → 0 < length (map (piece_after replacement) (hdr_pieces line))
some_replaced replacement line =
    rw length-map (rw length-map (some_piece is_cut (bytes_with_quoting Outside line)))

-- ---- steps

-- a piece with a comma after it
pub text_more : (replacement : Replacement) (text rest more piece whole : List ℕ)
    → text ++ joined replacement rest ≡ whole → hdr_pieces rest ≡ piece ∷ hdr_pieces more
    → ((text ++ piece_after replacement piece) ++ ascii "," ∷ []) ++ joined replacement more ≡ whole
text_more replacement text rest more piece whole same is =
    append_assoc (text ++ piece_after replacement piece) (ascii "," ∷ []) (joined replacement more)
    ∙ append_assoc text (piece_after replacement piece) (ascii "," ∷ joined replacement more)
    ∙ ap (λ end. text ++ end) (sym (ap (λ pieces. join_with_byte (ascii ",") (map (piece_after replacement) pieces)) is
    ∙ join_cons (ascii ",") (piece_after replacement piece) (map (piece_after replacement) (hdr_pieces more)) (some_replaced replacement more)))
    ∙ same

or_assoc : (a b c : Bool) → ((a || b) || c) ≡ (a || (b || c))
or_assoc true b c = refl
or_assoc false b c = refl

pub changed_more : (replacement : Replacement) (changed whole : Bool) (rest more piece : List ℕ)
    → (changed || any_replaced replacement rest) ≡ whole → hdr_pieces rest ≡ piece ∷ hdr_pieces more
    → ((changed || is_some (replacement (trim_blanks piece))) || any_replaced replacement more) ≡ whole
changed_more replacement changed whole rest more piece same is =
    or_assoc changed (is_some (replacement (trim_blanks piece))) (any_replaced replacement more)
    ∙ sym (ap (λ pieces. changed || list_any (λ piece. is_some (replacement (trim_blanks piece))) pieces) is)
    ∙ same
