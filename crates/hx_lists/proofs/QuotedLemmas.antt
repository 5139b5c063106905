-- A quoted string belongs to one piece, whole.
use Rattle.std.proofs.Common.{◌≡◌, ◌≢◌, ℕ, List, [], ◌∷◌, ◌++◌, refl, sym, ap, ◌∙◌, append_assoc, append-nil}
use Rattle.std.specs.List.{onto_first}
use Rattle.std.proofs.lemmas.Bool.{ne_eqb}
use Rattle.hx_lists.specs.HeaderValues.{Outside, Quoted, Escaped, hdr_pieces}
use Rattle.hx_lists.specs.HeaderScan.{pieces_from}
use Rattle.hx_lists.specs.HeaderValues.{pieces_with_prefix}
use Rattle.hx_lists.specs.Laws.{IsQuotedText, Nothing, Plain, Pair}
use Rattle.hx_lists.proofs.PieceLemmas.{pieces_from-kept, pieces_at-zero}
use Rattle.hx_lists.proofs.SplitLemmas.{onto_first-pieces_with_prefix}

pieces_with_prefix-one : (b : ℕ) (pieces : List (List ℕ))
    → onto_first b pieces ≡ pieces_with_prefix (b ∷ []) pieces
pieces_with_prefix-one b [] = refl
pieces_with_prefix-one b (piece ∷ pieces) = refl

pieces_with_prefix-append : (xs ys : List ℕ) (pieces : List (List ℕ))
    → pieces_with_prefix xs (pieces_with_prefix ys pieces) ≡ pieces_with_prefix (xs ++ ys) pieces
pieces_with_prefix-append xs ys [] = refl
pieces_with_prefix-append xs ys (piece ∷ pieces) =
    ap (λ first. first ∷ pieces) (sym (append_assoc xs ys piece))

-- what may stand within a quoted string stays within it
within : (text rest : List ℕ) → IsQuotedText text
    → pieces_from Quoted (text ++ rest) ≡ pieces_with_prefix text (pieces_from Quoted rest)
within text rest Nothing = sym (pieces_at-zero Quoted rest)
within text rest (Plain b more quote slash h) =
    pieces_from-kept Quoted b (more ++ rest) refl
    ∙ rw (ne_eqb b 92 slash, ne_eqb b 34 quote) (ap (onto_first b) (within more rest h))
    ∙ onto_first-pieces_with_prefix b more (pieces_from Quoted rest)
within text rest (Pair b more h) =
    pieces_from-kept Quoted 92 (b ∷ (more ++ rest)) refl
    ∙ ap (onto_first 92) (pieces_from-kept Escaped b (more ++ rest) refl ∙ ap (onto_first b)
    (within more rest h) ∙ onto_first-pieces_with_prefix b more (pieces_from Quoted rest))
    ∙ onto_first-pieces_with_prefix 92 (b ∷ more) (pieces_from Quoted rest)

opened : (text rest : List ℕ) → IsQuotedText text
    → hdr_pieces (34 ∷ (text ++ rest)) ≡ pieces_with_prefix (34 ∷ text) (pieces_from Quoted rest)
opened text rest h =
    pieces_from-kept Outside 34 (text ++ rest) refl
    ∙ ap (onto_first 34) (within text rest h)
    ∙ onto_first-pieces_with_prefix 34 text (pieces_from Quoted rest)

pub hdr_pieces-quoted : (text rest : List ℕ) → IsQuotedText text
    → hdr_pieces (34 ∷ (text ++ 34 ∷ rest))
    ≡ pieces_with_prefix (34 ∷ (text ++ 34 ∷ [])) (hdr_pieces rest)
hdr_pieces-quoted text rest h =
    opened text (34 ∷ rest) h
    ∙ ap (pieces_with_prefix (34 ∷ text)) (pieces_from-kept Quoted 34 rest refl ∙ pieces_with_prefix-one 34 (hdr_pieces rest))
    ∙ pieces_with_prefix-append (34 ∷ text) (34 ∷ []) (hdr_pieces rest)

pub hdr_pieces-unended : (text : List ℕ) → IsQuotedText text
    → hdr_pieces (34 ∷ text) ≡ (34 ∷ text) ∷ []
hdr_pieces-unended text h =
    ap (λ bytes. hdr_pieces (34 ∷ bytes)) (sym (append-nil text)) ∙ opened text [] h
    ∙ ap (λ bytes. (34 ∷ bytes) ∷ []) (append-nil text)

pub hdr_pieces-half_pair : (text : List ℕ) → IsQuotedText text
    → hdr_pieces (34 ∷ (text ++ 92 ∷ [])) ≡ (34 ∷ (text ++ 92 ∷ [])) ∷ []
hdr_pieces-half_pair text h = opened text (92 ∷ []) h

pub hdr_pieces-other : (b : ℕ) (rest : List ℕ) → b ≢ 34 → b ≢ 44
    → hdr_pieces (b ∷ rest) ≡ pieces_with_prefix (b ∷ []) (hdr_pieces rest)
hdr_pieces-other b rest quote comma =
    pieces_from-kept Outside b rest (ne_eqb b 44 comma)
    ∙ rw (ne_eqb b 34 quote) (pieces_with_prefix-one b (hdr_pieces rest))
