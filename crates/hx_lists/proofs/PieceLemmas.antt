-- The pieces of a header line, byte by byte.
use Rattle.std.proofs.Common.{◌≡◌, ◌≢◌, ℕ, ◌+◌, ◌<◌, ◌≤◌, true, false, List, [], ◌∷◌, ◌++◌, map, length, get_or, take, drop, refl, sym, ap, ◌∙◌, inl, inr, append_assoc, append-nil, arith}
use Rattle.std.specs.List.{slice_split, onto_first}
use Rattle.std.proofs.lemmas.Bool.{cases_Bool, cases_lt, ne_eqb}
use Rattle.std.proofs.lemmas.List.{drop_more, drop_all, take_all, take_more}
use Rattle.std.proofs.lemmas.List.Splits.{slice_split-cons_yes, slice_split-cons_no}
use Rattle.hx_lists.specs.HeaderValues.{Quoting, Outside, Quoted, Escaped, quoting_after, bytes_with_quoting, is_cut, hdr_pieces}
use Rattle.hx_lists.specs.HeaderScan.{pieces_from, pieces_at}
use Rattle.hx_lists.specs.HeaderValues.{pieces_with_prefix}

map-onto_first : {A B : Type 0} (f : A → B) (x : A) (parts : List (List A))
    → map (map f) (onto_first x parts) ≡ onto_first (f x) (map (map f) parts)
map-onto_first f x [] = refl
map-onto_first f x (part ∷ parts) = refl

pub pieces_from-cut : (q : Quoting) (b : ℕ) (bs : List ℕ) → is_cut (q, b) ≡ true
    → pieces_from q (b ∷ bs) ≡ [] ∷ pieces_from (quoting_after q b) bs
pieces_from-cut q b bs e =
    ap (map (map (λ byte. byte.1))) (slice_split-cons_yes is_cut (q, b)
    (bytes_with_quoting (quoting_after q b) bs) e)

pub pieces_from-kept : (q : Quoting) (b : ℕ) (bs : List ℕ) → is_cut (q, b) ≡ false
    → pieces_from q (b ∷ bs) ≡ onto_first b (pieces_from (quoting_after q b) bs)
pieces_from-kept q b bs e =
    ap (map (map (λ byte. byte.1))) (slice_split-cons_no is_cut (q, b)
    (bytes_with_quoting (quoting_after q b) bs) e)
    ∙ map-onto_first (λ byte. byte.1) (q, b) (slice_split is_cut
    (bytes_with_quoting (quoting_after q b) bs))

pieces_with_prefix-onto_first : (xs : List ℕ) (b : ℕ) (pieces : List (List ℕ))
    → pieces_with_prefix xs (onto_first b pieces) ≡ pieces_with_prefix (xs ++ b ∷ []) pieces
pieces_with_prefix-onto_first xs b [] = refl
pieces_with_prefix-onto_first xs b (piece ∷ pieces) =
    ap (λ first. first ∷ pieces) (sym (append_assoc xs (b ∷ []) piece))

pieces_with_prefix-nil : (b : ℕ) (pieces : List (List ℕ))
    → pieces_with_prefix [] (onto_first b pieces) ≡ onto_first b pieces
pieces_with_prefix-nil b [] = refl
pieces_with_prefix-nil b (piece ∷ pieces) = refl

-- nothing put before the pieces changes nothing
pub pieces_at-zero : (q : Quoting) (line : List ℕ) → pieces_at q line 0 ≡ pieces_from q line
pieces_at-zero q [] = refl
pieces_at-zero q (b ∷ bs) =
    elim (cases_Bool (is_cut (q, b))) [
      | inl cut ↦ rw (pieces_from-cut q b bs cut)
      | inr kept ↦ rw (pieces_from-kept q b bs kept) (pieces_with_prefix-nil b
          (pieces_from (quoting_after q b) bs))
    ]

-- a byte at which no piece ends goes to the first piece
pieces_at-kept : (q : Quoting) (line : List ℕ) (i : ℕ) → i < length line
    → is_cut (q, get_or line i 0) ≡ false
    → pieces_at q line i ≡ pieces_at (quoting_after q (get_or line i 0)) line (i + 1)
pieces_at-kept q line i lt e =
    let b = get_or line i 0 in
    let after = pieces_from (quoting_after q b) (drop (i + 1) line) in
    ap (λ rest. pieces_with_prefix (take i line) (pieces_from q rest)) (drop_more line i 0 lt)
    ∙ ap (pieces_with_prefix (take i line)) (pieces_from-kept q b (drop (i + 1) line) e)
    ∙ pieces_with_prefix-onto_first (take i line) b after
    ∙ ap (λ prefix. pieces_with_prefix prefix after) (sym (take_more line i 0 lt))

-- a comma outside quoted strings ends the first piece
pub pieces_at-comma : (line : List ℕ) (i : ℕ) → i < length line → get_or line i 0 ≡ 44
    → pieces_at Outside line i ≡ take i line ∷ hdr_pieces (drop (i + 1) line)
pieces_at-comma line i lt e =
    ap (λ rest. pieces_with_prefix (take i line) (pieces_from Outside rest))
    (drop_more line i 0 lt ∙ ap (λ b. b ∷ drop (i + 1) line) e)
    ∙ ap (λ first. first ∷ hdr_pieces (drop (i + 1) line)) (append-nil (take i line))

pub pieces_at-opens : (line : List ℕ) (i : ℕ) → i < length line → get_or line i 0 ≡ 34
    → pieces_at Outside line i ≡ pieces_at Quoted line (i + 1)
pieces_at-opens line i lt e =
    pieces_at-kept Outside line i lt (ap (λ b. is_cut (Outside, b)) e)
    ∙ ap (λ b. pieces_at (quoting_after Outside b) line (i + 1)) e

pub pieces_at-outside : (line : List ℕ) (i : ℕ) → i < length line → get_or line i 0 ≢ 44
    → get_or line i 0 ≢ 34 → pieces_at Outside line i ≡ pieces_at Outside line (i + 1)
pieces_at-outside line i lt comma quote =
    pieces_at-kept Outside line i lt (ne_eqb _ _ comma) ∙ rw (ne_eqb _ _ quote)

pub pieces_at-closes : (line : List ℕ) (i : ℕ) → i < length line → get_or line i 0 ≡ 34
    → pieces_at Quoted line i ≡ pieces_at Outside line (i + 1)
pieces_at-closes line i lt e =
    pieces_at-kept Quoted line i lt refl
    ∙ ap (λ b. pieces_at (quoting_after Quoted b) line (i + 1)) e

pub pieces_at-within : (line : List ℕ) (i : ℕ) → i < length line → get_or line i 0 ≢ 34
    → get_or line i 0 ≢ 92 → pieces_at Quoted line i ≡ pieces_at Quoted line (i + 1)
pieces_at-within line i lt quote slash =
    pieces_at-kept Quoted line i lt refl ∙ rw (ne_eqb _ _ slash, ne_eqb _ _ quote)

-- past the line's end no byte is left to cut at
pub pieces_at-end : (q : Quoting) (line : List ℕ) (i : ℕ) → length line ≤ i
    → pieces_at q line i ≡ line ∷ []
pieces_at-end q line i le =
    ap (λ rest. pieces_with_prefix (take i line) (pieces_from q rest)) (drop_all i line le)
    ∙ ap (λ first. first ∷ []) (append-nil (take i line) ∙ take_all i line le)

pub pieces_at-pair : (line : List ℕ) (i : ℕ) → i < length line → get_or line i 0 ≡ 92
    → pieces_at Quoted line i ≡ pieces_at Quoted line (i + 2)
pieces_at-pair line i lt e =
    let escaped : pieces_at Quoted line i ≡ pieces_at Escaped line (i + 1) =
    pieces_at-kept Quoted line i lt refl
    ∙ ap (λ b. pieces_at (quoting_after Quoted b) line (i + 1)) e in
    escaped
    ∙ elim (cases_lt (i + 1) (length line)) [
      | inl more ↦ pieces_at-kept Escaped line (i + 1) more refl ∙ ap (pieces_at Quoted line)
          (omega arith)
      | inr past ↦ pieces_at-end Escaped line (i + 1) past ∙ sym
          (pieces_at-end Quoted line (i + 2) (omega arith))
    ]

pub ruleset steps = (
  pieces_at-zero,
  pieces_at-comma,
  pieces_at-opens,
  pieces_at-outside,
  pieces_at-closes,
  pieces_at-within,
  pieces_at-end,
  pieces_at-pair,
)
