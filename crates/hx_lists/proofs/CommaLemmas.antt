-- The pieces of a header line are the one list that is cut at its commas.
use Rattle.std.proofs.Common.{◌≡◌, ◌≢◌, ℕ, true, false, ◌||◌, ◌==◌, List, [], ◌∷◌, ◌++◌, fold, refl, sym, ap, ap₂, ◌∙◌, inl, inr, append-nil, eqb-true}
use Rattle.std.specs.Bool.{⊤}
use Rattle.std.specs.List.{AllByRecursion, join_with_byte, list_any, onto_first}
use Rattle.std.proofs.lemmas.Bool.{cases_Bool, false≢true}
use Rattle.hx_lists.specs.HeaderValues.{Quoting, Outside, Quoted, Escaped, quoting_after, bytes_with_quoting, is_cut, hdr_pieces}
use Rattle.hx_lists.specs.HeaderScan.{pieces_from}
use Rattle.hx_lists.specs.HeaderValues.{pieces_with_prefix}
use Rattle.hx_lists.specs.Laws.{AllButLast, has_cut, is_outside, ends_outside, IsCutAtCommas}
use Rattle.hx_lists.proofs.PieceLemmas.{pieces_from-kept, pieces_at-zero}
use Rattle.hx_lists.proofs.SplitLemmas.{neither, onto_first-pieces_with_prefix}

-- no piece has a comma outside quoted strings, where the first begins at `quoting`
abbrev UncutFrom : Quoting → List (List ℕ) → Type 0
UncutFrom q [] = ⊥
UncutFrom q (piece ∷ pieces) =
    (list_any is_cut (bytes_with_quoting q piece) ≡ false) × AllByRecursion
    (λ later. has_cut later ≡ false) pieces

-- each piece but the last ends outside quoted strings, where the first begins at `quoting`
abbrev ClosedFrom : Quoting → List (List ℕ) → Type 0
ClosedFrom q [] = ⊤
ClosedFrom q (piece ∷ []) = ⊤
ClosedFrom q (piece ∷ next ∷ pieces) =
    (is_outside (fold quoting_after q piece) ≡ true) × AllButLast
    (λ later. ends_outside later ≡ true) (next ∷ pieces)

record CutFrom (q : Quoting) (pieces : List (List ℕ)) (bytes : List ℕ) : Type 0 where
  joined : join_with_byte 44 pieces ≡ bytes
  uncut : UncutFrom q pieces
  closed : ClosedFrom q pieces

after_cut : (pieces : List (List ℕ)) (bytes : List ℕ) → CutFrom Outside pieces bytes
    → CutFrom Outside ([] ∷ pieces) (44 ∷ bytes)
after_cut [] bytes h = absurd h.uncut
after_cut (piece ∷ []) bytes h = record { joined = ap (λ later. 44 ∷ later) h.joined; uncut = (refl, h.uncut); closed = (refl, tt) }
after_cut (piece ∷ next ∷ pieces) bytes h =
    record { joined = ap (λ later. 44 ∷ later) h.joined; uncut = (refl, h.uncut); closed = (refl, h.closed) }

after_kept : (q : Quoting) (b : ℕ) (pieces : List (List ℕ)) (bytes : List ℕ) → is_cut (q, b) ≡ false
    → CutFrom (quoting_after q b) pieces bytes → CutFrom q (onto_first b pieces) (b ∷ bytes)
after_kept q b [] bytes kept h = absurd h.uncut
after_kept q b (piece ∷ []) bytes kept h = record {
  joined = ap (λ later. b ∷ later) h.joined;
  uncut =
      (ap (λ cut. cut || list_any is_cut (bytes_with_quoting (quoting_after q b) piece)) kept ∙ h.uncut.0, h.uncut.1);
  closed = tt;
}
after_kept q b (piece ∷ next ∷ pieces) bytes kept h = record {
  joined = ap (λ later. b ∷ later) h.joined;
  uncut =
      (ap (λ cut. cut || list_any is_cut (bytes_with_quoting (quoting_after q b) piece)) kept ∙ h.uncut.0, h.uncut.1);
  closed = h.closed;
}

cut_from : (q : Quoting) (bytes : List ℕ) → CutFrom q (pieces_from q bytes) bytes
cut_from q [] = record { joined = refl; uncut = (refl, tt); closed = tt }
cut_from Outside (b ∷ bs) =
    elim (cases_Bool (b == 44)) [
      | inl comma ↦
          let is = eqb-true b 44 comma in
          rw is (after_cut (hdr_pieces bs) bs (cut_from Outside bs))
      | inr other ↦
          rw (pieces_from-kept Outside b bs other) (after_kept Outside b
          (pieces_from (quoting_after Outside b) bs) bs other
          (cut_from (quoting_after Outside b) bs))
    ]
cut_from Quoted (b ∷ bs) =
    rw (pieces_from-kept Quoted b bs refl) (after_kept Quoted b
    (pieces_from (quoting_after Quoted b) bs) bs refl (cut_from (quoting_after Quoted b) bs))
cut_from Escaped (b ∷ bs) =
    rw (pieces_from-kept Escaped b bs refl) (after_kept Escaped b (pieces_from Quoted bs) bs refl
    (cut_from Quoted bs))

is_some : (pieces : List (List ℕ)) → UncutFrom Outside pieces → pieces ≢ []
is_some [] h = absurd h
is_some (piece ∷ pieces) h = λ e. cc

all_uncut : (pieces : List (List ℕ)) → UncutFrom Outside pieces
    → AllByRecursion (λ piece. has_cut piece ≡ false) pieces
all_uncut [] h = absurd h
all_uncut (piece ∷ pieces) h = h

all_closed : (pieces : List (List ℕ)) → ClosedFrom Outside pieces
    → AllButLast (λ piece. ends_outside piece ≡ true) pieces
all_closed [] h = tt
all_closed (piece ∷ []) h = tt
all_closed (piece ∷ next ∷ pieces) h = h

pub IsCutAtCommas-hdr_pieces : (line : List ℕ) → IsCutAtCommas (hdr_pieces line) line
IsCutAtCommas-hdr_pieces line =
    let facts = cut_from Outside line in record {
      some = is_some (hdr_pieces line) facts.uncut;
      joined = facts.joined;
      uncut = all_uncut (hdr_pieces line) facts.uncut;
      closed = all_closed (hdr_pieces line) facts.closed;
    }

-- what has no cut goes to the first piece
pieces_from-onto : (q : Quoting) (piece rest : List ℕ)
    → list_any is_cut (bytes_with_quoting q piece) ≡ false
    → pieces_from q (piece ++ rest) ≡ pieces_with_prefix piece (pieces_from (fold quoting_after q piece) rest)
pieces_from-onto q [] rest h = sym (pieces_at-zero q rest)
pieces_from-onto q (b ∷ bs) rest h =
    let parts = neither (is_cut (q, b)) (list_any is_cut (bytes_with_quoting
    (quoting_after q b) bs)) h in
    pieces_from-kept q b (bs ++ rest) parts.0
    ∙ ap (onto_first b) (pieces_from-onto (quoting_after q b) bs rest parts.1)
    ∙ onto_first-pieces_with_prefix b bs (pieces_from (fold quoting_after
    (quoting_after q b) bs) rest)

outside : (q : Quoting) → is_outside q ≡ true → q ≡ Outside
outside Outside h = refl
outside Quoted h = absurd (false≢true h)
outside Escaped h = absurd (false≢true h)

hdr_pieces-joined : (pieces : List (List ℕ)) → pieces ≢ []
    → AllByRecursion (λ piece. has_cut piece ≡ false) pieces
    → AllButLast (λ piece. ends_outside piece ≡ true) pieces
    → hdr_pieces (join_with_byte 44 pieces) ≡ pieces
hdr_pieces-joined [] some uncut closed = absurd (some refl)
hdr_pieces-joined (piece ∷ []) some uncut closed =
    ap hdr_pieces (sym (append-nil piece)) ∙ pieces_from-onto Outside piece [] uncut.0
    ∙ ap (λ p. p ∷ []) (append-nil piece)
hdr_pieces-joined (piece ∷ next ∷ pieces) some uncut closed =
    let later = hdr_pieces-joined (next ∷ pieces) (λ e. cc) uncut.1 closed.1 in
    let rest = join_with_byte 44 (next ∷ pieces) in
    pieces_from-onto Outside piece (44 ∷ rest) uncut.0
    ∙ ap (λ q. pieces_with_prefix piece (pieces_from q (44 ∷ rest)))
    (outside (fold quoting_after Outside piece) closed.0)
    ∙ ap₂ ◌∷◌ (append-nil piece) later

pub IsCutAtCommas-only : (pieces : List (List ℕ)) (line : List ℕ) → IsCutAtCommas pieces line
    → pieces ≡ hdr_pieces line
IsCutAtCommas-only pieces line h =
    sym (hdr_pieces-joined pieces h.some h.uncut h.closed) ∙ ap hdr_pieces h.joined
