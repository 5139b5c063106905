-- The words of a line, cut off one by one.
use Rattle.std.proofs.Common.{◌≡◌, ℕ, List, [], ◌∷◌, ◌++◌, take, drop, codes, Bool, true, false, cond, eqb, Option, Some, None, refl, sym, ap, ◌∙◌, take-append-drop}
use Rattle.std.specs.Option.{unwrap_or}
use Rattle.std.specs.List.{onto_first, join_with_byte}
use Rattle.std.proofs.lemmas.List.Splits.{join_with_byte-slice_split}
use Rattle.std.specs.Str.{bytes_eq}
use Rattle.std.proofs.lemmas.Slice.Eq.{bytes_eq-Decides}
use Rattle.hx_record.specs.Line.{line_meaning, words_meaning, req_meaning}
use Rattle.hx_record.specs.LineView.{line_words, words_after, IsSomeWords}

-- a text has a word, if it is only an empty one
pub words_are_some : (text : List ℕ) → IsSomeWords (line_words text)
words_are_some [] = ([], [], refl)
words_are_some (b ∷ bs) = onto (eqb b 32) (words_are_some bs) where
  onto : (space : Bool) → IsSomeWords (line_words bs) → IsSomeWords (cond space ([] ∷ line_words bs) (onto_first b (line_words bs)))
  onto true h = ([], line_words bs, refl)
  onto false h = (b ∷ h.0, h.1, ap (onto_first b) h.2)

-- the words that follow a space, joined again
pub words_joined : (rest : Option (List ℕ)) → join_with_byte 32 (words_after rest) ≡ unwrap_or rest []
words_joined None = refl
words_joined (Some rest) = join_with_byte-slice_split 32 rest

-- a line that begins with `req` and a space
req_line : (rest : List ℕ) → line_meaning (codes "req " ++ rest) ≡ req_meaning (line_words rest)
unfolding line_meaning words_meaning
req_line rest = refl

pub req_words : (line rest : List ℕ) → bytes_eq (take 4 line) (codes "req ") ≡ true → rest ≡ drop 4 line → line_meaning line ≡ req_meaning (line_words rest)
req_words line rest begins after_it =
    let prefix : take 4 line ≡ codes "req " = (bytes_eq-Decides (take 4 line) (codes "req ")).0 begins in
    let whole : line ≡ codes "req " ++ rest =
    sym (take-append-drop 4 line) ∙ ap (λ (p : List ℕ). p ++ drop 4 line) prefix ∙ ap (λ (r : List ℕ). codes "req " ++ r) (sym after_it) in
    ap line_meaning whole ∙ req_line rest
