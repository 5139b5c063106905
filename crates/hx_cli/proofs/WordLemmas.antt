-- The code's one pass: the words so far, with those of what is left, are the words of the line.
use Rattle.std.proofs.Common.{◌≡◌, ℕ, true, List, [], ◌∷◌, ◌++◌, map, length, refl, sym, ap, ◌∙◌, append-nil, append_assoc, arith}
use Rattle.std.specs.Prelude.{nat_lt, Option, None, Some, is_none, filter, filter_map}
use Rattle.std.specs.List.{slice_split, onto_first}
use Rattle.std.proofs.lemmas.Bool.{lt-ltb}
use Rattle.hx_cli.specs.CommandLine.{line_bytes, runs, words_of}

-- the bytes of a word, none of them a gap
abbrev pub own_bytes : List ℕ → List (Option ℕ)
own_bytes word = map (λ b. Some b) word

-- the words of these parts, those that have bytes
abbrev texts : List (List (Option ℕ)) → List (List ℕ)
texts parts = map (filter_map (λ b. b)) (filter (λ run. nat_lt 0 (length run)) parts)

-- ---- parts

values : (word : List ℕ) → filter_map (λ b. b) (own_bytes word) ≡ word
values [] = refl
values (b ∷ bs) = ap (λ (w : List ℕ). b ∷ w) (values bs)

part_at_gap : (word : List ℕ) (bytes : List (Option ℕ))
    → slice_split is_none (own_bytes word ++ None ∷ bytes) ≡ own_bytes word ∷ slice_split is_none bytes
part_at_gap [] bytes = refl
part_at_gap (b ∷ bs) bytes = ap (onto_first (Some b)) (part_at_gap bs bytes)

part_at_end : (word : List ℕ) → slice_split is_none (own_bytes word) ≡ own_bytes word ∷ []
part_at_end [] = refl
part_at_end (b ∷ bs) = ap (onto_first (Some b)) (part_at_end bs)

some_bytes : (b : ℕ) (bs : List ℕ) → nat_lt 0 (length (own_bytes (b ∷ bs))) ≡ true
some_bytes b bs = lt-ltb 0 (length (own_bytes (b ∷ bs))) (omega arith)

texts_first : (word : List ℕ) (parts : List (List (Option ℕ)))
    → texts (own_bytes word ∷ parts) ≡ texts (own_bytes word ∷ []) ++ texts parts
texts_first [] parts = refl
texts_first (b ∷ bs) parts = rw (some_bytes b bs) refl

runs_at_gap : (word : List ℕ) (bytes : List (Option ℕ))
    → runs (own_bytes word ++ None ∷ bytes) ≡ runs (own_bytes word) ++ runs bytes
runs_at_gap word bytes =
    ap texts (part_at_gap word bytes)
    ∙ texts_first word (slice_split is_none bytes)
    ∙ sym (ap (λ (parts : List (List (Option ℕ))). texts parts ++ runs bytes) (part_at_end word))

-- a word that has bytes is one run
pub one_run : (word : List ℕ) → (length word ≡ 0 → ⊥) → word ∷ [] ≡ runs (own_bytes word)
one_run [] some = absurd (some refl)
one_run (b ∷ bs) some =
    sym (ap texts (part_at_end (b ∷ bs)) ∙ rw (some_bytes b bs) (ap (λ (w : List ℕ). w ∷ []) (values (b ∷ bs))))

one_more : (word : List ℕ) (b : ℕ) (bytes : List (Option ℕ))
    → own_bytes (word ++ b ∷ []) ++ bytes ≡ own_bytes word ++ Some b ∷ bytes
one_more [] b bytes = refl
one_more (x ∷ xs) b bytes = ap (λ (ys : List (Option ℕ)). Some x ∷ ys) (one_more xs b bytes)

-- ---- the pass

-- the words so far, and those of what is left with the word under way before it
pub record KeepsWords (line left : List ℕ) (done : List (List ℕ)) (word : List ℕ) : Type 0 where
  pub same : done ++ runs (own_bytes word ++ line_bytes left) ≡ words_of line

pub words_start : (line : List ℕ) → KeepsWords line line [] []
words_start line = record { same = refl }

pub words_byte : {line left rest : List ℕ} {done : List (List ℕ)} {word : List ℕ} (b : ℕ)
    → KeepsWords line left done word → line_bytes left ≡ Some b ∷ line_bytes rest
    → KeepsWords line rest done (word ++ b ∷ [])
words_byte {rest = rest} {done = done} {word = word} b keeps first = record {
  same = ap (λ (bytes : List (Option ℕ)). done ++ runs bytes)
      (one_more word b (line_bytes rest)
      ∙ sym (ap (λ (bytes : List (Option ℕ)). own_bytes word ++ bytes) first))
      ∙ keeps.same;
}

pub words_gap : {line left rest : List ℕ} {done : List (List ℕ)} {word : List ℕ}
    → KeepsWords line left done word → line_bytes left ≡ None ∷ line_bytes rest
    → KeepsWords line rest (done ++ runs (own_bytes word)) []
words_gap {rest = rest} {done = done} {word = word} keeps first = record {
  same = append_assoc done (runs (own_bytes word)) (runs (line_bytes rest))
      ∙ ap (λ (words : List (List ℕ)). done ++ words)
      (sym (runs_at_gap word (line_bytes rest))
      ∙ sym (ap (λ (bytes : List (Option ℕ)). runs (own_bytes word ++ bytes)) first))
      ∙ keeps.same;
}

pub words_end : {line left : List ℕ} {done : List (List ℕ)} {word : List ℕ}
    → KeepsWords line left done word → line_bytes left ≡ []
    → done ++ runs (own_bytes word) ≡ words_of line
words_end {done = done} {word = word} keeps none =
    ap (λ (bytes : List (Option ℕ)). done ++ runs bytes)
    (sym (append-nil (own_bytes word))
    ∙ sym (ap (λ (bytes : List (Option ℕ)). own_bytes word ++ bytes) none))
    ∙ keeps.same
