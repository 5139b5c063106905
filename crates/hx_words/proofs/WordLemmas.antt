-- The code's one pass: the words so far, with those of what is left, are the words of the line.
use Rattle.std.proofs.Common.{◌≡◌, ℕ, ◌+◌, ◌≤◌, nat_lt, if◌then◌else◌, List, [], ◌∷◌, ◌++◌, map, filter, length, drop, Option, Some, None, Result, Ok, Err, option_to_list, unwrap_or, refl, sym, ap, ◌∙◌, append_assoc, length-append, arith}
use Rattle.std.proofs.lemmas.Bool.Decides.{nat_tests}
use Rattle.std.specs.List.{list_any, slice_split, onto_first}
use Rattle.std.specs.Prelude.{is_some, is_none}
use Rattle.hx_words.specs.declared.fault.WordFault.{WordFault}
use Rattle.hx_words.specs.declared.fault.WordFault.TheVariants.{OpenQuote, TooManyWords}
use Rattle.hx_words.specs.TextItems.{QuoteState}
use Rattle.hx_words.specs.TextItems.QuoteState.{Outside}
use Rattle.hx_words.specs.TextItems.{TextItems, text_items, longer_items, no_items}
use Rattle.hx_words.specs.TextItems.TextItem.{Gap, Part, NoItem}
use Rattle.hx_words.specs.Variable.{Env}
use Rattle.hx_words.specs.Words.{LineEnd, line_end, line_items, word_item, joint_value, runs, beginning_words, item_at_end, result_at_end, words_of}
use Rattle.hx_words.specs.Words.LineEnd.{EndOutside, EndInside, WrongItem}
use Rattle.hx_words.proofs.TextItemLemmas.{text_items-end, text_items-gap, text_items-part, text_items-no_items}

-- the runs of items, where a word may be under way
abbrev pub runs_after : Option (List ℕ) → List (Option (List ℕ)) → List (List ℕ)
runs_after None [] = []
runs_after (Some word) [] = word ∷ []
runs_after None (None ∷ items) = runs_after None items
runs_after (Some word) (None ∷ items) = word ∷ runs_after None items
runs_after None (Some value ∷ items) = runs_after (Some value) items
runs_after (Some word) (Some value ∷ items) = runs_after (Some (word ++ value)) items

-- the first of these parts belongs to the word under way
abbrev heads : List ℕ → List (List (Option (List ℕ))) → List (List ℕ)
heads word [] = word ∷ []
heads word (part ∷ parts) =
    (word ++ joint_value part) ∷ map joint_value (filter (list_any is_some) parts)

abbrev parts_of : List (Option (List ℕ)) → List (List (Option (List ℕ)))
parts_of items = slice_split is_none items

append-nil : {X : Type 0} (xs : List X) → xs ++ [] ≡ xs
append-nil [] = refl
append-nil (x ∷ xs) = ap (λ ys. x ∷ ys) (append-nil xs)

heads-onto : (word value : List ℕ) (parts : List (List (Option (List ℕ))))
    → heads (word ++ value) parts ≡ heads word (onto_first (Some value) parts)
heads-onto word value [] = ap (λ (v : List ℕ). (word ++ v) ∷ []) (sym (append-nil value))
heads-onto word value (part ∷ parts) =
    ap (λ (w : List ℕ). w ∷ map joint_value (filter (list_any is_some) parts))
    (append_assoc word value (joint_value part))

heads-none : (value : List ℕ) (parts : List (List (Option (List ℕ))))
    → heads value parts
    ≡ map joint_value (filter (list_any is_some) (onto_first (Some value) parts))
heads-none value [] = ap (λ (v : List ℕ). v ∷ []) (sym (append-nil value))
heads-none value (part ∷ parts) = refl

-- the runs of all items, and the same with a word under way
record Runs (items : List (Option (List ℕ))) : Type 0 where
  at_start : runs_after None items ≡ runs items
  under_way : (word : List ℕ) → runs_after (Some word) items ≡ heads word (parts_of items)

runs-after : (items : List (Option (List ℕ))) → Runs items
runs-after [] =
    record {
      at_start = refl;
      under_way = λ word. ap (λ (w : List ℕ). w ∷ [])
          (sym (append-nil word));
    }
runs-after (None ∷ items) =
    let rest = runs-after items in
    record {
      at_start = rest.at_start;
      under_way = λ word. rw
          (append-nil word, rest.at_start) refl;
    }
runs-after (Some value ∷ items) =
    let rest = runs-after items in
    record {
      at_start = rest.under_way value ∙ heads-none value (parts_of items);
      under_way = λ word. rest.under_way (word ++ value) ∙ heads-onto word value (parts_of items);
    }

-- a word under way is a word
runs-after-some : (word : List ℕ) (items : List (Option (List ℕ)))
    → 1 ≤ length (runs_after (Some word) items)
runs-after-some word [] = omega arith
runs-after-some word (None ∷ items) = omega arith
runs-after-some word (Some value ∷ items) = runs-after-some (word ++ value) items

-- what a line comes to, where `done` and `word` are the words so far and `reading` is what is left
unfoldable pub words_with : List (List ℕ) → Option (List ℕ) → TextItems LineEnd
    → Result (List (List ℕ)) WordFault
words_with done word reading =
    let words = done ++ runs_after word (reading.items ++ item_at_end reading.ending) in
    if nat_lt 256 (length words) then Err TooManyWords else result_at_end reading.ending words

words_with-all : (reading : TextItems LineEnd)
    → words_with [] None reading ≡
    (if nat_lt 256 (length
    (beginning_words reading)) then Err TooManyWords else result_at_end reading.ending
    (beginning_words reading))
unfolding words_with
words_with-all reading = rw (runs-after (reading.items ++ item_at_end reading.ending)).at_start refl

words_with-gap : (done : List (List ℕ)) (word : Option (List ℕ)) (reading : TextItems LineEnd)
    → words_with done word (longer_items None reading) ≡ words_with
    (done ++ option_to_list word) None reading
unfolding words_with
words_with-gap done None reading = rw (append-nil done) refl
words_with-gap done (Some word) reading = rw append_assoc refl

words_with-part : (done : List (List ℕ)) (word : Option (List ℕ)) (value : List ℕ)
    (reading : TextItems LineEnd)
    → words_with done word (longer_items (Some value) reading) ≡ words_with done
    (Some (unwrap_or word [] ++ value)) reading
unfolding words_with
words_with-part done None value reading = refl
words_with-part done (Some word) value reading = refl

lt-from-not : (m n : ℕ) → (m ≤ n → ⊥) → n + 1 ≤ m
lt-from-not m n h = omega arith

too-many : (words : List (List ℕ)) (r : Result (List (List ℕ)) WordFault) → 257 ≤ length words
    → (if nat_lt 256 (length words) then Err TooManyWords else r) ≡ Err TooManyWords
too-many words r many = grind (arith, nat_tests)

few : (words : List (List ℕ)) (r : Result (List (List ℕ)) WordFault) → length words ≤ 256
    → (if nat_lt 256 (length words) then Err TooManyWords else r) ≡ r
few words r room = grind (arith, nat_tests)

words_with-many : (done : List (List ℕ)) (value : List ℕ) (reading : TextItems LineEnd)
    → 256 ≤ length done
    → words_with done None (longer_items (Some value) reading) ≡ Err TooManyWords
unfolding words_with
words_with-many done value reading many =
    let one = runs-after-some value (reading.items ++ item_at_end reading.ending) in
    too-many (done ++ runs_after (Some value) (reading.items ++ item_at_end reading.ending)) _
    (simp length-append (omega arith))

words_with-many-wrong : (done : List (List ℕ)) (fault : WordFault) → 256 ≤ length done
    → words_with done None (no_items (WrongItem fault)) ≡ Err TooManyWords
unfolding words_with
words_with-many-wrong done fault many =
    too-many (done ++ [] ∷ []) _ (simp length-append (omega arith))

words_with-wrong : (done : List (List ℕ)) (word : Option (List ℕ)) (fault : WordFault)
    → length (done ++ option_to_list word) ≤ 256 → ((word ≡ None) × (256 ≤ length done) → ⊥)
    → words_with done word (no_items (WrongItem fault)) ≡ Err fault
unfolding words_with
words_with-wrong done None fault old room =
    few (done ++ [] ∷ []) _
    (simp length-append (lt-from-not 256 (length done) (λ h. room (refl, h))))
words_with-wrong done (Some word) fault old room = rw (append-nil word)
    (few (done ++ word ∷ []) _ old)

words_with-open : (done : List (List ℕ)) (word : Option (List ℕ))
    → length (done ++ option_to_list word) ≤ 256
    → words_with done word (no_items EndInside) ≡ Err OpenQuote
unfolding words_with
words_with-open done None room = few (done ++ []) _ room
words_with-open done (Some word) room = few (done ++ word ∷ []) _ room

words_with-result_at_end : (done : List (List ℕ)) (word : Option (List ℕ))
    → length (done ++ option_to_list word) ≤ 256
    → words_with done word (no_items EndOutside) ≡ Ok (done ++ option_to_list word)
unfolding words_with
words_with-result_at_end done None room = few (done ++ []) _ room
words_with-result_at_end done (Some word) room = few (done ++ word ∷ []) _ room

-- what is known between two items: there is room for the word under way, and what is left gives the
-- words of the line
pub record KeepsWords (env : Env) (line rest : List ℕ) (state : QuoteState) (done : List (List ℕ))
    (word : Option (List ℕ)) : Type 0 where
  pub room : length (done ++ option_to_list word) ≤ 256
  pub same : words_with done word
      (text_items (word_item env) line_end rest state 0) ≡ words_of env line

pub words_start : (env : Env) (line : List ℕ) → KeepsWords env line line Outside [] None
unfolding words_of
words_start env line = record { room = omega arith; same = words_with-all (line_items env line) }

pub words_gap : (env : Env) (line rest : List ℕ) (state : QuoteState) (done : List (List ℕ))
    (word : Option (List ℕ)) (b : ℕ) (bs : List ℕ) (n : ℕ)
    → KeepsWords env line rest state done word → rest ≡ b ∷ bs → Gap n ≡ word_item env state b bs
    → KeepsWords env line (drop n bs) state (done ++ option_to_list word) None
words_gap env line rest state done word b bs n keeps first item = record {
  room = rw (append-nil (done ++ option_to_list word)) keeps.room;
  same = sym (words_with-gap done word _)
      ∙ ap (words_with done word)
      (sym (text_items-gap (word_item env) line_end b bs state n (sym item)))
      ∙ ap (λ (r : List ℕ). words_with done word (text_items (word_item env) line_end r state 0))
      (sym first)
      ∙ keeps.same;
}

part-room : (done : List (List ℕ)) (word : Option (List ℕ)) (longer : List ℕ)
    → length (done ++ option_to_list word) ≤ 256 → ((word ≡ None) × (256 ≤ length done) → ⊥)
    → length (done ++ longer ∷ []) ≤ 256
part-room done None longer old room =
    simp length-append (lt-from-not 256 (length done) (λ h. room (refl, h)))
part-room done (Some word) longer old room = let e = simp length-append at old in
    simp length-append e

pub words_part : (env : Env) (line rest : List ℕ) (state : QuoteState) (done : List (List ℕ))
    (word : Option (List ℕ)) (b : ℕ) (bs : List ℕ) (n : ℕ) (value : List ℕ) (after : QuoteState)
    → KeepsWords env line rest state done word → rest ≡ b ∷ bs
    → Part n value after ≡ word_item env state b bs → ((word ≡ None) × (256 ≤ length done) → ⊥)
    → KeepsWords env line (drop n bs) after done (Some (unwrap_or word [] ++ value))
words_part env line rest state done word b bs n value after keeps first item room = record {
  room = part-room done word _ keeps.room room;
  same = sym (words_with-part done word value _)
      ∙ ap (words_with done word)
      (sym (text_items-part (word_item env) line_end b bs state n value after (sym item)))
      ∙ ap (λ (r : List ℕ). words_with done word (text_items (word_item env) line_end r state 0))
      (sym first)
      ∙ keeps.same;
}

-- a word too many begins at a part
pub ends_many : (env : Env) (line rest : List ℕ) (state : QuoteState) (done : List (List ℕ))
    (word : Option (List ℕ)) (b : ℕ) (bs : List ℕ) (n : ℕ) (value : List ℕ) (after : QuoteState)
    → KeepsWords env line rest state done word → rest ≡ b ∷ bs
    → Part n value after ≡ word_item env state b bs → word ≡ None → 256 ≤ length done
    → words_of env line ≡ Err TooManyWords
ends_many env line rest state done word b bs n value after keeps first item none many =
    sym keeps.same
    ∙ ap (λ (r : List ℕ). words_with done word
    (text_items (word_item env) line_end r state 0)) first
    ∙ ap (words_with done word)
    (text_items-part (word_item env) line_end b bs state n value after (sym item))
    ∙ ap (λ (w : Option (List ℕ)). words_with done w
    (longer_items (Some value) (text_items (word_item env) line_end (drop n bs) after 0))) none
    ∙ words_with-many done value (text_items (word_item env) line_end (drop n bs) after 0) many

-- a word too many begins where no item does
pub ends_many_wrong : (env : Env) (line rest : List ℕ) (state : QuoteState) (done : List (List ℕ))
    (word : Option (List ℕ)) (b : ℕ) (bs : List ℕ) (fault : WordFault)
    → KeepsWords env line rest state done word → rest ≡ b ∷ bs
    → NoItem (WrongItem fault) ≡ word_item env state b bs → word ≡ None → 256 ≤ length done
    → words_of env line ≡ Err TooManyWords
ends_many_wrong env line rest state done word b bs fault keeps first item none many =
    sym keeps.same
    ∙ ap (λ (r : List ℕ). words_with done word
    (text_items (word_item env) line_end r state 0)) first
    ∙ ap (words_with done word)
    (text_items-no_items (word_item env) line_end b bs state (WrongItem fault) (sym item))
    ∙ ap (λ (w : Option (List ℕ)). words_with done w (no_items (WrongItem fault))) none
    ∙ words_with-many-wrong done fault many

-- no item begins here, and no word too many
pub ends_wrong : (env : Env) (line rest : List ℕ) (state : QuoteState) (done : List (List ℕ))
    (word : Option (List ℕ)) (b : ℕ) (bs : List ℕ) (fault : WordFault)
    → KeepsWords env line rest state done word → rest ≡ b ∷ bs
    → NoItem (WrongItem fault) ≡ word_item env state b bs
    → ((word ≡ None) × (256 ≤ length done) → ⊥) → words_of env line ≡ Err fault
ends_wrong env line rest state done word b bs fault keeps first item room =
    sym keeps.same
    ∙ ap (λ (r : List ℕ). words_with done word
    (text_items (word_item env) line_end r state 0)) first
    ∙ ap (words_with done word)
    (text_items-no_items (word_item env) line_end b bs state (WrongItem fault) (sym item))
    ∙ words_with-wrong done word fault keeps.room room

-- the line ends inside a quote
pub ends_open : (env : Env) (line rest : List ℕ) (state : QuoteState) (done : List (List ℕ))
    (word : Option (List ℕ)) → KeepsWords env line rest state done word → rest ≡ []
    → line_end state ≡ EndInside → words_of env line ≡ Err OpenQuote
ends_open env line rest state done word keeps first quoted =
    sym keeps.same
    ∙ ap (λ (r : List ℕ). words_with done word
    (text_items (word_item env) line_end r state 0)) first
    ∙ ap (words_with done word) (text_items-end (word_item env) line_end state)
    ∙ ap (λ (e : LineEnd). words_with done word (no_items e)) quoted
    ∙ words_with-open done word keeps.room

-- the line ends outside quotes
pub ends_well : (env : Env) (line rest : List ℕ) (state : QuoteState) (done : List (List ℕ))
    (word : Option (List ℕ)) → KeepsWords env line rest state done word → rest ≡ []
    → line_end state ≡ EndOutside → words_of env line ≡ Ok (done ++ option_to_list word)
ends_well env line rest state done word keeps first complete =
    sym keeps.same
    ∙ ap (λ (r : List ℕ). words_with done word
    (text_items (word_item env) line_end r state 0)) first
    ∙ ap (words_with done word) (text_items-end (word_item env) line_end state)
    ∙ ap (λ (e : LineEnd). words_with done word (no_items e)) complete
    ∙ words_with-result_at_end done word keeps.room
