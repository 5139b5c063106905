-- What the words of a line are, as facts on its one reading.
use Rattle.std.proofs.Common.{◌≡◌, ◌≢◌, ℕ, ◌<◌, ◌≤◌, Bool, true, false, nat_lt, if◌then◌else◌, List, [], ◌++◌, length, Option, Result, Ok, Err, refl, sym, ap, ◌∙◌, append-nil, subst, arith}
use Rattle.std.proofs.lemmas.Bool.Decides.{nat_tests}
use Rattle.hx_words.specs.declared.fault.WordFault.{WordFault}
use Rattle.hx_words.specs.declared.fault.WordFault.TheVariants.{BadEscape, BadVariable, TooManyWords, NoMemory}
use Rattle.hx_words.specs.TextItems.{QuoteState}
use Rattle.hx_words.specs.TextItems.QuoteState.{Outside, Single, Double}
use Rattle.hx_words.specs.Quoting.{escape_of}
use Rattle.hx_words.specs.TextItems.{TextItem, TextItems}
use Rattle.hx_words.specs.Variable.{Env, variable_of}
use Rattle.hx_words.specs.Words.{LineEnd, ReadsLine, line_items, line_end, word_item, runs, beginning_words, item_at_end, result_at_end, words_of}
use Rattle.hx_words.specs.Words.LineEnd.{EndOutside, EndInside, WrongItem}
use Rattle.hx_words.proofs.EndingLemmas.{StopsBy, stops-either, stops-part, ending-by}
use Rattle.hx_words.proofs.OneCutLemmas.{one_list, is_list}
use Rattle.hx_words.proofs.ItemLengthLemmas.{word-within}

pub reads_line : (env : Env) (line : List ℕ) → ReadsLine env line (line_items env line)
reads_line env line =
    is_list (word_item env) line_end (word-within env) line Outside 0 (omega arith)

pub reads_once : (env : Env) (line : List ℕ) (reading : TextItems LineEnd)
    → ReadsLine env line reading → reading ≡ line_items env line
reads_once env line reading reads = one_list (word_item env) line_end Outside line reading reads

few-test : (b : Bool) (r : Result (List (List ℕ)) WordFault) (words : List (List ℕ))
    → (if b then Err TooManyWords else r) ≡ Ok words → (b ≡ false) × (r ≡ Ok words)
few-test true r words is = cc
few-test false r words is = (refl, is)

few-number : (n : ℕ) → nat_lt 256 n ≡ false → n ≤ 256
few-number n is = grind (arith, nat_tests)

at-end : (items : List (Option (List ℕ))) (ending : LineEnd) (words : List (List ℕ))
    → length (runs (items ++ item_at_end ending)) ≤ 256
    → result_at_end ending (runs (items ++ item_at_end ending)) ≡ Ok words
    → (words ≡ runs items) × (length words ≤ 256) × (ending ≡ EndOutside)
at-end items EndOutside words few is =
    let whole : runs (items ++ []) ≡ words = cc in (
      sym whole ∙ ap runs (append-nil items),
      subst
          (λ (w : List (List ℕ)). length w ≤ 256) whole few,
      refl,
    )
at-end items EndInside words few is = cc
at-end items (WrongItem fault) words few is = cc

pub words_are_runs : (env : Env) (line : List ℕ) (words : List (List ℕ))
    → words_of env line ≡ Ok words
    → (words ≡ runs (line_items env line).items) × (length words ≤ 256) ×
    ((line_items env line).ending ≡ EndOutside)
unfolding words_of
words_are_runs env line words is =
    let reading = line_items env line in
    let few = few-test (nat_lt 256 (length (beginning_words reading)))
    (result_at_end reading.ending (beginning_words reading)) words is in
    at-end reading.items reading.ending words
    (few-number (length (beginning_words reading)) few.0) few.1

-- what ends a reading that has no item, or the text, is no out of memory
abbrev IsFairEnd : LineEnd → Type 0
IsFairEnd EndOutside = Unit {0}
IsFairEnd EndInside = Unit {0}
IsFairEnd (WrongItem fault) = fault ≢ NoMemory

fair-either : (b : Bool) (x y : TextItem LineEnd) → StopsBy IsFairEnd x → StopsBy IsFairEnd y
    → StopsBy IsFairEnd (if b then x else y)
fair-either = stops-either IsFairEnd

fair-item : (env : Env) (state : QuoteState) (b : ℕ) (bs : List ℕ)
    → StopsBy IsFairEnd (word_item env state b bs)
unfolding word_item
fair-item env Outside b bs =
    let escape = stops-part IsFairEnd (WrongItem BadEscape) Outside (escape_of bs) (λ is. cc) in
    let well : Unit {0} = tt in
    search (fair-either, escape, well) depth 9
fair-item env Single b bs = let well : Unit {0} = tt in search (fair-either, well) depth 9
fair-item env Double b bs =
    let escape = stops-part IsFairEnd (WrongItem BadEscape) Double (escape_of bs) (λ is. cc) in
    let variable = stops-part IsFairEnd (WrongItem BadVariable) Double (variable_of env bs)
    (λ is. cc) in
    let well : Unit {0} = tt in
    search (fair-either, escape, variable, well) depth 9

fair-end : (state : QuoteState) → IsFairEnd (line_end state)
fair-end Outside = tt
fair-end Single = tt
fair-end Double = tt

fair-reading : (env : Env) (line : List ℕ) → IsFairEnd (line_items env line).ending
fair-reading env line = ending-by (λ n. IsFairEnd) (word_item env) line_end (λ n e fair. fair)
    (fair-item env) fair-end line Outside 0

fair-result : (many : Bool) (ending : LineEnd) (words : List (List ℕ)) → IsFairEnd ending
    → (if many then Err TooManyWords else result_at_end ending words) ≡ Err NoMemory → ⊥
fair-result true ending words fair is = cc
fair-result false EndOutside words fair is = cc
fair-result false EndInside words fair is = cc
fair-result false (WrongItem fault) words fair is = fair cc

pub words_never_out_of_memory : (env : Env) (line : List ℕ) → words_of env line ≢ Err NoMemory
unfolding words_of
words_never_out_of_memory env line =
    let reading = line_items env line in
    fair-result (nat_lt 256 (length (beginning_words reading))) reading.ending
    (beginning_words reading) (fair-reading env line)

many-test : (n : ℕ) (r : Result (List (List ℕ)) WordFault) → 256 < n
    → (if nat_lt 256 n then Err TooManyWords else r) ≡ Err TooManyWords
many-test n r many = grind (arith, nat_tests)

few-pass : (n : ℕ) (r : Result (List (List ℕ)) WordFault) → n ≤ 256
    → (if nat_lt 256 n then Err TooManyWords else r) ≡ r
few-pass n r few = grind (arith, nat_tests)

pub ends_too_many : (env : Env) (line : List ℕ)
    → 256 < length (beginning_words (line_items env line)) → words_of env line ≡ Err TooManyWords
unfolding words_of
ends_too_many env line many = many-test (length (beginning_words (line_items env line))) _ many

-- with room for its words, a line comes to what the end of its reading says
pub ends_by_reading : (env : Env) (line : List ℕ) (ending : LineEnd)
    → (line_items env line).ending ≡ ending → length (beginning_words (line_items env line)) ≤ 256
    → words_of env line ≡ result_at_end ending (beginning_words (line_items env line))
unfolding words_of
ends_by_reading env line ending is few =
    few-pass (length (beginning_words (line_items env line)))
    (result_at_end (line_items env line).ending (beginning_words (line_items env line))) few
    ∙ ap (λ (e : LineEnd). result_at_end e (beginning_words (line_items env line))) is
