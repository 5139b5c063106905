-- Why a line that is written is one that hxeval refuses, for lines of which that is known: the rows
-- of `REFUSED_LINES` and `REFUSED_FETCHES`, each with its reason.
use Rattle.std.specs.Prelude.{ℕ, ◌==◌, Bool, ◌&&◌, ◌||◌, List, [], ◌∷◌, length, map, Option, None, Some, if◌then◌else◌}
use Rattle.std.specs.Borrow.{Bor}
use Rattle.std.specs.List.{list_any}
use Rattle.std.specs.Option.{option_map_or, option_or}
use Rattle.std.specs.Str.{bytes_eq}
use Rattle.hx_base.specs.Bytes.{ascii}
use Rattle.hx_base.specs.Pairs.{entry_at}
use Rattle.hx_text.specs.Cut.{cut_of}
use Rattle.hx_config.specs.Conditions.{TestState, Criterion, first_state, state_after}
use Rattle.hx_config.specs.LeftOut.{action_name}
use Rattle.hx_config.specs.Titles.{word_at}
use Rattle.hx_config.specs.declared.refusals.TheConstants.{REFUSED_FETCHES, REFUSED_LINES}

-- ---- lines

-- A row: the first word; the second, without what stands in parentheses; a word somewhere on the
-- line, where no bytes stand for any; and the reason.
pub record Refusal : Type 0 where
  pub first : List ℕ
  pub second : List ℕ
  pub somewhere : List ℕ
  pub reason : List ℕ

abbrev pub row_of : Bor (List ℕ) × Bor (List ℕ) × Bor (List ℕ) × Bor (List ℕ) → Refusal
row_of row = record {
  first = row.0.now;
  second = row.1.now;
  somewhere = row.2.now;
  reason = row.3.now;
}

-- the text is this one, unless no text is asked for
abbrev pub is_asked_text : (asked text : List ℕ) → Bool
is_asked_text asked text = length asked == 0 || bytes_eq text asked

abbrev pub has_word : (asked : List ℕ) → List (List ℕ) → Bool
has_word asked words = list_any (λ word. bytes_eq word asked) words

abbrev pub has_asked_word : (asked : List ℕ) → List (List ℕ) → Bool
has_asked_word asked words = length asked == 0 || has_word asked words

abbrev pub is_of_row : Refusal → List (List ℕ) → Bool
is_of_row row words =
    bytes_eq (word_at 0 words) row.first
    && (is_asked_text row.second (action_name (word_at 1 words))
    && has_asked_word row.somewhere words)

-- the reason of the first row of which the words are
abbrev pub line_reason : List Refusal → List (List ℕ) → Option (List ℕ)
line_reason [] words = None
line_reason (row ∷ rows) words =
    if is_of_row row words then Some row.reason else line_reason rows words

-- ---- fetches

abbrev pub refused_fetches : List (List ℕ × List ℕ)
refused_fetches = map (λ row. (row.0.now, row.1.now)) REFUSED_FETCHES

-- the name of the fetch that an expression begins with
abbrev pub before_comma : List ℕ → List ℕ
before_comma text = option_map_or (λ cut. cut.0) (cut_of (ascii ",") text) text

abbrev pub fetch_name : List ℕ → List ℕ
fetch_name text = action_name (before_comma text)

-- the reason for a word that stands there, if it is a criterion
abbrev pub word_reason : TestState → List ℕ → Option (List ℕ)
word_reason Criterion word = entry_at refused_fetches (fetch_name word)
word_reason _ word = None

-- the reason for the first criterion that has one
abbrev pub test_reason : TestState → List (List ℕ) → Option (List ℕ)
test_reason state [] = None
test_reason state (word ∷ words) =
    option_or (word_reason state word) (test_reason (state_after state word) words)

abbrev pub tests_reason : List (List ℕ) → Option (List ℕ)
tests_reason (keyword ∷ name ∷ words) = test_reason (first_state keyword) words
tests_reason _ = None

-- ---- either

abbrev pub refusals : List Refusal
refusals = map (λ row. record {
  first = row.0.now;
  second = row.1.now;
  somewhere = row.2.now;
  reason = row.3.now;
}) REFUSED_LINES

-- why hxeval refuses a line of these words, where that is known
unfoldable pub refusal_of : List (List ℕ) → Option (List ℕ)
refusal_of words = option_or (line_reason refusals words) (tests_reason words)
