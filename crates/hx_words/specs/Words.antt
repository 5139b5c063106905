-- The words of a configuration line (HAProxy's configuration manual 2.4, section 2.2; what the
-- manual leaves open of backslash pairs and of `$` is fixed here). `ReadsLine` and `runs` are to be
-- read first, and `words_of` then.
use Rattle.std.specs.Prelude.{ℕ, nat_lt, eqb, codes, ◌&&◌, ◌==◌, if◌then◌else◌, List, [], ◌∷◌, ◌++◌, map, filter, flat_map, length, Option, Some, is_some, is_none, unwrap_or, Result, Ok, Err}
use Rattle.std.specs.List.{list_any, slice_split, starts_with}
use Rattle.hx_base.specs.Bytes.{ascii, is_blank}
use Rattle.hx_words.specs.declared.fault.WordFault.{WordFault}
use Rattle.hx_words.specs.declared.fault.WordFault.TheVariants.{OpenQuote, BadEscape, BadVariable, TooManyWords}
use Rattle.hx_words.specs.Quoting.{part_at}
use Rattle.hx_words.specs.Variable.{Env, variable_of}
use Rattle.hx_words.specs.TextItems.{QuoteState, TextItem, TextItems, text_items, part_or, AreTextItems}
use Rattle.hx_words.specs.TextItems.QuoteState.{Outside, Single, Double}
use Rattle.hx_words.specs.TextItems.TextItem.{Gap, Part}

-- how the reading of a line ends
pub data LineEnd : Type 0 where
  -- at the line's end, outside quotes or inside a quote
  EndOutside EndInside : LineEnd
  -- before the line's end, where no item begins, for this reason
  WrongItem : (fault : WordFault) → LineEnd

abbrev pub line_end : QuoteState → LineEnd
line_end Outside = EndOutside
line_end _ = EndInside

-- the table of a line's items: the item that begins with byte b, where the bytes bs follow. Outside
-- quotes a blank is a gap, and so is a comment to the line's end; in double quotes `$` begins a
-- variable, and `\$` is `$`
unfoldable pub word_item : Env → QuoteState → ℕ → List ℕ → TextItem LineEnd
word_item env Outside b bs =
    if is_blank b then Gap 0 else
    (if b == ascii "#" then Gap (length bs) else part_at (WrongItem BadEscape) Outside b bs)
word_item env Double b bs =
    if b == ascii "$" then part_or (WrongItem BadVariable) Double (variable_of env bs) else
    (if b == ascii "\\" && starts_with eqb bs (codes "$") then Part 1 (codes "$") Double else
    part_at (WrongItem BadEscape) Double b bs)
word_item env Single b bs = part_at (WrongItem BadEscape) Single b bs

-- these are the items of the line, and this is how its reading ends
abbrev pub ReadsLine : Env → List ℕ → TextItems LineEnd → Type 0
ReadsLine env line items = AreTextItems (word_item env) line_end Outside line items

-- the same as a function
abbrev pub line_items : Env → List ℕ → TextItems LineEnd
line_items env line = text_items (word_item env) line_end line Outside 0

-- the values of these items, one after the other
abbrev pub joint_value : List (Option (List ℕ)) → List ℕ
joint_value items = flat_map (λ item. unwrap_or item []) items

-- the maximal runs of items that are no gap, each with its joint value
abbrev pub runs : List (Option (List ℕ)) → List (List ℕ)
runs items = map joint_value (filter (list_any is_some) (slice_split is_none items))

-- what is no item begins a word nevertheless, unless one is under way there
abbrev pub item_at_end : LineEnd → List (Option (List ℕ))
item_at_end (WrongItem fault) = Some [] ∷ []
item_at_end _ = []

-- the words that begin in the part of the line that is read
abbrev pub beginning_words : TextItems LineEnd → List (List ℕ)
beginning_words items = runs (items.items ++ item_at_end items.ending)

abbrev pub result_at_end : LineEnd → List (List ℕ) → Result (List (List ℕ)) WordFault
result_at_end EndOutside words = Ok words
result_at_end EndInside words = Err OpenQuote
result_at_end (WrongItem fault) words = Err fault

-- The words of a line, or its fault. A line is read up to the first byte that begins no item. Where
-- more than 256 words begin up to there, that byte included, word 257 is what is wrong first;
-- otherwise the end of the reading decides.
unfoldable pub words_of : Env → List ℕ → Result (List (List ℕ)) WordFault
words_of env line =
    let items = line_items env line in
    let words = beginning_words items in
    if nat_lt 256 (length words) then Err TooManyWords else result_at_end items.ending words
