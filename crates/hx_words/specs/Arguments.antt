-- The arguments of a call, between its parentheses. How they are quoted is this project's own:
-- quotes and backslashes as in the words of a line, and no variables. `argument_item` is the table;
-- the relation to read first is `SpellsArguments` of `Spelling`, and `arguments` the function.
use Rattle.std.specs.Prelude.{ℕ, ◌==◌, if◌then◌else◌, List, [], ◌∷◌, map, Option, is_none}
use Rattle.std.specs.List.{slice_split}
use Rattle.hx_base.specs.Bytes.{ascii}
use Rattle.hx_words.specs.declared.fault.ArgFault.{ArgFault}
use Rattle.hx_words.specs.declared.fault.ArgFault.TheVariants.{Unclosed, BadEscape, OpenQuote}
use Rattle.hx_words.specs.Quoting.{part_at}
use Rattle.hx_words.specs.TextItems.{QuoteState, TextItem, TextItems, text_items}
use Rattle.hx_words.specs.TextItems.QuoteState.{Outside, Single, Double}
use Rattle.hx_words.specs.TextItems.TextItem.{Gap, NoItem}
use Rattle.hx_words.specs.Words.{joint_value}

-- how the reading of arguments ends
pub data ArgumentsEnd : Type 0 where
  -- at `)` outside quotes, which these bytes follow
  AtParenthesis : (rest : List ℕ) → ArgumentsEnd
  -- at the text's end, or where no item begins
  AtFault : (fault : ArgFault) → ArgumentsEnd

abbrev pub arguments_end : QuoteState → ArgumentsEnd
arguments_end Outside = AtFault Unclosed
arguments_end Single = AtFault OpenQuote
arguments_end Double = AtFault OpenQuote

-- the table: the item that begins with byte b, where the bytes bs follow. Outside quotes `)` ends
-- the arguments, and a comma is a gap
unfoldable pub argument_item : QuoteState → ℕ → List ℕ → TextItem ArgumentsEnd
argument_item Outside b bs =
    if b == ascii ")" then NoItem (AtParenthesis bs) else
    (if b == ascii "," then Gap 0 else part_at (AtFault BadEscape) Outside b bs)
argument_item state b bs = part_at (AtFault BadEscape) state b bs

-- the items after `(`
abbrev pub argument_items : List ℕ → TextItems ArgumentsEnd
argument_items bs = text_items argument_item arguments_end bs Outside 0

-- the arguments that these items are: what stands between the commas, each with its joint value.
-- Where there is no item at all, as in `()`, there is no argument
abbrev pub arguments : List (Option (List ℕ)) → List (List ℕ)
arguments [] = []
arguments (item ∷ items) = map joint_value (slice_split is_none (item ∷ items))
