-- The private enums of src/ as the definitions have them.
use Rattle.std.specs.Prelude.{ℕ, List, [], ◌∷◌, Option, option_map}
use Rattle.hx_words.specs.declared.argument.ArgToken.{ArgToken}
use Rattle.hx_words.specs.declared.argument.ArgToken.TheVariants as argument
use Rattle.hx_words.specs.declared.fault.ArgFault.TheVariants.{BadEscape}
use Rattle.hx_words.specs.declared.quoting.Mode.{Mode}
use Rattle.hx_words.specs.declared.quoting.Mode.TheVariants as modes
use Rattle.hx_words.specs.declared.quoting.PartValue.{PartValue}
use Rattle.hx_words.specs.declared.quoting.PartValue.TheVariants.{Nothing, One, Two, Lent}
use Rattle.hx_words.specs.declared.token.Token.{Token}
use Rattle.hx_words.specs.declared.token.Token.TheVariants as word
use Rattle.hx_words.specs.TextItems.{QuoteState, TextItem}
use Rattle.hx_words.specs.TextItems.QuoteState.{Outside, Single, Double}
use Rattle.hx_words.specs.TextItems.TextItem.{Gap, Part, NoItem}
use Rattle.hx_words.specs.Arguments.{ArgumentsEnd}
use Rattle.hx_words.specs.Arguments.ArgumentsEnd.{AtParenthesis, AtFault}
use Rattle.hx_words.specs.Words.{LineEnd}
use Rattle.hx_words.specs.Words.LineEnd.{WrongItem}

abbrev pub quote_state_of : Mode → QuoteState
quote_state_of modes.Outside = Outside
quote_state_of modes.Single = Single
quote_state_of modes.Double = Double

-- the bytes that a part's value is
abbrev pub part_bytes : PartValue → List ℕ
part_bytes Nothing = []
part_bytes (One a) = a ∷ []
part_bytes (Two a b) = a ∷ b ∷ []
part_bytes (Lent bytes) = bytes.now

abbrev pub escape_view : Option (ℕ × PartValue) → Option (ℕ × List ℕ)
escape_view part = option_map (λ found. (found.0, part_bytes found.1)) part

-- the item of a line that a token is
abbrev pub word_item_of : Token → TextItem LineEnd
word_item_of (word.Gap count) = Gap count
word_item_of (word.Part count value mode) = Part count (part_bytes value) (quote_state_of mode)
word_item_of (word.Wrong fault) = NoItem (WrongItem fault)

-- the item of an argument that a token is, where these bytes follow its first
abbrev pub argument_item_of : List ℕ → ArgToken → TextItem ArgumentsEnd
argument_item_of after argument.Comma = Gap 0
argument_item_of after argument.Close = NoItem (AtParenthesis after)
argument_item_of after (argument.Part count value mode) =
    Part count (part_bytes value) (quote_state_of mode)
argument_item_of after argument.NoHex = NoItem (AtFault BadEscape)
