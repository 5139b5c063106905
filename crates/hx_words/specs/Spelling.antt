-- Calls and the texts that spell them: a relation from calls to texts, which knows nothing of how a
-- text is read.
use Rattle.std.specs.Prelude.{◌≡◌, ℕ, false, List, [], ◌∷◌, ◌++◌, length, Option, None, option_to_list}
use Rattle.std.specs.List.{list_any}
use Rattle.hx_base.specs.Bytes.{ascii, is_given}
use Rattle.hx_words.specs.TextItems.{QuoteState}
use Rattle.hx_words.specs.TextItems.QuoteState.{Outside}
use Rattle.hx_words.specs.TextItems.TextItem.{Part}
use Rattle.hx_words.specs.Arguments.{argument_item}
use Rattle.hx_words.specs.CallForm.{CallForm, CallList}
use Rattle.hx_words.specs.Calls.{ends_name}

-- One or more arguments with commas between, of which the first is under way in this state: its
-- parts follow one another, and their values make it up. A part is a byte and those after it that
-- belong to it, as a plain byte, a quote or an escape: what the table of items takes for this part,
-- whatever follows.
pub data SpellsArguments : QuoteState → List (List ℕ) → List ℕ → Type 0 where
  LastArgument : SpellsArguments Outside ([] ∷ []) []
  NextArgument : (args : List (List ℕ)) (text : List ℕ) → SpellsArguments Outside args text
      → SpellsArguments Outside ([] ∷ args) (ascii "," ∷ text)
  PartOfArgument : (state after : QuoteState) (b : ℕ) (bs value arg : List ℕ) (args : List (List ℕ))
      (text : List ℕ)
      → ((rest : List ℕ) → argument_item state b (bs ++ rest) ≡ Part (length bs) value after)
      → SpellsArguments after (arg ∷ args) text
      → SpellsArguments state ((value ++ arg) ∷ args) (b ∷ (bs ++ text))

-- what stands between the parentheses of a call: nothing is no argument
abbrev pub SpellsInside : QuoteState → List (List ℕ) → List ℕ → Type 0
SpellsInside state args [] = args ≡ []
SpellsInside state args (b ∷ bs) = SpellsArguments state args (b ∷ bs)

-- A call: a name, which may be empty, and nothing or its arguments in parentheses. So `f` and `f()`
-- are the same call.
pub data SpellsCall (stop : Option ℕ) : CallForm → List ℕ → Type 0 where
  NameAlone : (name : List ℕ) → list_any (ends_name stop) name ≡ false
      → SpellsCall stop (record { name = name; args = [] }) name
  WithArguments : (name : List ℕ) (args : List (List ℕ)) (text : List ℕ)
      → list_any (ends_name stop) name ≡ false → is_given stop (ascii "(") ≡ false
      → SpellsInside Outside args text
      → SpellsCall stop (record { name = name; args = args })
      (name ++ (ascii "(" ∷ (text ++ ascii ")" ∷ [])))

-- One or more calls with commas between, and the stop byte at the end, if there is one.
pub data SpellsCalls (stop : Option ℕ) : List CallForm → List ℕ → Type 0 where
  LastCall : (call : CallForm) (text : List ℕ) → SpellsCall stop call text
      → SpellsCalls stop (call ∷ []) (text ++ option_to_list stop)
  FirstCall : (call : CallForm) (calls : List CallForm) (text rest : List ℕ)
      → SpellsCall stop call text → is_given stop (ascii ",") ≡ false
      → SpellsCalls stop calls rest
      → SpellsCalls stop (call ∷ calls) (text ++ ascii "," ∷ rest)

-- The text begins with these calls: a prefix of `used` bytes spells them. It is the whole text
-- where there is no stop byte.
pub record BeginsWithCalls (stop : Option ℕ) (text : List ℕ) (list : CallList) : Type 0 where
  pub prefix : List ℕ
  pub rest : List ℕ
  pub whole : text ≡ prefix ++ rest
  pub used : list.used ≡ length prefix
  pub spelled : SpellsCalls stop list.calls prefix
  pub to_end : stop ≡ None → rest ≡ []

-- The text begins with this last call: the stop byte follows it, if there is one, and then the
-- rest.
abbrev pub BeginsWithLast : Option ℕ → List ℕ → CallForm → List ℕ → Type 0
BeginsWithLast stop text call rest =
    (prefix : List ℕ) × SpellsCall stop call prefix
    × (text ≡ prefix ++ (option_to_list stop ++ rest)) × (stop ≡ None → rest ≡ [])

-- The text begins with this call: a comma follows it, which isn't the stop byte, and then the rest.
abbrev pub BeginsWithCall : Option ℕ → List ℕ → CallForm → List ℕ → Type 0
BeginsWithCall stop text call rest =
    (prefix : List ℕ) × SpellsCall stop call prefix
    × (text ≡ prefix ++ ascii "," ∷ rest) × (is_given stop (ascii ",") ≡ false)
