-- How a text is cut into items, from its beginning on: parts, each with the bytes that it stands
-- for, and gaps between them. The words of a line and the arguments of a call are cut in this way,
-- each by a table of its own. The relation `AreTextItems`, at the end, is to be read first;
-- `text_items` is the one list that it allows, as a function.
use Rattle.std.specs.Prelude.{◌≡◌, ℕ, zero, suc, List, [], ◌∷◌, ◌++◌, length, Option, Some, None}
use Rattle.std.specs.Option.{option_map_or}

-- where a byte stands: outside quotes, in single quotes or in double quotes
pub data QuoteState : Type 0 where
  Outside Single Double : QuoteState

-- the item that begins at a byte, with how many of the bytes after that byte belong to it
pub data TextItem (E : Type 0) : Type 0 where
  -- it separates
  Gap : (count : ℕ) → TextItem E
  -- it stands for these bytes, and what follows it stands in this state
  Part : (count : ℕ) (value : List ℕ) (state : QuoteState) → TextItem E
  -- no item begins here: the text is read no further
  NoItem : (ending : E) → TextItem E

-- how many bytes after its first an item takes
abbrev pub following_count : {E : Type 0} → TextItem E → ℕ
following_count (Gap count) = count
following_count (Part count value state) = count
following_count (NoItem ending) = 0

-- the items of a text, each a part with its value or a gap (`None`), and how the reading ends
pub record TextItems (E : Type 0) : Type 0 where
  pub items : List (Option (List ℕ))
  pub ending : E

abbrev pub no_items : {E : Type 0} → E → TextItems E
no_items e = record { items = []; ending = e }

abbrev pub longer_items : {E : Type 0} → Option (List ℕ) → TextItems E → TextItems E
longer_items item rest = record { items = item ∷ rest.items; ending = rest.ending }

-- a part that leaves the state as it is; `wrong` is the ending where there is none
abbrev pub part_or : {E : Type 0} → E → QuoteState → Option (ℕ × List ℕ) → TextItem E
part_or wrong state part = option_map_or (λ p. Part p.0 p.1 state) part (NoItem wrong)

-- an item, and the items of what follows it
abbrev pub items_with_rest : {E : Type 0}
    → TextItem E → (QuoteState → ℕ → TextItems E) → QuoteState → TextItems E
items_with_rest (Gap count) rest state = longer_items None (rest state count)
items_with_rest (Part count value after) rest state = longer_items (Some value) (rest after count)
items_with_rest (NoItem ending) rest state = no_items ending

-- the items of these bytes in this state, of which the first `skip` belong to the item before
unfoldable pub text_items : {E : Type 0}
    → (QuoteState → ℕ → List ℕ → TextItem E) → (QuoteState → E)
    → List ℕ → QuoteState → ℕ → TextItems E
text_items item close [] state skip = no_items (close state)
text_items item close (b ∷ bs) state (suc skip) = text_items item close bs state skip
text_items item close (b ∷ bs) state zero =
    items_with_rest (item state b bs) (λ after skip. text_items item close bs after skip) state

-- The relation between bytes and their items. `item` is the table of items: what begins with a
-- byte, with the bytes after it. `close` says how the reading ends where the bytes do. The bytes
-- are those of the first item, `b` and `bs`, and the rest.
pub data AreTextItems {E : Type 0} (item : QuoteState → ℕ → List ℕ → TextItem E)
    (close : QuoteState → E) : QuoteState → List ℕ → TextItems E → Type 0 where
  NoBytes : (state : QuoteState) → AreTextItems item close state [] (no_items (close state))
  FirstGap : (state : QuoteState) (b : ℕ) (bs rest : List ℕ) (items : TextItems E)
      → item state b (bs ++ rest) ≡ Gap (length bs)
      → AreTextItems item close state rest items
      → AreTextItems item close state (b ∷ (bs ++ rest)) (longer_items None items)
  FirstPart : (state after : QuoteState) (b : ℕ) (bs rest value : List ℕ) (items : TextItems E)
      → item state b (bs ++ rest) ≡ Part (length bs) value after
      → AreTextItems item close after rest items
      → AreTextItems item close state (b ∷ (bs ++ rest)) (longer_items (Some value) items)
  FirstNone : (state : QuoteState) (b : ℕ) (bs : List ℕ) (ending : E)
      → item state b bs ≡ NoItem ending
      → AreTextItems item close state (b ∷ bs) (no_items ending)
