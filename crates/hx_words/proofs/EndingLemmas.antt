-- What holds of each ending that an item or the text's end gives holds of the ending of a reading.
use Rattle.std.proofs.Common.{ℕ, zero, suc, Bool, true, false, if◌then◌else◌, List, [], ◌∷◌, length, Option, Some, None}
use Rattle.hx_words.specs.TextItems.{QuoteState}
use Rattle.hx_words.specs.TextItems.{TextItem, TextItems, text_items, items_with_rest, part_or}
use Rattle.hx_words.specs.TextItems.TextItem.{Gap, Part, NoItem}

-- P holds of the ending, if the item is one
abbrev pub StopsBy : {E : Type 0} → (E → Type 0) → TextItem E → Type 0
StopsBy P (Gap count) = Unit {0}
StopsBy P (Part count value state) = Unit {0}
StopsBy P (NoItem ending) = P ending

pub stops-either : {E : Type 0} (P : E → Type 0) (b : Bool) (x y : TextItem E) → StopsBy P x
    → StopsBy P y → StopsBy P (if b then x else y)
stops-either P true x y p q = p
stops-either P false x y p q = q

pub stops-part : {E : Type 0} (P : E → Type 0) (wrong : E) (state : QuoteState)
    (part : Option (ℕ × List ℕ)) → P wrong → StopsBy P (part_or wrong state part)
stops-part P wrong state None p = p
stops-part P wrong state (Some part) p = tt

stops-items_with_rest : {E : Type 0} (P : E → Type 0) (x : TextItem E)
    (rest : QuoteState → ℕ → TextItems E) (state : QuoteState) → StopsBy P x
    → ((after : QuoteState) (n : ℕ) → P (rest after n).ending) → P (items_with_rest x rest state).ending
stops-items_with_rest P (Gap count) rest state here later = later state count
stops-items_with_rest P (Part count value after) rest state here later = later after count
stops-items_with_rest P (NoItem ending) rest state here later = here

-- P also takes the number of bytes, and holds of a larger one where it holds of a smaller
pub ending-by : {E : Type 0} (P : ℕ → E → Type 0) (item : QuoteState → ℕ → List ℕ → TextItem E)
    (close : QuoteState → E) → ((n : ℕ) (e : E) → P n e → P (suc n) e)
    → ((state : QuoteState) (b : ℕ) (bs : List ℕ) → StopsBy (P (suc (length bs))) (item state b bs))
    → ((state : QuoteState) → P 0 (close state)) → (bs : List ℕ) (state : QuoteState) (k : ℕ)
    → P (length bs) (text_items item close bs state k).ending
unfolding text_items
ending-by P item close more here end [] state k = end state
ending-by P item close more here end (b ∷ bs) state (suc k) =
    more (length bs) _ (ending-by P item close more here end bs state k)
ending-by P item close more here end (b ∷ bs) state zero =
    stops-items_with_rest (P (suc (length bs))) (item state b bs)
    (λ after n. text_items item close bs after n) state (here state b bs)
    (λ after n. more (length bs) _ (ending-by P item close more here end bs after n))
