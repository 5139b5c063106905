-- Bytes have exactly one list of items.
use Rattle.std.proofs.Common.{◌≡◌, ℕ, zero, suc, ◌≤◌, List, [], ◌∷◌, ◌++◌, length, take, drop, Some, None, refl, sym, ap, ◌∙◌, subst, arith}
use Rattle.std.proofs.lemmas.Grind.{common_steps}
use Rattle.hx_words.specs.TextItems.{QuoteState, TextItem, TextItems, following_count, text_items, items_with_rest, longer_items, AreTextItems}
use Rattle.hx_words.specs.TextItems.TextItem.{Gap, Part, NoItem}
use Rattle.hx_words.specs.TextItems.AreTextItems.{NoBytes, FirstGap, FirstPart, FirstNone}
use Rattle.hx_words.proofs.TextItemLemmas.{text_items-end, text_items-gap, text_items-part, text_items-no_items}

drop-prefix : (prefix rest : List ℕ) → drop (length prefix) (prefix ++ rest) ≡ rest
drop-prefix [] rest = refl
drop-prefix (b ∷ prefix) rest = drop-prefix prefix rest

pub one_list : {E : Type 0} (item : QuoteState → ℕ → List ℕ → TextItem E) (close : QuoteState → E)
    (state : QuoteState) (bs : List ℕ) (items : TextItems E)
    → AreTextItems item close state bs items → items ≡ text_items item close bs state 0
one_list item close _ _ _ (NoBytes m) = sym (text_items-end item close m)
one_list item close _ _ _ (FirstGap m b prefix rest later is follows) =
    ap (longer_items None)
    (one_list item close m rest later follows ∙ ap (λ (r : List ℕ). text_items item close r m 0)
    (sym (drop-prefix prefix rest)))
    ∙ sym (text_items-gap item close b (prefix ++ rest) m (length prefix) is)
one_list item close _ _ _ (FirstPart m after b prefix rest value later is follows) =
    ap (longer_items (Some value))
    (one_list item close after rest later follows ∙ ap
    (λ (r : List ℕ). text_items item close r after 0) (sym (drop-prefix prefix rest)))
    ∙ sym (text_items-part item close b (prefix ++ rest) m (length prefix) value after is)
one_list item close _ _ _ (FirstNone m b bs ending is) =
    sym (text_items-no_items item close b bs m ending is)

whole-of : (n : ℕ) (bs : List ℕ) → take n bs ++ drop n bs ≡ bs
whole-of n bs = grind (arith, common_steps)

prefix-length : (n : ℕ) (bs : List ℕ) → n ≤ length bs → length (take n bs) ≡ n
prefix-length n bs h = grind (arith, common_steps)

at-gap : {E : Type 0} (item : QuoteState → ℕ → List ℕ → TextItem E) (close : QuoteState → E)
    (state : QuoteState) (b : ℕ) (bs : List ℕ) (n : ℕ) (items : TextItems E)
    → item state b bs ≡ Gap n → n ≤ length bs → AreTextItems item close state (drop n bs) items
    → AreTextItems item close state (b ∷ bs) (longer_items None items)
at-gap item close state b bs n items is within follows =
    let whole = whole-of n bs in
    let at_item : item state b (take n bs ++ drop n bs) ≡ Gap (length (take n bs)) =
    ap (item state b) whole ∙ is ∙ ap Gap (sym (prefix-length n bs within)) in
    subst (λ (r : List ℕ). AreTextItems item close state (b ∷ r) (longer_items None items)) whole
    (FirstGap state b (take n bs) (drop n bs) items at_item follows)

at-part : {E : Type 0} (item : QuoteState → ℕ → List ℕ → TextItem E) (close : QuoteState → E)
    (state after : QuoteState) (b : ℕ) (bs : List ℕ) (n : ℕ) (value : List ℕ) (items : TextItems E)
    → item state b bs ≡ Part n value after → n ≤ length bs
    → AreTextItems item close after (drop n bs) items
    → AreTextItems item close state (b ∷ bs) (longer_items (Some value) items)
at-part item close state after b bs n value items is within follows =
    let whole = whole-of n bs in
    let at_item : item state b (take n bs ++ drop n bs) ≡ Part (length (take n bs)) value after =
    ap (item state b) whole ∙ is ∙ ap (λ (k : ℕ). Part k value after)
    (sym (prefix-length n bs within)) in
    subst (λ (r : List ℕ). AreTextItems item close state (b ∷ r)
    (longer_items (Some value) items)) whole (FirstPart state after b (take n bs)
    (drop n bs) value items at_item follows)

at-item : {E : Type 0} (item : QuoteState → ℕ → List ℕ → TextItem E) (close : QuoteState → E)
    (state : QuoteState) (b : ℕ) (bs : List ℕ) (x : TextItem E) → item state b bs ≡ x
    → following_count x ≤ length bs
    → ((after : QuoteState) (n : ℕ) → n ≤ length bs → AreTextItems item close after (drop n bs)
    (text_items item close bs after n)) → AreTextItems item close state (b ∷ bs)
    (items_with_rest x (λ after n. text_items item close bs after n) state)
at-item item close state b bs (Gap n) is within follows =
    at-gap item close state b bs n (text_items item close bs state n) is within
    (follows state n within)
at-item item close state b bs (Part n value after) is within follows =
    at-part item close state after b bs n value (text_items item close bs after n) is within
    (follows after n within)
at-item item close state b bs (NoItem ending) is within follows = FirstNone state b bs ending is

-- what `text_items` gives are the items, if none takes more bytes than there are
pub is_list : {E : Type 0} (item : QuoteState → ℕ → List ℕ → TextItem E) (close : QuoteState → E)
    → ((state : QuoteState) (b : ℕ) (bs : List ℕ) → following_count (item state b bs) ≤ length bs)
    → (bs : List ℕ) (state : QuoteState) (k : ℕ) → k ≤ length bs
    → AreTextItems item close state (drop k bs) (text_items item close bs state k)
unfolding text_items
is_list item close within [] state zero h = NoBytes state
is_list item close within [] state (suc k) h = NoBytes state
is_list item close within (b ∷ bs) state (suc k) h =
    is_list item close within bs state k (omega arith)
is_list item close within (b ∷ bs) state zero h =
    at-item item close state b bs (item state b bs) refl (within state b bs)
    (λ after n shorter. is_list item close within bs after n shorter)
