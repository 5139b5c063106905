-- How a reading keeps on from one item to the next.
use Rattle.std.proofs.Common.{◌≡◌, ℕ, zero, suc, List, [], ◌∷◌, drop, Some, None, refl}
use Rattle.hx_words.specs.TextItems.{QuoteState}
use Rattle.hx_words.specs.TextItems.{TextItem, text_items, longer_items, no_items}
use Rattle.hx_words.specs.TextItems.TextItem.{Gap, Part, NoItem}

-- the bytes of the item before can be left out
pub text_items-skip : {E : Type 0} (item : QuoteState → ℕ → List ℕ → TextItem E)
    (close : QuoteState → E) (bs : List ℕ) (state : QuoteState) (k : ℕ)
    → text_items item close bs state k ≡ text_items item close (drop k bs) state 0
unfolding text_items
text_items-skip item close [] state zero = refl
text_items-skip item close [] state (suc k) = refl
text_items-skip item close (b ∷ bs) state zero = refl
text_items-skip item close (b ∷ bs) state (suc k) = text_items-skip item close bs state k

pub text_items-end : {E : Type 0} (item : QuoteState → ℕ → List ℕ → TextItem E)
    (close : QuoteState → E) (state : QuoteState)
    → text_items item close [] state 0 ≡ no_items (close state)
unfolding text_items
text_items-end item close state = refl

pub text_items-gap : {E : Type 0} (item : QuoteState → ℕ → List ℕ → TextItem E)
    (close : QuoteState → E) (b : ℕ) (bs : List ℕ) (state : QuoteState) (n : ℕ)
    → item state b bs ≡ Gap n
    → text_items item close (b ∷ bs) state 0 ≡ longer_items None
    (text_items item close (drop n bs) state 0)
unfolding text_items
text_items-gap item close b bs state n e = rw (e, text_items-skip item close bs state n) refl

pub text_items-part : {E : Type 0} (item : QuoteState → ℕ → List ℕ → TextItem E)
    (close : QuoteState → E) (b : ℕ) (bs : List ℕ) (state : QuoteState) (n : ℕ) (value : List ℕ)
    (after : QuoteState) → item state b bs ≡ Part n value after
    → text_items item close (b ∷ bs) state 0 ≡ longer_items (Some value)
    (text_items item close (drop n bs) after 0)
unfolding text_items
text_items-part item close b bs state n value after e =
    rw (e, text_items-skip item close bs after n) refl

pub text_items-no_items : {E : Type 0} (item : QuoteState → ℕ → List ℕ → TextItem E)
    (close : QuoteState → E) (b : ℕ) (bs : List ℕ) (state : QuoteState) (ending : E)
    → item state b bs ≡ NoItem ending → text_items item close (b ∷ bs) state 0 ≡ no_items ending
unfolding text_items
text_items-no_items item close b bs state ending e = rw e refl
