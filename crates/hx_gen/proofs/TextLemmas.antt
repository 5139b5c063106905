-- Texts that are joined.
use Rattle.std.proofs.Common.{◌≡◌, ℕ, ◌+◌, List, [], ◌∷◌, ◌++◌, ap, ◌∙◌, append_assoc, append-nil}
use Rattle.std.specs.List.{concat}
use Rattle.std.proofs.lemmas.List.Folds.{concat-append}
use Rattle.hx_gen.specs.Numbers.{for_each_to}
use Rattle.hx_gen.proofs.NumberLemmas.{one_more}

-- three lists of texts, one after the other
pub joined : (text : List ℕ) (a b c : List (List ℕ))
    → text ++ concat (a ++ (b ++ c)) ≡ ((text ++ concat a) ++ concat b) ++ concat c
joined text a b c = simp (concat-append, append_assoc)

-- the texts that there are for one number more
pub one_more_joined : (items : ℕ → List (List ℕ)) (n : ℕ)
    → concat (for_each_to (n + 1) items) ≡ concat (for_each_to n items) ++ concat (items (n + 1))
one_more_joined items n = ap concat (one_more items n) ∙ concat-append (for_each_to n items) (items (n + 1))

-- the same after a text, where there is one text for each
pub one_text_more : (items : ℕ → List ℕ) (n : ℕ) (start text : List ℕ)
    → text ≡ start ++ concat (for_each_to n (λ j. items j ∷ []))
    → text ++ items (n + 1) ≡ start ++ concat (for_each_to (n + 1) (λ j. items j ∷ []))
one_text_more items n start text is =
    let more : concat (for_each_to (n + 1) (λ j. items j ∷ []))
    ≡ concat (for_each_to n (λ j. items j ∷ [])) ++ items (n + 1)
    = one_more_joined (λ j. items j ∷ []) n
    ∙ ap (λ xs. concat (for_each_to n (λ j. items j ∷ [])) ++ xs) (append-nil (items (n + 1))) in
    rw (is, more) (append_assoc start (concat (for_each_to n (λ j. items j ∷ []))) (items (n + 1)))

-- two and three texts
pub two_texts : (text a b : List ℕ) → text ++ concat (a ∷ b ∷ []) ≡ (text ++ a) ++ b
two_texts text a b = simp (append_assoc, append-nil)

pub three_texts : (text a b c : List ℕ)
    → text ++ concat (a ∷ b ∷ c ∷ []) ≡ ((text ++ a) ++ b) ++ c
three_texts text a b c = simp (append_assoc, append-nil)
