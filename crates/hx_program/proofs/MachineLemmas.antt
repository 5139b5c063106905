-- The variables of the environment, entry by entry.
use Rattle.std.proofs.Common.{◌≡◌, ℕ, ◌+◌, ◌<◌, List, [], ◌∷◌, ◌++◌, length, take, get_or, ap, ◌∙◌}
use Rattle.std.specs.declared.alloc.Global.{Global}
use Rattle.std.specs.declared.vec.Vec.{Vec}
use Rattle.std.proofs.lemmas.List.{take_more, map-append}
use Rattle.std.proofs.lemmas.List.Elements.{filter_map-append}
use Rattle.hx_base.specs.Pairs.{pairs_of}
use Rattle.hx_program.specs.Machine.{entry_variable, texts_of, variables_of}

pub one_more : (entries : List (Vec ℕ Global)) (i : ℕ) (d : Vec ℕ Global) → i < length entries
    → variables_of (texts_of (take (i + 1) entries)) ≡ variables_of (texts_of (take i entries)) ++ variables_of ((get_or entries i d).items ∷ [])
one_more entries i d within =
    ap (λ taken. variables_of (texts_of taken)) (take_more entries i d within)
    ∙ ap variables_of (map-append (λ entry. entry.items) (take i entries) (get_or entries i d ∷ []))
    ∙ filter_map-append entry_variable (texts_of (take i entries)) ((get_or entries i d).items ∷ [])

pub pairs_more : (pairs : List (Vec ℕ Global × Vec ℕ Global)) (pair : Vec ℕ Global × Vec ℕ Global)
    → pairs_of (pairs ++ pair ∷ []) ≡ pairs_of pairs ++ (pair.0.items, pair.1.items) ∷ []
pairs_more pairs pair = map-append (λ pair. (pair.0.items, pair.1.items)) pairs (pair ∷ [])
