-- A text in its parts.
use Rattle.std.proofs.Common.{◌≡◌, ℕ, ◌+◌, ◌<◌, List, ◌++◌, length, take, drop, get_or, sym, ap, ◌∙◌, take-append-drop, append_assoc}
use Rattle.std.specs.Borrow.{Bor}
use Rattle.std.proofs.lemmas.Grind.{flat_map-append}
use Rattle.std.proofs.lemmas.List.{drop_more}
use Rattle.hx_program.specs.Parts.{all_of}

-- a text is what stands before a part, the part, and what follows it
pub around_part : (parts : List (Bor (List ℕ))) (i : ℕ) (d : Bor (List ℕ)) → i < length parts
    → all_of parts ≡ all_of (take i parts) ++ (get_or parts i d).now ++ all_of (drop (i + 1) parts)
around_part parts i d within =
    ap all_of (sym (take-append-drop i parts)) ∙ flat_map-append (λ part. part.now) (take i parts) (drop i parts)
    ∙ ap (λ rest. all_of (take i parts) ++ all_of rest) (drop_more parts i d within)
    ∙ sym (append_assoc (all_of (take i parts)) (get_or parts i d).now (all_of (drop (i + 1) parts)))
