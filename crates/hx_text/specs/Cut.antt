-- Texts that are cut at a byte.
use Rattle.std.specs.Prelude.{ℕ, List, [], ◌∷◌, Option, Some, None, option_map, ◌==◌, if◌then◌else◌}
use Rattle.std.specs.List.{slice_split}
use Rattle.std.specs.Option.{option_or}

-- the pieces of a text that is cut at each byte of this value; without such a byte, the one piece
abbrev pub pieces : ℕ → List ℕ → List (List ℕ)
pieces byte text = slice_split (λ b. b == byte) text

-- the text before the first byte of this value, and the text after it; none where no byte has it
abbrev pub cut_of : ℕ → List ℕ → Option (List ℕ × List ℕ)
cut_of byte [] = None
cut_of byte (b ∷ text) =
    if b == byte then Some ([], text) else option_map (λ p. (b ∷ p.0, p.1)) (cut_of byte text)

-- the text up to the last byte of this value, with that byte, and the text after it; none where no
-- byte has it
abbrev pub last_cut_of : ℕ → List ℕ → Option (List ℕ × List ℕ)
last_cut_of byte [] = None
last_cut_of byte (b ∷ text) =
    option_or (option_map (λ p. (b ∷ p.0, p.1)) (last_cut_of byte text))
    (if b == byte then Some (b ∷ [], text) else None)
