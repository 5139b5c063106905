-- Texts in parts.
use Rattle.std.specs.Prelude.{ℕ, List, flat_map}
use Rattle.std.specs.Borrow.{Bor}

-- the bytes of all parts of a text
abbrev pub all_of : List (Bor (List ℕ)) → List ℕ
all_of parts = flat_map (λ part. part.now) parts
