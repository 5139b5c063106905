-- Tables of the program, as lists.
use Rattle.std.specs.Prelude.{ℕ, List, map}
use Rattle.std.specs.Borrow.{Bor}

abbrev pub texts_in : List (Bor (List ℕ)) → List (List ℕ)
texts_in table = map (λ text. text.now) table

abbrev pub pairs_in : List (Bor (List ℕ) × Bor (List ℕ)) → List (List ℕ × List ℕ)
pairs_in table = map (λ row. (row.0.now, row.1.now)) table

abbrev pub triples_in : List (Bor (List ℕ) × Bor (List ℕ) × Bor (List ℕ))
    → List (List ℕ × List ℕ × List ℕ)
triples_in table = map (λ row. (row.0.now, row.1.now, row.2.now)) table
