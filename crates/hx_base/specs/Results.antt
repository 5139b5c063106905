-- One step after another, each of which comes to a value or says why there is none. A `do` block is
-- made of such steps.
use Rattle.std.specs.Prelude.{Result, Ok, Err}

infixl 10 ◌>>=◌
abbrev pub ◌>>=◌ : {A B E : Type 0} → Result A E → (A → Result B E) → Result B E
Ok x >>= f = f x
Err fault >>= f = Err fault
