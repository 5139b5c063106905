-- Calls as contracts see them.
use Rattle.std.specs.Prelude.{ℕ, List}

-- a name and its arguments
pub record CallForm : Type 0 where
  pub name : List ℕ
  pub args : List (List ℕ)

-- calls in order, and how many bytes they were read from
pub record CallList : Type 0 where
  pub calls : List CallForm
  pub used : ℕ
