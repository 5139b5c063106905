-- A reader or a writer of std beside the count of its faults.
use Rattle.std.specs.Prelude.{ℕ}

-- a reader or a writer as it is, and how many of its calls failed
pub record AdapterState (T : Type 0) : Type 0 where
  pub inner : T
  pub faults : ℕ
