-- A writer whose reader may go.
use Rattle.std.specs.Prelude.{Bool}

-- a writer, and whether a write found that nobody reads any more
pub record WriterWithNote (W : Type 0) : Type 0 where
  pub writer : W
  pub is_alone : Bool
