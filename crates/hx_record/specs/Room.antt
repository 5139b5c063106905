-- Bytes that are held, with room for more.
use Rattle.std.specs.Prelude.{ℕ, List}

-- the bytes, and how many more have room after them
pub record BytesWithRoom : Type 0 where
  pub bytes : List ℕ
  pub room : ℕ
