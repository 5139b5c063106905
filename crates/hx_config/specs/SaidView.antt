-- The kind and the format of a redirect, as the code keeps them.
use Rattle.std.specs.Prelude.{ℕ, List, [], ◌∷◌, Option, None, Some}
use Rattle.std.specs.Borrow.{Bor}
use Rattle.hx_config.specs.Said.{Words}

abbrev pub kind_view : Option (Bor (List ℕ) × Bor (List ℕ)) → Option Words
kind_view None = None
kind_view (Some kind) = Some (kind.0.now ∷ kind.1.now ∷ [])
