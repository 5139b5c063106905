-- The numbers of an entry's nodes as the code keeps them.
use Rattle.std.specs.Prelude.{ℕ, List, [], ◌∷◌}
use Rattle.hx_versions.specs.declared.node_numbers.Numbers.{Numbers}
use Rattle.hx_versions.specs.declared.node_numbers.Numbers.TheVariants as kept

abbrev pub numbers_of : Numbers → List ℕ
numbers_of kept.None = []
numbers_of (kept.One number) = number ∷ []
numbers_of (kept.Several numbers) = numbers.value.items
