-- The bytes of a key, wherever they lie.
use Rattle.std.specs.Prelude.{ℕ, List}
use Rattle.hx_ebtree.specs.declared.key_bytes.KeyBytes.{KeyBytes}
use Rattle.hx_ebtree.specs.declared.key_bytes.KeyBytes.TheVariants.{Short, Long}

abbrev pub kept_bytes : KeyBytes → List ℕ
kept_bytes (Short bytes) = bytes.items
kept_bytes (Long bytes) = bytes.items
