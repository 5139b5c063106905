-- The names that a configuration gives to variables.
use Rattle.std.specs.Prelude.{ℕ, ◌<◌, ◌||◌, ◌==◌, Bool, length}
use Rattle.std.specs.List.{AllPass}
use Rattle.std.specs.Char.{is_ascii_alphanumeric}
use Rattle.hx_base.specs.Bytes.{ascii}
use Rattle.hx_text.specs.declared.names.VarName.{VarName}

-- the bytes of the name of a variable: letters and digits of ASCII, `.` and `_`
abbrev pub is_variable_byte : ℕ → Bool
is_variable_byte b = is_ascii_alphanumeric b || b == ascii "." || b == ascii "_"

-- the name of a variable: one such byte or more after the scope (HAProxy configuration manual 2.4,
-- section 7.3.2, `var`)
pub record IsVariable (variable : VarName) : Type 0 where
  pub some : 0 < length variable.name
  pub bytes : AllPass is_variable_byte variable.name
