-- What a converter works on: its input, cast to the type that it takes, and its operand.
use Rattle.std.specs.Prelude.{ℕ, ℤ, Option, Some, None, option_and_then}
use Rattle.hx_ast.specs.declared.val.Val.{Val}
use Rattle.hx_ast.specs.declared.val.Val.TheVariants as val
use Rattle.hx_sample.specs.Cast.{cast_of}
use Rattle.hx_sample.specs.Vars.{Scopes, var_of}
use Rattle.hx_sample.specs.declared.sample.Value.{Value}
use Rattle.hx_sample.specs.declared.sample.Value.TheVariants as value
use Rattle.hx_text.specs.declared.kinds.Kind.TheVariants as kind

-- the integer that a value is
abbrev pub int_in : Value → Option ℤ
int_in (value.Int n) = Some n
int_in _ = None

-- a value as an integer, or none where it has no such cast
abbrev pub int_input : Value → Option ℤ
int_input input = option_and_then int_in (cast_of input kind.Int)

-- the number of an operand: its own, or that of a variable, which has none where it is unset or has
-- no cast to an integer
abbrev pub operand_of : ℕ → Scopes → Val → Option ℤ
operand_of conn vars (val.Number n) = Some n
operand_of conn vars (val.Var name) = option_and_then int_input (var_of vars conn name)
