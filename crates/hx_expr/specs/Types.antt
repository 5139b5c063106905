-- Which types have casts, and which expressions have types that fit, as far as that is known
-- when they are compiled (HAProxy configuration manual 2.4, sections 7.3.1 to 7.3.6).
use Rattle.std.specs.Prelude.{◌&&◌, Bool, true, false, List, [], ◌∷◌}
use Rattle.hx_ast.specs.declared.conv.Conv.{Conv}
use Rattle.hx_ast.specs.declared.expr.Expr.{Expr}
use Rattle.hx_ast.specs.Types.{fetch_kind, input_kind, output_kind}
use Rattle.hx_text.specs.declared.kinds.Kind.{Kind}
use Rattle.hx_text.specs.declared.kinds.Kind.TheVariants as kind

-- Whether there is a cast from the one type to the other. Whether a value has it shows when it is
-- cast. From a type that isn't known every cast is allowed.
abbrev pub can_cast : Kind → Kind → Bool
can_cast kind.Any to = true
can_cast kind.Str to = true
can_cast from kind.Any = true
can_cast from kind.Str = true
can_cast kind.Bool kind.Bool = true
can_cast kind.Bool kind.Int = true
can_cast kind.Int kind.Bool = true
can_cast kind.Int kind.Int = true
can_cast kind.Ip kind.Ip = true
can_cast kind.Bin kind.Bin = true
can_cast kind.Method kind.Bin = true
can_cast kind.Method kind.Method = true
can_cast from to = false

-- whether there is a cast at each converter, where the input of the first is of this type
abbrev pub have_casts : Kind → List Conv → Bool
have_casts from [] = true
have_casts from (c ∷ convs) = can_cast from (input_kind c) && have_casts (output_kind c) convs

-- whether there is a cast at each converter of the expression
abbrev pub is_typed : Expr → Bool
is_typed expr = have_casts (fetch_kind expr.fetch) expr.convs
