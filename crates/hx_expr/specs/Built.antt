-- How the code keeps the converters of a plan.
use Rattle.std.specs.Prelude.{◌≡◌, ℕ, true, false, List, Option, None, Some, option_map}
use Rattle.hx_ast.specs.declared.conv.Conv.{Conv}
use Rattle.hx_ast.specs.declared.conv.Conv.TheVariants as conv
use Rattle.hx_conv_text.specs.Converters.{is_text_conv}
use Rattle.hx_conv_val.specs.Converters.{is_value_conv}
use Rattle.hx_sample.specs.declared.sample.Value.{Value}
use Rattle.hx_sample.specs.declared.sample.Value.TheVariants as value
use Rattle.hx_expr.specs.Values.{is_map_conv, mapped_value}
use Rattle.hx_expr.specs.declared.map_default.MapDefault.{MapDefault}
use Rattle.hx_expr.specs.declared.map_default.MapDefault.TheVariants as read
use Rattle.hx_expr.specs.declared.plan.Built.{Built}
use Rattle.hx_expr.specs.declared.plan.Built.TheVariants.{Text, Val, Map}

-- the text of a default that was read
abbrev pub default_text : MapDefault → Option (List ℕ)
default_text read.Nothing = None
default_text (read.Str text) = Some text
default_text (read.Int text number) = Some text
default_text (read.Ip text address) = Some text

-- what was read of it
abbrev pub default_value : MapDefault → Option Value
default_value read.Nothing = None
default_value (read.Str text) = Some (value.Str text)
default_value (read.Int text number) = option_map value.Int number
default_value (read.Ip text address) = option_map value.Ip address

-- the converter that was built
abbrev pub conv_of_built : Built → Conv
conv_of_built (Text c) = c
conv_of_built (Val c) = c
conv_of_built (Map head by out default) = conv.Map head by out (default_text default)

-- each is kept as what it is
abbrev pub IsKept : Built → Type 0
IsKept (Text c) = is_text_conv c ≡ true
IsKept (Val c) =
    (is_text_conv c ≡ false) × (is_map_conv c ≡ false) × (is_value_conv c ≡ true)
IsKept (Map head by out default) =
    default_value default ≡ mapped_value out (default_text default) None
