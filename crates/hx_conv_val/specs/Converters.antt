-- What each converter of numbers, addresses and encodings makes of a value (HAProxy configuration
-- manual 2.4, section 7.3.1).
use Rattle.std.specs.Prelude.{ℕ, ℤ, ◌+ℤ◌, ◌-ℤ◌, ◌*ℤ◌, neg_ℤ, not, Bool, true, false, Option, Some, None, option_map, option_and_then, if◌then◌else◌}
use Rattle.std.specs.Int.{w64, saturate_signed, int_bit_and, int_bit_or, int_bit_xor, int_bit_not}
use Rattle.hex.specs.Hex.{encode_upper}
use Rattle.hx_ast.specs.Types.{input_kind}
use Rattle.hx_ast.specs.declared.conv.Conv.{Conv}
use Rattle.hx_ast.specs.declared.conv.Conv.TheVariants as conv
use Rattle.hx_ast.specs.declared.val.Val.{Val}
use Rattle.hx_sample.specs.Cast.{cast_of, is_not_zero}
use Rattle.hx_sample.specs.Vars.{Scopes}
use Rattle.hx_sample.specs.declared.sample.Value.{Value}
use Rattle.hx_sample.specs.declared.sample.Value.TheVariants as value
use Rattle.hx_conv_val.specs.Inputs.{operand_of}
use Rattle.hx_conv_val.specs.Numbers.{is_zero, is_even, saturating, quotient_of, remainder_of}
use Rattle.hx_conv_val.specs.Addresses.{masked_address}
use Rattle.hx_conv_val.specs.Encodings.{base64_text, base64url_text, base64_bytes, base64url_bytes, hex_number, digest_of}

-- whether the converter is one of those that are defined here
abbrev pub is_value_conv : Conv → Bool
is_value_conv (conv.Iif t f) = true
is_value_conv conv.Bool = true
is_value_conv conv.Even = true
is_value_conv conv.Odd = true
is_value_conv conv.Not = true
is_value_conv (conv.Add operand) = true
is_value_conv (conv.Sub operand) = true
is_value_conv (conv.Mul operand) = true
is_value_conv (conv.Div operand) = true
is_value_conv (conv.Mod operand) = true
is_value_conv conv.Neg = true
is_value_conv (conv.And operand) = true
is_value_conv (conv.Or operand) = true
is_value_conv (conv.Xor operand) = true
is_value_conv conv.Cpl = true
is_value_conv (conv.Ipmask mask bits) = true
is_value_conv conv.Base64 = true
is_value_conv conv.Ub64enc = true
is_value_conv conv.B64dec = true
is_value_conv conv.Ub64dec = true
is_value_conv conv.Hex = true
is_value_conv conv.Hex2i = true
is_value_conv (conv.Sha2 bits) = true
is_value_conv _ = false

-- Whether the converter takes an integer or an address. No sample is cast to those by printing it,
-- so such a converter takes no memory.
abbrev pub takes_no_memory : Conv → Bool
takes_no_memory conv.Bool = true
takes_no_memory conv.Even = true
takes_no_memory conv.Odd = true
takes_no_memory conv.Not = true
takes_no_memory (conv.Add operand) = true
takes_no_memory (conv.Sub operand) = true
takes_no_memory (conv.Mul operand) = true
takes_no_memory (conv.Div operand) = true
takes_no_memory (conv.Mod operand) = true
takes_no_memory conv.Neg = true
takes_no_memory (conv.And operand) = true
takes_no_memory (conv.Or operand) = true
takes_no_memory (conv.Xor operand) = true
takes_no_memory conv.Cpl = true
takes_no_memory (conv.Ipmask mask bits) = true
takes_no_memory _ = false

-- an operation on the input and the number of the operand, if it has one
abbrev pub calculated : (ℤ → ℤ → ℤ) → ℤ → Option ℤ → Option Value
calculated operation n operand = option_map (λ m. value.Int (operation n m)) operand

-- What a converter makes of a value of the type that it takes, where operands have these numbers;
-- none of a value of another type.
abbrev pub made_of : Conv → (Val → Option ℤ) → Value → Option Value
made_of (conv.Iif t f) number (value.Bool b) = Some (value.Str (if b then t else f))
made_of conv.Bool number (value.Int n) = Some (value.Bool (is_not_zero n))
made_of conv.Even number (value.Int n) = Some (value.Bool (is_even n))
made_of conv.Odd number (value.Int n) = Some (value.Bool (not (is_even n)))
made_of conv.Not number (value.Int n) = Some (value.Bool (is_zero n))
made_of (conv.Add operand) number (value.Int n) = calculated (saturating ◌+ℤ◌) n (number operand)
made_of (conv.Sub operand) number (value.Int n) = calculated (saturating ◌-ℤ◌) n (number operand)
made_of (conv.Mul operand) number (value.Int n) = calculated (saturating ◌*ℤ◌) n (number operand)
made_of (conv.Div operand) number (value.Int n) = calculated quotient_of n (number operand)
made_of (conv.Mod operand) number (value.Int n) = calculated remainder_of n (number operand)
made_of conv.Neg number (value.Int n) = Some (value.Int (saturate_signed w64 (neg_ℤ n)))
made_of (conv.And operand) number (value.Int n) = calculated (int_bit_and w64) n (number operand)
made_of (conv.Or operand) number (value.Int n) = calculated (int_bit_or w64) n (number operand)
made_of (conv.Xor operand) number (value.Int n) = calculated (int_bit_xor w64) n (number operand)
made_of conv.Cpl number (value.Int n) = Some (value.Int (int_bit_not w64 n))
made_of (conv.Ipmask mask bits) number (value.Ip ip) =
    option_map value.Ip (masked_address mask bits ip)
made_of conv.Base64 number (value.Bin bytes) = Some (value.Str (base64_text bytes))
made_of conv.Ub64enc number (value.Bin bytes) = Some (value.Str (base64url_text bytes))
made_of conv.B64dec number (value.Str text) = option_map value.Bin (base64_bytes text)
made_of conv.Ub64dec number (value.Str text) = option_map value.Bin (base64url_bytes text)
made_of conv.Hex number (value.Bin bytes) = Some (value.Str (encode_upper bytes))
made_of conv.Hex2i number (value.Str text) = Some (value.Int (hex_number text))
made_of (conv.Sha2 bits) number (value.Bin bytes) = Some (value.Bin (digest_of bits bytes))
made_of _ number _ = None

-- The value that a converter makes of one, for a connection and the variables. The value is cast
-- first to the type that the converter takes; without a cast there is none.
unfoldable pub value_conv_of : Conv → Value → ℕ → Scopes → Option Value
value_conv_of conv input conn vars =
    option_and_then (made_of conv (operand_of conn vars)) (cast_of input (input_kind conv))
