-- How the code keeps a built converter: by the type of its input.
use Rattle.std.specs.Prelude.{ℕ, ℤ, ◌+ℤ◌, ◌-ℤ◌, ◌*ℤ◌, neg_ℤ, Bool, not, List, Option, None, Some, option_and_then, option_map, if◌then◌else◌}
use Rattle.std.specs.Int.{w64, saturate_signed, int_bit_and, int_bit_or, int_bit_xor, int_bit_not}
use Rattle.hex.specs.Hex.{encode_upper}
use Rattle.hx_ast.specs.declared.conv.Conv.{Conv}
use Rattle.hx_ast.specs.declared.conv.Conv.TheVariants as conv
use Rattle.hx_ast.specs.declared.val.Val.{Val}
use Rattle.hx_sample.specs.Cast.{cast_of, is_not_zero}
use Rattle.hx_sample.specs.declared.sample.Value.{Value}
use Rattle.hx_sample.specs.declared.sample.Value.TheVariants as value
use Rattle.hx_text.specs.declared.address.Ip.{Ip}
use Rattle.hx_text.specs.declared.kinds.Kind.TheVariants as kind
use Rattle.hx_conv_val.specs.declared.form.Form.{Form}
use Rattle.hx_conv_val.specs.declared.form.Form.TheVariants as form
use Rattle.hx_conv_val.specs.declared.form.IntForm.{IntForm}
use Rattle.hx_conv_val.specs.declared.form.IntForm.TheVariants as int_form
use Rattle.hx_conv_val.specs.declared.form.Operation.{Operation}
use Rattle.hx_conv_val.specs.declared.form.Operation.TheVariants as operation
use Rattle.hx_conv_val.specs.declared.form.BytesForm.{BytesForm}
use Rattle.hx_conv_val.specs.declared.form.BytesForm.TheVariants as bytes_form
use Rattle.hx_conv_val.specs.declared.form.TextForm.{TextForm}
use Rattle.hx_conv_val.specs.declared.form.TextForm.TheVariants as text_form
use Rattle.hx_conv_val.specs.Converters.{calculated}
use Rattle.hx_conv_val.specs.Numbers.{is_zero, is_even, saturating, quotient_of, remainder_of}
use Rattle.hx_conv_val.specs.Encodings.{base64_text, base64url_text, base64_bytes, base64url_bytes, hex_number, digest_of}

-- the converters that these forms stand for
abbrev pub int_conv : IntForm → Conv
int_conv int_form.Bool = conv.Bool
int_conv int_form.Even = conv.Even
int_conv int_form.Odd = conv.Odd
int_conv int_form.Not = conv.Not
int_conv int_form.Neg = conv.Neg
int_conv int_form.Cpl = conv.Cpl

abbrev pub operation_conv : Operation → Val → Conv
operation_conv operation.Add operand = conv.Add operand
operation_conv operation.Sub operand = conv.Sub operand
operation_conv operation.Mul operand = conv.Mul operand
operation_conv operation.Div operand = conv.Div operand
operation_conv operation.Mod operand = conv.Mod operand
operation_conv operation.And operand = conv.And operand
operation_conv operation.Or operand = conv.Or operand
operation_conv operation.Xor operand = conv.Xor operand

abbrev pub bytes_conv : BytesForm → Conv
bytes_conv bytes_form.Base64 = conv.Base64
bytes_conv bytes_form.Ub64enc = conv.Ub64enc
bytes_conv bytes_form.Hex = conv.Hex
bytes_conv (bytes_form.Sha2 bits) = conv.Sha2 bits

abbrev pub text_conv : TextForm → Conv
text_conv text_form.B64dec = conv.B64dec
text_conv text_form.Ub64dec = conv.Ub64dec
text_conv text_form.Hex2i = conv.Hex2i

abbrev pub conv_of_val : Form → Conv
conv_of_val (form.Iif t f) = conv.Iif t f
conv_of_val (form.Int c) = int_conv c
conv_of_val (form.Calculation o operand) = operation_conv o operand
conv_of_val (form.Ipmask mask bits) = conv.Ipmask mask bits
conv_of_val (form.Bytes c) = bytes_conv c
conv_of_val (form.Text c) = text_conv c

-- what a value of one type holds
abbrev pub bool_in : Value → Option Bool
bool_in (value.Bool b) = Some b
bool_in _ = None

abbrev pub ip_in : Value → Option Ip
ip_in (value.Ip ip) = Some ip
ip_in _ = None

abbrev pub text_in : Value → Option (List ℕ)
text_in (value.Str text) = Some text
text_in _ = None

abbrev pub bytes_in : Value → Option (List ℕ)
bytes_in (value.Bin bytes) = Some bytes
bytes_in _ = None

-- the input as a converter takes it, or none where it has no such cast
abbrev pub bool_input : Value → Option Bool
bool_input input = option_and_then bool_in (cast_of input kind.Bool)

abbrev pub ip_input : Value → Option Ip
ip_input input = option_and_then ip_in (cast_of input kind.Ip)

abbrev pub text_input : Value → Option (List ℕ)
text_input input = option_and_then text_in (cast_of input kind.Str)

abbrev pub bytes_input : Value → Option (List ℕ)
bytes_input input = option_and_then bytes_in (cast_of input kind.Bin)

-- what the forms make of an input that is cast already
abbrev pub choice_of : List ℕ → List ℕ → Bool → Value
choice_of t f b = value.Str (if b then t else f)

abbrev pub int_value : IntForm → ℤ → Value
int_value int_form.Bool n = value.Bool (is_not_zero n)
int_value int_form.Even n = value.Bool (is_even n)
int_value int_form.Odd n = value.Bool (not (is_even n))
int_value int_form.Not n = value.Bool (is_zero n)
int_value int_form.Neg n = value.Int (saturate_signed w64 (neg_ℤ n))
int_value int_form.Cpl n = value.Int (int_bit_not w64 n)

abbrev pub operation_result : Operation → ℤ → ℤ → ℤ
operation_result operation.Add n m = saturating ◌+ℤ◌ n m
operation_result operation.Sub n m = saturating ◌-ℤ◌ n m
operation_result operation.Mul n m = saturating ◌*ℤ◌ n m
operation_result operation.Div n m = quotient_of n m
operation_result operation.Mod n m = remainder_of n m
operation_result operation.And n m = int_bit_and w64 n m
operation_result operation.Or n m = int_bit_or w64 n m
operation_result operation.Xor n m = int_bit_xor w64 n m

-- an operation on the input and the operand; none where either is
abbrev pub calculated_value : (ℤ → ℤ → ℤ) → Option ℤ → Option ℤ → Option Value
calculated_value operation input operand =
    option_and_then (λ n. calculated operation n operand) input

abbrev pub bytes_value : BytesForm → List ℕ → Value
bytes_value bytes_form.Base64 bytes = value.Str (base64_text bytes)
bytes_value bytes_form.Ub64enc bytes = value.Str (base64url_text bytes)
bytes_value bytes_form.Hex bytes = value.Str (encode_upper bytes)
bytes_value (bytes_form.Sha2 bits) bytes = value.Bin (digest_of bits bytes)

abbrev pub text_value : TextForm → List ℕ → Option Value
text_value text_form.B64dec text = option_map value.Bin (base64_bytes text)
text_value text_form.Ub64dec text = option_map value.Bin (base64url_bytes text)
text_value text_form.Hex2i text = Some (value.Int (hex_number text))
