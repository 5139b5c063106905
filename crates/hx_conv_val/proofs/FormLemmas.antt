-- The values of the forms of `specs/Forms.antt` are those of the converters that they stand for.
use Rattle.std.proofs.Common.{◌≡◌, ℕ, ℤ, List, Option, Some, None, refl}
use Rattle.std.specs.Option.{option_map, option_and_then}
use Rattle.hx_sample.specs.Cast.{cast_of}
use Rattle.hx_sample.specs.Vars.{Scopes}
use Rattle.hx_sample.specs.declared.sample.Value.{Value}
use Rattle.hx_sample.specs.declared.sample.Value.TheVariants as value
use Rattle.hx_text.specs.declared.kinds.Kind.TheVariants as kind
use Rattle.hx_ast.specs.declared.conv.Conv.TheVariants as conv
use Rattle.hx_ast.specs.declared.val.Val.{Val}
use Rattle.hx_conv_val.specs.declared.form.IntForm.{IntForm}
use Rattle.hx_conv_val.specs.declared.form.IntForm.TheVariants as int_form
use Rattle.hx_conv_val.specs.declared.form.Operation.{Operation}
use Rattle.hx_conv_val.specs.declared.form.Operation.TheVariants as operation
use Rattle.hx_conv_val.specs.declared.form.BytesForm.{BytesForm}
use Rattle.hx_conv_val.specs.declared.form.BytesForm.TheVariants as bytes_form
use Rattle.hx_conv_val.specs.declared.form.TextForm.{TextForm}
use Rattle.hx_conv_val.specs.declared.form.TextForm.TheVariants as text_form
use Rattle.hx_conv_val.specs.Addresses.{masked_address}
use Rattle.hx_conv_val.specs.Converters.{calculated, made_of, value_conv_of}
use Rattle.hx_conv_val.specs.Forms.{int_conv, operation_conv, bytes_conv, text_conv, bool_in, ip_in, bytes_in, text_in, bool_input, ip_input, bytes_input, text_input, choice_of, int_value, operation_result, calculated_value, bytes_value, text_value}
use Rattle.hx_conv_val.specs.Inputs.{int_in, int_input, operand_of}

-- ---- of a value that was cast

choice_made : (t f : List ℕ) (number : Val → Option ℤ) (v : Value)
    → made_of (conv.Iif t f) number v ≡ option_map (choice_of t f) (bool_in v)
choice_made t f number (value.Bool b) = refl
choice_made t f number v = refl

int_made : (c : IntForm) (number : Val → Option ℤ) (v : Value)
    → made_of (int_conv c) number v ≡ option_map (int_value c) (int_in v)
int_made int_form.Bool number (value.Int n) = refl
int_made int_form.Even number (value.Int n) = refl
int_made int_form.Odd number (value.Int n) = refl
int_made int_form.Not number (value.Int n) = refl
int_made int_form.Neg number (value.Int n) = refl
int_made int_form.Cpl number (value.Int n) = refl
int_made c number v = refl

operation_made : (o : Operation) (operand : Val) (number : Val → Option ℤ) (v : Value)
    → made_of (operation_conv o operand) number v
    ≡ option_and_then (λ n. calculated (operation_result o) n (number operand)) (int_in v)
operation_made operation.Add operand number (value.Int n) = refl
operation_made operation.Sub operand number (value.Int n) = refl
operation_made operation.Mul operand number (value.Int n) = refl
operation_made operation.Div operand number (value.Int n) = refl
operation_made operation.Mod operand number (value.Int n) = refl
operation_made operation.And operand number (value.Int n) = refl
operation_made operation.Or operand number (value.Int n) = refl
operation_made operation.Xor operand number (value.Int n) = refl
operation_made o operand number v = refl

mask_made : (mask : ℕ) (bits : Option ℕ) (number : Val → Option ℤ) (v : Value)
    → made_of (conv.Ipmask mask bits) number v
    ≡ option_map value.Ip (option_and_then (masked_address mask bits) (ip_in v))
mask_made mask bits number (value.Ip ip) = refl
mask_made mask bits number v = refl

bytes_made : (c : BytesForm) (number : Val → Option ℤ) (v : Value)
    → made_of (bytes_conv c) number v ≡ option_map (bytes_value c) (bytes_in v)
bytes_made bytes_form.Base64 number (value.Bin bytes) = refl
bytes_made bytes_form.Ub64enc number (value.Bin bytes) = refl
bytes_made bytes_form.Hex number (value.Bin bytes) = refl
bytes_made (bytes_form.Sha2 bits) number (value.Bin bytes) = refl
bytes_made c number v = refl

text_made : (c : TextForm) (number : Val → Option ℤ) (v : Value)
    → made_of (text_conv c) number v ≡ option_and_then (text_value c) (text_in v)
text_made text_form.B64dec number (value.Str text) = refl
text_made text_form.Ub64dec number (value.Str text) = refl
text_made text_form.Hex2i number (value.Str text) = refl
text_made c number v = refl

-- ---- of what a cast gives

choice_cast : (t f : List ℕ) (number : Val → Option ℤ) (o : Option Value)
    → option_and_then (made_of (conv.Iif t f) number) o
    ≡ option_map (choice_of t f) (option_and_then bool_in o)
choice_cast t f number None = refl
choice_cast t f number (Some v) = choice_made t f number v

int_cast : (c : IntForm) (number : Val → Option ℤ) (o : Option Value)
    → option_and_then (made_of (int_conv c) number) o
    ≡ option_map (int_value c) (option_and_then int_in o)
int_cast c number None = refl
int_cast c number (Some v) = int_made c number v

operation_cast : (o : Operation) (operand : Val) (number : Val → Option ℤ) (cast : Option Value)
    → option_and_then (made_of (operation_conv o operand) number) cast
    ≡ calculated_value (operation_result o) (option_and_then int_in cast) (number operand)
operation_cast o operand number None = refl
operation_cast o operand number (Some v) = operation_made o operand number v

mask_cast : (mask : ℕ) (bits : Option ℕ) (number : Val → Option ℤ) (o : Option Value)
    → option_and_then (made_of (conv.Ipmask mask bits) number) o
    ≡ option_map value.Ip (option_and_then (masked_address mask bits) (option_and_then ip_in o))
mask_cast mask bits number None = refl
mask_cast mask bits number (Some v) = mask_made mask bits number v

bytes_cast : (c : BytesForm) (number : Val → Option ℤ) (o : Option Value)
    → option_and_then (made_of (bytes_conv c) number) o
    ≡ option_map (bytes_value c) (option_and_then bytes_in o)
bytes_cast c number None = refl
bytes_cast c number (Some v) = bytes_made c number v

text_cast : (c : TextForm) (number : Val → Option ℤ) (o : Option Value)
    → option_and_then (made_of (text_conv c) number) o
    ≡ option_and_then (text_value c) (option_and_then text_in o)
text_cast c number None = refl
text_cast c number (Some v) = text_made c number v

-- ---- of a value

pub choice_value : (t f : List ℕ) (input : Value) (conn : ℕ) (vars : Scopes)
    → value_conv_of (conv.Iif t f) input conn vars ≡ option_map (choice_of t f) (bool_input input)
unfolding value_conv_of
choice_value t f input conn vars =
    choice_cast t f (operand_of conn vars) (cast_of input kind.Bool)

pub int_form_value : (c : IntForm) (input : Value) (conn : ℕ) (vars : Scopes)
    → value_conv_of (int_conv c) input conn vars ≡ option_map (int_value c) (int_input input)
unfolding value_conv_of
int_form_value int_form.Bool input conn vars = int_cast int_form.Bool (operand_of conn vars) (cast_of input kind.Int)
int_form_value int_form.Even input conn vars = int_cast int_form.Even (operand_of conn vars) (cast_of input kind.Int)
int_form_value int_form.Odd input conn vars = int_cast int_form.Odd (operand_of conn vars) (cast_of input kind.Int)
int_form_value int_form.Not input conn vars = int_cast int_form.Not (operand_of conn vars) (cast_of input kind.Int)
int_form_value int_form.Neg input conn vars = int_cast int_form.Neg (operand_of conn vars) (cast_of input kind.Int)
int_form_value int_form.Cpl input conn vars = int_cast int_form.Cpl (operand_of conn vars) (cast_of input kind.Int)

pub operation_form_value : (o : Operation) (operand : Val) (input : Value) (conn : ℕ)
    (vars : Scopes) → value_conv_of (operation_conv o operand) input conn vars
    ≡ calculated_value (operation_result o) (int_input input) (operand_of conn vars operand)
unfolding value_conv_of
operation_form_value operation.Add operand input conn vars = operation_cast operation.Add operand (operand_of conn vars) (cast_of input kind.Int)
operation_form_value operation.Sub operand input conn vars = operation_cast operation.Sub operand (operand_of conn vars) (cast_of input kind.Int)
operation_form_value operation.Mul operand input conn vars = operation_cast operation.Mul operand (operand_of conn vars) (cast_of input kind.Int)
operation_form_value operation.Div operand input conn vars = operation_cast operation.Div operand (operand_of conn vars) (cast_of input kind.Int)
operation_form_value operation.Mod operand input conn vars = operation_cast operation.Mod operand (operand_of conn vars) (cast_of input kind.Int)
operation_form_value operation.And operand input conn vars = operation_cast operation.And operand (operand_of conn vars) (cast_of input kind.Int)
operation_form_value operation.Or operand input conn vars = operation_cast operation.Or operand (operand_of conn vars) (cast_of input kind.Int)
operation_form_value operation.Xor operand input conn vars = operation_cast operation.Xor operand (operand_of conn vars) (cast_of input kind.Int)

pub mask_value : (mask : ℕ) (bits : Option ℕ) (input : Value) (conn : ℕ) (vars : Scopes)
    → value_conv_of (conv.Ipmask mask bits) input conn vars
    ≡ option_map value.Ip (option_and_then (masked_address mask bits) (ip_input input))
unfolding value_conv_of
mask_value mask bits input conn vars =
    mask_cast mask bits (operand_of conn vars) (cast_of input kind.Ip)

pub bytes_form_value : (c : BytesForm) (input : Value) (conn : ℕ) (vars : Scopes)
    → value_conv_of (bytes_conv c) input conn vars ≡ option_map (bytes_value c) (bytes_input input)
unfolding value_conv_of
bytes_form_value bytes_form.Base64 input conn vars = bytes_cast bytes_form.Base64 (operand_of conn vars) (cast_of input kind.Bin)
bytes_form_value bytes_form.Ub64enc input conn vars = bytes_cast bytes_form.Ub64enc (operand_of conn vars) (cast_of input kind.Bin)
bytes_form_value bytes_form.Hex input conn vars = bytes_cast bytes_form.Hex (operand_of conn vars) (cast_of input kind.Bin)
bytes_form_value (bytes_form.Sha2 bits) input conn vars = bytes_cast (bytes_form.Sha2 bits) (operand_of conn vars) (cast_of input kind.Bin)

pub text_form_value : (c : TextForm) (input : Value) (conn : ℕ) (vars : Scopes)
    → value_conv_of (text_conv c) input conn vars
    ≡ option_and_then (text_value c) (text_input input)
unfolding value_conv_of
text_form_value text_form.B64dec input conn vars = text_cast text_form.B64dec (operand_of conn vars) (cast_of input kind.Str)
text_form_value text_form.Ub64dec input conn vars = text_cast text_form.Ub64dec (operand_of conn vars) (cast_of input kind.Str)
text_form_value text_form.Hex2i input conn vars = text_cast text_form.Hex2i (operand_of conn vars) (cast_of input kind.Str)

pub ruleset form_values =
    (choice_value, int_form_value, operation_form_value, mask_value, bytes_form_value, text_form_value)
