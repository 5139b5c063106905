-- What a text stands for as an argument of a call, by the form that is asked for; nothing where it
-- isn't of that form (HAProxy configuration manual 2.4, sections 7.3.1 to 7.3.6). `Writes` says the
-- same from the argument to its texts.
use Rattle.std.specs.Prelude.{ℕ, zero, ℤ, pos, negsuc, Bool, true, false, nat_lt, ◌&&◌, ◌||◌, if◌then◌else◌, List, [], ◌∷◌, length, codes, Option, Some, None, option_map, option_and_then}
use Rattle.std.specs.Option.{option_or}
use Rattle.std.specs.Result.{result_ok}
use Rattle.std.specs.List.{list_all, list_any}
use Rattle.std.specs.Str.{bytes_eq}
use Rattle.hex.specs.Hex.{decode_of}
use Rattle.httparse.specs.Grammar.{is_token}
use Rattle.hx_base.specs.Bytes.{ascii}
use Rattle.hx_text.specs.declared.Ip.{Ip}
use Rattle.hx_text.specs.declared.Ip.TheVariants.{V4, V6}
use Rattle.hx_text.specs.declared.Out.{Out}
use Rattle.hx_text.specs.declared.Out.TheVariants as output
use Rattle.hx_text.specs.declared.Scope.{Scope}
use Rattle.hx_text.specs.declared.Scope.TheVariants.{Proc, Sess, Txn, Req, Res}
use Rattle.hx_text.specs.declared.VarName.{VarName}
use Rattle.hx_text.specs.Address.{ip_of}
use Rattle.hx_text.specs.Cut.{cut_of}
use Rattle.hx_text.specs.Network.{mask_of, width_of}
use Rattle.hx_text.specs.Number.{int_of}
use Rattle.hx_ast.specs.declared.Val.{Val}
use Rattle.hx_ast.specs.declared.Val.TheVariants as val
use Rattle.hx_ast.specs.Convs.{is_digest_length}
use Rattle.hx_ast.specs.Names.{is_variable_byte}
use Rattle.hx_calls.specs.Forms.{Argument, Form}
use Rattle.hx_calls.specs.Forms.Form.{Text, HeaderName, Variable, VariableOrNothing, Integer, Index, Amount, Operand, Boolean, Letters, Byte, Delimiters, Hexadecimal, Ipv4Address, Ipv6Address, Ipv4Mask, Width, DigestLength, ValueOfMap}
pub use Rattle.hx_calls.specs.Forms.{is_among}

-- ---- numbers; zeros may lead, as in the integers of a request

abbrev pub nonzero : ℤ → Option ℤ
nonzero (pos zero) = None
nonzero n = Some n

-- the number of an occurrence or of a piece: any but 0
abbrev pub index_of : List ℕ → Option ℤ
index_of text = option_and_then nonzero (int_of text)

abbrev pub nonnegative : ℤ → Option ℤ
nonnegative (pos n) = Some (pos n)
nonnegative (negsuc n) = None

-- a count or an offset
abbrev pub amount_of : List ℕ → Option ℤ
amount_of text = option_and_then nonnegative (int_of text)

-- the length of a digest of SHA-2 in bits; here no zero leads
abbrev pub digest_length_of : List ℕ → Option ℕ
digest_length_of text =
    option_and_then (λ bits. if is_digest_length bits then Some bits else None) (width_of 512 text)

-- ---- texts

-- bytes of which there is one at least
abbrev pub delimiters_of : List ℕ → Option (List ℕ)
delimiters_of text = if nat_lt 0 (length text) then Some text else None

-- the name of a header: a token (RFC 9110, section 5.1)
abbrev pub header_of : List ℕ → Option (List ℕ)
header_of text = if is_token text then Some text else None

-- the bytes that pairs of hexadecimal digits write
abbrev pub hex_of : List ℕ → Option (List ℕ)
hex_of text = result_ok (decode_of text)

-- a byte alone
abbrev pub byte_of : List ℕ → Option ℕ
byte_of (b ∷ []) = Some b
byte_of _ = None

-- ---- booleans and letters

abbrev pub boolean_of : List ℕ → Option Bool
boolean_of text =
    if bytes_eq text (codes "true") || bytes_eq text (codes "1") then Some true else
    (if bytes_eq text (codes "false") || bytes_eq text (codes "0") then Some false else None)

-- the flags of `regsub`, in any order and number: whether `g` is there, and whether `i` is
abbrev pub letters_of : List ℕ → Option (Bool × Bool)
letters_of text =
    if list_all (is_among (codes "gi")) text
    then Some (list_any (is_among (codes "g")) text, list_any (is_among (codes "i")) text)
    else None

-- ---- addresses

abbrev pub ipv4_number : Ip → Option ℕ
ipv4_number (V4 a) = Some a
ipv4_number (V6 a) = None

abbrev pub ipv6_number : Ip → Option ℕ
ipv6_number (V4 a) = None
ipv6_number (V6 a) = Some a

abbrev pub ipv4_address_of : List ℕ → Option Ip
ipv4_address_of text = option_map (λ a. V4 a) (option_and_then ipv4_number (ip_of text))

abbrev pub ipv6_address_of : List ℕ → Option Ip
ipv6_address_of text = option_map (λ a. V6 a) (option_and_then ipv6_number (ip_of text))

-- a mask of 32 bits: how many of the first are set, or a mask in dotted decimal
abbrev pub ipv4_mask_of : List ℕ → Option ℕ
ipv4_mask_of text =
    option_or (option_map mask_of (width_of 32 text)) (option_and_then ipv4_number (ip_of text))

-- ---- variables

abbrev pub scope_of : List ℕ → Option Scope
scope_of text =
    if bytes_eq text (codes "proc") then Some Proc else
    (if bytes_eq text (codes "sess") then Some Sess else
    (if bytes_eq text (codes "txn") then Some Txn else
    (if bytes_eq text (codes "req") then Some Req else
    (if bytes_eq text (codes "res") then Some Res else None))))

abbrev pub is_variable_text : List ℕ → Bool
is_variable_text name = nat_lt 0 (length name) && list_all is_variable_byte name

abbrev pub variable_with : List ℕ → Option Scope → Option VarName
variable_with name None = None
variable_with name (Some scope) =
    if is_variable_text name then Some (record { scope = scope; name = name }) else None

-- a scope, a dot and a name
unfoldable pub variable_name_of : List ℕ → Option VarName
variable_name_of text =
    option_and_then (λ parts. variable_with parts.1 (scope_of parts.0)) (cut_of (ascii ".") text)

-- a variable, or nothing, which is no variable
abbrev pub variable_or_nothing_of : List ℕ → Option (Option VarName)
variable_or_nothing_of [] = Some None
variable_or_nothing_of (b ∷ text) = option_map Some (variable_name_of (b ∷ text))

-- a number, or else a variable
abbrev pub operand_written : List ℕ → Option Val
operand_written text =
    option_or (option_map val.Number (int_of text)) (option_map val.Var (variable_name_of text))

-- ---- values of maps

-- a text that can be read as a map's value of this type
abbrev pub value_of_map : Out → List ℕ → Option (List ℕ)
value_of_map output.Str text = Some text
value_of_map output.Int text = option_map (λ n. text) (int_of text)
value_of_map output.Ip text = option_map (λ ip. text) (ip_of text)

-- ---- all forms

abbrev pub value_of : (form : Form) → List ℕ → Option (Argument form)
value_of Text text = Some text
value_of HeaderName text = header_of text
value_of Variable text = variable_name_of text
value_of VariableOrNothing text = variable_or_nothing_of text
value_of Integer text = int_of text
value_of Index text = index_of text
value_of Amount text = amount_of text
value_of Operand text = operand_written text
value_of Boolean text = boolean_of text
value_of Letters text = letters_of text
value_of Byte text = byte_of text
value_of Delimiters text = delimiters_of text
value_of Hexadecimal text = hex_of text
value_of Ipv4Address text = ipv4_address_of text
value_of Ipv6Address text = ipv6_address_of text
value_of Ipv4Mask text = ipv4_mask_of text
value_of (Width most) text = width_of most text
value_of DigestLength text = digest_length_of text
value_of (ValueOfMap out) text = value_of_map out text
