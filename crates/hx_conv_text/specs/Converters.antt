-- What each converter of texts makes of a value (HAProxy configuration manual 2.4, section 7.3.1).
use Rattle.std.specs.Prelude.{◌≡◌, ℕ, ◌-◌, Bool, true, false, pos, List, [], ◌∷◌, ◌++◌, length, map, drop, take, Option, Some, None, is_some, option_map, option_and_then, unwrap_or}
use Rattle.std.specs.Char.{to_ascii_lowercase, to_ascii_uppercase}
use Rattle.std.specs.Cmp.Lexicographic.{slice_cmp}
use Rattle.std.specs.List.{before_first, prefix_len, suffix_len}
use Rattle.std.specs.Option.{option_map_or}
use Rattle.std.specs.Ordering.{nat_cmp}
use Rattle.hx_base.specs.Bytes.{ascii}
use Rattle.hx_ast.specs.Types.{input_kind}
use Rattle.hx_ast.specs.declared.conv.Conv.{Conv}
use Rattle.hx_ast.specs.declared.conv.Conv.TheVariants as conv
use Rattle.hx_text.specs.declared.kinds.Kind.{Kind}
use Rattle.hx_text.specs.declared.kinds.Kind.TheVariants as kind
use Rattle.hx_text.specs.declared.names.VarName.{VarName}
use Rattle.hx_sample.specs.Cast.{cast_of}
use Rattle.hx_sample.specs.Seen.{bytes_of, kept_bytes}
use Rattle.hx_sample.specs.Vars.{Scopes, var_of}
use Rattle.hx_sample.specs.declared.sample.Bytes.{Bytes}
use Rattle.hx_sample.specs.declared.sample.Bytes.TheVariants.{Lent, Own}
use Rattle.hx_sample.specs.declared.sample.Sample.{Sample}
use Rattle.hx_sample.specs.declared.sample.Value.{Value}
use Rattle.hx_sample.specs.declared.sample.Value.TheVariants as value
use Rattle.hx_outside.specs.Expressions.{expression}
use Rattle.hx_conv_text.specs.Pieces.{field_spans, is_in, items_at, text_across, word_spans}
use Rattle.hx_conv_text.specs.Substitution.{substituted_text}
use Rattle.hx_conv_text.specs.Texts.{at_most, natural, sign_of}
use Rattle.hx_conv_text.specs.UrlDecoding.{url_dec_of}

-- What a converter of texts does: it makes a value, or none where it fails, of the bytes of its
-- input, and looks up the texts of variables.
abbrev pub Conversion : Type 0
Conversion = (VarName → Option (List ℕ)) → List ℕ → Option Value

-- what makes a text, or none, of the bytes alone
abbrev pub to_text : (List ℕ → Option (List ℕ)) → Option Conversion
to_text f = Some (λ lookup text. option_map value.Str (f text))

-- What each converter of texts does; none of another converter. `bytes` gives the bytes from an
-- offset on, at most so many. `ltrim` and `rtrim` leave out the first and the last bytes, as long
-- as they are some of these, and `cut_crlf` all from the first carriage return or line feed on.
-- `concat` puts the text, START, the text of the variable and END in a row, each if it is there.
-- `strcmp` has no value where its variable is unset.
abbrev pub conversion_of : Conv → Option Conversion
conversion_of conv.Lower = to_text (λ text. Some (map to_ascii_lowercase text))
conversion_of conv.Upper = to_text (λ text. Some (map to_ascii_uppercase text))
conversion_of conv.Length = Some (λ lookup text. Some (value.Int (pos (length text))))
conversion_of (conv.Field index delims count) =
    to_text (λ text. text_across text (items_at index count (field_spans delims text)))
conversion_of (conv.Word index delims count) =
    to_text (λ text. text_across text (items_at index count (word_spans delims text)))
conversion_of (conv.Bytes offset len) =
    Some (λ lookup bytes. Some (value.Bin (at_most len (drop (natural offset) bytes))))
conversion_of (conv.Ltrim chars) =
    to_text (λ text. Some (drop (prefix_len (is_in chars) text) text))
conversion_of (conv.Rtrim chars) =
    to_text (λ text. Some (take (length text - suffix_len (is_in chars) text) text))
conversion_of conv.CutCrlf =
    to_text (λ text. Some (before_first (is_in (ascii "\r" ∷ ascii "\n" ∷ [])) text))
conversion_of (conv.Concat start name end) =
    Some (λ lookup text.
    let middle = unwrap_or (option_and_then lookup name) [] in
    Some (value.Str (text ++ unwrap_or start [] ++ middle ++ unwrap_or end [])))
conversion_of (conv.Strcmp name) =
    Some (λ lookup text.
    option_map (λ other. value.Int (sign_of (slice_cmp nat_cmp text other))) (lookup name))
conversion_of (conv.Regsub pattern sub each ci) =
    to_text (λ text. option_map (λ re. substituted_text re sub each text) (expression ci pattern))
conversion_of (conv.UrlDec form) = to_text (url_dec_of form)
conversion_of _ = None

-- the converter is one of texts
abbrev pub is_text_conv : Conv → Bool
is_text_conv conv = is_some (conversion_of conv)

-- the bytes of a string, a binary or a method
abbrev pub content_of : Value → Option (List ℕ)
content_of (value.Str text) = Some text
content_of (value.Bin bytes) = Some bytes
content_of (value.Method name) = Some name
content_of _ = None

-- the bytes of a value as one of a kind
abbrev pub cast_content : Kind → Value → Option (List ℕ)
cast_content kind input = option_and_then content_of (cast_of input kind)

-- the text of a variable, none where it is unset
abbrev pub var_text : Scopes → ℕ → VarName → Option (List ℕ)
var_text vars conn name = option_and_then (cast_content kind.Str) (var_of vars conn name)

-- what a converter of texts makes of the bytes of its input, for a connection
abbrev pub converted_bytes : Conv → ℕ → Scopes → List ℕ → Option Value
converted_bytes conv conn vars text =
    option_and_then (λ convert. convert (var_text vars conn) text) (conversion_of conv)

-- What a converter of texts makes of a value, for a connection. None where the value can't be cast
-- to what the converter takes, or the converter fails.
unfoldable pub text_conv_of : Conv → Value → ℕ → Scopes → Option Value
text_conv_of conv input conn vars =
    option_and_then (converted_bytes conv conn vars) (cast_content (input_kind conv) input)

-- the value of the converter is a part of its input
abbrev pub is_part_conv : Conv → Bool
is_part_conv (conv.Field index delims count) = true
is_part_conv (conv.Word index delims count) = true
is_part_conv (conv.Bytes offset len) = true
is_part_conv (conv.Ltrim chars) = true
is_part_conv (conv.Rtrim chars) = true
is_part_conv conv.CutCrlf = true
is_part_conv _ = false

-- the bytes are lent
abbrev pub is_lent : Bytes → Bool
is_lent (Lent bytes) = true
is_lent (Own octets) = false

-- the sample has bytes, which are lent
abbrev pub has_lent_bytes : Sample → Bool
has_lent_bytes sample = option_map_or is_lent (kept_bytes sample) false

-- bytes that are equal to those of the input are the input's own: lent from the same memory, or
-- owned as they were
abbrev pub AreInputWhereEqual : Bytes → Bytes → Type 0
AreInputWhereEqual input made = bytes_of made ≡ bytes_of input → made ≡ input
