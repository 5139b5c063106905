-- How the code keeps a converter that was built: by how its value comes about.
use Rattle.std.specs.Prelude.{ℕ, ◌-◌, List, [], ◌∷◌, length, drop, take, Option, Some}
use Rattle.std.specs.List.{before_first, prefix_len, suffix_len}
use Rattle.hx_base.specs.Bytes.{ascii}
use Rattle.hx_ast.specs.declared.conv.Conv.{Conv}
use Rattle.hx_ast.specs.declared.conv.Conv.TheVariants as conv
use Rattle.hx_sample.specs.declared.sample.Value.{Value}
use Rattle.hx_sample.specs.declared.sample.Value.TheVariants as value
use Rattle.hx_conv_text.specs.Pieces.{field_spans, is_in, items_at, text_across, word_spans}
use Rattle.hx_conv_text.specs.Texts.{at_most, natural}
use Rattle.hx_conv_text.specs.declared.built.Built.{Built}
use Rattle.hx_conv_text.specs.declared.built.Built.TheVariants as built
use Rattle.hx_conv_text.specs.declared.built.Made.{Made}
use Rattle.hx_conv_text.specs.declared.built.Made.TheVariants as made
use Rattle.hx_conv_text.specs.declared.built.Part.{Part}
use Rattle.hx_conv_text.specs.declared.built.Part.TheVariants as part

abbrev pub conv_of_part : Part → Conv
conv_of_part (part.Field index delims count) = conv.Field index delims count
conv_of_part (part.Word index delims count) = conv.Word index delims count
conv_of_part (part.Bytes offset len) = conv.Bytes offset len
conv_of_part (part.Ltrim chars) = conv.Ltrim chars
conv_of_part (part.Rtrim chars) = conv.Rtrim chars
conv_of_part part.CutCrlf = conv.CutCrlf

-- the part of the bytes that such a converter gives
abbrev pub part_of : Part → List ℕ → Option (List ℕ)
part_of (part.Field index delims count) text =
    text_across text (items_at index count (field_spans delims text))
part_of (part.Word index delims count) text =
    text_across text (items_at index count (word_spans delims text))
part_of (part.Bytes offset len) bytes = Some (at_most len (drop (natural offset) bytes))
part_of (part.Ltrim chars) text = Some (drop (prefix_len (is_in chars) text) text)
part_of (part.Rtrim chars) text =
    Some (take (length text - suffix_len (is_in chars) text) text)
part_of part.CutCrlf text = Some (before_first (is_in (ascii "\r" ∷ ascii "\n" ∷ [])) text)

-- the part as a value
abbrev pub part_value : Part → List ℕ → Value
part_value (part.Bytes offset len) bytes = value.Bin bytes
part_value _ text = value.Str text

abbrev pub conv_of_made : Made → Conv
conv_of_made made.Lower = conv.Lower
conv_of_made made.Upper = conv.Upper
conv_of_made (made.Concat start name end) = conv.Concat start name end
conv_of_made (made.Regsub re sub each) = conv.Regsub re.text sub each re.ci
conv_of_made (made.UrlDec form) = conv.UrlDec form

-- the converter that was built
abbrev pub conv_of_text : Built → Conv
conv_of_text built.Length = conv.Length
conv_of_text (built.Strcmp name) = conv.Strcmp name
conv_of_text (built.Part part) = conv_of_part part
conv_of_text (built.Made made) = conv_of_made made
