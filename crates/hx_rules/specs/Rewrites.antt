-- What rewriting actions make of the head of a request (HAProxy configuration manual 2.4, section
-- 4.2, `http-request set-header` and the actions like it).
use Rattle.std.specs.Prelude.{ℕ, ◌&&◌, Bool, false, List, ◌++◌, map, Option, None, Some, is_some, if◌then◌else◌}
use Rattle.std.specs.List.{join_with_byte, list_any}
use Rattle.std.specs.Option.{option_map_or, unwrap_or}
use Rattle.httparse.specs.Grammar.{is_token}
use Rattle.hx_ast.specs.declared.action.Action.{Action}
use Rattle.hx_ast.specs.declared.action.Action.TheVariants as action
use Rattle.hx_ast.specs.declared.action.Part.{Part}
use Rattle.hx_base.specs.Bytes.{ascii, is_bad_value_byte}
use Rattle.hx_conv_text.specs.Substitution.{expanded_of}
use Rattle.hx_http.specs.declared.fault.EditFault.{EditFault}
use Rattle.hx_http.specs.declared.fault.EditFault.TheVariants.{BadBytes}
use Rattle.hx_http.specs.Edits.{add_header_fault, has_name, method_fault, path_fault, query_fault, set_header_fault, target_fault, with_header, with_method, with_only_header, with_path, with_query, with_target, without_header}
use Rattle.hx_http.specs.Parts.{Parts}
use Rattle.hx_lists.specs.Blanks.{first_blanks, last_blanks, trim_blanks}
use Rattle.hx_lists.specs.HeaderValues.{hdr_pieces}

-- ---- values

-- what replaces a value, and none where it stays
abbrev pub Replacement : Type 0
Replacement = List ℕ → Option (List ℕ)

-- a piece of a line with its value replaced; the blanks at its ends stay
abbrev pub piece_after : Replacement → List ℕ → List ℕ
piece_after replacement piece =
    option_map_or (λ new. first_blanks piece ++ new ++ last_blanks piece)
    (replacement (trim_blanks piece)) piece

-- `replace-value`: each value between commas is replaced in its place; none where all stay
abbrev pub each_replaced : Replacement → Replacement
each_replaced replacement line =
    if list_any (λ piece. is_some (replacement (trim_blanks piece))) (hdr_pieces line)
    then Some (join_with_byte (ascii ",") (map (piece_after replacement) (hdr_pieces line)))
    else None

-- ---- lines

abbrev pub line_after : List ℕ → Replacement → List ℕ × List ℕ → List ℕ × List ℕ
line_after name replacement line =
    if has_name name line then (line.0, unwrap_or (replacement line.1) line.1) else line

-- what replaces the value of a line of the name has a byte that no value may have
abbrev pub is_badly_replaced : List ℕ → Replacement → List ℕ × List ℕ → Bool
is_badly_replaced name replacement line =
    has_name name line && option_map_or (list_any is_bad_value_byte) (replacement line.1) false

-- ---- heads

-- an edit: why it is refused, if it is, and the head that it makes
pub record Edit : Type 0 where
  pub fault : Option EditFault
  pub head : Parts

abbrev pub edited : Option EditFault → Parts → Edit
edited fault head = record { fault = fault; head = head }

-- a line is added only under a name that is a token (RFC 9110, section 5.1)
abbrev pub named_fault : List ℕ → Option EditFault → Option EditFault
named_fault name fault = if is_token name then fault else Some BadBytes

-- the replacement of the values of the lines of a name: they all are replaced, or none is
abbrev pub replacing_edit : List ℕ → Replacement → Parts → Edit
replacing_edit name replace head =
    edited (if list_any (is_badly_replaced name replace) head.headers then Some BadBytes else None)
    (record head { headers = map (line_after name replace) head.headers })

-- The edit of a rewriting action, where `text` gives the texts of formats. `replace-header` and
-- `replace-value` put what their text makes of the leftmost match in the place of a value, if there
-- is a match: of the whole value of a line, or of each between commas. Any other action leaves the
-- head as it is.
abbrev pub edit_of : (List Part → List ℕ) → Action → Parts → Edit
edit_of text (action.SetHeader name format) head =
    edited (named_fault name (set_header_fault name (text format) head))
    (with_only_header name (text format) head)
edit_of text (action.AddHeader name format) head =
    edited (named_fault name (add_header_fault name (text format) head))
    (with_header name (text format) head)
edit_of text (action.DelHeader name) head = edited None (without_header name head)
edit_of text (action.ReplaceHeader name pattern format) head =
    replacing_edit name (expanded_of false pattern (text format)) head
edit_of text (action.ReplaceValue name pattern format) head =
    replacing_edit name (each_replaced (expanded_of false pattern (text format))) head
edit_of text (action.SetMethod format) head =
    edited (method_fault (text format)) (with_method (text format) head)
edit_of text (action.SetUri format) head =
    edited (target_fault (text format)) (with_target (text format) head)
edit_of text (action.SetPath format) head =
    edited (path_fault (text format) head.target) (with_path (text format) head)
edit_of text (action.SetQuery format) head =
    edited (query_fault (text format)) (with_query (text format) head)
edit_of text _ head = edited None head
