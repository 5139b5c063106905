-- The lines of a request, and the parts of a head that they would be. A line stands here without
-- the line feed that ends it, and with the carriage return that may stand before that (RFC 9112,
-- section 2.2).
use Rattle.std.specs.Prelude.{ℕ, Bool, List, [], ◌==◌, length, get_or, drop, map, take_while, find, if◌then◌else◌}
use Rattle.std.specs.List.{slice_split, prefix_len, before_first, after_first}
use Rattle.std.specs.Io.BufRead.{ends_with_byte, strip_last}
use Rattle.std.specs.Option.{option_map_or}
use Rattle.std.specs.Str.{bytes_eq}
use Rattle.memchr.specs.Find.{is_byte}
use Rattle.hx_base.specs.Bytes.{ascii}
use Rattle.httparse.specs.Grammar.{LineEnd, crlf, lf, Field, RequestHead, print_version}

-- What a line says, without the carriage return at its end.
abbrev pub text_of : List ℕ → List ℕ
text_of line = strip_last (ascii "\r") line

-- How a line ends.
abbrev pub end_of : List ℕ → LineEnd
end_of line = if ends_with_byte (ascii "\r") line then crlf else lf

-- Whether a line says nothing.
abbrev pub is_empty : List ℕ → Bool
is_empty line = length (text_of line) == 0

-- A line read as a header line: the name stands before the first colon, and the value after it.
abbrev pub field_of : List ℕ → Field
field_of line = record {
  name = before_first (is_byte (ascii ":")) (text_of line);
  raw = after_first (is_byte (ascii ":")) (text_of line);
  end = end_of line;
}

-- The one head that could begin the bytes: empty lines, a request line of three words (RFC 9112,
-- section 3), and header lines up to an empty one (section 5). Any bytes give one: they begin with
-- it only where its parts are of their kinds and it prints as the bytes.
abbrev pub possible_head : List ℕ → RequestHead
possible_head bytes =
    let lines = slice_split (is_byte (ascii "\n")) bytes in
    let request = drop (prefix_len is_empty lines) lines in
    let line = get_or request 0 [] in
    let words = slice_split (is_byte (ascii " ")) (text_of line) in
    let section = drop 1 request in
    record {
      blank = map end_of (take_while is_empty lines);
      method = get_or words 0 [];
      target = get_or words 1 [];
      minor = if bytes_eq (get_or words 2 []) (print_version 0) then 0 else 1;
      line_end = end_of line;
      fields = map field_of (before_first is_empty section);
      last = option_map_or end_of (find is_empty section) lf;
    }
