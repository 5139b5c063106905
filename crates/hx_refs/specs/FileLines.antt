-- The keys and values that a file of patterns or of a map gives, line by line (HAProxy
-- configuration manual 2.4, sections 7.1, flag `-f`, and 7.3.1, `map`).
use Rattle.std.specs.Prelude.{ℕ, ◌-◌, ◌==◌, ◌||◌, Bool, not, List, [], length, take, drop, slice_index, Option, None, Some, if◌then◌else◌, filter_map}
use Rattle.std.specs.List.{prefix_len, suffix_len}
use Rattle.hx_base.specs.Bytes.{ascii, is_blank}
use Rattle.hx_text.specs.Cut.{pieces}
use Rattle.hx_refs.specs.Additions.{Pair}

-- the text without the blanks that it begins with
abbrev pub after_blanks : List ℕ → List ℕ
after_blanks text = drop (prefix_len is_blank text) text

-- the text without what is lost at the end of a line: blanks and carriage returns
abbrev pub before_line_end : List ℕ → List ℕ
before_line_end text =
    take (length text - suffix_len (λ b. is_blank b || b == ascii "\r") text) text

-- where the key of a line ends: at the first blank
abbrev pub key_end : List ℕ → ℕ
key_end text = prefix_len (λ b. not (is_blank b)) text

-- the key of a line is what stands before the first blank, and its value what follows the blanks
abbrev pub key_and_value : List ℕ → Pair
key_and_value text =
    record { key = take (key_end text) text; value = after_blanks (drop (key_end text) text) }

-- the whole line is the key
abbrev pub key_alone : List ℕ → Pair
key_alone text = record { key = text; value = [] }

-- What a line gives: nothing where it begins with `#`, or where nothing is left without the blanks
-- around it, and else its key, with its value where the file has two columns.
abbrev pub line_pair : Bool → List ℕ → Option Pair
line_pair two line =
    let text = before_line_end (after_blanks line) in
    if slice_index line 0 == ascii "#" || length text == 0 then None
    else Some (if two then key_and_value text else key_alone text)

-- the keys and values of the lines of a text, in their order
abbrev pub text_pairs : Bool → List ℕ → List Pair
text_pairs two text = filter_map (line_pair two) (pieces (ascii "\n") text)
