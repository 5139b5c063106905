-- Texts and the blanks at their ends, the optional white space of RFC 9110 section 5.6.3.
use Rattle.std.specs.Prelude.{ℕ, ◌+◌, ◌-◌, List, length, take, drop}
use Rattle.std.specs.List.{prefix_len, suffix_len}
use Rattle.hx_base.specs.Bytes.{is_blank}

-- the bytes without the blanks that they begin and end with
abbrev pub trim_blanks : List ℕ → List ℕ
trim_blanks bytes =
    let rest = drop (prefix_len is_blank bytes) bytes in
    take (length rest - suffix_len is_blank rest) rest

-- the blanks that the bytes begin with
abbrev pub first_blanks : List ℕ → List ℕ
first_blanks bytes = take (prefix_len is_blank bytes) bytes

-- the blanks that the bytes end with; none of bytes that are blanks alone, which are their first
abbrev pub last_blanks : List ℕ → List ℕ
last_blanks bytes = drop (length (first_blanks bytes) + length (trim_blanks bytes)) bytes
