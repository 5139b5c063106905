-- What the machine hands a program: arguments, and the entries of the environment.
-- (POSIX.1-2017, Base Definitions, chapter 8.)
use Rattle.std.specs.Prelude.{◌≡◌, ℕ, true, nat_lt, List, length, map, filter_map, Option, None, option_map}
use Rattle.std.specs.List.{list_any}
use Rattle.std.specs.declared.alloc.Global.{Global}
use Rattle.std.specs.declared.vec.Vec.{Vec}
use Rattle.hx_base.specs.Bytes.{ascii}
use Rattle.hx_base.specs.Pairs.{NamedBytes}
use Rattle.hx_text.specs.Cut.{cut_of}

-- the bytes of the words of a command line
abbrev pub texts_of : List (Vec ℕ Global) → List (List ℕ)
texts_of words = map (λ word. word.items) words

-- texts that contracts don't know
abbrev pub unknown_texts : Option (List (List ℕ))
unknown_texts = None

-- one of the texts has more bytes than this
abbrev pub HasLonger : ℕ → List (List ℕ) → Type 0
HasLonger bytes texts = list_any (λ text. nat_lt bytes (length text)) texts ≡ true

-- the variable that an entry is, cut at its first `=`; one without `=` is none
unfoldable pub entry_variable : List ℕ → Option (List ℕ × List ℕ)
entry_variable entry = cut_of (ascii "=") entry

abbrev pub variables_of : List (List ℕ) → NamedBytes
variables_of entries = filter_map entry_variable entries

-- a variable in vectors as lists of bytes
abbrev pub variable_bytes : Option (Vec ℕ Global × Vec ℕ Global) → Option (List ℕ × List ℕ)
variable_bytes found = option_map (λ pair. (pair.0.items, pair.1.items)) found
