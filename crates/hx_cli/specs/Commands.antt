-- The commands of the management socket, and the words that spell each (HAProxy management guide
-- 2.4, section 9.3, `add acl`, `clear acl`, `commit acl`, `del acl`, `get acl`, `prepare acl`,
-- `show acl`, and the same of `map`, and `set map`). `Spells` is to be read first, and `command_of`
-- then.
use Rattle.std.specs.Prelude.{◌≡◌, ℕ, ◌-◌, ◌^◌, ◌&&◌, ◌==◌, nat_lt, Bool, true, false, not, List, [], ◌∷◌, ◌++◌, length, codes, Option, None, Some, option_and_then, if◌then◌else◌}
use Rattle.std.specs.Fmt.{decimal}
use Rattle.std.specs.Str.{bytes_eq}
use Rattle.hx_base.specs.Bytes.{ascii}
use Rattle.hx_text.specs.Number.{number_up_to}
use Rattle.hx_cli.specs.declared.command.Command.{Command}
use Rattle.hx_cli.specs.declared.command.Command.TheVariants.{ShowAll, Show, Get, Add, AddMany, Del, Set, Clear, Prepare, Commit}

-- ---- words

-- the word for lists of patterns or for maps
abbrev pub kind_word : Bool → List ℕ
kind_word is_map = if is_map then codes "map" else codes "acl"

-- a version: `@`, and its number
abbrev pub version_word : ℕ → List ℕ
version_word number = ascii "@" ∷ decimal number

-- the word of a version, and none for that which is searched
abbrev pub version_words : Option ℕ → List (List ℕ)
version_words None = []
version_words (Some number) = version_word number ∷ []

-- the words of an entry: a key, and in a map a value
abbrev pub entry_words : Bool → List ℕ → List ℕ → List (List ℕ)
entry_words is_map key value = if is_map then key ∷ value ∷ [] else key ∷ []

-- the word that says that entries follow, line by line
abbrev pub payload_word : List ℕ
payload_word = codes "<<"

-- the words of a command
abbrev pub spelling : Command → List (List ℕ)
spelling (ShowAll is_map) = codes "show" ∷ kind_word is_map ∷ []
spelling (Show is_map ver name) = codes "show" ∷ kind_word is_map ∷ version_words ver ++ name ∷ []
spelling (Get is_map name value) = codes "get" ∷ kind_word is_map ∷ name ∷ value ∷ []
spelling (Add is_map ver name key value) =
    codes "add" ∷ kind_word is_map ∷ version_words ver ++ name ∷ entry_words is_map key value
spelling (AddMany is_map ver name) =
    codes "add" ∷ kind_word is_map ∷ version_words ver ++ name ∷ payload_word ∷ []
spelling (Del is_map ver name key) =
    codes "del" ∷ kind_word is_map ∷ version_words ver ++ name ∷ key ∷ []
spelling (Set ver name key value) =
    codes "set" ∷ codes "map" ∷ version_words ver ++ name ∷ key ∷ value ∷ []
spelling (Clear is_map ver name) = codes "clear" ∷ kind_word is_map ∷ version_words ver ++ name ∷ []
spelling (Prepare is_map name) = codes "prepare" ∷ kind_word is_map ∷ name ∷ []
spelling (Commit is_map ver name) =
    codes "commit" ∷ kind_word is_map ∷ version_word ver ∷ name ∷ []

-- ---- which commands there are

-- a version's number has 32 bits
abbrev pub is_version : ℕ → Bool
is_version number = nat_lt number (2 ^ 32)

abbrev pub begins_with_at : List ℕ → Bool
begins_with_at [] = false
begins_with_at (b ∷ bs) = b == ascii "@"

-- a word that begins with `@` names no reference where a version may stand
abbrev pub is_place : Option ℕ → List ℕ → Bool
is_place None name = not (begins_with_at name)
is_place (Some number) name = is_version number

-- an entry of a list of patterns has no value, and its key isn't the word of a payload
abbrev pub is_entry : Bool → List ℕ → List ℕ → Bool
is_entry is_map key value =
    if is_map then true else not (bytes_eq key payload_word) && (length value == 0)

abbrev pub is_command : Command → Bool
is_command (Show is_map ver name) = is_place ver name
is_command (Add is_map ver name key value) = is_place ver name && is_entry is_map key value
is_command (AddMany is_map ver name) = is_place ver name
is_command (Del is_map ver name key) = is_place ver name
is_command (Set ver name key value) = is_place ver name
is_command (Clear is_map ver name) = is_place ver name
is_command (Commit is_map ver name) = is_version ver
is_command _ = true

-- The words spell the command.
pub record Spells (command : Command) (words : List (List ℕ)) : Type 0 where
  pub is : is_command command ≡ true
  pub words_are : words ≡ spelling command

-- ---- versions, as functions of words

-- the version that these digits write, without a zero before them
abbrev pub version_of_digits : List ℕ → Option ℕ
version_of_digits digits =
    option_and_then (λ number. if bytes_eq digits (decimal number) then Some number else None)
    (number_up_to (2 ^ 32 - 1) digits)

-- What is made of the words of which the first may be a version: of that version, or none, and of
-- the words after it. Nothing, where a word that begins with `@` is no version.
abbrev pub versioned : (Option ℕ → List (List ℕ) → Option Command) → List (List ℕ) → Option Command
versioned make ((b ∷ digits) ∷ words) =
    if b == ascii "@" then option_and_then (λ n. make (Some n) words) (version_of_digits digits)
    else make None ((b ∷ digits) ∷ words)
versioned make words = make None words

-- ---- commands, as functions of words

-- a command of one word
abbrev pub of_word : (List ℕ → Command) → List (List ℕ) → Option Command
of_word make (name ∷ []) = Some (make name)
of_word make _ = None

-- a command of two words
abbrev pub of_two_words : (List ℕ → List ℕ → Command) → List (List ℕ) → Option Command
of_two_words make (name ∷ word ∷ []) = Some (make name word)
of_two_words make _ = None

-- the words after `show` and the kind
abbrev pub show_command : Bool → List (List ℕ) → Option Command
show_command is_map [] = Some (ShowAll is_map)
show_command is_map words = versioned (λ ver. of_word (Show is_map ver)) words

-- an addition to a version, or to that which is searched: of the entries that follow, of a key
-- without a value, or in a map of a key and a value
abbrev pub addition : Bool → Option ℕ → List (List ℕ) → Option Command
addition is_map ver (name ∷ word ∷ []) =
    if bytes_eq word (codes "<<") then Some (AddMany is_map ver name)
    else if is_map then None else Some (Add false ver name word [])
addition is_map ver (name ∷ key ∷ value ∷ []) =
    if is_map then Some (Add true ver name key value) else None
addition is_map ver _ = None

-- a change of values in a version, or in that which is searched; only a map has values
abbrev pub new_value : Bool → Option ℕ → List (List ℕ) → Option Command
new_value true ver (name ∷ key ∷ value ∷ []) = Some (Set ver name key value)
new_value _ ver _ = None

-- the command of a first word, for lists or for maps, with the words after these two; a commit
-- names its version
abbrev pub command_by : List ℕ → Bool → List (List ℕ) → Option Command
command_by verb is_map words =
    if bytes_eq verb (codes "show") then show_command is_map words
    else if bytes_eq verb (codes "get") then of_two_words (Get is_map) words
    else if bytes_eq verb (codes "add") then versioned (addition is_map) words
    else if bytes_eq verb (codes "del") then versioned (λ ver. of_two_words (Del is_map ver)) words
    else if bytes_eq verb (codes "set") then versioned (new_value is_map) words
    else if bytes_eq verb (codes "clear") then versioned (λ ver. of_word (Clear is_map ver)) words
    else if bytes_eq verb (codes "prepare") then of_word (Prepare is_map) words
    else if bytes_eq verb (codes "commit")
    then versioned (λ ver rest. option_and_then (λ n. of_word (Commit is_map n) rest) ver) words
    else None

-- the command that these words spell, if they spell one
abbrev pub command_of : List (List ℕ) → Option Command
command_of (verb ∷ kind ∷ words) =
    if bytes_eq kind (codes "map") then command_by verb true words
    else if bytes_eq kind (codes "acl") then command_by verb false words else None
command_of _ = None
