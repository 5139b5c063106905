-- Tests of who may come in, by the userlists of a file (HAProxy configuration manual 2.6, sections
-- 3.4 and 7.3.6: `http_auth`, `http_auth_group`), as a comparison of what the header
-- `Authorization` gives with the names and passwords that the list has.
use Rattle.std.specs.Prelude.{ℕ, nat_lt, ◌+◌, ◌==◌, Bool, true, false, not, ◌&&◌, ◌||◌, List, [], ◌∷◌, ◌++◌, codes, length, map, take, Option, None, Some, is_some, option_and_then, unwrap_or, if◌then◌else◌}
use Rattle.std.specs.List.{list_all, list_any}
use Rattle.std.specs.Option.{option_map_or}
use Rattle.std.specs.Str.{bytes_eq}
use Rattle.hx_base.specs.Bytes.{ascii}
use Rattle.hx_text.specs.Cut.{cut_of, pieces}
use Rattle.hx_config.specs.Lines.{Line}
use Rattle.hx_config.specs.Options.{after_options, value_of}
use Rattle.hx_config.specs.Titles.{Words, word_at}
use Rattle.hx_config.specs.declared.monitoring.TheConstants.{EXACTLY}
use Rattle.hx_config.specs.declared.accounts.TheConstants.{AUTHORIZATION, GROUP_OPTIONS, USER_OPTIONS}

abbrev pub user_options : List (List ℕ × List ℕ)
user_options = map (λ row. (row.0.now, row.1.now)) USER_OPTIONS

abbrev pub group_options : List (List ℕ × List ℕ)
group_options = map (λ row. (row.0.now, row.1.now)) GROUP_OPTIONS

-- ---- a userlist

-- the section of the first userlist of this name
abbrev pub userlist_of : (name : List ℕ) → List Line → Option ℕ
userlist_of name [] = None
userlist_of name (line ∷ lines) =
    if bytes_eq (word_at 0 line.words) (codes "userlist")
    && (nat_lt 1 (length line.words) && bytes_eq (word_at 1 line.words) name)
    then Some line.section else userlist_of name lines

-- the words after the keyword and the name of a user or a group
abbrev pub options_of : Words → Words
options_of (keyword ∷ name ∷ options) = options
options_of _ = []

abbrev pub user_value : (option : List ℕ) → Words → Option (List ℕ)
user_value option words = value_of user_options option (options_of words)

-- a line of this section that begins with this keyword
abbrev pub is_in : (section : ℕ) → (keyword : List ℕ) → Line → Bool
is_in section keyword line = line.section == section && bytes_eq (word_at 0 line.words) keyword

abbrev pub is_user : (section : ℕ) → Line → Bool
is_user section line = is_in section (codes "user") line

-- the user of these words has a password that isn't encrypted, and no other
abbrev pub has_plain_password : Words → Bool
has_plain_password words =
    option_map_or (λ rest. length rest == 0) (after_options user_options 0 (options_of words)) false
    && (is_some (user_value (codes "insecure-password") words)
    && not (is_some (user_value (codes "password") words)))

-- and a name that a request can give, which ends at the first colon
abbrev pub is_plain_user : Words → Bool
is_plain_user words =
    has_plain_password words && not (is_some (cut_of (ascii ":") (word_at 1 words)))

abbrev pub names_user : (section : ℕ) → (name : List ℕ) → List Line → Bool
names_user section name lines =
    list_any (λ line. is_user section line && bytes_eq (word_at 1 line.words) name) lines

-- all users of a section are such, with names of their own: of two users of one name HAProxy takes
-- the first
abbrev pub are_plain : (section : ℕ) → List Line → Bool
are_plain section [] = true
are_plain section (line ∷ lines) =
    (not (is_user section line) || (is_plain_user line.words
    && not (names_user section (word_at 1 line.words) lines))) && are_plain section lines

-- ---- groups

-- the name is one of those between commas
abbrev pub is_listed : (name text : List ℕ) → Bool
is_listed name text = list_any (λ piece. bytes_eq piece name) (pieces (ascii ",") text)

-- a line of this section that says of a group that it has a user
abbrev pub lists_user : (section : ℕ) → (group user : List ℕ) → Line → Bool
lists_user section group user line =
    is_in section (codes "group") line && (bytes_eq (word_at 1 line.words) group
    && is_listed user
    (unwrap_or (value_of group_options (codes "users") (options_of line.words)) []))

-- the user of these words is in a group: his line says so, or that of the group, of all lines
abbrev pub is_member : (section : ℕ) → (lines : List Line) → (user : Words) → (group : List ℕ)
    → Bool
is_member section lines user group =
    is_listed group (unwrap_or (user_value (codes "groups") user) [])
    || list_any (λ line. lists_user section group (word_at 1 user) line) lines

-- the user is in one of these groups; without groups every user is asked for
abbrev pub is_asked : (section : ℕ) → (lines : List Line) → (groups : Words) → (user : Words) → Bool
is_asked section lines groups user =
    length groups == 0 || list_any (λ group. is_member section lines user group) groups

-- ---- what is asked

-- `NAME:PASSWORD`
abbrev pub account_of : Words → List ℕ
account_of words =
    word_at 1 words ++ codes ":" ++ unwrap_or (user_value (codes "insecure-password") words) []

-- that of a line, where it is of a user who is asked for
abbrev pub account_in : (section : ℕ) → (lines : List Line) → (groups : Words) → Line → Words
account_in section lines groups line =
    if is_user section line && is_asked section lines groups line.words
    then account_of line.words ∷ [] else []

-- those of these of the lines
abbrev pub accounts_in : (section : ℕ) → (lines : List Line) → (groups : Words) → List Line → Words
accounts_in section lines groups [] = []
accounts_in section lines groups (line ∷ others) =
    account_in section lines groups line ++ accounts_in section lines groups others

-- the words of a test that one of these users asks: `AUTHORIZATION -m str -- ACCOUNT ..`
abbrev pub users_test : (lines : List Line) → (groups : Words) → (section : ℕ) → Option Words
users_test lines groups section =
    if are_plain section lines
    then Some (AUTHORIZATION.now ∷ map (λ text. text.now) EXACTLY
    ++ accounts_in section lines groups lines) else None

-- ---- a test

-- the name and the one argument of `NAME(ARGUMENT)`
abbrev pub closed_by : (name : List ℕ) → List ℕ × List ℕ → Option (List ℕ × List ℕ)
closed_by name cut = if length cut.1 == 0 then Some (name, cut.0) else None

abbrev pub one_argument : List ℕ → Option (List ℕ × List ℕ)
one_argument word =
    option_and_then (λ cut. option_and_then (λ inner. closed_by cut.0 inner)
    (cut_of (ascii ")") cut.1)) (cut_of (ascii "(") word)

-- the word ends a test
abbrev pub closes : List ℕ → Bool
closes word = bytes_eq word (codes "}")

-- how many words stand before the end of a test, and these words
abbrev pub test_length : Words → ℕ
test_length [] = 0
test_length (word ∷ words) = if closes word then 0 else test_length words + 1

abbrev pub words_in_test : Words → Words
words_in_test words = take (test_length words) words

-- the word isn't a flag of a test
abbrev pub is_no_flag : List ℕ → Bool
is_no_flag [] = true
is_no_flag (b ∷ bytes) = not (b == ascii "-")

-- the groups that a fetch with these words after it asks for, and no words for any; none where
-- these words are others
abbrev pub asked_groups : (fetch : List ℕ) → (words : Words) → Option Words
asked_groups fetch words =
    if bytes_eq fetch (codes "http_auth") then (if length words == 0 then Some [] else None)
    else (if bytes_eq fetch (codes "http_auth_group")
    && (not (length words == 0) && list_all is_no_flag words) then Some words else None)

-- the test of such a fetch, by the userlist that is its argument
abbrev pub call_test : (lines : List Line) → (words : Words) → List ℕ × List ℕ → Option Words
call_test lines words call =
    option_and_then (λ groups. option_and_then (λ section. users_test lines groups section)
    (userlist_of call.1 lines)) (asked_groups call.0 words)

-- The words of a test with this criterion and these words after it, where it is such a fetch and
-- can be said. They stand for all words of the test.
unfoldable pub account_test : (lines : List Line) → (criterion : List ℕ) → (after : Words)
    → Option Words
account_test lines criterion after =
    option_and_then (λ call. call_test lines (words_in_test after) call) (one_argument criterion)
