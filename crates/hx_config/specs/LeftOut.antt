-- The lines that are left out, since they change neither a verdict nor the head of a request: those
-- of the rows of `STATEMENTS` and `SERVER_STATEMENTS`, which give the first word and maybe the
-- second, and the rules with an action of `ACTIONS`. Each row gives its reason.
use Rattle.std.specs.Prelude.{ℕ, Bool, true, ◌&&◌, List, [], ◌∷◌, codes, map, Option, None, Some, if◌then◌else◌}
use Rattle.std.specs.Option.{option_map_or, option_or}
use Rattle.std.specs.Str.{bytes_eq}
use Rattle.hx_base.specs.Bytes.{ascii}
use Rattle.hx_base.specs.Pairs.{entry_at}
use Rattle.hx_text.specs.Cut.{cut_of}
use Rattle.hx_config.specs.Titles.{word_at}
use Rattle.hx_config.specs.declared.left_out.TheConstants.{ACTIONS, SERVER_STATEMENTS, STATEMENTS}

-- ---- rules

-- the name of an action: what stands before its parentheses, where it has some
abbrev pub action_name : List ℕ → List ℕ
action_name word = option_map_or (λ cut. cut.0) (cut_of (ascii "(") word) word

-- the action of a rule, and no bytes of another line
abbrev pub action_of : List (List ℕ) → List ℕ
action_of words =
    if bytes_eq (word_at 0 words) (codes "http-request") then word_at 1 words
    else (if bytes_eq (word_at 0 words) (codes "tcp-request") then word_at 2 words else [])

abbrev pub actions : List (List ℕ × List ℕ)
actions = map (λ row. (row.0.now, row.1.now)) ACTIONS

abbrev pub action_reason : List (List ℕ) → Option (List ℕ)
action_reason words =
    entry_at actions (action_name (action_of words))

-- ---- statements

-- the words begin with the first of these, and then with the second, unless that is no bytes
abbrev pub is_second : List ℕ → List (List ℕ) → Bool
is_second [] words = true
is_second (b ∷ second) words = bytes_eq (word_at 1 words) (b ∷ second)

abbrev pub begins_with : (first second : List ℕ) → List (List ℕ) → Bool
begins_with first second words = bytes_eq (word_at 0 words) first && is_second second words

-- the reason of the first row that these words begin with
abbrev pub reason_by : List (List ℕ × List ℕ × List ℕ) → List (List ℕ) → Option (List ℕ)
reason_by [] words = None
reason_by (row ∷ rows) words =
    if begins_with row.0 row.1 words then Some row.2 else reason_by rows words

abbrev pub statements : List (List ℕ × List ℕ × List ℕ)
statements = map (λ row. (row.0.now, row.1.now, row.2.now)) STATEMENTS

-- those of servers, and of how one is chosen
abbrev pub server_statements : List (List ℕ × List ℕ × List ℕ)
server_statements = map (λ row. (row.0.now, row.1.now, row.2.now)) SERVER_STATEMENTS

-- ---- any of these

-- the reason by the tables of servers and of actions
unfoldable pub other_reason : List (List ℕ) → Option (List ℕ)
other_reason words = option_or (reason_by server_statements words) (action_reason words)

-- why a line of these words is left out; none where it isn't
abbrev pub reason_left_out : List (List ℕ) → Option (List ℕ)
reason_left_out words = option_or (reason_by statements words) (other_reason words)
