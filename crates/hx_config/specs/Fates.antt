-- What becomes of each line of a file where the configuration of one frontend is written.
use Rattle.std.specs.Prelude.{ℕ, Bool, true, false, not, ◌&&◌, ◌||◌, nat_lt, List, [], ◌∷◌, codes, map, Option, None, Some, unwrap_or, if◌then◌else◌}
use Rattle.std.specs.List.{list_any}
use Rattle.std.specs.Str.{bytes_eq}
use Rattle.hx_config.specs.Addresses.{address_words}
use Rattle.hx_config.specs.Assembling.{variables_said}
use Rattle.hx_config.specs.LeftOut.{begins_with, reason_left_out}
use Rattle.hx_config.specs.Conditions.{Tls, tests_said}
use Rattle.hx_config.specs.Formats.{Known, formats_said}
use Rattle.hx_config.specs.Lines.{Line}
use Rattle.hx_config.specs.Proxies.{holds}
use Rattle.hx_config.specs.Said.{Words, said}
use Rattle.hx_config.specs.Titles.{is_title, word_at}
use Rattle.hx_config.specs.declared.fate.TheConstants.{ADDED_LAST, CHANGES, LISTENS, NAMES, SET_ANEW, SINGLES, WORDS_OF_HXEVAL}

-- What becomes of a line, with the reason for it.
pub data Fate : Type 0 where
  -- it holds for another section: an empty line stands at its number
  Elsewhere : Fate
  -- it is written as it is
  Own : Fate
  -- an empty line stands at its number
  LeftOut : (reason : List ℕ) → Fate
  -- these words stand at its number
  Otherwise : (words : Words) (reason : List ℕ) → Fate
  -- an empty line stands at its number, and these words below the last line of the file
  Below : (words : Words) (reason : List ℕ) → Fate

-- The proxy that is asked for: the sections whose lines hold for it; whether one of these says a
-- default backend, and whether one says when a monitor fails; the numbers of its first rule, and of
-- its first that changes the request line; the port at which TLS comes in; and all lines of the
-- file.
pub record Selection : Type 0 where
  pub sections : List ℕ
  pub has_default : Bool
  pub monitor_fails : Bool
  pub first_rule : Option ℕ
  pub first_change : Option ℕ
  pub tls : Tls
  pub lines : List Line

-- ---- what is known where a line stands

-- a rule of `http-request`
abbrev pub is_rule : Words → Bool
is_rule words = bytes_eq (word_at 0 words) (codes "http-request")

-- the action of a rule changes the method or the target
abbrev pub changes_request_line : Words → Bool
changes_request_line words = list_any (λ action. bytes_eq (word_at 1 words) action.now) CHANGES

-- a rule, or one that changes these where only such are asked for
abbrev pub is_rule_asked : (changing : Bool) → Words → Bool
is_rule_asked changing words = is_rule words && (not changing || changes_request_line words)

-- the number of the first of these lines that holds and is such a rule
abbrev pub first_rule_in : (sections : List ℕ) → (changing : Bool) → List Line → Option ℕ
first_rule_in sections changing [] = None
first_rule_in sections changing (line ∷ lines) =
    if holds sections line && is_rule_asked changing line.words then Some line.number
    else first_rule_in sections changing lines

-- The request line is the one that came at a rule of `http-request` up to the first that changes
-- it. An ACL may be asked anywhere, and all that is no such rule comes after them.
abbrev pub is_as_it_came : Option ℕ → Line → Bool
is_as_it_came None line = true
is_as_it_came (Some change) line =
    is_rule line.words && not (nat_lt change line.number)

-- no rule stands above the line
abbrev pub is_above_rules : Option ℕ → Line → Bool
is_above_rules None line = true
is_above_rules (Some rule) line = nat_lt line.number rule

abbrev pub known_at : Selection → Line → Known
known_at chosen line = record {
  tls = chosen.tls;
  as_it_came = is_as_it_came chosen.first_change line;
  answers_monitor = not chosen.monitor_fails && is_above_rules chosen.first_rule line;
  lines = chosen.lines;
}

-- ---- statements

-- one of these lines holds for the proxy and begins with these words
abbrev pub holds_one : (sections : List ℕ) (first second : List ℕ) → List Line → Bool
holds_one sections first second lines =
    list_any (λ line. holds sections line && begins_with first second line.words) lines

-- one of these lines, which stand below, sets anew what a line of these words sets: a statement of
-- which the last counts alone
abbrev pub is_one_set_anew : (sections : List ℕ) → (below : List Line) → Words
    → List (List ℕ × List ℕ) → Bool
is_one_set_anew sections below words singles =
    list_any (λ (single : List ℕ × List ℕ). begins_with single.0 single.1 words
    && holds_one sections single.0 single.1 below) singles

-- the statements of which the last counts alone
abbrev pub singles : List (List ℕ × List ℕ)
singles = map (λ row. (row.0.now, row.1.now)) SINGLES

abbrev pub is_set_anew : (sections : List ℕ) → (below : List Line) → Words → Bool
is_set_anew sections below words = is_one_set_anew sections below words singles

-- A title goes. That of a `listen` section is the backend of requests that no rule sends elsewhere,
-- where no `default_backend` says another.
abbrev pub title_fate : Selection → Words → Fate
title_fate chosen words =
    if bytes_eq (word_at 0 words) (codes "listen") && not chosen.has_default
    then Otherwise (codes "default_backend" ∷ word_at 1 words ∷ []) LISTENS.now
    else LeftOut NAMES.now

abbrev pub left_out_or : Option (List ℕ) → Fate → Fate
left_out_or None fate = fate
left_out_or (Some reason) fate = LeftOut reason

abbrev pub same_words : Words → Words → Bool
same_words [] [] = true
same_words (word ∷ words) (other ∷ others) = bytes_eq word other && same_words words others
same_words _ _ = false

-- the words of hxeval for a line: those of the tables, with their formats, expressions and tests
abbrev pub words_of_hxeval : Known → Words → Words
words_of_hxeval known words =
    tests_said known (variables_said (formats_said known (unwrap_or (said known words) words)))

-- a line that is said in the same words is written as it is
abbrev pub said_fate : (others words : Words) → Fate
said_fate others words =
    if same_words others words then Own else Otherwise others WORDS_OF_HXEVAL.now

abbrev pub below_or : Option Words → Fate → Fate
below_or None fate = fate
below_or (Some words) fate = Below words ADDED_LAST.now

-- the fate of a line that holds, is no title and isn't set anew: the first of the tables that speaks
-- of its words decides
abbrev pub statement_fate : Known → Words → Fate
statement_fate known words =
    below_or (address_words words)
    (left_out_or (reason_left_out words) (said_fate (words_of_hxeval known words) words))

-- the fate of a line with these lines below it
unfoldable pub fate_of : Selection → (below : List Line) → Line → Fate
fate_of chosen below line =
    if holds chosen.sections line
    then (if is_title line.words then title_fate chosen line.words
    else (if is_set_anew chosen.sections below line.words then LeftOut SET_ANEW.now
    else statement_fate (known_at chosen line) line.words))
    else Elsewhere
