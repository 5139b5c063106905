-- The actions of `http-request`: each by its word, which is one call, and the words after it that
-- are its own (HAProxy configuration manual 2.4, section 4.2).
use Rattle.std.specs.Prelude.{ℕ, ◌||◌, Bool, true, false, nat_le, List, [], ◌∷◌, codes, slice_get, Option, Some, None, Result, Ok, Err, if◌then◌else◌, option_and_then, option_map}
use Rattle.std.specs.Option.{ok_or}
use Rattle.std.specs.Str.{bytes_eq}
use Rattle.hx_text.specs.declared.VarName.{VarName}
use Rattle.hx_text.specs.Network.{width_of}
use Rattle.hx_words.specs.Calls.{Step}
use Rattle.hx_words.specs.Calls.Step.{Last, More, Faulty}
use Rattle.hx_words.specs.declared.ArgFault.{ArgFault}
use Rattle.hx_ast.specs.Actions.{is_redirect_status}
use Rattle.hx_ast.specs.declared.Action.{Action}
use Rattle.hx_ast.specs.declared.Action.TheVariants as action
use Rattle.hx_ast.specs.declared.Expr.{Expr}
use Rattle.hx_ast.specs.declared.Part.{Part}
use Rattle.hx_ast.specs.declared.RedirectKind.{RedirectKind}
use Rattle.hx_ast.specs.declared.RedirectKind.TheVariants as kind
pub use Rattle.hx_spell.specs.declared.action_table.ActionHead.{ActionHead}
pub use Rattle.hx_spell.specs.declared.action_table.ActionHead.TheVariants.{Bare, OfFile, OfVariable}
pub use Rattle.hx_spell.specs.declared.action_table.BareAction.{BareAction}
pub use Rattle.hx_spell.specs.declared.action_table.BareAction.TheVariants.{Allow, Deny, SetHeader, AddHeader, DelHeader, ReplaceHeader, ReplaceValue, SetMethod, SetUri, SetPath, SetQuery, Redirect, StrictMode}
pub use Rattle.hx_spell.specs.declared.action_table.FileAction.{FileAction}
pub use Rattle.hx_spell.specs.declared.action_table.FileAction.TheVariants.{AddAcl, DelAcl, DelMap, SetMap}
pub use Rattle.hx_spell.specs.declared.action_table.VariableAction.{VariableAction}
pub use Rattle.hx_spell.specs.declared.action_table.VariableAction.TheVariants.{Set, Unset}
use Rattle.hx_calls.specs.declared.fault.SpellFault.{SpellFault}
use Rattle.hx_base.specs.Results.{◌>>=◌}
use Rattle.hx_calls.specs.Arguments.{bare, counted, read_form, single}
use Rattle.hx_calls.specs.Codes.{bad_argument, bad_name, form_fault, unsupported}
use Rattle.hx_calls.specs.Criteria.{expr_of}
use Rattle.hx_calls.specs.Formats.{format_of}
use Rattle.hx_calls.specs.Forms.Form.{Variable}
use Rattle.hx_calls.specs.Known.{Known, Reading, with_file, reading}
use Rattle.hx_calls.specs.Tables.{Table, entry_at}
use Rattle.hx_calls.specs.Values.{header_of}

-- ---- the word of an action, which has a variable or the position of a file in its parentheses

-- what the name of an action makes of the arguments in its parentheses
abbrev pub HeadMaker : Type 0
HeadMaker = ℕ → List (List ℕ) → Known → Result (Reading ActionHead) SpellFault

abbrev pub head_reading : Known → ActionHead → Reading ActionHead
head_reading known head = reading head known

-- no argument
abbrev pub bare_head : BareAction → HeadMaker
bare_head name line args known = bare (head_reading known (Bare name)) args

-- the name of a variable
abbrev pub variable_head : VariableAction → HeadMaker
variable_head name line args known =
    single (read_form Variable) args
    >>= (λ variable. Ok (head_reading known (OfVariable name variable)))

-- a file that is given
abbrev pub given_file : ℕ → Bool → Option (List ℕ) → Known → Result (Reading ℕ) SpellFault
given_file line two None known = Err bad_argument
given_file line two (Some name) known = with_file line name two known

-- whether the file of an action has two columns, as a map
abbrev pub changes_map : FileAction → Bool
changes_map AddAcl = false
changes_map DelAcl = false
changes_map DelMap = true
changes_map SetMap = true

-- a file
abbrev pub file_head : FileAction → HeadMaker
file_head name line args known =
    counted 1 1 args (given_file line (changes_map name) (slice_get args 0) known)
    >>= (λ file. Ok (head_reading file.known (OfFile name file.value)))

unfoldable pub action_table : Table HeadMaker
action_table =
    (codes "allow", bare_head Allow)
    ∷ (codes "deny", bare_head Deny)
    ∷ (codes "set-header", bare_head SetHeader)
    ∷ (codes "add-header", bare_head AddHeader)
    ∷ (codes "del-header", bare_head DelHeader)
    ∷ (codes "replace-header", bare_head ReplaceHeader)
    ∷ (codes "replace-value", bare_head ReplaceValue)
    ∷ (codes "set-method", bare_head SetMethod)
    ∷ (codes "set-uri", bare_head SetUri)
    ∷ (codes "set-path", bare_head SetPath)
    ∷ (codes "set-query", bare_head SetQuery)
    ∷ (codes "set-var", variable_head Set)
    ∷ (codes "unset-var", variable_head Unset)
    ∷ (codes "add-acl", file_head AddAcl)
    ∷ (codes "del-acl", file_head DelAcl)
    ∷ (codes "del-map", file_head DelMap)
    ∷ (codes "set-map", file_head SetMap)
    ∷ (codes "redirect", bare_head Redirect)
    ∷ (codes "strict-mode", bare_head StrictMode)
    ∷ []

abbrev pub head_by : ℕ → Option HeadMaker → List (List ℕ) → Known
    → Result (Reading ActionHead) SpellFault
head_by line None args known = Err unsupported
head_by line (Some make) args known = make line args known

abbrev pub head_fault_by : Option HeadMaker → ArgFault → Result (Reading ActionHead) SpellFault
head_fault_by None fault = Err unsupported
head_fault_by (Some make) fault = Err (form_fault fault)

-- the word of an action is one call; its arguments are judged before a second call
abbrev pub head_of_step : ℕ → Step → Known → Result (Reading ActionHead) SpellFault
head_of_step line (Last call rest) known =
    head_by line (entry_at action_table call.name) call.args known
head_of_step line (More call rest) known =
    head_by line (entry_at action_table call.name) call.args known >>= (λ head. Err bad_argument)
head_of_step line (Faulty name fault) known = head_fault_by (entry_at action_table name) fault

-- ---- words in order

-- what is read of the first words, and the words after them
pub record Taken (A : Type 0) : Type 0 where
  pub item : A
  pub words : List (List ℕ)

abbrev pub taken : {A : Type 0} → A → List (List ℕ) → Known → Reading (Taken A)
taken item words known = reading (record { item = item; words = words }) known

-- a reader of the first words
abbrev pub WordsReader : Type 0 → Type 0
WordsReader A = List (List ℕ) → Known → Result (Reading (Taken A)) SpellFault

-- the first word, which has to be there
abbrev pub first_word : {A : Type 0}
    → (List ℕ → Known → Result (Reading A) SpellFault) → WordsReader A
first_word read [] known = Err bad_argument
first_word read (word ∷ words) known =
    read word known >>= (λ found. Ok (taken found.value words found.known))

-- a word that brings no reference
abbrev pub plain_word : {A : Type 0} → (List ℕ → Option A) → SpellFault → WordsReader A
plain_word read fault =
    first_word (λ word known. ok_or (read word) fault
    >>= (λ x. Ok (reading x known)))

-- the name of a header
abbrev pub header_word : WordsReader (List ℕ)
header_word = plain_word header_of bad_name

-- any word, as a regular expression, which is judged later
abbrev pub text_word : WordsReader (List ℕ)
text_word = plain_word Some bad_argument

abbrev pub format_word : ℕ → WordsReader (List Part)
format_word line = first_word (format_of line)

abbrev pub expr_word : ℕ → WordsReader Expr
expr_word line = first_word (expr_of None line)

-- ---- the words of actions

abbrev pub with_format : ℕ → (List Part → Action) → WordsReader Action
with_format line make words known =
    format_word line words known
    >>= (λ format. Ok (taken (make format.value.item) format.value.words format.known))

-- NAME FMT
abbrev pub with_header_format : ℕ → (List ℕ → List Part → Action) → WordsReader Action
with_header_format line make words known = do
  name ← header_word words known
  with_format line (make name.value.item) name.value.words name.known

-- NAME RE FMT
abbrev pub with_replacement : ℕ → (List ℕ → List ℕ → List Part → Action) → WordsReader Action
with_replacement line make words known = do
  name ← header_word words known
  expression ← text_word name.value.words name.known
  with_format line (make name.value.item expression.value.item) expression.value.words
      expression.known

-- KFMT VFMT
abbrev pub with_two_formats : ℕ → (List Part → List Part → Action) → WordsReader Action
with_two_formats line make words known = do
  key ← format_word line words known
  with_format line (make key.value.item) key.value.words key.known

abbrev pub with_name_of_header : WordsReader Action
with_name_of_header words known =
    header_word words known
    >>= (λ name. Ok (taken (action.DelHeader name.value.item) name.value.words name.known))

abbrev pub with_expr : ℕ → VarName → WordsReader Action
with_expr line name words known =
    expr_word line words known
    >>= (λ expr. Ok (taken (action.SetVar name expr.value.item) expr.value.words expr.known))

-- a status with which a request can be denied
abbrev pub status_of : List ℕ → Option ℕ
status_of text = option_and_then (λ n. if nat_le 200 n then Some n else None) (width_of 599 text)

abbrev pub is_status_word : List ℕ → Bool
is_status_word word = bytes_eq word (codes "status") || bytes_eq word (codes "deny_status")

-- words that may be there: one of these, and what the next says
abbrev pub word_and_value : {A : Type 0} → (List ℕ → Bool) → (List ℕ → Option A)
    → WordsReader (Option A)
word_and_value is read [] known = Ok (taken None [] known)
word_and_value is read (word ∷ words) known =
    if is word then plain_word (λ text. option_map Some (read text)) bad_argument words known
    else Ok (taken None (word ∷ words) known)

-- [status N], [deny_status N]
abbrev pub with_status : WordsReader Action
with_status words known =
    word_and_value is_status_word status_of words known
    >>= (λ status. Ok (taken (action.Deny status.value.item) status.value.words status.known))

unfoldable pub kind_table : Table RedirectKind
kind_table =
    (codes "location", kind.Location)
    ∷ (codes "prefix", kind.Prefix)
    ∷ (codes "scheme", kind.Scheme)
    ∷ []

-- a status of a redirect
abbrev pub redirect_status_of : List ℕ → Option ℕ
redirect_status_of text =
    option_and_then (λ n. if is_redirect_status n then Some n else None) (width_of 308 text)

-- a word that may be there
abbrev pub optional_word : List ℕ → WordsReader Bool
optional_word wanted [] known = Ok (taken false [] known)
optional_word wanted (word ∷ words) known =
    if bytes_eq word wanted then Ok (taken true words known)
    else Ok (taken false (word ∷ words) known)

abbrev pub redirect_taken : RedirectKind → List Part → Option ℕ → Reading (Taken Bool)
    → Result (Reading (Taken Action)) SpellFault
redirect_taken kind format status drops =
    Ok (taken (action.Redirect kind format status drops.value.item) drops.value.words drops.known)

abbrev pub kind_word : WordsReader RedirectKind
kind_word = plain_word (entry_at kind_table) bad_argument

-- KIND FMT [code N] [drop-query]
abbrev pub with_redirect : ℕ → WordsReader Action
with_redirect line words known = do
  kind ← kind_word words known
  format ← format_word line kind.value.words kind.known
  status ← word_and_value (bytes_eq (codes "code")) redirect_status_of format.value.words
      format.known
  drops ← optional_word (codes "drop-query") status.value.words status.known
  redirect_taken kind.value.item format.value.item status.value.item drops

unfoldable pub switch_table : Table Bool
switch_table = (codes "on", true) ∷ (codes "off", false) ∷ []

-- on, off
abbrev pub with_switch : WordsReader Action
with_switch words known =
    plain_word (entry_at switch_table) bad_argument words known
    >>= (λ on. Ok (taken (action.StrictMode on.value.item) on.value.words on.known))

-- the words of an action without parentheses
abbrev pub bare_words : ℕ → BareAction → WordsReader Action
bare_words line Allow words known = Ok (taken action.Allow words known)
bare_words line Deny words known = with_status words known
bare_words line SetHeader words known = with_header_format line action.SetHeader words known
bare_words line AddHeader words known = with_header_format line action.AddHeader words known
bare_words line DelHeader words known = with_name_of_header words known
bare_words line ReplaceHeader words known =
    with_replacement line action.ReplaceHeader words known
bare_words line ReplaceValue words known = with_replacement line action.ReplaceValue words known
bare_words line SetMethod words known = with_format line action.SetMethod words known
bare_words line SetUri words known = with_format line action.SetUri words known
bare_words line SetPath words known = with_format line action.SetPath words known
bare_words line SetQuery words known = with_format line action.SetQuery words known
bare_words line Redirect words known = with_redirect line words known
bare_words line StrictMode words known = with_switch words known

abbrev pub variable_words : ℕ → VariableAction → VarName → WordsReader Action
variable_words line Set name words known = with_expr line name words known
variable_words line Unset name words known = Ok (taken (action.UnsetVar name) words known)

abbrev pub file_words : ℕ → FileAction → ℕ → WordsReader Action
file_words line AddAcl table words known = with_format line (action.AddAcl table) words known
file_words line DelAcl table words known = with_format line (action.DelAcl table) words known
file_words line DelMap table words known = with_format line (action.DelMap table) words known
file_words line SetMap table words known =
    with_two_formats line (action.SetMap table) words known

-- the action of its word and the words after it
abbrev pub action_words : ℕ → ActionHead → WordsReader Action
action_words line (Bare name) words known = bare_words line name words known
action_words line (OfVariable name variable) words known =
    variable_words line name variable words known
action_words line (OfFile name table) words known = file_words line name table words known
