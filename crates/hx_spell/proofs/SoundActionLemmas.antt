-- Actions that are read are such as the syntax allows, and name heads and references that are known
-- then. What is known is sound after them, where it was before.
use Rattle.std.proofs.Common.{◌≡◌, ℕ, Bool, true, false, cond, List, [], ◌∷◌, length, Option, None, Some, Ok, Err, arith, refl, subst}
use Rattle.std.specs.Prelude.{IfSome, IsTrue, Result, codes, nat_le, option_map, slice_get}
use Rattle.std.specs.Option.{ok_or}
use Rattle.std.specs.Str.{bytes_eq}
use Rattle.std.proofs.lemmas.Bool.{leb-true}
use Rattle.std.proofs.lemmas.Option.{cond_some}
use Rattle.httparse.specs.Grammar.{IsToken}
use Rattle.hx_text.specs.Network.{width_of}
use Rattle.hx_text.specs.declared.VarName.{VarName}
use Rattle.hx_words.specs.Calls.{Step}
use Rattle.hx_words.specs.Calls.Step.{Last, More, Faulty}
use Rattle.hx_words.specs.declared.ArgFault.{ArgFault}
use Rattle.hx_ast.specs.Actions.{IsAction, IsHeaderFormat, IsStatus, is_redirect_status}
use Rattle.hx_ast.specs.Names.{IsVariable}
use Rattle.hx_ast.specs.Statements.{is_redirect}
use Rattle.hx_ast.specs.declared.Action.{Action}
use Rattle.hx_ast.specs.declared.Action.TheVariants as action
use Rattle.hx_ast.specs.declared.Part.{Part}
use Rattle.hx_calls.specs.declared.fault.SpellFault.{SpellFault}
use Rattle.hx_spell.specs.Actions.{ActionHead, AddAcl, AddHeader, Allow, Bare, BareAction, DelAcl, DelHeader, DelMap, Deny, FileAction, HeadMaker, OfFile, OfVariable, Redirect, ReplaceHeader, ReplaceValue, Set, SetHeader, SetMap, SetMethod, SetPath, SetQuery, SetUri, StrictMode, Taken, Unset, VariableAction}
use Rattle.hx_spell.specs.Actions.{WordsReader, action_table, action_words, bare_head, bare_words, changes_map, expr_word, file_head, file_words, first_word, format_word, given_file, head_by, head_fault_by, head_of_step, header_word, is_status_word, kind_table, kind_word, optional_word, plain_word, redirect_status_of, status_of, switch_table, text_word, variable_head, variable_words, with_format, with_header_format, with_redirect, with_replacement, with_status, with_two_formats, word_and_value}
use Rattle.hx_base.specs.Results.{◌>>=◌}
use Rattle.hx_calls.specs.Arguments.{counted, is_count, read_form, required, single}
use Rattle.hx_calls.specs.Codes.{bad_argument, bad_name}
use Rattle.hx_calls.specs.Criteria.{expr_of}
use Rattle.hx_calls.specs.Formats.{format_of}
use Rattle.hx_spell.specs.Heads.{ActionNames}
use Rattle.hx_calls.specs.Forms.Form.{Variable}
use Rattle.hx_calls.specs.Known.{Known, Reading}
use Rattle.hx_calls.specs.Sound.{IsReference}
use Rattle.hx_calls.specs.Tables.{Table, entry_at}
use Rattle.hx_calls.specs.Values.{header_of, variable_name_of}
use Rattle.hx_calls.proofs.FormLemmas.{header_such, variable_such, width_within}
use Rattle.hx_spell.proofs.HeadLemmas.{action_later}
use Rattle.hx_calls.proofs.ResultLemmas.{ReadsSuch, ok_or_is, some_and_then, some_map}
use Rattle.hx_calls.proofs.SoundExprLemmas.{IsKnownExpr, IsKnownFormat, expr_brings, format_brings, format_stays}
use Rattle.hx_calls.proofs.SoundLemmas.{Brings, Grown, either_brings, file_brings, grown_refl, grown_trans, step_brings, tested_brings, then_brings, weaker_brings}

-- an action of the syntax, which names heads and references that are known
abbrev pub IsKnownAction : Known → Action → Type 0
IsKnownAction known act = IsAction act × ActionNames known.heads (length known.references) act

pub action_stays : (a b : Known) → Grown a b → (act : Action) → IsKnownAction a act
    → IsKnownAction b act
action_stays a b grown act (allowed, names) = (
  allowed,
  action_later a.heads b.heads (length a.references) (length b.references) grown.heads
      grown.references act names,
)

-- ---- the words of actions

-- in the parentheses stands the name of a variable, or a file, whose reference is known
abbrev pub IsKnownName : Known → ActionHead → Type 0
IsKnownName known (Bare name) = Unit {0}
IsKnownName known (OfVariable name variable) = IsVariable variable
IsKnownName known (OfFile name table) = IsReference known table

abbrev MakesKnown : HeadMaker → Type 0
MakesKnown make =
    (line : ℕ) (args : List (List ℕ)) (known : Known)
    → Brings IsKnownName known (make line args known)

bare_makes : (name : BareAction) → MakesKnown (bare_head name)
bare_makes name line args known =
    tested_brings IsKnownName known (is_count 0 0 (length args)) _ bad_argument
    (λ counted. (grown_refl known, tt))

counted_read : {A : Type 0} (b : Bool) (r : Result A SpellFault) (x : A)
    → cond b r (Err bad_argument) ≡ Ok x → r ≡ Ok x
counted_read true r x is = is
counted_read false r x is = absurd (let no : ⊥ = cc in no)

required_variable : (given : Option (List ℕ)) (v : VarName)
    → required (read_form Variable) given ≡ Ok v → IsVariable v
required_variable None v is = absurd (let no : ⊥ = cc in no)
required_variable (Some text) v is =
    variable_such text v (ok_or_is (variable_name_of text) bad_name v is)

single_variable : (args : List (List ℕ)) (v : VarName)
    → single (read_form Variable) args ≡ Ok v → IsVariable v
single_variable args v is =
    let first = slice_get args 0 in
    required_variable first v
    (counted_read (is_count 1 1 (length args)) (required (read_form Variable) first) v is)

variable_makes : (name : VariableAction) → MakesKnown (variable_head name)
variable_makes name line args known =
    step_brings IsKnownName known (single (read_form Variable) args) _
    (λ variable is. (grown_refl known, single_variable args variable is))

given_brings : (line : ℕ) (two : Bool) (name : Option (List ℕ)) (known : Known)
    → Brings IsReference known (given_file line two name known)
given_brings line two None known = tt
given_brings line two (Some name) known = file_brings line name two known

file_makes : (name : FileAction) → MakesKnown (file_head name)
file_makes name line args known =
    let given = given_file line (changes_map name) (slice_get args 0) known in
    then_brings IsReference IsKnownName known (counted 1 1 args given) _
    (tested_brings IsReference known (is_count 1 1 (length args)) given bad_argument
    (λ counted. given_brings line (changes_map name) (slice_get args 0) known))
    (λ file grown there. (grown_refl file.known, there))

abbrev EachMakes : Table HeadMaker → Type 0
EachMakes [] = Unit {0}
EachMakes (row ∷ rows) = MakesKnown row.1 × EachMakes rows

each_makes : EachMakes action_table
unfolding action_table
each_makes = search (bare_makes, variable_makes, file_makes)

first_or_later : (b : Bool) (make : HeadMaker) (later : Option HeadMaker) → MakesKnown make
    → IfSome later MakesKnown → IfSome (cond b (Some make) later) MakesKnown
first_or_later true make later such others = such
first_or_later false make later such others = others

entry_makes : (table : Table HeadMaker) → EachMakes table → (name : List ℕ)
    → IfSome (entry_at table name) MakesKnown
entry_makes [] each name = tt
entry_makes (row ∷ rows) each name =
    first_or_later (bytes_eq row.0 name) row.1 (entry_at rows name) each.0
    (entry_makes rows each.1 name)

made_brings : (line : ℕ) (found : Option HeadMaker) → IfSome found MakesKnown
    → (args : List (List ℕ)) (known : Known)
    → Brings IsKnownName known (head_by line found args known)
made_brings line None such args known = tt
made_brings line (Some make) such args known = such line args known

fault_brings : (found : Option HeadMaker) (fault : ArgFault) (known : Known)
    → Brings IsKnownName known (head_fault_by found fault)
fault_brings None fault known = tt
fault_brings (Some make) fault known = tt

named_brings : (line : ℕ) (name : List ℕ) (args : List (List ℕ)) (known : Known)
    → Brings IsKnownName known (head_by line (entry_at action_table name) args known)
named_brings line name args known =
    made_brings line (entry_at action_table name) (entry_makes action_table each_makes name) args
    known

pub head_brings : (line : ℕ) (step : Step) (known : Known)
    → Brings IsKnownName known (head_of_step line step known)
head_brings line (Last call rest) known = named_brings line call.name call.args known
head_brings line (More call rest) known =
    then_brings IsKnownName IsKnownName known
    (head_by line (entry_at action_table call.name) call.args known) (λ head. Err bad_argument)
    (named_brings line call.name call.args known) (λ head grown such. tt)
head_brings line (Faulty name fault) known =
    fault_brings (entry_at action_table name) fault known

-- ---- words in order

-- what is taken from the first words is such
abbrev pub Takes : {A : Type 0} → (Known → A → Type 0) → Known → Taken A → Type 0
Takes P known found = P known found.item

abbrev pub ReadsWords : {A : Type 0} → (Known → A → Type 0) → WordsReader A → Type 0
ReadsWords P read =
    (words : List (List ℕ)) (known : Known) → Brings (Takes P) known (read words known)

first_reads : {A : Type 0} (P : Known → A → Type 0)
    (read : List ℕ → Known → Result (Reading A) SpellFault)
    → ((word : List ℕ) (known : Known) → Brings P known (read word known))
    → ReadsWords P (first_word read)
first_reads P read such [] known = tt
first_reads P read such (word ∷ words) known =
    then_brings P (Takes P) known (read word known) _ (such word known)
    (λ found grown is. (grown_refl found.known, is))

-- whatever is known
abbrev Always : {A : Type 0} → (A → Type 0) → Known → A → Type 0
Always P known x = P x

plain_reads : {A : Type 0} (P : A → Type 0) (read : List ℕ → Option A) (fault : SpellFault)
    → ReadsSuch P read → ReadsWords (Always P) (plain_word read fault)
plain_reads {A} P read fault such =
    first_reads (Always P)
    (λ word known. ok_or (read word) fault >>= (λ x. Ok (record { value = x; known = known })))
    (λ word known. step_brings (Always P) known (ok_or (read word) fault) _
    (λ x is. (grown_refl known, such word x (ok_or_is (read word) fault x is))))

header_reads : ReadsWords (Always IsToken) header_word
header_reads = plain_reads IsToken header_of bad_name header_such

text_reads : ReadsWords (Always (λ text. Unit {0})) text_word
text_reads = plain_reads (λ text. Unit {0}) Some bad_argument (λ text x is. tt)

pub format_reads : (line : ℕ) → ReadsWords IsKnownFormat (format_word line)
format_reads line = first_reads IsKnownFormat (format_of line) (format_brings line)

expr_reads : (line : ℕ) → ReadsWords IsKnownExpr (expr_word line)
expr_reads line = first_reads IsKnownExpr (expr_of None line) (expr_brings None line)

some_such : {A : Type 0} (P : A → Type 0) (read : List ℕ → Option A) → ReadsSuch P read
    → ReadsSuch (λ v. IfSome v P) (λ text. option_map Some (read text))
some_such {A} P read such text v is =
    let (x, found, same) = some_map Some (read text) v is in
    subst (λ (o : Option A). IfSome o P) same (such text x found)

value_reads : {A : Type 0} (P : A → Type 0) (is : List ℕ → Bool) (read : List ℕ → Option A)
    → ReadsSuch P read → ReadsWords (Always (λ v. IfSome v P)) (word_and_value is read)
value_reads P is read such [] known = (grown_refl known, tt)
value_reads P is read such (word ∷ words) known =
    either_brings (Takes (Always (λ v. IfSome v P))) known (is word) _ _
    (λ passes. plain_reads (λ v. IfSome v P) (λ text. option_map Some (read text)) bad_argument
    (some_such P read such) words known)
    (λ other. (grown_refl known, tt))

optional_reads : (wanted : List ℕ) → ReadsWords (Always (λ there. Unit {0})) (optional_word wanted)
optional_reads wanted [] known = (grown_refl known, tt)
optional_reads wanted (word ∷ words) known =
    either_brings (Takes (Always (λ there. Unit {0}))) known (bytes_eq word wanted) _ _
    (λ is. (grown_refl known, tt)) (λ other. (grown_refl known, tt))

-- ---- actions with a format

-- an action is made of a format, whatever is known then
abbrev MakesAction : Known → (List Part → Action) → Type 0
MakesAction known make =
    (later : Known) → Grown known later → (format : List Part) → IsKnownFormat later format
    → IsKnownAction later (make format)

with_format_reads : (line : ℕ) (make : List Part → Action) (words : List (List ℕ)) (known : Known)
    → MakesAction known make
    → Brings (Takes IsKnownAction) known (with_format line make words known)
with_format_reads line make words known makes =
    then_brings (Takes IsKnownFormat) (Takes IsKnownAction) known (format_word line words known) _
    (format_reads line words known)
    (λ format grown such. (
      grown_refl format.known,
      makes format.known grown format.value.item such,
    ))

header_format_reads : (line : ℕ) (make : List ℕ → List Part → Action) (words : List (List ℕ))
    (known : Known)
    → ((name : List ℕ) → IsToken name → (later : Known) → MakesAction later (make name))
    → Brings (Takes IsKnownAction) known (with_header_format line make words known)
header_format_reads line make words known makes =
    then_brings (Takes (Always IsToken)) (Takes IsKnownAction) known (header_word words known) _
    (header_reads words known)
    (λ name grown token. with_format_reads line (make name.value.item) name.value.words name.known
    (makes name.value.item token name.known))

replacement_reads : (line : ℕ) (make : List ℕ → List ℕ → List Part → Action)
    (words : List (List ℕ)) (known : Known)
    → ((name expression : List ℕ) → IsToken name → (later : Known)
    → MakesAction later (make name expression))
    → Brings (Takes IsKnownAction) known (with_replacement line make words known)
replacement_reads line make words known makes =
    then_brings (Takes (Always IsToken)) (Takes IsKnownAction) known (header_word words known) _
    (header_reads words known)
    (λ name grown token. then_brings (Takes (Always (λ text. Unit {0}))) (Takes IsKnownAction)
    name.known (text_word name.value.words name.known) _ (text_reads name.value.words name.known)
    (λ expression more any. with_format_reads line
    (make name.value.item expression.value.item) expression.value.words expression.known
    (makes name.value.item expression.value.item token expression.known)))

-- what is made of the name of a header and a format
header_format : (known : Known) (name : List ℕ) (format : List Part) → IsToken name
    → IsKnownFormat known format → IsHeaderFormat name format
header_format known name format token such = record { name = token; format = such.0 }

-- ---- files

-- an action on the reference at a position, and a format
abbrev OnTable : (ℕ → List Part → Action) → Type 0
OnTable make =
    (known : Known) (table : ℕ) (format : List Part) → IsReference known table
    → IsKnownFormat known format → IsKnownAction known (make table format)

table_reads : (line : ℕ) (make : ℕ → List Part → Action) → OnTable make → (table : ℕ)
    (words : List (List ℕ)) (known : Known) → IsReference known table
    → Brings (Takes IsKnownAction) known (with_format line (make table) words known)
table_reads line make on table words known there =
    with_format_reads line (make table) words known
    (λ later grown format such.
    on later table format (omega (arith, there, grown.references)) such)

set_map_reads : (line : ℕ) (table : ℕ) (words : List (List ℕ)) (known : Known)
    → IsReference known table
    → Brings (Takes IsKnownAction) known (with_two_formats line (action.SetMap table) words known)
set_map_reads line table words known there =
    then_brings (Takes IsKnownFormat) (Takes IsKnownAction) known (format_word line words known) _
    (format_reads line words known)
    (λ key grown such. with_format_reads line (action.SetMap table key.value.item) key.value.words
    key.known
    (λ later more value also.
    let (allowed, names) = format_stays key.known later more key.value.item such in (
      (allowed, also.0),
      (omega (arith, there, grown.references, more.references), names, also.1),
    )))

file_words_read : (line : ℕ) (name : FileAction) (table : ℕ) (words : List (List ℕ))
    (known : Known) → IsReference known table
    → Brings (Takes IsKnownAction) known (file_words line name table words known)
file_words_read line AddAcl table words known there =
    table_reads line action.AddAcl (λ k t f is such. (such.0, (is, such.1))) table words known there
file_words_read line DelAcl table words known there =
    table_reads line action.DelAcl (λ k t f is such. (such.0, (is, such.1))) table words known there
file_words_read line DelMap table words known there =
    table_reads line action.DelMap (λ k t f is such. (such.0, (is, such.1))) table words known there
file_words_read line SetMap table words known there = set_map_reads line table words known there

-- ---- variables

variable_words_read : (line : ℕ) (name : VariableAction) (variable : VarName)
    (words : List (List ℕ)) (known : Known) → IsVariable variable
    → Brings (Takes IsKnownAction) known (variable_words line name variable words known)
variable_words_read line Set variable words known such =
    then_brings (Takes IsKnownExpr) (Takes IsKnownAction) known (expr_word line words known) _
    (expr_reads line words known)
    (λ expr grown is. (grown_refl expr.known, ((such, is.0), is.1)))
variable_words_read line Unset variable words known such = (grown_refl known, (such, tt))

-- ---- statuses

status_such : ReadsSuch IsStatus status_of
status_such text n is =
    let (k, read, same) = some_and_then (λ k. cond (nat_le 200 k) (Some k) None)
    (width_of 599 text) n is in
    let (least, equal) = cond_some (nat_le 200 k) k n same in
    subst IsStatus equal (record {
      least = leb-true 200 k least;
      most = width_within 599 text k read;
    })

abbrev IsRedirectStatus : ℕ → Type 0
IsRedirectStatus n = IsTrue (is_redirect_status n)

redirect_status_such : ReadsSuch IsRedirectStatus redirect_status_of
redirect_status_such text n is =
    let (k, read, same) = some_and_then (λ k. cond (is_redirect_status k) (Some k) None)
    (width_of 308 text) n is in
    let (test, equal) = cond_some (is_redirect_status k) k n same in
    subst IsRedirectStatus equal test

status_reads : (words : List (List ℕ)) (known : Known)
    → Brings (Takes IsKnownAction) known (with_status words known)
status_reads words known =
    then_brings (Takes (Always (λ v. IfSome v IsStatus))) (Takes IsKnownAction) known
    (word_and_value is_status_word status_of words known) _
    (value_reads IsStatus is_status_word status_of status_such words known)
    (λ status grown such. (grown_refl status.known, (such, tt)))

-- ---- redirects

-- a redirect of the syntax, whose maps name heads that are known
abbrev pub IsKnownRedirect : Known → Action → Type 0
IsKnownRedirect known act = IsKnownAction known act × (is_redirect act ≡ true)

anything : {A : Type 0} (read : List ℕ → Option A) → ReadsSuch (λ x. Unit {0}) read
anything read text x is = tt

pub redirect_reads : (line : ℕ) → ReadsWords IsKnownRedirect (with_redirect line)
redirect_reads line words known =
    then_brings (Takes (Always (λ kind. Unit {0}))) (Takes IsKnownRedirect) known
    (kind_word words known) _
    (plain_reads (λ kind. Unit {0}) (entry_at kind_table) bad_argument
    (anything (entry_at kind_table)) words known)
    (λ kind grown any. then_brings (Takes IsKnownFormat) (Takes IsKnownRedirect) kind.known
    (format_word line kind.value.words kind.known) _
    (format_reads line kind.value.words kind.known)
    (λ format more such. then_brings (Takes (Always (λ v. IfSome v IsRedirectStatus)))
    (Takes IsKnownRedirect) format.known
    (word_and_value (bytes_eq (codes "code")) redirect_status_of format.value.words format.known) _
    (value_reads IsRedirectStatus (bytes_eq (codes "code")) redirect_status_of
    redirect_status_such format.value.words format.known)
    (λ status further is. then_brings (Takes (Always (λ there. Unit {0})))
    (Takes IsKnownRedirect) status.known
    (optional_word (codes "drop-query") status.value.words status.known) _
    (optional_reads (codes "drop-query") status.value.words status.known)
    (λ drops last any.
    let (allowed, names) = format_stays format.known drops.known
    (grown_trans format.known status.known drops.known further last) format.value.item such in
    (grown_refl drops.known, (((allowed, is), names), refl))))))

-- ---- all actions

bare_words_read : (line : ℕ) (name : BareAction) (words : List (List ℕ)) (known : Known)
    → Brings (Takes IsKnownAction) known (bare_words line name words known)
bare_words_read line Allow words known = (grown_refl known, (tt, tt))
bare_words_read line Deny words known = status_reads words known
bare_words_read line SetHeader words known =
    header_format_reads line action.SetHeader words known
    (λ name token k later grown format such. (header_format later name format token such, such.1))
bare_words_read line AddHeader words known =
    header_format_reads line action.AddHeader words known
    (λ name token k later grown format such. (header_format later name format token such, such.1))
bare_words_read line DelHeader words known =
    then_brings (Takes (Always IsToken)) (Takes IsKnownAction) known (header_word words known) _
    (header_reads words known) (λ name grown token. (grown_refl name.known, (token, tt)))
bare_words_read line ReplaceHeader words known =
    replacement_reads line action.ReplaceHeader words known
    (λ name re token k later grown format such.
    (header_format later name format token such, such.1))
bare_words_read line ReplaceValue words known =
    replacement_reads line action.ReplaceValue words known
    (λ name re token k later grown format such.
    (header_format later name format token such, such.1))
bare_words_read line SetMethod words known =
    with_format_reads line action.SetMethod words known (λ later grown format such. such)
bare_words_read line SetUri words known =
    with_format_reads line action.SetUri words known (λ later grown format such. such)
bare_words_read line SetPath words known =
    with_format_reads line action.SetPath words known (λ later grown format such. such)
bare_words_read line SetQuery words known =
    with_format_reads line action.SetQuery words known (λ later grown format such. such)
bare_words_read line Redirect words known =
    weaker_brings (Takes IsKnownRedirect) (Takes IsKnownAction) known
    (with_redirect line words known) (λ k found such. such.0) (redirect_reads line words known)
bare_words_read line StrictMode words known =
    then_brings (Takes (Always (λ on. Unit {0}))) (Takes IsKnownAction) known
    (plain_word (entry_at switch_table) bad_argument words known) _
    (plain_reads (λ on. Unit {0}) (entry_at switch_table) bad_argument
    (anything (entry_at switch_table)) words known)
    (λ on grown any. (grown_refl on.known, (tt, tt)))

-- what the words of an action bring is such
pub action_reads : (line : ℕ) (head : ActionHead) (words : List (List ℕ)) (known : Known)
    → IsKnownName known head
    → Brings (Takes IsKnownAction) known (action_words line head words known)
action_reads line (Bare name) words known such = bare_words_read line name words known
action_reads line (OfVariable name variable) words known such =
    variable_words_read line name variable words known such
action_reads line (OfFile name table) words known such =
    file_words_read line name table words known such
