-- What is no action is refused by a code.
use Rattle.std.proofs.Common.{◌≡◌, ◌≢◌, ℕ, Bool, List, [], ◌∷◌, Option, None, Some, Ok, refl, ◌∙◌, ap}
use Rattle.std.specs.Prelude.{IfSome, Result, codes, option_map, slice_get}
use Rattle.std.specs.Option.{ok_or}
use Rattle.std.specs.Str.{bytes_eq}
use Rattle.hx_text.specs.declared.VarName.{VarName}
use Rattle.hx_words.specs.Calls.{Step, step_of}
use Rattle.hx_words.specs.Calls.Step.{Last, More, Faulty}
use Rattle.hx_words.specs.declared.ArgFault.{ArgFault}
use Rattle.hx_words.specs.declared.ArgFault.TheVariants as arg
use Rattle.hx_words.proofs.CallLemmas.{step_never_out_of_memory}
use Rattle.hx_ast.specs.declared.Action.{Action}
use Rattle.hx_ast.specs.declared.Action.TheVariants as action
use Rattle.hx_ast.specs.declared.Part.{Part}
use Rattle.hx_spell.specs.declared.action_table.BareAction.TheVariants as bare
use Rattle.hx_spell.specs.declared.action_table.FileAction.TheVariants as file
use Rattle.hx_spell.specs.declared.action_table.VariableAction.TheVariants as variable
use Rattle.hx_calls.specs.declared.fault.SpellFault.{SpellFault}
use Rattle.hx_calls.specs.declared.fault.SpellFault.TheVariants as spell
use Rattle.hx_spell.specs.Actions.{ActionHead, BareAction, FileAction, HeadMaker, VariableAction, Bare, OfFile, OfVariable, action_table, action_words, bare_head, bare_words, changes_map, expr_word, file_head, first_word, format_word, given_file, head_by, head_fault_by, head_of_step, head_reading, header_word, is_status_word, kind_table, kind_word, optional_word, plain_word, redirect_status_of, status_of, switch_table, text_word, variable_head, with_expr, with_format, with_header_format, with_name_of_header, with_redirect, with_replacement, with_status, with_switch, with_two_formats, word_and_value}
use Rattle.hx_calls.specs.Arguments.{counted, read_form, required, single}
use Rattle.hx_calls.specs.Codes.{bad_argument}
use Rattle.hx_calls.specs.Criteria.{expr_of}
use Rattle.hx_calls.specs.Formats.{format_of}
use Rattle.hx_calls.specs.Forms.Form.{Variable}
use Rattle.hx_calls.specs.Known.{Known, Reading}
use Rattle.hx_calls.specs.Tables.{entry_at}
use Rattle.hx_calls.specs.Values.{header_of, variable_name_of}
use Rattle.hx_spell.proofs.ActionSteps.{drop_query}
use Rattle.hx_calls.proofs.ArgumentLemmas.{counted_coded}
use Rattle.hx_calls.proofs.CriterionFormLemmas.{EachEntry, entry_such, fault_gives, file_coded}
use Rattle.hx_calls.proofs.ExpressionCodeLemmas.{expr_coded, format_coded}
use Rattle.hx_calls.proofs.ResultLemmas.{IsCoded, IsLineCode, found_coded, tested_coded, then_coded}

-- ---- the word of an action

abbrev MakesCoded : HeadMaker → Type 0
MakesCoded make = (line : ℕ) (args : List (List ℕ)) (known : Known) → IsCoded (make line args known)

bare_makes : (name : BareAction) → MakesCoded (bare_head name)
bare_makes name line args known =
    counted_coded 0 0 args (Ok (head_reading known (Bare name))) tt

variable_coded : (given : Option (List ℕ)) → IsCoded (required (read_form Variable) given)
variable_coded None = tt
variable_coded (Some text) = found_coded (variable_name_of text) 12 tt

variable_makes : (name : VariableAction) → MakesCoded (variable_head name)
variable_makes name line args known =
    then_coded (single (read_form Variable) args) _
    (counted_coded 1 1 args _ (variable_coded (slice_get args 0))) (λ v. tt)

given_coded : (line : ℕ) (two : Bool) (name : Option (List ℕ)) (known : Known)
    → IsCoded (given_file line two name known)
given_coded line two None known = tt
given_coded line two (Some name) known = file_coded line name two known

file_makes : (name : FileAction) → MakesCoded (file_head name)
file_makes name line args known =
    let read = given_file line (changes_map name) (slice_get args 0) known in
    then_coded (counted 1 1 args read) _
    (counted_coded 1 1 args read (given_coded line (changes_map name) (slice_get args 0) known))
    (λ file. tt)

each_makes : EachEntry MakesCoded action_table
unfolding action_table
each_makes = search (bare_makes, variable_makes, file_makes)

by_coded : (line : ℕ) (entry : Option HeadMaker) (args : List (List ℕ)) (known : Known)
    → IfSome entry MakesCoded → IsCoded (head_by line entry args known)
by_coded line None args known makes = tt
by_coded line (Some make) args known makes = makes line args known

named_coded : (line : ℕ) (name : List ℕ) (args : List (List ℕ)) (known : Known)
    → IsCoded (head_by line (entry_at action_table name) args known)
named_coded line name args known =
    by_coded line (entry_at action_table name) args known
    (entry_such MakesCoded action_table each_makes name)

no_head_coded : (entry : Option HeadMaker) (fault : ArgFault) → fault ≢ arg.NoMemory
    → IsCoded (head_fault_by entry fault)
no_head_coded None fault never = tt
no_head_coded (Some make) fault never =
    fault_gives (λ (head : Reading ActionHead). Unit {0}) fault never

step_coded : (line : ℕ) (word : List ℕ) (step : Step) (known : Known) → step_of None word ≡ step
    → IsCoded (head_of_step line step known)
step_coded line word (Last call rest) known is = named_coded line call.name call.args known
step_coded line word (More call rest) known is =
    then_coded (head_by line (entry_at action_table call.name) call.args known) _
    (named_coded line call.name call.args known) (λ head. tt)
step_coded line word (Faulty name fault) known is =
    no_head_coded (entry_at action_table name) fault
    (λ memory. step_never_out_of_memory None word name (is ∙ ap (λ f. Faulty name f) memory))

pub head_coded : (line : ℕ) (word : List ℕ) (known : Known)
    → IsCoded (head_of_step line (step_of None word) known)
head_coded line word known = step_coded line word (step_of None word) known refl

-- ---- the words of an action

first_coded : {A : Type 0} (read : List ℕ → Known → Result (Reading A) SpellFault)
    → ((word : List ℕ) (known : Known) → IsCoded (read word known))
    → (words : List (List ℕ)) (known : Known) → IsCoded (first_word read words known)
first_coded read coded [] known = tt
first_coded read coded (word ∷ words) known =
    then_coded (read word known) _ (coded word known) (λ found. tt)

plain_coded : {A : Type 0} (read : List ℕ → Option A) (n : ℕ) → IsLineCode n
    → (words : List (List ℕ)) (known : Known)
    → IsCoded (plain_word read (spell.Code n) words known)
plain_coded read n is words known =
    first_coded _
    (λ word known. then_coded (ok_or (read word) (spell.Code n)) _ (found_coded (read word) n is)
    (λ x. tt)) words known

pub format_word_coded : (line : ℕ) (words : List (List ℕ)) (known : Known)
    → IsCoded (format_word line words known)
format_word_coded line words known =
    first_coded (format_of line) (λ text known. format_coded line text known) words known

with_format_coded : (line : ℕ) (make : List Part → Action) (words : List (List ℕ)) (known : Known)
    → IsCoded (with_format line make words known)
with_format_coded line make words known =
    then_coded (format_word line words known) _ (format_word_coded line words known)
    (λ format. tt)

header_format_coded : (line : ℕ) (make : List ℕ → List Part → Action) (words : List (List ℕ))
    (known : Known) → IsCoded (with_header_format line make words known)
header_format_coded line make words known =
    then_coded (header_word words known) _ (plain_coded header_of 12 tt words known)
    (λ name. with_format_coded line (make name.value.item) name.value.words name.known)

replacement_coded : (line : ℕ) (make : List ℕ → List ℕ → List Part → Action)
    (words : List (List ℕ)) (known : Known) → IsCoded (with_replacement line make words known)
replacement_coded line make words known =
    then_coded (header_word words known) _ (plain_coded header_of 12 tt words known)
    (λ name. then_coded (text_word name.value.words name.known) _
    (plain_coded Some 10 tt name.value.words name.known)
    (λ found. with_format_coded line (make name.value.item found.value.item) found.value.words
    found.known))

two_formats_coded : (line : ℕ) (make : List Part → List Part → Action) (words : List (List ℕ))
    (known : Known) → IsCoded (with_two_formats line make words known)
two_formats_coded line make words known =
    then_coded (format_word line words known) _ (format_word_coded line words known)
    (λ key. with_format_coded line (make key.value.item) key.value.words key.known)

name_coded : (words : List (List ℕ)) (known : Known) → IsCoded (with_name_of_header words known)
name_coded words known =
    then_coded (header_word words known) _ (plain_coded header_of 12 tt words known) (λ name. tt)

set_var_coded : (line : ℕ) (name : VarName) (words : List (List ℕ)) (known : Known)
    → IsCoded (with_expr line name words known)
set_var_coded line name words known =
    then_coded (expr_word line words known) _
    (first_coded (expr_of None line) (λ text known. expr_coded None line text known) words known)
    (λ expr. tt)

number_coded : (is : List ℕ → Bool) (read : List ℕ → Option ℕ) (words : List (List ℕ))
    (known : Known) → IsCoded (word_and_value is read words known)
number_coded is read [] known = tt
number_coded is read (word ∷ words) known =
    tested_coded (is word) _ _ (plain_coded (λ text. option_map Some (read text)) 10 tt words known) tt

deny_coded : (words : List (List ℕ)) (known : Known) → IsCoded (with_status words known)
deny_coded words known =
    then_coded (word_and_value is_status_word status_of words known) _
    (number_coded is_status_word status_of words known) (λ status. tt)

switch_coded : (words : List (List ℕ)) (known : Known) → IsCoded (with_switch words known)
switch_coded words known =
    then_coded (plain_word (entry_at switch_table) bad_argument words known) _
    (plain_coded (entry_at switch_table) 10 tt words known) (λ on. tt)

drops_coded : (wanted : List ℕ) (words : List (List ℕ)) (known : Known)
    → IsCoded (optional_word wanted words known)
drops_coded wanted [] known = tt
drops_coded wanted (word ∷ words) known = tested_coded (bytes_eq word wanted) _ _ tt tt

pub redirect_coded : (line : ℕ) (words : List (List ℕ)) (known : Known)
    → IsCoded (with_redirect line words known)
redirect_coded line words known =
    then_coded (kind_word words known) _ (plain_coded (entry_at kind_table) 10 tt words known)
    (λ kind. then_coded (format_word line kind.value.words kind.known) _
    (format_word_coded line kind.value.words kind.known)
    (λ format. then_coded
    (word_and_value (bytes_eq (codes "code")) redirect_status_of format.value.words format.known) _
    (number_coded (bytes_eq (codes "code")) redirect_status_of format.value.words format.known)
    (λ status. then_coded (optional_word drop_query status.value.words status.known) _
    (drops_coded drop_query status.value.words status.known) (λ drops. tt))))

-- ---- all actions

bare_coded : (line : ℕ) (name : BareAction) (words : List (List ℕ)) (known : Known)
    → IsCoded (bare_words line name words known)
bare_coded line bare.Allow words known = tt
bare_coded line _ words known =
    search (deny_coded, header_format_coded, name_coded, replacement_coded, with_format_coded, redirect_coded, switch_coded)

pub words_coded : (line : ℕ) (head : ActionHead) (words : List (List ℕ)) (known : Known)
    → IsCoded (action_words line head words known)
words_coded line (Bare name) words known = bare_coded line name words known
words_coded line (OfVariable variable.Set v) words known = set_var_coded line v words known
words_coded line (OfVariable variable.Unset v) words known = tt
words_coded line (OfFile file.SetMap table) words known =
    two_formats_coded line (action.SetMap table) words known
words_coded line (OfFile _ table) words known = with_format_coded line _ words known
