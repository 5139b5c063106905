-- The word of an action is read as the call that spells it.
use Rattle.std.proofs.Common.{◌≡◌, ℕ, ◌≤◌, List, [], ◌∷◌, length, Option, None, Some, Ok, Err, refl, ◌∙◌, ap, subst, arith, inl, inr}
use Rattle.std.specs.Prelude.{Result, codes, nat_le, slice_get}
use Rattle.std.specs.Option.{ok_or}
use Rattle.std.proofs.lemmas.Bool.{cases_Bool, leb-true}
use Rattle.hx_text.specs.declared.VarName.{VarName}
use Rattle.hx_words.specs.CallForm.{CallForm}
use Rattle.hx_words.specs.Calls.{Step, step_of}
use Rattle.hx_words.specs.Calls.Step.{Last, More, Faulty}
use Rattle.hx_words.specs.Spelling.{SpellsCall}
use Rattle.hx_words.specs.declared.ArgFault.{ArgFault}
use Rattle.hx_spell.specs.declared.action_table.BareAction.TheVariants as bare
use Rattle.hx_spell.specs.declared.action_table.FileAction.TheVariants as file
use Rattle.hx_spell.specs.declared.action_table.VariableAction.TheVariants as variable
use Rattle.hx_calls.specs.declared.fault.SpellFault.{SpellFault}
use Rattle.hx_spell.specs.ActionRelation.{IsCall, IsName}
use Rattle.hx_spell.specs.Actions.{ActionHead, BareAction, FileAction, HeadMaker, VariableAction, Bare, OfFile, OfVariable, action_table, bare_head, changes_map, file_head, given_file, head_by, head_fault_by, head_of_step, head_reading, variable_head}
use Rattle.hx_base.specs.Results.{◌>>=◌}
use Rattle.hx_calls.specs.Arguments.{counted, is_count, read_form, required, single}
use Rattle.hx_calls.specs.Codes.{bad_argument, bad_name, unsupported}
use Rattle.hx_calls.specs.Forms.Form.{Variable}
use Rattle.hx_calls.specs.Known.{Known, Reading, with_file}
use Rattle.hx_calls.specs.Tables.{entry_at}
use Rattle.hx_calls.specs.Values.{variable_name_of}
use Rattle.hx_calls.proofs.CallTextLemmas.{last_is, last_spells}
use Rattle.hx_calls.proofs.ResultLemmas.{and_then_ok, both, ok_or_is}
use Rattle.hx_spell.proofs.RowLemmas.{◌&◌, EachRow, found_row}

-- ---- names

abbrev pub bare_text : BareAction → List ℕ
bare_text bare.Allow = codes "allow"
bare_text bare.Deny = codes "deny"
bare_text bare.SetHeader = codes "set-header"
bare_text bare.AddHeader = codes "add-header"
bare_text bare.DelHeader = codes "del-header"
bare_text bare.ReplaceHeader = codes "replace-header"
bare_text bare.ReplaceValue = codes "replace-value"
bare_text bare.SetMethod = codes "set-method"
bare_text bare.SetUri = codes "set-uri"
bare_text bare.SetPath = codes "set-path"
bare_text bare.SetQuery = codes "set-query"
bare_text bare.Redirect = codes "redirect"
bare_text bare.StrictMode = codes "strict-mode"

abbrev pub variable_text : VariableAction → List ℕ
variable_text variable.Set = codes "set-var"
variable_text variable.Unset = codes "unset-var"

abbrev pub file_text : FileAction → List ℕ
file_text file.AddAcl = codes "add-acl"
file_text file.DelAcl = codes "del-acl"
file_text file.DelMap = codes "del-map"
file_text file.SetMap = codes "set-map"

-- ---- words are read

bare_entry : (act : BareAction) → entry_at action_table (bare_text act) ≡ Some (bare_head act)
unfolding action_table
bare_entry bare.Allow = refl
bare_entry bare.Deny = refl
bare_entry bare.SetHeader = refl
bare_entry bare.AddHeader = refl
bare_entry bare.DelHeader = refl
bare_entry bare.ReplaceHeader = refl
bare_entry bare.ReplaceValue = refl
bare_entry bare.SetMethod = refl
bare_entry bare.SetUri = refl
bare_entry bare.SetPath = refl
bare_entry bare.SetQuery = refl
bare_entry bare.Redirect = refl
bare_entry bare.StrictMode = refl

variable_entry : (act : VariableAction)
    → entry_at action_table (variable_text act) ≡ Some (variable_head act)
unfolding action_table
variable_entry variable.Set = refl
variable_entry variable.Unset = refl

file_entry : (act : FileAction) → entry_at action_table (file_text act) ≡ Some (file_head act)
unfolding action_table
file_entry file.AddAcl = refl
file_entry file.DelAcl = refl
file_entry file.DelMap = refl
file_entry file.SetMap = refl

pub bare_read : (line : ℕ) (before : Known) (act : BareAction) (word : List ℕ)
    → IsName (bare_text act) word
    → head_of_step line (step_of None word) before ≡ Ok (head_reading before (Bare act))
bare_read line before act word named =
    ap (λ step. head_of_step line step before)
    (last_is word (record { name = bare_text act; args = [] }) named)
    ∙ ap (λ entry. head_by line entry [] before) (bare_entry act)

pub variable_read : (line : ℕ) (before : Known) (act : VariableAction) (arg word : List ℕ)
    (name : VarName) → IsCall (variable_text act) arg word → variable_name_of arg ≡ Some name
    → head_of_step line (step_of None word) before ≡ Ok (head_reading before (OfVariable act name))
variable_read line before act arg word name called is =
    ap (λ step. head_of_step line step before)
    (last_is word (record { name = variable_text act; args = arg ∷ [] }) called)
    ∙ (ap (λ entry. head_by line entry (arg ∷ []) before) (variable_entry act)
    ∙ ap (λ found. ok_or found bad_name >>= (λ v. Ok (head_reading before (OfVariable act v)))) is)

pub file_read : (line : ℕ) (before : Known) (act : FileAction) (arg word : List ℕ)
    (place : Reading ℕ) → IsCall (file_text act) arg word
    → with_file line arg (changes_map act) before ≡ Ok place
    → head_of_step line (step_of None word) before
    ≡ Ok (head_reading place.known (OfFile act place.value))
file_read line before act arg word place called is =
    ap (λ step. head_of_step line step before)
    (last_is word (record { name = file_text act; args = arg ∷ [] }) called)
    ∙ (ap (λ entry. head_by line entry (arg ∷ []) before) (file_entry act)
    ∙ ap (λ found. found >>= (λ f. Ok (head_reading f.known (OfFile act f.value)))) is)

-- ---- words are spelled

-- a name and arguments make the head
abbrev HeadMade : ℕ → Known → List ℕ → List (List ℕ) → ActionHead → Known → Type 0
HeadMade line before name args (Bare act) after =
    (name ≡ bare_text act) × (args ≡ []) × (after ≡ before)
HeadMade line before name args (OfVariable act v) after =
    (arg : List ℕ) × (name ≡ variable_text act) × (args ≡ arg ∷ [])
    × (variable_name_of arg ≡ Some v) × (after ≡ before)
HeadMade line before name args (OfFile act place) after =
    (arg : List ℕ) × (name ≡ file_text act) × (args ≡ arg ∷ [])
    × (with_file line arg (changes_map act) before ≡ Ok (record { value = place; known = after }))

-- a word spells the head
abbrev pub HeadSpelled : ℕ → Known → List ℕ → ActionHead → Known → Type 0
HeadSpelled line before word (Bare act) after = IsName (bare_text act) word × (after ≡ before)
HeadSpelled line before word (OfVariable act v) after =
    (arg : List ℕ) × IsCall (variable_text act) arg word × (variable_name_of arg ≡ Some v)
    × (after ≡ before)
HeadSpelled line before word (OfFile act place) after =
    (arg : List ℕ) × IsCall (file_text act) arg word
    × (with_file line arg (changes_map act) before ≡ Ok (record { value = place; known = after }))

counted_is : {A : Type 0} (least most : ℕ) (args : List (List ℕ)) (read : Result A SpellFault)
    (x : A) → counted least most args read ≡ Ok x
    → (least ≤ length args) × (length args ≤ most) × (read ≡ Ok x)
counted_is least most args read x is =
    elim (cases_Bool (is_count least most (length args))) [
      | inl within ↦
          let (low, high) =
          both (nat_le least (length args)) (nat_le (length args) most) within in (
            leb-true least (length args) low,
            leb-true (length args) most high,
            rw within at is,
          )
      | inr beyond ↦
          absurd (let bad : Err bad_argument ≡ Ok x = rw beyond at is in let no : ⊥ = cc in no)
    ]

no_args : (args : List (List ℕ)) → length args ≤ 0 → args ≡ []
no_args [] most = refl
no_args (arg ∷ args) most = absurd (let no : ⊥ = omega arith in no)

one_arg : (args : List (List ℕ)) → 1 ≤ length args → length args ≤ 1
    → (arg : List ℕ) × (args ≡ arg ∷ [])
one_arg [] least most = absurd (let no : ⊥ = omega arith in no)
one_arg (arg ∷ []) least most = (arg, refl)
one_arg (arg ∷ next ∷ more) least most = absurd (let no : ⊥ = omega arith in no)

-- what the maker of a row makes
abbrev IsRow : List ℕ → HeadMaker → Type 0
IsRow name make =
    (line : ℕ) (args : List (List ℕ)) (before : Known) (head : Reading ActionHead)
    → make line args before ≡ Ok head → HeadMade line before name args head.value head.known

bare_row : (act : BareAction) → IsRow (bare_text act) (bare_head act)
bare_row act line args before head is =
    let (low, high, made) = counted_is 0 0 args (Ok (head_reading before (Bare act))) head is in
    let same : head_reading before (Bare act) ≡ head = cc in
    subst (λ (h : Reading ActionHead). HeadMade line before (bare_text act) args h.value h.known)
    same (refl, no_args args high, refl)

variable_row : (act : VariableAction) → IsRow (variable_text act) (variable_head act)
variable_row act line args before head is =
    let (v, one, whole) =
    and_then_ok (single (read_form Variable) args)
    (λ v. Ok (head_reading before (OfVariable act v))) head is in
    let (low, high, read) =
    counted_is 1 1 args (required (read_form Variable) (slice_get args 0)) v one in
    let (arg, args_are) = one_arg args low high in
    let found : ok_or (variable_name_of arg) bad_name ≡ Ok v =
    subst (λ (a : List (List ℕ)). required (read_form Variable) (slice_get a 0) ≡ Ok v) args_are
    read in
    let same : head_reading before (OfVariable act v) ≡ head = cc in
    subst
    (λ (h : Reading ActionHead). HeadMade line before (variable_text act) args h.value h.known)
    same (arg, refl, args_are, ok_or_is (variable_name_of arg) bad_name v found, refl)

file_row : (act : FileAction) → IsRow (file_text act) (file_head act)
file_row act line args before head is =
    let (place, one, whole) =
    and_then_ok
    (counted 1 1 args (given_file line (changes_map act) (slice_get args 0) before))
    (λ f. Ok (head_reading f.known (OfFile act f.value))) head is in
    let (low, high, read) =
    counted_is 1 1 args (given_file line (changes_map act) (slice_get args 0) before) place one in
    let (arg, args_are) = one_arg args low high in
    let found : with_file line arg (changes_map act) before ≡ Ok place =
    subst (λ (a : List (List ℕ)). given_file line (changes_map act) (slice_get a 0) before ≡ Ok place)
    args_are read in
    let same : head_reading place.known (OfFile act place.value) ≡ head = cc in
    subst (λ (h : Reading ActionHead). HeadMade line before (file_text act) args h.value h.known)
    same (arg, refl, args_are, found)

rows : EachRow IsRow action_table
unfolding action_table
rows =
    bare_row bare.Allow
    & bare_row bare.Deny
    & bare_row bare.SetHeader
    & bare_row bare.AddHeader
    & bare_row bare.DelHeader
    & bare_row bare.ReplaceHeader
    & bare_row bare.ReplaceValue
    & bare_row bare.SetMethod
    & bare_row bare.SetUri
    & bare_row bare.SetPath
    & bare_row bare.SetQuery
    & variable_row variable.Set
    & variable_row variable.Unset
    & file_row file.AddAcl
    & file_row file.DelAcl
    & file_row file.DelMap
    & file_row file.SetMap
    & bare_row bare.Redirect
    & bare_row bare.StrictMode
    & tt

call_made : (line : ℕ) (before : Known) (call : CallForm) (head : Reading ActionHead)
    (entry : Option HeadMaker) → entry_at action_table call.name ≡ entry
    → head_by line entry call.args before ≡ Ok head
    → HeadMade line before call.name call.args head.value head.known
call_made line before call head None found is =
    absurd (let bad : Err unsupported ≡ Ok head = is in let no : ⊥ = cc in no)
call_made line before call head (Some make) found is =
    found_row IsRow action_table call.name make rows found line call.args before head is

named_as : (name other word : List ℕ) (args : List (List ℕ)) (given : List (List ℕ))
    → SpellsCall None (record { name = name; args = args }) word → name ≡ other → args ≡ given
    → SpellsCall None (record { name = other; args = given }) word
named_as name other word args given spelled same are =
    subst (λ (a : List (List ℕ)). SpellsCall None (record { name = other; args = a }) word) are
    (subst (λ (n : List ℕ). SpellsCall None (record { name = n; args = args }) word) same spelled)

made_spelled : (line : ℕ) (before : Known) (call : CallForm) (word : List ℕ) (head : ActionHead)
    (after : Known) → SpellsCall None call word → HeadMade line before call.name call.args head after
    → HeadSpelled line before word head after
made_spelled line before call word (Bare act) after spelled (named, none, same) =
    (named_as call.name (bare_text act) word call.args [] spelled named none, same)
made_spelled line before call word (OfVariable act v) after spelled (arg, named, one, is, same) =
    (arg, named_as call.name (variable_text act) word call.args (arg ∷ []) spelled named one, is, same)
made_spelled line before call word (OfFile act place) after spelled (arg, named, one, is) =
    (arg, named_as call.name (file_text act) word call.args (arg ∷ []) spelled named one, is)

no_head : (entry : Option HeadMaker) (fault : ArgFault) (head : Reading ActionHead)
    → head_fault_by entry fault ≡ Ok head → ⊥
no_head None fault head is = cc
no_head (Some make) fault head is = cc

step_spelled : (line : ℕ) (before : Known) (word : List ℕ) (step : Step)
    (head : Reading ActionHead) → step_of None word ≡ step
    → head_of_step line step before ≡ Ok head
    → HeadSpelled line before word head.value head.known
step_spelled line before word (Last call rest) head step is =
    made_spelled line before call word head.value head.known (last_spells word call rest step)
    (call_made line before call head (entry_at action_table call.name) refl is)
step_spelled line before word (More call rest) head step is =
    let (made, made_is, bad) =
    and_then_ok (head_by line (entry_at action_table call.name) call.args before)
    (λ made. Err bad_argument) head is in
    absurd (let no : ⊥ = cc in no)
step_spelled line before word (Faulty name fault) head step is =
    absurd (no_head (entry_at action_table name) fault head is)

pub head_spells : (line : ℕ) (before : Known) (word : List ℕ) (head : Reading ActionHead)
    → head_of_step line (step_of None word) before ≡ Ok head
    → HeadSpelled line before word head.value head.known
head_spells line before word head is =
    step_spelled line before word (step_of None word) head refl is
