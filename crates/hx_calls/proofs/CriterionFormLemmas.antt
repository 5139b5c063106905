-- What is no criterion is refused by a code, and what is one is such as the syntax allows.
use Rattle.std.proofs.Common.{◌≡◌, ◌≢◌, ℕ, Bool, true, false, cond, List, [], ◌∷◌, length, Option, None, Some, Ok, Err, refl, sym, ap, subst}
use Rattle.std.specs.Prelude.{Result, IfSome, nat_lt, slice_get}
use Rattle.std.specs.List.{AllByRecursion, list_all}
use Rattle.std.specs.Option.{option_map_or}
use Rattle.std.specs.Str.{bytes_eq}
use Rattle.std.proofs.lemmas.List.Elements.{All-from_recursion}
use Rattle.hx_words.specs.CallForm.{CallForm}
use Rattle.hx_words.specs.Calls.{Step, calls_of_steps, longer_calls}
use Rattle.hx_words.specs.Calls.Step.{Last, More, Faulty}
use Rattle.hx_words.specs.declared.ArgFault.{ArgFault}
use Rattle.hx_words.specs.declared.ArgFault.TheVariants as arg
use Rattle.hx_ast.specs.declared.Conv.{Conv}
use Rattle.hx_calls.specs.declared.convs.ConvName.{ConvName}
use Rattle.hx_ast.specs.Convs.{IsConv, IsExpr, is_map_method}
use Rattle.hx_ast.specs.Fetches.{IsFetch}
use Rattle.hx_calls.specs.declared.fault.SpellFault.{SpellFault}
use Rattle.hx_calls.specs.Arguments.{optional, read_form, required}
use Rattle.hx_calls.specs.Codes.{form_fault}
use Rattle.hx_calls.specs.Criteria.{Criterion, FetchWay, MapWay, MethodFetch, conv_by, conv_call, convs_after, criterion_of_steps, fetch_by, fetch_way, map_arguments, map_table}
use Rattle.hx_calls.specs.ExpressionRelation.{WriteConvs, WritesConvBy, WritesCriterion}
use Rattle.hx_calls.specs.Expressions.{call_fault, conv_by_name, fetch_made}
use Rattle.hx_calls.specs.Forms.Form.{ValueOfMap}
use Rattle.hx_calls.specs.Forms.Parameter.{Optional}
use Rattle.hx_calls.specs.Known.{Known, Reading, ReferenceForm, has_columns, most_references, reference_form, with_file, with_named_file, with_reference, reading}
use Rattle.hx_calls.specs.Tables.{Table, conv_names, entry_at}
use Rattle.hx_calls.proofs.ArgumentLemmas.{counted_coded, parameter_coded}
use Rattle.hx_calls.proofs.CallTextLemmas.{IsReading}
use Rattle.hx_calls.proofs.KnownLemmas.{file_or_new}
use Rattle.hx_calls.proofs.ResultLemmas.{Gives, IsCoded, both, tested_coded, then_coded}
use Rattle.hx_calls.proofs.TableFormLemmas.{conv_name_coded, conv_written, fetch_coded, fetch_written, parameter_allowed}

-- ---- references

pub reference_coded : (form : ReferenceForm) (known : Known) → IsCoded (with_reference form known)
reference_coded form known =
    tested_coded (nat_lt (length known.references) most_references) _ _ tt tt

found_coded : (form : ReferenceForm) (known : Known) (place : Option ℕ)
    → IsCoded (file_or_new form known place)
found_coded form known (Some place) =
    tested_coded (has_columns known place form.two_column) _ _ tt tt
found_coded form known None = reference_coded form known

pub file_coded : (line : ℕ) (name : List ℕ) (two : Bool) (known : Known)
    → IsCoded (with_file line name two known)
file_coded line name two known =
    found_coded (reference_form (Some name) None two line []) known _

-- the same of a file that `-f` or a map converter names
pub named_file_coded : (line : ℕ) (name : List ℕ) (two : Bool) (known : Known)
    → IsCoded (with_named_file line name two known)
named_file_coded line name two known =
    then_coded (with_file line name two known) _ (file_coded line name two known) (λ file. tt)

-- ---- tables

entry_by : {A : Type 0} (P : A → Type 0) (b : Bool) (first : A) (later : Option A) → P first
    → IfSome later P → IfSome (cond b (Some first) later) P
entry_by P true first later such others = such
entry_by P false first later such others = others

-- what stands in each row is such
abbrev pub EachEntry : {A : Type 0} → (A → Type 0) → Table A → Type 0
EachEntry P [] = Unit {0}
EachEntry P (row ∷ rows) = P row.1 × EachEntry P rows

pub entry_such : {A : Type 0} (P : A → Type 0) (table : Table A) → EachEntry P table
    → (name : List ℕ) → IfSome (entry_at table name) P
entry_such P [] each name = tt
entry_such P (row ∷ rows) each name =
    entry_by P (bytes_eq row.0 name) row.1 (entry_at rows name) each.0
    (entry_such P rows each.1 name)

each_passes : {A : Type 0} (test : A → Bool) (table : Table A)
    → list_all (λ row. test row.1) table ≡ true → EachEntry (λ x. test x ≡ true) table
each_passes test [] all = tt
each_passes test (row ∷ rows) all =
    let (first, others) = both (test row.1) (list_all (λ row. test row.1) rows) all in
    (first, each_passes test rows others)

-- ---- maps

abbrev pub IsMapWay : MapWay → Type 0
IsMapWay way = is_map_method way.by ≡ true

each_map : EachEntry IsMapWay map_table
unfolding map_table
each_map = each_passes (λ (way : MapWay). is_map_method way.by) map_table refl

-- the converters that look up in a map have a method for it
pub map_entry : (name : List ℕ) → IfSome (entry_at map_table name) IsMapWay
map_entry name = entry_such IsMapWay map_table each_map name

map_file_coded : (line : ℕ) (name : Option (List ℕ)) (known : Known)
    → IsCoded (required (λ name. with_named_file line name true known) name)
map_file_coded line None known = tt
map_file_coded line (Some name) known = named_file_coded line name true known

map_coded : (line : ℕ) (way : MapWay) (args : List (List ℕ)) (known : Known)
    → IsCoded (map_arguments line way args known)
map_coded line way args known =
    counted_coded 1 2 args _
    (then_coded (required (λ name. with_named_file line name true known) (slice_get args 0)) _
    (map_file_coded line (slice_get args 0) known)
    (λ file. then_coded (optional (read_form (ValueOfMap way.out)) (slice_get args 1)) _
    (parameter_coded (Optional (ValueOfMap way.out)) (slice_get args 1)) (λ default. tt)))

-- ---- converters

conv_by_coded : (line : ℕ) (way : Option MapWay) (call : CallForm) (known : Known)
    → IsCoded (conv_by line way call known)
conv_by_coded line (Some way) call known = map_coded line way call.args known
conv_by_coded line None call known =
    then_coded (conv_by_name (entry_at conv_names call.name) call.args) _
    (conv_name_coded (entry_at conv_names call.name) call.args) (λ c. tt)

pub fault_gives : {A : Type 0} (P : A → Type 0) (fault : ArgFault) → fault ≢ arg.NoMemory
    → Gives P (Err (form_fault fault))
fault_gives P arg.Unclosed never = tt
fault_gives P arg.AfterClose never = tt
fault_gives P arg.BadEscape never = tt
fault_gives P arg.OpenQuote never = tt
fault_gives P arg.NoMemory never = never refl

pub call_fault_gives : {A N : Type 0} (P : A → Type 0) (name : Option N) (fault : ArgFault)
    → fault ≢ arg.NoMemory → Gives P (Err (call_fault name fault))
call_fault_gives P None fault never = tt
call_fault_gives P (Some name) fault never = fault_gives P fault never

by_way_coded : (way : Option MapWay) (name : Option ConvName) (fault : ArgFault)
    → fault ≢ arg.NoMemory → IsCoded {A = Reading (List Conv)}
    (Err (option_map_or (λ w. form_fault fault) way (call_fault name fault)))
by_way_coded (Some way) name fault never =
    fault_gives (λ (convs : Reading (List Conv)). Unit {0}) fault never
by_way_coded None name fault never =
    call_fault_gives (λ (convs : Reading (List Conv)). Unit {0}) name fault never

abbrev pub with_first : Reading Conv → Reading (List Conv) → Result (Reading (List Conv)) SpellFault
with_first first others =
    Ok (record { value = first.value ∷ others.value; known = others.known })

none_coded : (line : ℕ) (steps : List Step) (known : Known) → steps ≡ []
    → IsCoded (convs_after line steps known)
none_coded line [] known is = tt
none_coded line (step ∷ steps) known is = absurd (let never : ⊥ = cc in never)

first_coded : (line : ℕ) (call : CallForm) (steps : List Step) (known : Known)
    → ((known : Known) → IsCoded (convs_after line steps known))
    → IsCoded (convs_after line (Last call [] ∷ steps) known)
first_coded line call steps known later =
    then_coded (conv_call line call known) _
    (conv_by_coded line (entry_at map_table call.name) call known)
    (λ first. then_coded (convs_after line steps first.known) _ (later first.known) (λ others. tt))

convs_coded : (line : ℕ) (steps : List Step) (known : Known) → IsReading steps
    → calls_of_steps steps ≢ Err arg.NoMemory → IsCoded (convs_after line steps known)
convs_coded line [] known reading never = tt
convs_coded line (Last call rest ∷ steps) known reading never =
    first_coded line call steps known (λ k. none_coded line steps k reading)
convs_coded line (More call rest ∷ steps) known reading never =
    first_coded line call steps known
    (λ k. convs_coded line steps k reading (λ is. never (ap (λ r. longer_calls call r) is)))
convs_coded line (Faulty name fault ∷ steps) known reading never =
    by_way_coded (entry_at map_table name) (entry_at conv_names name) fault
    (λ is. never (ap (λ f. Err f) is))

-- the converters that follow a call
pub later_coded : (line : ℕ) (call : CallForm) (rest : List ℕ) (steps : List Step) (known : Known)
    → IsReading (More call rest ∷ steps)
    → calls_of_steps (More call rest ∷ steps) ≢ Err arg.NoMemory
    → IsCoded (convs_after line steps known)
later_coded line call rest steps known reading never =
    convs_coded line steps known reading (λ is. never (ap (λ r. longer_calls call r) is))

pub last_coded : (line : ℕ) (call : CallForm) (rest : List ℕ) (steps : List Step) (known : Known)
    → IsReading (Last call rest ∷ steps) → IsCoded (convs_after line steps known)
last_coded line call rest steps known reading = none_coded line steps known reading

-- ---- criteria

fetch_by_coded : (way : Option FetchWay) (args : List (List ℕ)) → IsCoded (fetch_by way args)
fetch_by_coded None args = tt
fetch_by_coded (Some way) args =
    then_coded (fetch_made way.name args) _ (fetch_coded way.name args) (λ f. tt)

with_convs_coded : (line : ℕ) (steps : List Step) (known : Known) (call : CallForm)
    → IsCoded (convs_after line steps known)
    → IsCoded (criterion_of_steps line (Last call [] ∷ steps) known)
with_convs_coded line steps known call later =
    then_coded (fetch_by (fetch_way call.name) call.args) _
    (fetch_by_coded (fetch_way call.name) call.args)
    (λ first. then_coded (convs_after line steps known) _ later (λ convs. tt))

pub steps_coded : (line : ℕ) (steps : List Step) (known : Known) → IsReading steps
    → calls_of_steps steps ≢ Err arg.NoMemory → IsCoded (criterion_of_steps line steps known)
steps_coded line [] known reading never = tt
steps_coded line (Last call rest ∷ steps) known reading never =
    with_convs_coded line steps known call (last_coded line call rest steps known reading)
steps_coded line (More call rest ∷ steps) known reading never =
    with_convs_coded line steps known call (later_coded line call rest steps known reading never)
steps_coded line (Faulty name fault ∷ steps) known reading never =
    call_fault_gives (λ (read : Reading Criterion). Unit {0}) (fetch_way name) fault
    (λ is. never (ap (λ f. Err f) is))

-- ---- what is written

conv_by_such : (line : ℕ) (way : Option MapWay) → IfSome way IsMapWay → (before : Known)
    (call : CallForm) (read : Reading Conv) → WritesConvBy line way before call read
    → IsConv read.value
conv_by_such line (Some way) such before call read w =
    subst (λ (r : Reading Conv). IsConv r.value) (sym w.is) (record {
      method = such;
      default = parameter_allowed (Optional (ValueOfMap way.out)) (slice_get w.others 0) w.default
          w.written.each.0;
    })
conv_by_such line None such before call read w =
    subst (λ (r : Reading Conv). IsConv r.value) (sym w.is)
    (conv_written w.name call.args w.conv w.written).0

convs_such : (line : ℕ) (before : Known) (calls : List CallForm) (convs : Reading (List Conv))
    → WriteConvs line before calls convs → AllByRecursion IsConv convs.value
convs_such line before [] convs is =
    subst (λ (c : Reading (List Conv)). AllByRecursion IsConv c.value) (sym is) tt
convs_such line before (call ∷ calls) convs (first, others, is, writes, write) =
    subst (λ (c : Reading (List Conv)). AllByRecursion IsConv c.value) (sym is) (
      conv_by_such line (entry_at map_table call.name) (map_entry call.name) before call first writes,
      convs_such line first.known calls others write,
    )

-- the expression of a criterion is one
pub criterion_is_expr : (line : ℕ) (text : List ℕ) (before : Known) (read : Reading Criterion)
    → WritesCriterion line before text read → IsExpr read.value.expr
criterion_is_expr line text before read w =
    subst (λ (r : Reading Criterion). IsExpr r.value.expr) (sym w.is) (record {
      fetch = subst (λ (f : MethodFetch). IsFetch f.fetch) (sym w.fetched.is)
          (fetch_written w.fetched.way.name w.first.args w.fetched.fetch w.fetched.written);
      convs = All-from_recursion IsConv w.convs.value
          (convs_such line before w.others w.convs w.converted);
    })
