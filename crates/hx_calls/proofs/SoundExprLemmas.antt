-- Expressions and formats that are read are such as the syntax allows, and the maps in them name
-- heads that are known then. What is known is sound after them, where it was before.
use Rattle.std.proofs.Common.{◌≡◌, ℕ, true, false, zero, suc, List, [], ◌∷◌, ◌==◌, length, Option, None, Some, Ok, arith, refl}
use Rattle.std.specs.Prelude.{IfSome, Result, slice_get}
use Rattle.std.specs.List.{All}
use Rattle.std.proofs.lemmas.List.Elements.{All-cons, All-nil, All-tail, All-weaker}
use Rattle.hx_text.specs.declared.By.{By}
use Rattle.hx_text.specs.declared.By.TheVariants as method
use Rattle.hx_words.specs.CallForm.{CallForm}
use Rattle.hx_words.specs.Calls.{Step, steps_of}
use Rattle.hx_words.specs.Calls.Step.{Last, More, Faulty}
use Rattle.hx_ast.specs.declared.Conv.{Conv}
use Rattle.hx_ast.specs.declared.Conv.TheVariants as conv
use Rattle.hx_ast.specs.declared.Expr.{Expr}
use Rattle.hx_ast.specs.declared.Fetch.{Fetch}
use Rattle.hx_ast.specs.declared.Part.{Part}
use Rattle.hx_ast.specs.declared.Part.TheVariants.{Text, Value}
use Rattle.hx_ast.specs.Acls.{takes_patterns}
use Rattle.hx_ast.specs.Actions.{IsFormat, IsPart}
use Rattle.hx_ast.specs.Convs.{IsConv, IsExpr, IsReadableAs, is_map_method}
use Rattle.hx_ast.specs.Fetches.{IsFetch}
use Rattle.hx_ast.specs.Statements.{is_map}
use Rattle.hx_calls.specs.declared.fault.SpellFault.{SpellFault}
use Rattle.hx_calls.specs.declared.table_specs.HeadSpec.{HeadSpec}
use Rattle.hx_calls.specs.declared.table_specs.MapOutput.{MapOutput}
use Rattle.hx_base.specs.Results.{◌>>=◌}
use Rattle.hx_calls.specs.Arguments.{is_count, optional, read_form, required}
use Rattle.hx_calls.specs.Codes.{bad_argument, bad_format}
use Rattle.hx_calls.specs.Criteria.{Criterion, MapWay, conv_by, conv_call, conv_step, convs_after, criterion_of, criterion_of_steps, expr_fetch, expr_of, expr_of_steps, fetch_step, map_arguments, map_head, map_table}
use Rattle.hx_calls.specs.Expressions.{conv_by_name}
use Rattle.hx_calls.specs.Forms.Form.{ValueOfMap}
use Rattle.hx_calls.specs.Forms.Parameter.{Optional}
use Rattle.hx_calls.specs.ExpressionRelation.{WritesCriterion}
use Rattle.hx_base.specs.Bytes.{ascii}
use Rattle.hx_calls.specs.Formats.{FormatReader, after_percent, byte_before, format_of, format_within, rest_after, value_part, with_byte}
use Rattle.hx_calls.specs.ExpressionHeads.{ExprNames, FormatNames, NamesHead, PartNames}
use Rattle.hx_calls.specs.Known.{Known, Reading, reading, with_named_file, with_output}
use Rattle.hx_calls.specs.Sound.{IsReference}
use Rattle.hx_calls.specs.Tables.{conv_names, entry_at, fetch_names}
use Rattle.hx_calls.proofs.ArgumentLemmas.{parameter_writes}
use Rattle.hx_calls.proofs.CriterionFormLemmas.{IsMapWay, map_entry}
use Rattle.hx_calls.proofs.CriterionLemmas.{criterion_law}
use Rattle.hx_calls.proofs.ExpressionHeadLemmas.{expr_later, format_later, names_later}
use Rattle.hx_calls.proofs.SoundLemmas.{Brings, Grown, ReadsHead, brought, either_brings, grown_refl, grown_trans, head_grown, named_file_brings, output_grown, step_brings, tested_brings, then_brings, weaker_brings}
use Rattle.hx_calls.proofs.TableFormLemmas.{conv_named, fetch_named, parameter_allowed}

-- ---- maps

-- a converter of the syntax, which names a head that is known if it looks up in a map
abbrev IsKnownConv : Known → Conv → Type 0
IsKnownConv known c = IsConv c × NamesHead known.heads c

map_takes : (by : By) → is_map_method by ≡ true → takes_patterns by ≡ true
map_takes method.Found is = absurd (let no : ⊥ = cc in no)
map_takes method.Bool is = absurd (let no : ⊥ = cc in no)
map_takes _ is = refl

map_head_grown : (way : MapWay) (file : Reading ℕ) → IsMapWay way
    → IsReference file.known file.value → ReadsHead way.by file.known (map_head way file)
map_head_grown way file such there =
    let output : MapOutput = record { table = file.value; out = way.out } in
    let typed = output_grown output file.known in
    let head : HeadSpec = record { table = file.value; by = way.by; ci = false } in
    let (grown, names) = head_grown head (with_output output file.known) (record {
      table = omega (arith, there, typed.references);
      patterns = map_takes way.by such;
      case = λ is. absurd (let no : ⊥ = cc in no);
    }) in (
      grown_trans file.known (with_output output file.known) (map_head way file).known typed grown,
      names,
    )

map_file_brings : (line : ℕ) (name : Option (List ℕ)) (known : Known)
    → Brings IsReference known (required (λ name. with_named_file line name true known) name)
map_file_brings line None known = tt
map_file_brings line (Some name) known = named_file_brings line name true known

default_is_readable : (way : MapWay) (given default : Option (List ℕ))
    → optional (read_form (ValueOfMap way.out)) given ≡ Ok default
    → IfSome default (IsReadableAs way.out)
default_is_readable way given default is =
    let parameter = Optional (ValueOfMap way.out) in
    parameter_allowed parameter given default (parameter_writes parameter given default is)

map_brings : (line : ℕ) (way : MapWay) → IsMapWay way → (args : List (List ℕ)) (known : Known)
    → Brings IsKnownConv known (map_arguments line way args known)
map_brings line way such args known =
    tested_brings IsKnownConv known (is_count 1 2 (length args)) _ bad_argument
    (λ counted. then_brings IsReference IsKnownConv known
    (required (λ name. with_named_file line name true known) (slice_get args 0)) _
    (map_file_brings line (slice_get args 0) known)
    (λ file grown there. step_brings IsKnownConv file.known
    (optional (read_form (ValueOfMap way.out)) (slice_get args 1)) _
    (λ default given.
    let (more, names) = map_head_grown way file such there in
    let readable = default_is_readable way (slice_get args 1) default given in
    (more, (record { method = such; default = readable }, names)))))

-- ---- converters

plain_names : (heads : List HeadSpec) (c : Conv) → is_map c ≡ false → NamesHead heads c
plain_names heads (conv.Map head by out default) plain = absurd (let no : ⊥ = cc in no)
plain_names heads _ plain = tt

conv_by_brings : (line : ℕ) (way : Option MapWay) → IfSome way IsMapWay → (call : CallForm)
    (known : Known) → Brings IsKnownConv known (conv_by line way call known)
conv_by_brings line (Some way) such call known = map_brings line way such call.args known
conv_by_brings line None such call known =
    let found = entry_at conv_names call.name in
    step_brings IsKnownConv known (conv_by_name found call.args) (λ c. Ok (reading c known))
    (λ c meant.
    let plain = conv_named found call.args c meant in
    (grown_refl known, (plain.0, plain_names known.heads c plain.1)))

conv_brings : (line : ℕ) (call : CallForm) (known : Known)
    → Brings IsKnownConv known (conv_call line call known)
conv_brings line call known =
    conv_by_brings line (entry_at map_table call.name) (map_entry call.name) call known

conv_step_brings : (line : ℕ) (step : Step) (known : Known)
    → Brings IsKnownConv known (conv_step line step known)
conv_step_brings line (Last call rest) known = conv_brings line call known
conv_step_brings line (More call rest) known = conv_brings line call known
conv_step_brings line (Faulty name fault) known = tt

abbrev AreKnownConvs : Known → List Conv → Type 0
AreKnownConvs known convs = All (IsKnownConv known) convs

conv_stays : (a b : Known) → Grown a b → (c : Conv) → IsKnownConv a c → IsKnownConv b c
conv_stays a b grown c (allowed, names) = (allowed, names_later a.heads b.heads grown.heads c names)

convs_bring : (line : ℕ) (steps : List Step) (known : Known)
    → Brings AreKnownConvs known (convs_after line steps known)
convs_bring line [] known = (grown_refl known, All-nil (IsKnownConv known))
convs_bring line (step ∷ steps) known =
    then_brings IsKnownConv AreKnownConvs known (conv_step line step known) _
    (conv_step_brings line step known)
    (λ first grown such. then_brings AreKnownConvs AreKnownConvs first.known
    (convs_after line steps first.known) _ (convs_bring line steps first.known)
    (λ others more all. (
      grown_refl others.known,
      All-cons (IsKnownConv others.known) first.value others.value
          (conv_stays first.known others.known more first.value such) all,
    )))

-- ---- expressions

-- an expression of the syntax, whose maps name heads that are known
abbrev pub IsKnownExpr : Known → Expr → Type 0
IsKnownExpr known expr = IsExpr expr × ExprNames known.heads expr

convs_name : (known : Known) (convs : List Conv) → AreKnownConvs known convs
    → All (NamesHead known.heads) convs
convs_name known =
    All-weaker (IsKnownConv known) (NamesHead known.heads) (λ c such. such.1)

made_expr : (known : Known) (f : Fetch) (convs : List Conv) → IsFetch f
    → AreKnownConvs known convs → IsKnownExpr known (record { fetch = f; convs = convs })
made_expr known f convs such all = (
  record { fetch = such; convs = All-weaker (IsKnownConv known) IsConv (λ c is. is.0) convs all },
  convs_name known convs all,
)

fetch_is_one : (step : Step) (f : Fetch) → expr_fetch step ≡ Ok f → IsFetch f
fetch_is_one (Last call rest) f is =
    fetch_named (entry_at fetch_names call.name) call.args f is
fetch_is_one (More call rest) f is =
    fetch_named (entry_at fetch_names call.name) call.args f is
fetch_is_one (Faulty name fault) f is = absurd (let no : ⊥ = cc in no)

expr_steps_bring : (line : ℕ) (steps : List Step) (known : Known)
    → Brings IsKnownExpr known (expr_of_steps line steps known)
expr_steps_bring line [] known = tt
expr_steps_bring line (step ∷ steps) known =
    step_brings IsKnownExpr known (expr_fetch step) _
    (λ fetch is. then_brings AreKnownConvs IsKnownExpr known (convs_after line steps known) _
    (convs_bring line steps known)
    (λ convs grown all. (
      grown_refl convs.known,
      made_expr convs.known fetch convs.value (fetch_is_one step fetch is) all,
    )))

pub expr_brings : (stop : Option ℕ) (line : ℕ) (text : List ℕ) (known : Known)
    → Brings IsKnownExpr known (expr_of stop line text known)
unfolding expr_of
expr_brings stop line text known = expr_steps_bring line (steps_of stop text) known

expr_stays : (a b : Known) → Grown a b → (expr : Expr) → IsKnownExpr a expr → IsKnownExpr b expr
expr_stays a b grown expr (allowed, names) =
    (allowed, expr_later a.heads b.heads grown.heads expr names)

-- ---- criteria

abbrev HasKnownConvs : Known → Criterion → Type 0
HasKnownConvs known criterion = AreKnownConvs known criterion.expr.convs

criterion_steps_bring : (line : ℕ) (steps : List Step) (known : Known)
    → Brings HasKnownConvs known (criterion_of_steps line steps known)
criterion_steps_bring line [] known = tt
criterion_steps_bring line (step ∷ steps) known =
    step_brings HasKnownConvs known (fetch_step step) _
    (λ first is. then_brings AreKnownConvs HasKnownConvs known (convs_after line steps known) _
    (convs_bring line steps known) (λ convs grown all. (grown_refl convs.known, all)))

criterion_brings : (line : ℕ) (text : List ℕ) (known : Known)
    → Brings HasKnownConvs known (criterion_of line text known)
unfolding criterion_of
criterion_brings line text known = criterion_steps_bring line (steps_of None text) known

-- after a criterion what is known is sound, where it was, and its converters name known heads
pub criterion_grown : (line : ℕ) (text : List ℕ) (before : Known) (read : Reading Criterion)
    → WritesCriterion line before text read
    → Grown before read.known
    × All (NamesHead read.known.heads) read.value.expr.convs
criterion_grown line text before read w =
    let (grown, all) = brought HasKnownConvs before (criterion_of line text before) read
    (criterion_brings line text before) ((criterion_law line text before read).1 w) in
    (grown, convs_name read.known read.value.expr.convs all)

-- ---- formats

abbrev IsKnownPart : Known → Part → Type 0
IsKnownPart known part = IsPart part × PartNames known.heads part

abbrev AreKnownParts : Known → List Part → Type 0
AreKnownParts known parts = All (IsKnownPart known) parts

byte_is_known : (known : Known) (b : ℕ) (parts : List Part) → AreKnownParts known parts
    → AreKnownParts known (byte_before b parts)
byte_is_known known b [] all =
    All-cons (IsKnownPart known) (Text (b ∷ [])) [] (tt, tt) (All-nil (IsKnownPart known))
byte_is_known known b (Text bytes ∷ parts) all =
    All-cons (IsKnownPart known) (Text (b ∷ bytes)) parts (tt, tt)
    (All-tail (IsKnownPart known) (Text bytes) parts all)
byte_is_known known b (Value expr ∷ parts) all =
    All-cons (IsKnownPart known) (Text (b ∷ [])) (Value expr ∷ parts) (tt, tt) all

byte_brings : (b : ℕ) (known : Known) (r : Result (Reading (List Part)) SpellFault)
    → Brings AreKnownParts known r
    → Brings AreKnownParts known (r >>= (λ others. Ok (with_byte b others)))
byte_brings b known r such =
    then_brings AreKnownParts AreKnownParts known r (λ others. Ok (with_byte b others)) such
    (λ others grown all. (grown_refl others.known, byte_is_known others.known b others.value all))

-- what is read on from any text is such
abbrev ReadsParts : FormatReader → Type 0
ReadsParts next =
    (text : List ℕ) (known : Known) → Brings AreKnownParts known (next text known)

value_brings : (next : FormatReader) → ReadsParts next → (line : ℕ) (text : List ℕ) (known : Known)
    → Brings AreKnownParts known (value_part next line text known)
value_brings next reads line text known =
    let rest = rest_after (steps_of (Some (ascii "]")) text) in
    then_brings IsKnownExpr AreKnownParts known (expr_of (Some (ascii "]")) line text known) _
    (expr_brings (Some (ascii "]")) line text known)
    (λ expr grown such. then_brings AreKnownParts AreKnownParts expr.known (next rest expr.known) _
    (reads rest expr.known)
    (λ others more all. (
      grown_refl others.known,
      All-cons (IsKnownPart others.known) (Value expr.value) others.value
          (expr_stays expr.known others.known more expr.value such) all,
    )))

percent_brings : (next : FormatReader) → ReadsParts next → (line : ℕ) (text : List ℕ)
    (known : Known) → Brings AreKnownParts known (after_percent next line text known)
percent_brings next reads line [] known = tt
percent_brings next reads line (b ∷ text) known =
    either_brings AreKnownParts known (b == ascii "%") _ _
    (λ is. byte_brings (ascii "%") known (next text known) (reads text known))
    (λ other. tested_brings AreKnownParts known (b == ascii "[") _ bad_format
    (λ is. value_brings next reads line text known))

within_brings : (n line : ℕ) (text : List ℕ) (known : Known)
    → Brings AreKnownParts known (format_within n line text known)
within_brings zero line text known = (grown_refl known, All-nil (IsKnownPart known))
within_brings (suc n) line [] known = (grown_refl known, All-nil (IsKnownPart known))
within_brings (suc n) line (b ∷ text) known =
    either_brings AreKnownParts known (b == ascii "%") _ _
    (λ is. percent_brings (format_within n line) (within_brings n line) line text known)
    (λ other. byte_brings b known (format_within n line text known)
    (within_brings n line text known))

-- a format of the syntax, whose maps name heads that are known
abbrev pub IsKnownFormat : Known → List Part → Type 0
IsKnownFormat known format = IsFormat format × FormatNames known.heads format

parts_are_known : (known : Known) (parts : List Part) → AreKnownParts known parts
    → IsKnownFormat known parts
parts_are_known known parts all = (
  All-weaker (IsKnownPart known) IsPart (λ part such. such.0) parts all,
  All-weaker (IsKnownPart known) (PartNames known.heads) (λ part such. such.1) parts all,
)

pub format_brings : (line : ℕ) (text : List ℕ) (known : Known)
    → Brings IsKnownFormat known (format_of line text known)
unfolding format_of
format_brings line text known =
    weaker_brings AreKnownParts IsKnownFormat known (format_within (length text) line text known)
    parts_are_known (within_brings (length text) line text known)

pub format_stays : (a b : Known) → Grown a b → (format : List Part) → IsKnownFormat a format
    → IsKnownFormat b format
format_stays a b grown format (allowed, names) =
    (allowed, format_later a.heads b.heads grown.heads format names)
