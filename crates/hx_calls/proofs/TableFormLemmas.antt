-- What the rows of the tables make has arguments that the syntax allows; other arguments are refused
-- by a code.
use Rattle.std.proofs.Common.{◌≡◌, ℕ, suc, ◌<◌, ◌≤◌, false, List, [], ◌∷◌, length, Option, None, Some, refl, sym, subst, rules, Ok, ◌∙◌}
use Rattle.std.specs.Prelude.{◌≢◌, pos, IsTrue, IfSome, slice_get}
use Rattle.httparse.specs.Grammar.{IsToken}
use Rattle.hx_text.specs.declared.VarName.{VarName}
use Rattle.hx_ast.specs.declared.Val.{Val}
use Rattle.hx_ast.specs.declared.Val.TheVariants as val
use Rattle.hx_ast.specs.declared.Fetch.{Fetch}
use Rattle.hx_ast.specs.declared.Conv.{Conv}
use Rattle.hx_ast.specs.Names.{IsVariable}
use Rattle.hx_ast.specs.Fetches.{IsFetch, IsIpv4, IsIpv6}
use Rattle.hx_ast.specs.Convs.{IsConv, IsNotNegative, IsOperand, IsReadableAs, is_digest_length}
use Rattle.hx_ast.specs.Statements.{is_map}
use Rattle.hx_calls.specs.declared.convs.ConvName.{ConvName}
use Rattle.hx_calls.specs.declared.convs.ConvName.TheVariants as conv_name
use Rattle.hx_calls.specs.declared.fetches.FetchName.{FetchName}
use Rattle.hx_calls.specs.declared.fetches.FetchName.TheVariants as fetch_name
use Rattle.hx_calls.specs.Expressions.{conv_by_name, fetch_by_name, fetch_made}
use Rattle.hx_calls.specs.Forms.{AllGiven, Argument, Form, Given, Parameter, Row, WriteFrom, Writes, WritesParameter, applied, WritesRow}
use Rattle.hx_calls.specs.Forms.Form.{HeaderName, Variable, VariableOrNothing, Index, Amount, Operand, Delimiters, Ipv4Address, Ipv6Address, Width, DigestLength, ValueOfMap}
use Rattle.hx_calls.specs.Forms.Parameter.{Required, Optional}
use Rattle.hx_calls.specs.Tables.{conv_row, fetch_row}
use Rattle.hx_calls.proofs.ArgumentLemmas.{row_coded, row_writes}
use Rattle.hx_calls.proofs.CallMeaningLemmas.{conv_made_is, fetch_made_is}
use Rattle.hx_calls.proofs.FormLemmas.{width_within}
use Rattle.hx_calls.proofs.ResultLemmas.{IsCoded}

-- ---- what the forms allow

abbrev Allows : (form : Form) → Argument form → Type 0
Allows HeaderName name = IsToken name
Allows Variable variable = IsVariable variable
Allows VariableOrNothing variable = IfSome variable IsVariable
Allows Index n = n ≢ pos 0
Allows Amount n = IsNotNegative n
Allows Operand operand = IsOperand operand
Allows Delimiters bytes = 0 < length bytes
Allows Ipv4Address ip = IsIpv4 ip
Allows Ipv6Address ip = IsIpv6 ip
Allows (Width most) n = n ≤ most
Allows DigestLength n = IsTrue (is_digest_length n)
Allows (ValueOfMap out) text = IsReadableAs out text
Allows _ given = Unit {0}

nothing_allowed : (text : List ℕ) (given : Option VarName) → Writes VariableOrNothing text given
    → IfSome given IsVariable
nothing_allowed text None writes = tt
nothing_allowed text (Some variable) writes = writes.named

operand_allowed : (text : List ℕ) (given : Val) → Writes Operand text given → IsOperand given
operand_allowed text (val.Number n) writes = tt
operand_allowed text (val.Var variable) (other, writes) = writes.named

pub writes_allowed : (form : Form) (text : List ℕ) (given : Argument form)
    → Writes form text given → Allows form given
writes_allowed HeaderName text given (same, token) = subst IsToken (sym same) token
writes_allowed Variable text given writes = writes.named
writes_allowed VariableOrNothing text given writes = nothing_allowed text given writes
writes_allowed Index text given (read, other) = other
writes_allowed Amount text given (read, positive) = positive
writes_allowed Operand text given writes = operand_allowed text given writes
writes_allowed Delimiters text given (same, some) =
    subst (λ (t : List ℕ). 0 < length t) (sym same) some
writes_allowed Ipv4Address text given (read, is) = is
writes_allowed Ipv6Address text given (read, is) = is
writes_allowed (Width most) text given writes = width_within most text given writes
writes_allowed DigestLength text given (read, is) = is
writes_allowed (ValueOfMap out) text given (same, readable) =
    subst (λ (t : List ℕ). IsReadableAs out t) (sym same) readable
writes_allowed _ text given writes = tt

abbrev AllowsGiven : (parameter : Parameter) → Given parameter → Type 0
AllowsGiven (Required form) given = Allows form given
AllowsGiven (Optional form) given = IfSome given (Allows form)

abbrev AllowAll : (parameters : List Parameter) → AllGiven parameters → Type 0
AllowAll [] given = Unit {0}
AllowAll (parameter ∷ parameters) given =
    AllowsGiven parameter given.0 × AllowAll parameters given.1

pub parameter_allowed : (parameter : Parameter) (arg : Option (List ℕ)) (given : Given parameter)
    → WritesParameter parameter arg given → AllowsGiven parameter given
parameter_allowed (Required form) None given writes = absurd writes
parameter_allowed (Required form) (Some text) given writes = writes_allowed form text given writes
parameter_allowed (Optional form) None given writes =
    subst (λ (g : Option (Argument form)). IfSome g (Allows form)) (sym writes) tt
parameter_allowed (Optional form) (Some text) None writes = absurd writes
parameter_allowed (Optional form) (Some text) (Some given) writes =
    writes_allowed form text given writes

all_allowed : (parameters : List Parameter) (i : ℕ) (args : List (List ℕ))
    (given : AllGiven parameters) → WriteFrom parameters i args given
    → AllowAll parameters given
all_allowed [] i args given write = tt
all_allowed (parameter ∷ parameters) i args (first, others) (one, later) = (
  parameter_allowed parameter (slice_get args i) first one,
  all_allowed parameters (suc i) args others later,
)

-- whatever a row makes of what its forms allow is such
abbrev MakesSuch : {A : Type 0} → (A → Type 0) → Row A → Type 0
MakesSuch P row =
    (given : AllGiven row.parameters) → AllowAll row.parameters given
    → P (applied row.parameters row.make given)

written_such : {A : Type 0} (P : A → Type 0) (row : Row A) → MakesSuch P row
    → (args : List (List ℕ)) (made : A) → WritesRow row args made → P made
written_such P row such args made w =
    subst P (sym w.is) (such w.given (all_allowed row.parameters 0 args w.given w.written.each))

-- ---- fetches and converters

fetch_such : (name : FetchName) → MakesSuch IsFetch (fetch_row name)
fetch_such fetch_name.AlwaysTrue given such = tt
fetch_such _ given such = search rules

pub fetch_written : (name : FetchName) (args : List (List ℕ)) (fetch : Fetch)
    → WritesRow (fetch_row name) args fetch → IsFetch fetch
fetch_written name = written_such IsFetch (fetch_row name) (fetch_such name)

-- a converter of the syntax, which looks nothing up in a map
abbrev pub IsPlainConv : Conv → Type 0
IsPlainConv c = IsConv c × (is_map c ≡ false)

conv_such : (name : ConvName) → MakesSuch IsPlainConv (conv_row name)
conv_such conv_name.Lower given such = (tt, refl)
conv_such _ given such = search rules

pub conv_written : (name : ConvName) (args : List (List ℕ)) (c : Conv)
    → WritesRow (conv_row name) args c → IsPlainConv c
conv_written name = written_such IsPlainConv (conv_row name) (conv_such name)

-- ---- what is read by a name

pub fetch_named : (name : Option FetchName) (args : List (List ℕ)) (fetch : Fetch)
    → fetch_by_name name args ≡ Ok fetch → IsFetch fetch
fetch_named None args fetch is = absurd (let no : ⊥ = cc in no)
fetch_named (Some name) args fetch is =
    fetch_written name args fetch
    (row_writes (fetch_row name) args fetch (sym (fetch_made_is name args) ∙ is))

pub conv_named : (name : Option ConvName) (args : List (List ℕ)) (c : Conv)
    → conv_by_name name args ≡ Ok c → IsPlainConv c
conv_named None args c is = absurd (let no : ⊥ = cc in no)
conv_named (Some name) args c is =
    conv_written name args c (row_writes (conv_row name) args c (sym (conv_made_is name args) ∙ is))

pub fetch_coded : (name : FetchName) (args : List (List ℕ)) → IsCoded (fetch_made name args)
fetch_coded name args = subst IsCoded (sym (fetch_made_is name args)) (row_coded (fetch_row name) args)

pub fetch_name_coded : (name : Option FetchName) (args : List (List ℕ))
    → IsCoded (fetch_by_name name args)
fetch_name_coded None args = tt
fetch_name_coded (Some name) args = fetch_coded name args

pub conv_name_coded : (name : Option ConvName) (args : List (List ℕ))
    → IsCoded (conv_by_name name args)
conv_name_coded None args = tt
conv_name_coded (Some name) args =
    subst IsCoded (sym (conv_made_is name args)) (row_coded (conv_row name) args)
