-- The arguments of a call are read as what they write, by their parameters, and as nothing else.
use Rattle.std.proofs.Common.{◌≡◌, ℕ, zero, suc, ◌+◌, ◌<◌, ◌≤◌, Bool, true, false, cond, List, [], ◌∷◌, length, Option, None, Some, Ok, Err, arith, refl, sym, ap, subst, inl, inr}
use Rattle.std.specs.Prelude.{◌⊎◌, nat_le, Result, slice_get}
use Rattle.std.specs.Option.{ok_or}
use Rattle.std.proofs.lemmas.Bool.{leb-true, le-leb}
use Rattle.hx_calls.specs.declared.fault.SpellFault.{SpellFault}
use Rattle.hx_calls.specs.Arguments.{argument_fault, arguments, both, counted, given_from, given_of, is_count, least_count, made_by, read_form}
use Rattle.hx_calls.specs.Codes.{bad_argument}
use Rattle.hx_calls.specs.Forms.{AllGiven, Argument, Form, Given, Parameter, Row, WriteAll, WriteFrom, Writes, WritesParameter, WritesRow, applied}
use Rattle.hx_calls.specs.Forms.Form.{HeaderName}
use Rattle.hx_calls.specs.Forms.Parameter.{Required, Optional}
use Rattle.hx_calls.specs.Values.{value_of}
use Rattle.hx_calls.proofs.FormLemmas.{value_writes, writes_value}
use Rattle.hx_calls.proofs.ResultLemmas.{IsCoded, and_then_ok, ok_or_is, tested_coded, then_coded, then_ok}
use Rattle.hx_calls.proofs.ResultLemmas as results

-- ---- one argument

read_writes : (form : Form) (text : List ℕ) (given : Argument form) → read_form form text ≡ Ok given
    → Writes form text given
read_writes form text given is =
    value_writes form text given (ok_or_is (value_of form text) (argument_fault form) given is)

writes_read : (form : Form) (text : List ℕ) (given : Argument form) → Writes form text given
    → read_form form text ≡ Ok given
writes_read form text given writes =
    ap (λ found. ok_or found (argument_fault form)) (writes_value form text given writes)

pub parameter_writes : (parameter : Parameter) (arg : Option (List ℕ)) (given : Given parameter)
    → given_of parameter arg ≡ Ok given → WritesParameter parameter arg given
parameter_writes (Required form) None given is = absurd (let no : ⊥ = cc in no)
parameter_writes (Required form) (Some text) given is = read_writes form text given is
parameter_writes (Optional form) None given is = cc
parameter_writes (Optional form) (Some text) None is =
    let (x, read, same) = and_then_ok (read_form form text) (λ x. Ok (Some x)) None is in
    absurd (let no : ⊥ = cc in no)
parameter_writes (Optional form) (Some text) (Some given) is =
    let (x, read, same) = and_then_ok (read_form form text) (λ x. Ok (Some x)) (Some given) is in
    let found : x ≡ given = cc in
    subst (λ (y : Argument form). Writes form text y) found (read_writes form text x read)

pub writes_parameter : (parameter : Parameter) (arg : Option (List ℕ)) (given : Given parameter)
    → WritesParameter parameter arg given → given_of parameter arg ≡ Ok given
writes_parameter (Required form) None given writes = absurd writes
writes_parameter (Required form) (Some text) given writes = writes_read form text given writes
writes_parameter (Optional form) None given writes = ap (λ found. Ok found) (sym writes)
writes_parameter (Optional form) (Some text) None writes = absurd writes
writes_parameter (Optional form) (Some text) (Some given) writes =
    then_ok (read_form form text) (λ x. Ok (Some x)) given (Some given)
    (writes_read form text given writes) refl

-- ---- all of them

both_ok : {A B : Type 0} (first : Result A SpellFault) (other : Result B SpellFault) (x : A) (y : B)
    → both first other ≡ Ok (x, y) → (first ≡ Ok x) × (other ≡ Ok y)
both_ok {A} {B} (Ok a) (Ok b) x y is =
    let same : (a, b) ≡ (x, y) = cc in (
      ap (λ (p : A × B). Ok p.0) same,
      ap (λ (p : A × B). Ok p.1) same,
    )
both_ok (Ok a) (Err fault) x y is = absurd (let no : ⊥ = cc in no)
both_ok (Err fault) other x y is = absurd (let no : ⊥ = cc in no)

from_writes : (parameters : List Parameter) (i : ℕ) (args : List (List ℕ))
    (given : AllGiven parameters) → given_from parameters i args ≡ Ok given
    → WriteFrom parameters i args given
from_writes [] i args given is = tt
from_writes (parameter ∷ parameters) i args (first, others) is =
    let (one, later) =
    both_ok (given_of parameter (slice_get args i)) (given_from parameters (suc i) args) first others
    is in (
      parameter_writes parameter (slice_get args i) first one,
      from_writes parameters (suc i) args others later,
    )

writes_from : (parameters : List Parameter) (i : ℕ) (args : List (List ℕ))
    (given : AllGiven parameters) → WriteFrom parameters i args given
    → given_from parameters i args ≡ Ok given
writes_from [] i args tt write = refl
writes_from (parameter ∷ parameters) i args (first, others) (one, later) =
    rw (writes_parameter parameter (slice_get args i) first one, writes_from parameters (suc i) args others later) refl

-- an argument that is there lies within the list
within : {A : Type 0} (xs : List A) (i : ℕ) (x : A) → slice_get xs i ≡ Some x → i < length xs
within [] i x is = absurd (let no : ⊥ = cc in no)
within (y ∷ xs) zero x is = omega arith
within (y ∷ xs) (suc i) x is = let later = within xs i x is in omega (arith, later)

required_within : (form : Form) (args : List (List ℕ)) (i : ℕ) (arg : Option (List ℕ))
    (given : Argument form) → slice_get args i ≡ arg → WritesParameter (Required form) arg given
    → i < length args
required_within form args i None given is writes = absurd writes
required_within form args i (Some text) given is writes = within args i text is

-- as many arguments as have to be given are there
enough : (parameters : List Parameter) (i : ℕ) (args : List (List ℕ)) (given : AllGiven parameters)
    → WriteFrom parameters i args given
    → (least_count parameters ≡ 0) ⊎ (least_count parameters + i ≤ length args)
enough [] i args given write = inl refl
enough (Required form ∷ parameters) i args (first, others) (one, later) =
    let here = required_within form args i (slice_get args i) first refl one in
    elim (enough parameters (suc i) args others later) [
      | inl none ↦ inr (omega (arith, here, none))
      | inr some ↦ inr (omega (arith, some))
    ]
enough (Optional form ∷ parameters) i args (first, others) (one, later) =
    elim (enough parameters (suc i) args others later) [
      | inl none ↦ inl none
      | inr some ↦ inr (omega (arith, some))
    ]

at_least : (parameters : List Parameter) (args : List (List ℕ)) (given : AllGiven parameters)
    → WriteFrom parameters 0 args given → least_count parameters ≤ length args
at_least parameters args given write =
    elim (enough parameters 0 args given write) [
      | inl none ↦ omega (arith, none)
      | inr some ↦ omega (arith, some)
    ]

pub counted_ok : {A : Type 0} (b : Bool) (read : Result A SpellFault) (x : A)
    → cond b read (Err bad_argument) ≡ Ok x → (b ≡ true) × (read ≡ Ok x)
counted_ok true read x is = (refl, is)
counted_ok false read x is = absurd (let no : ⊥ = cc in no)

pub arguments_write : (parameters : List Parameter) (args : List (List ℕ))
    (given : AllGiven parameters) → arguments parameters args ≡ Ok given
    → WriteAll parameters args given
arguments_write parameters args given is =
    let (count, read) =
    counted_ok (is_count (least_count parameters) (length parameters) (length args))
    (given_from parameters 0 args) given is in
    let (least, most) =
    results.both (nat_le (least_count parameters) (length args))
    (nat_le (length args) (length parameters)) count in
    record {
      count = leb-true (length args) (length parameters) most;
      each = from_writes parameters 0 args given read;
    }

pub write_arguments : (parameters : List Parameter) (args : List (List ℕ))
    (given : AllGiven parameters) → WriteAll parameters args given
    → arguments parameters args ≡ Ok given
write_arguments parameters args given w =
    rw (
      le-leb (least_count parameters) (length args) (at_least parameters args given w.each),
      le-leb (length args) (length parameters) w.count,
    ) (writes_from parameters 0 args given w.each)

-- ---- rows

pub row_writes : {A : Type 0} (row : Row A) (args : List (List ℕ)) (made : A)
    → made_by row args ≡ Ok made → WritesRow row args made
row_writes {A} row args made is =
    let (given, read, same) =
    and_then_ok (arguments row.parameters args)
    (λ given. Ok (applied row.parameters row.make given)) made is in
    record {
      given = given;
      written = arguments_write row.parameters args given read;
      is = cc;
    }

pub writes_row : {A : Type 0} (row : Row A) (args : List (List ℕ)) (made : A)
    → WritesRow row args made → made_by row args ≡ Ok made
writes_row row args made w =
    then_ok (arguments row.parameters args) (λ given. Ok (applied row.parameters row.make given))
    w.given made (write_arguments row.parameters args w.given w.written)
    (ap (λ x. Ok x) (sym w.is))

-- ---- codes

fault_coded : (A : Type 0) (form : Form) → IsCoded {A = A} (Err (argument_fault form))
fault_coded A HeaderName = tt
fault_coded A _ = tt

value_coded : {A : Type 0} (form : Form) (found : Option A)
    → IsCoded (ok_or found (argument_fault form))
value_coded {A} form None = fault_coded A form
value_coded form (Some x) = tt

pub parameter_coded : (parameter : Parameter) (arg : Option (List ℕ))
    → IsCoded (given_of parameter arg)
parameter_coded (Required form) None = tt
parameter_coded (Required form) (Some text) = value_coded form (value_of form text)
parameter_coded (Optional form) None = tt
parameter_coded (Optional form) (Some text) =
    then_coded (read_form form text) _ (value_coded form (value_of form text)) (λ given. tt)

from_coded : (parameters : List Parameter) (i : ℕ) (args : List (List ℕ))
    → IsCoded (given_from parameters i args)
from_coded [] i args = tt
from_coded (parameter ∷ parameters) i args =
    then_coded (given_of parameter (slice_get args i)) _
    (parameter_coded parameter (slice_get args i))
    (λ first. then_coded (given_from parameters (suc i) args) _ (from_coded parameters (suc i) args)
    (λ others. tt))

pub counted_coded : {A : Type 0} (least most : ℕ) (args : List (List ℕ))
    (read : Result A SpellFault) → IsCoded read → IsCoded (counted least most args read)
counted_coded least most args read is =
    tested_coded (is_count least most (length args)) read (Err bad_argument) is tt

pub row_coded : {A : Type 0} (row : Row A) (args : List (List ℕ)) → IsCoded (made_by row args)
row_coded row args =
    then_coded (arguments row.parameters args) _
    (counted_coded (least_count row.parameters) (length row.parameters) args
    (given_from row.parameters 0 args) (from_coded row.parameters 0 args)) (λ given. tt)
