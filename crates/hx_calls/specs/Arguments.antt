-- The arguments of a call by its parameters, or the code of what is wrong with them: their number is
-- judged first, and then the arguments from the left.
use Rattle.std.specs.Prelude.{ℕ, suc, Bool, nat_le, ◌&&◌, if◌then◌else◌, List, [], ◌∷◌, length, slice_get, Option, Some, None, Result, Ok, Err}
use Rattle.std.specs.Option.{ok_or, option_map_or}
use Rattle.hx_base.specs.Results.{◌>>=◌}
use Rattle.hx_calls.specs.declared.fault.SpellFault.{SpellFault}
use Rattle.hx_calls.specs.Codes.{bad_argument, bad_name}
use Rattle.hx_calls.specs.Forms.{AllGiven, Argument, Form, Given, Parameter, Row, applied}
use Rattle.hx_calls.specs.Forms.Form.{HeaderName, Variable, VariableOrNothing, Operand}
use Rattle.hx_calls.specs.Forms.Parameter.{Required, Optional}
use Rattle.hx_calls.specs.Values.{value_of}

-- ---- one argument

-- what an argument that isn't of this form is refused for
abbrev pub argument_fault : Form → SpellFault
argument_fault HeaderName = bad_name
argument_fault Variable = bad_name
argument_fault VariableOrNothing = bad_name
argument_fault Operand = bad_name
argument_fault _ = bad_argument

abbrev pub read_form : (form : Form) → List ℕ → Result (Argument form) SpellFault
read_form form text = ok_or (value_of form text) (argument_fault form)

-- an argument that has to be given
abbrev pub required : {A : Type 0} → (List ℕ → Result A SpellFault) → Option (List ℕ)
    → Result A SpellFault
required read arg = option_map_or read arg (Err bad_argument)

-- an argument that may be missing
abbrev pub optional : {A : Type 0} → (List ℕ → Result A SpellFault) → Option (List ℕ)
    → Result (Option A) SpellFault
optional read arg = option_map_or (λ text. read text >>= (λ given. Ok (Some given))) arg (Ok None)

-- what the argument for a parameter gives, if there is one
abbrev pub given_of : (parameter : Parameter) → Option (List ℕ)
    → Result (Given parameter) SpellFault
given_of (Required form) arg = required (read_form form) arg
given_of (Optional form) arg = optional (read_form form) arg

-- ---- all of them

abbrev pub is_count : ℕ → ℕ → ℕ → Bool
is_count least most n = nat_le least n && nat_le n most

-- what is read of arguments where there are so many of them
abbrev pub counted : {A : Type 0}
    → ℕ → ℕ → List (List ℕ) → Result A SpellFault → Result A SpellFault
counted least most args read = if is_count least most (length args) then read else Err bad_argument

-- how many arguments have to be given
abbrev pub least_count : List Parameter → ℕ
least_count [] = 0
least_count (Required form ∷ parameters) = suc (least_count parameters)
least_count (Optional form ∷ parameters) = least_count parameters

-- both of two, the first of which is judged before the other
abbrev pub both : {A B : Type 0} → Result A SpellFault → Result B SpellFault
    → Result (A × B) SpellFault
both first other = first >>= (λ x. other >>= (λ y. Ok (x, y)))

abbrev pub none_left : Result (Unit {0}) SpellFault
none_left = Ok tt

-- the last of several things, after which nothing follows
abbrev pub ended : {A : Type 0} → A → A × Unit {0}
ended x = (x, tt)

-- what the arguments from a position on give
abbrev pub given_from : (parameters : List Parameter) → ℕ → List (List ℕ)
    → Result (AllGiven parameters) SpellFault
given_from [] i args = none_left
given_from (parameter ∷ parameters) i args =
    both (given_of parameter (slice_get args i)) (given_from parameters (suc i) args)

-- what the arguments give
abbrev pub arguments : (parameters : List Parameter) → List (List ℕ)
    → Result (AllGiven parameters) SpellFault
arguments parameters args =
    counted (least_count parameters) (length parameters) args (given_from parameters 0 args)

-- what a row makes of the arguments
abbrev pub made_by : {A : Type 0} → Row A → List (List ℕ) → Result A SpellFault
made_by row args =
    arguments row.parameters args >>= (λ given. Ok (applied row.parameters row.make given))

-- no argument
abbrev pub bare : {A : Type 0} → A → List (List ℕ) → Result A SpellFault
bare x args = counted 0 0 args (Ok x)

-- one argument
abbrev pub single : {A : Type 0} → (List ℕ → Result A SpellFault) → List (List ℕ)
    → Result A SpellFault
single read args = counted 1 1 args (required read (slice_get args 0))
