-- The statements of a configuration once more, beside what is loaded of it, and the numbers by
-- which reasons name its references (HAProxy management guide 2.4, section 9.3, `show acl`).
use Rattle.std.specs.Prelude.{◌≡◌, ℕ, List}
use Rattle.hx_refs.specs.References.{References}
use Rattle.hx_refs.specs.declared.Limits.{Limits}
use Rattle.hx_rules.specs.Programs.{Rules}
use Rattle.hx_words.specs.Variable.{Env}
use Rattle.hx_filling.specs.Refusals.{Refusal, bad_pattern}
use Rattle.hx_load.specs.Loads.{IsRefusedByLines, LinesBring}
use Rattle.hx_trace.specs.Why.{head_numbers}

-- a program, and for each head that its conditions may name the number of the reference that this
-- searches
pub record NumberedRules : Type 0 where
  pub program : Rules
  pub numbers : List ℕ

-- the lines of a configuration bring this program, and references that have these numbers
pub record LinesNumber (env : Env) (config : List ℕ) (given : NumberedRules) : Type 0 where
  pub limits : Limits
  pub references : References
  pub brought : LinesBring env limits config given.program references
  pub numbers_are : given.numbers ≡ head_numbers references

-- the first fault of the lines of a configuration, if they have one, is a text that is no regular
-- expression or no pattern
abbrev pub HasPatternFaultsAlone : Env → List ℕ → Type 0
HasPatternFaultsAlone env config =
    (refusal : Refusal) → IsRefusedByLines env config refusal → refusal.code ≡ bad_pattern

-- a line of a configuration has a regular expression or a pattern that is none, and is the first
-- with a fault
pub record IsRefusedForPattern (env : Env) (config : List ℕ) : Type 0 where
  pub line : ℕ
  pub refused : IsRefusedByLines env config (record { line = line; code = bad_pattern })
