-- The steps of reading rules and backends.
use Rattle.std.proofs.Common.{ℕ, List}
use Rattle.hx_ast.specs.declared.Action.{Action}
use Rattle.hx_ast.specs.declared.Part.{Part}
use Rattle.hx_ast.specs.declared.Rule.{Rule}
use Rattle.hx_ast.specs.declared.Statement.{Statement}
use Rattle.hx_spell.specs.Actions.{Taken}
use Rattle.hx_calls.specs.Known.{Reading}
use Rattle.hx_spell.specs.Lines.{When, backend}

-- the rule of an action, and when it is taken
abbrev pub rule_when : ℕ → Action → Reading When → Reading Rule
rule_when line action when = record {
  value = record {
    line = line;
    action = action;
    unless = when.value.unless;
    cond = when.value.cond;
  };
  known = when.known;
}

abbrev pub made : (Rule → Statement) → Reading Rule → Reading Statement
made make rule = record { value = make rule.value; known = rule.known }

abbrev pub backend_when : ℕ → Reading (Taken (List Part)) → Reading When → Reading Statement
backend_when line format when =
    record { value = backend line format.value.item when.value; known = when.known }
