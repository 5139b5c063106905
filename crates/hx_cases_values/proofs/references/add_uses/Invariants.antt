use Rattle.std.proofs.Common.{◌≡◌}
use Rattle.hx_text.specs.declared.kinds.By.{By}
use Rattle.hx_expr.specs.Values.{IsHeadBy}
use Rattle.hx_cases_values.proofs.references.add_uses.Given as goal

-- nothing was added to the map, and the first head stays
abbrev pub invariant-loop-piece : goal.invariant-loop-piece
invariant-loop-piece l = record {
  next : (goal.iterator-loop-piece).can_next l.piece-iterator;
  finite : (goal.iterator-loop-piece).is_finite l.piece-iterator;
  references : l.refs.content.references ≡ l.fn.refs.content.references;
  head : (method : By) → IsHeadBy l.fn.refs.content.heads 0 method → IsHeadBy l.refs.content.heads 0 method;
}
