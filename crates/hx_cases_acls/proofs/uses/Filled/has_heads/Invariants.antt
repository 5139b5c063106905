use Rattle.std.specs.Prelude.{drop}
use Rattle.hx_cases_acls.specs.Uses.{AreHeadsBy}
use Rattle.hx_cases_acls.proofs.uses.Filled.has_heads.Given as goal

-- where those that are left are heads, all are
abbrev pub invariant-loop-head : goal.invariant-loop-head
invariant-loop-head l =
    AreHeadsBy l.self.refs.content.heads l.by (drop l.head-index l.heads) → AreHeadsBy l.self.refs.content.heads l.by l.heads
