use Rattle.std.proofs.Common.{List, [], ◌∷◌, arith}
use Rattle.std.specs.Prelude.{Option, None, Some}
use Rattle.hx_text.specs.declared.kinds.By.{By}
use Rattle.hx_sample.specs.Tables.{TableHead}
use Rattle.hx_expr.specs.Values.{IsHeadBy}
use Rattle.hx_refs.specs.Uses.{heads_with, use_with, uses_of, Use}
use Rattle.hx_cases_values.proofs.references.add_way.Goals as goal

-- the first head stays where one is added
head_stays : (found : Option Use) (h : TableHead) (heads : List TableHead) (method : By) → IsHeadBy heads 0 method → IsHeadBy (heads_with found h heads) 0 method
head_stays (Some u) h heads method is = is
head_stays None h [] method is = absurd (omega (arith, is.head))
head_stays None h (g ∷ heads) method is = record { head = omega arith; by = is.by }

pub returns-clause-head : goal.returns-clause-head
returns-clause-head c method is =
    rw c.in_ok-add_use.ensures.ok
    (head_stays (use_with c.in_ok-by.by c.in_ok-by.ci (uses_of c.args.refs.now.content.heads 0))
    (record { by = c.in_ok-by.by; ci = c.in_ok-by.ci; list = 0 }) c.args.refs.now.content.heads method is)
