use Rattle.std.proofs.Common.{◌≡◌, ◌++◌, List, ℕ, ap, append-nil, sym, ◌∙◌}
use Rattle.std.proofs.lemmas.Bool.{false≢true}
use Rattle.hx_core.proofs.VerdictLemmas.{new_text, unchanged_text}
use Rattle.hx_core.proofs.verdicts.append_changed.Goals as goal

pub returns-then-same : goal.returns-then-same
returns-then-same c =
    sym (ap (λ (t : List ℕ). c.args.bytes.now.items ++ t) (unchanged_text c.args.read.now c.args.made.now (c.same.ensures.0 c.if-same.true))
    ∙ append-nil c.args.bytes.now.items)

pub returns : goal.returns
returns c =
    let changed = λ (same : c.args.read.now ≡ c.args.made.now). false≢true (sym c.if-same.false ∙ c.same.ensures.1 same) in
    rw (new_text c.args.read.now c.args.made.now changed) c.append_head.ensures
