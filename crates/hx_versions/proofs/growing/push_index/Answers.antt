use Rattle.std.proofs.Common.{[], sym, subst}
use Rattle.std.proofs.lemmas.List.Elements.{All-push}
use Rattle.hx_index.specs.declared.index.Index.{Index}
use Rattle.hx_index.specs.Index.{Holds, NodePool}
use Rattle.hx_versions.specs.Store.{AreBare}
use Rattle.hx_versions.proofs.GrowingLemmas.{index_pushed}
use Rattle.hx_versions.proofs.growing.push_index.Goals as goal

pub returns-clause-ways : goal.returns-clause-ways
returns-clause-ways c =
    rw (c.in_ok-push.ensures.items) (index_pushed c.args.indexes.now.items c.new-index.result c.args.by c.args.ci c.new-index.ensures.method c.new-index.ensures.case)

pub returns-clause-bare : goal.returns-clause-bare
returns-clause-bare c bare =
    subst AreBare (sym c.in_ok-push.ensures.items)
    (All-push (λ (x : Index). (nodes : NodePool) → Holds nodes x []) c.args.indexes.now.items c.new-index.result bare c.new-index.ensures.holds)
