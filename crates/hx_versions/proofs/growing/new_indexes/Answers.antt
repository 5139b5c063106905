use Rattle.std.proofs.Common.{arith, [], refl, sym, subst}
use Rattle.std.proofs.lemmas.Grind.{common_steps}
use Rattle.std.proofs.lemmas.List.Elements.{All-nil}
use Rattle.hx_index.specs.declared.index.Index.{Index}
use Rattle.hx_index.specs.Index.{Holds, NodePool}
use Rattle.hx_versions.specs.Store.{AreBare}
use Rattle.hx_versions.proofs.growing.new_indexes.Goals as goal

pub loop-rest-init : goal.loop-rest-init
loop-rest-init c = record {
  ways = rw (c.new-indexes.ensures.items) refl;
  bare = subst AreBare (sym c.new-indexes.ensures.items) (All-nil (λ (x : Index). (nodes : NodePool) → Holds nodes x []));
}

pub loop-rest-preserved : goal.loop-rest-preserved
loop-rest-preserved c = record {
  ways = grind (arith, common_steps);
  bare = c.in_ok-push_index.ensures.bare c.loop-rest.invariant.bare;
}

pub returns-clause-bare : goal.returns-clause-bare
returns-clause-bare c = c.loop-rest.invariant.bare
