use Rattle.std.proofs.Common.{◌≡◌, ◌++◌, length}
use Rattle.hx_outside.specs.Makers.{ExpressionText}
use Rattle.hx_refs.specs.Additions.{refuses_key, IsReadAs}
use Rattle.hx_versions.specs.NewEntries.{prepared_patterns}
use Rattle.hx_refs.specs.Kept.{TakePatterns}
use Rattle.hx_versions.specs.Rows.{use_ways}
use Rattle.hx_refs.proofs.judging.prepare_keys.Given as goal

abbrev pub invariant-loop-rest : goal.invariant-loop-rest
invariant-loop-rest g l = record {
  methods : TakePatterns l.rest;
  prepared :
      l.prepared.items ++ prepared_patterns l.key (use_ways l.rest)
      ≡ prepared_patterns l.key (use_ways l.uses);
  refused : refuses_key l.rest l.key ≡ refuses_key l.uses l.key;
  asked : (text : ExpressionText) → IsReadAs l.rest l.key text → IsReadAs l.uses l.key text;
  too_large : (g.M.ReMaker.state l.maker).too_large ≡ (g.M.ReMaker.state l.fn.maker).too_large;
  large : (g.M.ReMaker.state l.maker).large ≡ (g.M.ReMaker.state l.fn.maker).large;
}

abbrev pub decreases-loop-rest : goal.decreases-loop-rest
decreases-loop-rest g l = length l.rest
