use Rattle.std.proofs.Common.{◌≡◌, ◌+◌, ◌++◌, length}
use Rattle.hx_outside.specs.Makers.{ExpressionText}
use Rattle.hx_refs.specs.Additions.{new_entries, pairs_fault, PairsAskFor}
use Rattle.hx_refs.specs.Kept.{kept_demands}
use Rattle.hx_versions.specs.NewEntries.{added_entries, AreReadyFor}
use Rattle.hx_versions.specs.Rows.{use_ways}
use Rattle.hx_refs.proofs.judging.new_entries.Given as goal

abbrev pub invariant-loop-rest : goal.invariant-loop-rest
invariant-loop-rest g l =
    let demands = kept_demands l.reference.kept l.limits in
    record {
      entries : added_entries l.entries.items ++ new_entries l.version l.serial l.rest ≡ new_entries l.version l.fn.serial l.pairs;
      count : l.count + length l.rest ≡ l.fn.count + length l.pairs;
      serial : l.serial + length l.rest ≡ l.fn.serial + length l.pairs;
      ready : AreReadyFor (use_ways l.reference.kept.uses) l.entries.items;
      fault :
          pairs_fault demands l.count l.serial l.rest
          ≡ pairs_fault demands l.fn.count l.fn.serial l.pairs;
      asked : (text : ExpressionText)
          → PairsAskFor demands l.count l.serial l.rest text
          → PairsAskFor demands l.fn.count l.fn.serial l.pairs text;
      too_large : (g.M.ReMaker.state l.maker).too_large ≡ (g.M.ReMaker.state l.fn.maker).too_large;
      large : (g.M.ReMaker.state l.maker).large ≡ (g.M.ReMaker.state l.fn.maker).large;
    }

abbrev pub decreases-loop-rest : goal.decreases-loop-rest
decreases-loop-rest g l = length l.rest
