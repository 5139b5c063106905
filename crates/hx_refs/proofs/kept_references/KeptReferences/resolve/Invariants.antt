use Rattle.std.proofs.Common.{◌≡◌, ◌+◌, ◌≤◌, length}
use Rattle.hx_refs.specs.Kept.{shown_references}
use Rattle.hx_refs.specs.Naming.{named_number}
use Rattle.hx_refs.proofs.NamingLemmas.{bare_references, resolution_from}
use Rattle.hx_refs.proofs.kept_references.KeptReferences.resolve.Given as goal

-- what is left gives the answer of all
abbrev pub invariant-loop-rest : goal.invariant-loop-rest
invariant-loop-rest l = record {
  found :
      resolution_from (named_number l.word) l.word l.side l.position (bare_references l.rest)
      ≡ resolution_from (named_number l.word) l.word l.side 0 (shown_references l.self.kept);
  few : l.position + length l.rest ≤ 65536;
}

abbrev pub decreases-loop-rest : goal.decreases-loop-rest
decreases-loop-rest l = length l.rest
