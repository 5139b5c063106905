use Rattle.std.proofs.Common.{◌<◌, length}
use Rattle.hx_refs.specs.References.{HasHadNone}
use Rattle.hx_cases_acls.proofs.descriptions.add_parts.Given as goal

-- nothing was added to the reference
abbrev pub invariant-loop-piece : goal.invariant-loop-piece
invariant-loop-piece l = record {
  next : (goal.iterator-loop-piece).can_next l.piece-iterator;
  finite : (goal.iterator-loop-piece).is_finite l.piece-iterator;
  within : l.r < length l.refs.content.references;
  none : HasHadNone l.refs.content l.r;
}
