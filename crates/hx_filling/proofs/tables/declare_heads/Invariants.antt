use Rattle.std.proofs.Common.{◌≡◌, ◌<◌, ℕ, length}
use Rattle.std.specs.List.{All}
use Rattle.hx_refs.specs.References.{HasHadNone}
use Rattle.hx_calls.specs.TableSpecs.{IsHeadOf}
use Rattle.hx_filling.specs.References.{with_heads}
use Rattle.hx_filling.proofs.tables.declare_heads.Given as goal

abbrev pub invariant-loop-rest : goal.invariant-loop-rest
invariant-loop-rest l = record {
  heads : All (IsHeadOf (length l.refs.content.references)) l.rest;
  none : (r : ℕ) → r < length l.refs.content.references → HasHadNone l.refs.content r;
  declared : with_heads l.rest l.refs.content ≡ with_heads l.heads l.fn.refs.content;
}

abbrev pub decreases-loop-rest : goal.decreases-loop-rest
decreases-loop-rest l = length l.rest
