use Rattle.std.proofs.Common.{◌≡◌, [], drop, unwrap_or}
use Rattle.hx_base.specs.Pairs.{pairs_of, value_at}
use Rattle.hx_words.proofs.variable.lookup.Given as goal

abbrev pub invariant-loop-known : goal.invariant-loop-known
invariant-loop-known l =
    unwrap_or (value_at (pairs_of (drop l.known-index l.env)) l.name) []
    ≡ unwrap_or (value_at (pairs_of l.env) l.name) []
