use Rattle.std.proofs.Common.{◌≡◌, ◌≤◌, take}
use Rattle.hx_trace_run.specs.Comparing.{line_feeds}
use Rattle.hx_trace_run.proofs.agreement.line_feeds.Given as goal

abbrev pub invariant-loop-b : goal.invariant-loop-b
invariant-loop-b l = record {
  count : l.count ≡ line_feeds (take l.b-index l.text);
  within : l.count ≤ l.b-index;
}
