use Rattle.std.proofs.Common.{◌≡◌, ◌++◌, drop, map}
use Rattle.hx_conv_text.specs.UrlDecoding.{space_for_plus, spaced_from}
use Rattle.hx_conv_text.proofs.url.with_spaces.Given as goal

abbrev pub invariant-loop-b : goal.invariant-loop-b
invariant-loop-b l =
    l.made.items ++ map space_for_plus (drop l.b-index l.after) ≡ spaced_from l.query l.text
