use Rattle.std.specs.Prelude.{◌≡◌, take}
use Rattle.hx_acl.proofs.test.copied_heads.Given as goal

abbrev pub invariant-loop-head : goal.invariant-loop-head
invariant-loop-head l = l.copied ≡ take l.head-index l.heads
