use Rattle.std.specs.Prelude.{◌≡◌, take}
use Rattle.hx_acl.proofs.test.copied_texts.Given as goal

abbrev pub invariant-loop-text : goal.invariant-loop-text
invariant-loop-text l = l.copied ≡ take l.text-index l.texts
