use Rattle.std.proofs.Common.{◌≡◌, take}
use Rattle.hx_base.specs.Pairs.{pairs_of}
use Rattle.hx_program.specs.Machine.{texts_of, variables_of}
use Rattle.hx_program.proofs.machine.variables.Given as goal

abbrev pub invariant-loop-entry : goal.invariant-loop-entry
invariant-loop-entry l = pairs_of l.pairs.items ≡ variables_of (texts_of (take l.entry-index l.entries))
