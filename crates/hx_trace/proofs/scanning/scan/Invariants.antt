use Rattle.std.specs.Prelude.{option_map}
use Rattle.hx_sample.specs.Seen.{value_of}
use Rattle.hx_sample.specs.Tables.{entry_of}
use Rattle.hx_trace.proofs.ScanLemmas.{Leaves}
use Rattle.hx_trace.proofs.scanning.scan.Given as goal

abbrev pub invariant-loop-entry : goal.invariant-loop-entry
invariant-loop-entry l =
    Leaves l.by l.ci (value_of l.sample) l.fn.entries l.left (option_map entry_of l.best)
