use Rattle.std.proofs.Common.{◌≡◌, drop}
use Rattle.hx_base.specs.Pairs.{pairs_of, value_at}
use Rattle.hx_outside.proofs.mem_files.find.Given as goal

abbrev pub invariant-loop-file : goal.invariant-loop-file
invariant-loop-file l =
    value_at (pairs_of l.files) l.name ≡ value_at (pairs_of (drop l.file-index l.files)) l.name
