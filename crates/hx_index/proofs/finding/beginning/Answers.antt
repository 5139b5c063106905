use Rattle.std.proofs.Common.{sym, arith}
use Rattle.hx_index.proofs.NumberLemmas.{cut_length, cut_whole}
use Rattle.hx_index.proofs.finding.beginning.Goals as goal

pub slice_bounds-result-end : goal.slice_bounds-result-end
slice_bounds-result-end c = sym (cut_length 1152921504606846976 c.args.text.now (omega arith))

pub returns-then-text-gt-LONGEST-clause-short : goal.returns-then-text-gt-LONGEST-clause-short
returns-then-text-gt-LONGEST-clause-short c = omega (arith, cut_length 1152921504606846976 c.args.text.now (omega arith))

pub returns-then-text-gt-LONGEST-clause-within : goal.returns-then-text-gt-LONGEST-clause-within
returns-then-text-gt-LONGEST-clause-within c = omega (arith, cut_length 1152921504606846976 c.args.text.now (omega arith))

pub returns-else-text-gt-LONGEST-clause-part : goal.returns-else-text-gt-LONGEST-clause-part
returns-else-text-gt-LONGEST-clause-part c = cut_whole 1152921504606846976 c.args.text.now (omega arith)
