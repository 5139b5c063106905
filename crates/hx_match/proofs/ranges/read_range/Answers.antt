use Rattle.std.proofs.Common.{rules, sym}
use Rattle.hx_match.proofs.RangeLemmas.{range_of_number}
use Rattle.hx_match.proofs.ranges.read_range.Goals as goal

pub returns-in-Some-read_i64 : goal.returns-in-Some-read_i64
returns-in-Some-read_i64 c =
    sym (range_of_number c.args.text.now _ (search rules) (search rules))
