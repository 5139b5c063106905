use Rattle.std.proofs.Common.{◌≡◌, false, nat_eq, arith, ◌∙◌}
use Rattle.std.proofs.lemmas.Bool.Decides.{nat_tests}
use Rattle.hx_ebtree.specs.Bits.{bits_of}
use Rattle.hx_ebtree.proofs.SplitLemmas.{same_by_split, other_lengths}
use Rattle.hx_ebtree.proofs.exact.same_key.Goals as goal

pub returns-then-a_bits-b_bits : goal.returns-then-a_bits-b_bits
returns-then-a_bits-b_bits c =
    same_by_split (bits_of c.args.a.now c.args.a_bits) (bits_of c.args.b.now c.args.b_bits) c.split.result c.is_none.result c.split.ensures c.is_none.ensures

pub returns-else-a_bits-b_bits : goal.returns-else-a_bits-b_bits
returns-else-a_bits-b_bits c =
    let other = c.if-a_bits-b_bits.false in
    let differ : nat_eq c.args.a_bits c.args.b_bits ≡ false = grind (arith, nat_tests) in
    differ ∙ other_lengths c.args.a.now c.args.b.now c.args.a_bits c.args.b_bits other
