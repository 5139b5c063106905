use Rattle.std.specs.Net.Text.{longest_zero_run}
use Rattle.hx_text.specs.Address.{ip_text}
use Rattle.hx_text.specs.Printing.{groups_of}
use Rattle.std.proofs.Common.{arith}
use Rattle.hx_text.proofs.PrintLemmas.{hex_one, first_longest_run, compressed_run, plain_groups}
use Rattle.hx_text.proofs.TextLemmas.{mapped_shown, no_capital, no_leading_zero}
use Rattle.hx_text.proofs.laws.printed_ipv6_is_canonical.Goals as goal

pub returns-clause-compressed : goal.returns-clause-compressed
unfolding ip_text
returns-clause-compressed c = compressed_run (groups_of c.args.address)

pub returns-clause-plain : goal.returns-clause-plain
unfolding ip_text
returns-clause-plain c = plain_groups (groups_of c.args.address)

pub returns-clause-some : goal.returns-clause-some
returns-clause-some c =
    (longest_zero_run (groups_of c.args.address), first_longest_run (groups_of c.args.address))

pub returns-clause-mapped : goal.returns-clause-mapped
unfolding ip_text
returns-clause-mapped c = mapped_shown

pub returns-clause-lower : goal.returns-clause-lower
unfolding ip_text
returns-clause-lower c = no_capital c.args.address

pub returns-clause-short : goal.returns-clause-short
returns-clause-short c = no_leading_zero

pub returns-clause-zero : goal.returns-clause-zero
returns-clause-zero c = hex_one 0 (omega arith)
