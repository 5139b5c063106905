use Rattle.std.proofs.Common.{sym, ◌∙◌}
use Rattle.hx_text.proofs.GrammarLemmas.{six_spelled, six_value, four_value, ip_unique, none_refused}
use Rattle.hx_text.proofs.address.read_ip.Goals as goal

pub returns-in-Some-clause-spelled : goal.returns-in-Some-clause-spelled
returns-in-Some-clause-spelled c = six_spelled c.args.text.now c.in-Some.a (sym c.in-Some.ensures)

pub returns-in-Some-clause-unique : goal.returns-in-Some-clause-unique
returns-in-Some-clause-unique c =
    λ ip h. six_value c.args.text.now c.in-Some.a (sym c.in-Some.ensures)
    ∙ ip_unique c.args.text.now ip h

pub returns-in-Some-read_dotted-clause-unique : goal.returns-in-Some-read_dotted-clause-unique
returns-in-Some-read_dotted-clause-unique c =
    λ ip h. four_value c.args.text.now c.in-Some-read_dotted.a (sym c.in-None.ensures)
    (sym c.in-Some-read_dotted.ensures)
    ∙ ip_unique c.args.text.now ip h

pub returns-in-None-read_dotted-clause-unique : goal.returns-in-None-read_dotted-clause-unique
returns-in-None-read_dotted-clause-unique c =
    λ ip h. absurd (none_refused c.args.text.now (sym c.in-None.ensures)
    (sym c.in-None-read_dotted.ensures) ip h)
