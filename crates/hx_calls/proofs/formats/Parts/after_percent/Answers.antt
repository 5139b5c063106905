use Rattle.std.proofs.Common.{◌≡◌, get_or, rules}
use Rattle.hx_calls.proofs.FormatSteps.{sign_on}
use Rattle.hx_calls.proofs.formats.Parts.after_percent.Goals as goal

pub returns-in_ok-push_byte-in-37-clause-answers :
    goal.returns-in_ok-push_byte-in-37-clause-answers
returns-in_ok-push_byte-in-37-clause-answers c next =
    let byte : get_or c.args.text.now 0 0 ≡ 37 = search rules in
    rw (c.in_ok-push_byte-in-37.ensures.parts, c.in_ok-push_byte-in-37.ensures.text)
    (sign_on c.args.self.now.parts c.args.self.now.text.items next c.args.line c.args.text.now
    c.args.known.now c.in-37.len_at_least byte)
