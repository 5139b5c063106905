use Rattle.std.proofs.Common.{ap, refl, Err}
use Rattle.std.specs.Prelude.{Some}
use Rattle.hx_cli.specs.CommandLine.{words_of}
use Rattle.hx_cli.proofs.LineLemmas.{bad_line}
use Rattle.hx_cli.proofs.sessions.Sessions.outside_line.Goals as goal

pub returns-in-Err-BadCommand-clause-reply : goal.returns-in-Err-BadCommand-clause-reply
returns-in-Err-BadCommand-clause-reply g c =
    let says = c.in-Err-BadCommand.ensures in
    let bad = ap Err c.in-Err-BadCommand.field-0-is in
    rw (bad_line c.args.session (words_of c.args.text.now) c.args.self.now c.args.refs.now.content (says.bad_command bad).0 (says.not_found bad))
    (ap Some c.new.ensures)

pub returns-in-Err-BadCommand-clause-payloads : goal.returns-in-Err-BadCommand-clause-payloads
returns-in-Err-BadCommand-clause-payloads g c =
    let says = c.in-Err-BadCommand.ensures in
    let bad = ap Err c.in-Err-BadCommand.field-0-is in
    rw (bad_line c.args.session (words_of c.args.text.now) c.args.self.now c.args.refs.now.content (says.bad_command bad).0 (says.not_found bad))
    refl

pub returns-in-Err-BadCommand-clause-refs : goal.returns-in-Err-BadCommand-clause-refs
returns-in-Err-BadCommand-clause-refs g c =
    let says = c.in-Err-BadCommand.ensures in
    let bad = ap Err c.in-Err-BadCommand.field-0-is in
    rw (bad_line c.args.session (words_of c.args.text.now) c.args.self.now c.args.refs.now.content (says.bad_command bad).0 (says.not_found bad))
    refl
