use Rattle.hx_cli.specs.CommandLine.{words_of}
use Rattle.hx_cli.proofs.KeepLemmas.{outside_answered}
use Rattle.hx_cli.proofs.sessions.Sessions.line.Goals as goal

pub returns-in_default-clause-heads : goal.returns-in_default-clause-heads
returns-in_default-clause-heads g c =
    (outside_answered c.outside_line.result c.args.session (words_of c.args.text.now) c.args.self.now c.args.refs.now c.outside_line.new.refs
    c.outside_line.ensures.refs c.outside_line.ensures.refs_kept).heads

pub returns-in_default-clause-lists : goal.returns-in_default-clause-lists
returns-in_default-clause-lists g c =
    (outside_answered c.outside_line.result c.args.session (words_of c.args.text.now) c.args.self.now c.args.refs.now c.outside_line.new.refs
    c.outside_line.ensures.refs c.outside_line.ensures.refs_kept).lists
