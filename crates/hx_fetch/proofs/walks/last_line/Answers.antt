use Rattle.std.proofs.Common.{sym, ◌∙◌}
use Rattle.std.specs.Option.{option_copied}
use Rattle.hx_fetch.proofs.LineLemmas.{last_line_is}
use Rattle.hx_fetch.proofs.walks.last_line.Goals as goal

pub returns-then-is_header_name : goal.returns-then-is_header_name
returns-then-is_header_name c =
    last_line_is (option_copied c.args.name) c.args.message.now.headers c.loop-left.left (c.in-Some.line_name.now, c.in-Some.line.now) c.loop-left-test.true c.in-Some.ensures.line (sym c.is_header_name.ensures ∙ c.if-is_header_name.true) c.loop-left.invariant.0
