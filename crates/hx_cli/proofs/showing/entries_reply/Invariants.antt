use Rattle.std.proofs.Common.{◌≡◌, map}
use Rattle.hx_refs.specs.References.{entries_in}
use Rattle.hx_cli.specs.Replies.{entry_text}
use Rattle.hx_cli.proofs.ReplyLemmas.{with_lines}
use Rattle.hx_cli.proofs.showing.entries_reply.Given as goal

-- with the lines of the entries that are left it is the reply
abbrev pub invariant-loop-entry : goal.invariant-loop-entry
invariant-loop-entry l =
    with_lines l.reply (map (entry_text l.is_map) l.entries)
    ≡ record { code = 0; lines = map (entry_text l.is_map) (entries_in l.refs.content l.r l.fn.ver) }
