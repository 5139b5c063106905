use Rattle.std.proofs.Common.{refl}
use Rattle.std.specs.Fmt.{decimal}
use Rattle.hx_core.proofs.VerdictLemmas.{answer_with_head, answer_without_head}
use Rattle.hx_core.proofs.verdicts.append_answer.Goals as goal

pub returns-in_ok-append_changed-in-Pass : goal.returns-in_ok-append_changed-in-Pass
returns-in_ok-append_changed-in-Pass c =
    answer_with_head c.args.bytes.now.items c.append_verdict.new.bytes.items c.append_changed.new.bytes.items (decimal c.args.number) c.args.verdict.now c.args.read.now c.args.made.now
    (rw c.in-Pass.is refl) c.in_ok-append_verdict.ensures c.in_ok-append_changed-in-Pass.ensures

pub returns-in-Deny : goal.returns-in-Deny
returns-in-Deny c =
    answer_without_head c.args.bytes.now.items c.append_verdict.new.bytes.items (decimal c.args.number) c.args.verdict.now c.args.read.now c.args.made.now
    (rw c.in-Deny.is refl) c.in_ok-append_verdict.ensures

pub returns-in-Redirect : goal.returns-in-Redirect
returns-in-Redirect c =
    answer_without_head c.args.bytes.now.items c.append_verdict.new.bytes.items (decimal c.args.number) c.args.verdict.now c.args.read.now c.args.made.now
    (rw c.in-Redirect.is refl) c.in_ok-append_verdict.ensures

pub returns-in-Error : goal.returns-in-Error
returns-in-Error c =
    answer_without_head c.args.bytes.now.items c.append_verdict.new.bytes.items (decimal c.args.number) c.args.verdict.now c.args.read.now c.args.made.now
    (rw c.in-Error.is refl) c.in_ok-append_verdict.ensures
