use Rattle.std.proofs.Common.{arith}
use Rattle.std.specs.Prelude.{option_map}
use Rattle.hx_sample.specs.Tables.{entry_of}
use Rattle.hx_cli.proofs.UseLineLemmas.{few_ordered, no_use, tells_all, tells_more, tells_none, use_head, use_here, use_within}
use Rattle.hx_cli.proofs.showing.uses_reply.Goals as goal

pub loop-by-init : goal.loop-by-init
loop-by-init g c =
    tells_none c.args.is_map c.args.refs.now.content c.args.r c.args.text.now c.new-reply.result c.new-reply.ensures

pub find-requires-clause-head : goal.find-requires-clause-head
find-requires-clause-head g c =
    let here = use_here c.args.refs.now.content c.args.r c.loop-by.k c.in-Some.by c.in-Some.ci c.in-Some.head c.in-Some.ensures in
    (use_head here).0

pub find-requires-clause-by : goal.find-requires-clause-by
find-requires-clause-by g c =
    let here = use_here c.args.refs.now.content c.args.r c.loop-by.k c.in-Some.by c.in-Some.ci c.in-Some.head c.in-Some.ensures in
    (use_head here).1

pub overflow_add-k : goal.overflow_add-k
overflow_add-k g c =
    let here = use_here c.args.refs.now.content c.args.r c.loop-by.k c.in-Some.by c.in-Some.ci c.in-Some.head c.in-Some.ensures in
    omega (arith, few_ordered c.args.refs.now.content c.args.r, use_within here)

pub loop-by-smaller : goal.loop-by-smaller
loop-by-smaller g c =
    let here = use_here c.args.refs.now.content c.args.r c.loop-by.k c.in-Some.by c.in-Some.ci c.in-Some.head c.in-Some.ensures in
    omega (arith, use_within here)

pub loop-by-preserved : goal.loop-by-preserved
loop-by-preserved g c =
    let here = use_here c.args.refs.now.content c.args.r c.loop-by.k c.in-Some.by c.in-Some.ci c.in-Some.head c.in-Some.ensures in
    rw c.in_ok-push.ensures.ok
    (tells_more c.in_ok-use_line.field-0 (option_map entry_of c.in_ok-found.found) c.loop-by.invariant here c.in_ok-use_line.ensures c.in_ok-found.ensures)

pub returns : goal.returns
returns g c =
    tells_all c.loop-by.invariant (no_use c.args.refs.now.content c.args.r c.loop-by.k c.in_default.ensures)
