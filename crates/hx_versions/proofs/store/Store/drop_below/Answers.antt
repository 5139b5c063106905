use Rattle.std.proofs.Common.{◌≡◌, ◌+◌, ◌*◌, ◌≤◌, length, ap, arith}
use Rattle.hx_versions.specs.Rows.{row_at}
use Rattle.hx_versions.proofs.DropLoopLemmas.{all_dropped, dropped_more, none_dropped, others_dropped, row_left, used_dropped}
use Rattle.hx_versions.proofs.store.Store.drop_below.Goals as goal

pub loop-init : goal.loop-init
loop-init g c =
    none_dropped c.args.number c.args.r c.args.self.now c.args.steps.now c.requires.row

pub drop_first-requires : goal.drop_first-requires
drop_first-requires g c = record {
  row = row_left c.args.number c.args.r c.args.self.now c.loop.self c.args.steps.now c.loop.steps c.loop.invariant c.requires.row;
}

pub loop-preserved : goal.loop-preserved
loop-preserved g c =
    let step = c.drop_first in
    dropped_more c.args.number c.args.r c.args.self.now c.loop.self c.args.steps.now c.loop.steps c.loop.invariant step.new.self step.new.steps (step.ensures.dropped c.loop-test.true) step.ensures.others step.ensures.used (step.ensures.dropped_cost c.loop-test.true)

pub loop-smaller : goal.loop-smaller
loop-smaller g c =
    let one = c.drop_first.ensures.dropped c.loop-test.true in
    omega (arith, ap length one.1)

pub returns-clause-dropped : goal.returns-clause-dropped
returns-clause-dropped g c =
    let last = c.drop_first.ensures.last c.loop-test.false in
    all_dropped c.args.number c.args.r c.args.self.now c.loop.self c.args.steps.now c.loop.steps c.loop.invariant c.drop_first.new.self last.0 last.1

pub returns-clause-others : goal.returns-clause-others
returns-clause-others g c =
    let last = c.drop_first.ensures.last c.loop-test.false in
    others_dropped c.args.number c.args.r c.args.self.now c.loop.self c.args.steps.now c.loop.steps c.loop.invariant c.drop_first.new.self last.0

pub returns-clause-used : goal.returns-clause-used
returns-clause-used g c =
    let last = c.drop_first.ensures.last c.loop-test.false in
    used_dropped c.args.number c.args.r c.args.self.now c.loop.self c.args.steps.now c.loop.steps c.loop.invariant c.drop_first.new.self last.0

pub returns-clause-cost : goal.returns-clause-cost
returns-clause-cost g c =
    omega (arith, c.loop.invariant.cost, c.drop_first.ensures.cost)
