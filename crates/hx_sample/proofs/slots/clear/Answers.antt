use Rattle.std.proofs.Common.{arith, sym, ◌∙◌}
use Rattle.hx_pool.specs.Chain.{links_at}
use Rattle.hx_pool.proofs.ChainLemmas.{first_in}
use Rattle.hx_sample.specs.Slots.{variable_links}
use Rattle.hx_sample.proofs.ChangeLemmas.{cleared_none, clears_begins, clears_on}
use Rattle.hx_sample.proofs.slots.clear.Goals as goal

pub drop_at-requires : goal.drop_at-requires
drop_at-requires g c =
    let r = c.requires.leads in
    let k = c.loop-id.invariant r.0 r.1 r.2 in
    let xs = k.step.own.0 in
    let lies = k.step.own.1.lies in
    (xs, lies, first_in xs c.in-Some.id (sym (c.front.ensures (links_at variable_links c.loop-id.slots) xs lies) ∙ c.in-Some.is))

pub loop-id-init : goal.loop-id-init
loop-id-init g c owner xs h = clears_begins c.args.slots.now c.args.chain.now owner xs h

pub loop-id-preserved : goal.loop-id-preserved
loop-id-preserved g c owner xs h =
    let k = c.loop-id.invariant owner xs h in
    let ys = k.step.own.0 in
    let lies = k.step.own.1.lies in
    let there = first_in ys c.in-Some.id (sym (c.front.ensures (links_at variable_links c.loop-id.slots) ys lies) ∙ c.in-Some.is) in
    let t = c.drop_at.ensures.turns owner ys k.step.own.1 there in
    clears_on c.args.slots.now c.loop-id.slots c.drop_at.new.slots c.loop-id.chain c.drop_at.new.chain owner t.0 c.in-Some.id k there t.1

pub loop-id-smaller : goal.loop-id-smaller
loop-id-smaller g c = omega (arith, c.drop_at.ensures.live)

pub returns-clause-step : goal.returns-clause-step
returns-clause-step g c owner xs h = (c.loop-id.invariant owner xs h).step

pub returns-clause-none : goal.returns-clause-none
returns-clause-none g c owner xs h =
    let k = c.loop-id.invariant owner xs h in
    cleared_none c.args.slots.now c.loop-id.slots c.loop-id.chain owner k (sym c.in_default.is ∙ c.front.ensures (links_at variable_links c.loop-id.slots) k.step.own.0 k.step.own.1.lies)

pub returns-clause-loses : goal.returns-clause-loses
returns-clause-loses g c owner xs h = (c.loop-id.invariant owner xs h).loses
