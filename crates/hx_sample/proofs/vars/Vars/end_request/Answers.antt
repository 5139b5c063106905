use Rattle.std.proofs.Common.{ap, ◌∙◌}
use Rattle.hx_sample.specs.declared.stored_variable.Owner.TheVariants.{Transaction, Request, Response}
use Rattle.hx_sample.specs.Vars.{after_request}
use Rattle.hx_sample.proofs.OwnerLemmas.{request_step, response_step, transaction_step}
use Rattle.hx_sample.proofs.StepLemmas.{request_ended}
use Rattle.hx_sample.proofs.vars.Vars.end_request.Goals as goal

pub clear-requires-clause-leads : goal.clear-requires-clause-leads
clear-requires-clause-leads c =
    let l = c.self.invariant.owners Transaction in
    (Transaction, l.0, l.1)

pub clear-requires-2-clause-leads : goal.clear-requires-2-clause-leads
clear-requires-2-clause-leads c =
    let vars = c.self.inside in
    let kept = c.self.invariant in
    let l = kept.owners Transaction in
    let first = c.clear.ensures.step Transaction l.0 l.1 in
    let one = transaction_step vars c.clear.new.slots c.clear.new.chain kept first in
    let m = one.owners Request in
    (Request, m.0, m.1)

pub clear-requires-3-clause-leads : goal.clear-requires-3-clause-leads
clear-requires-3-clause-leads c =
    let vars = c.self.inside in
    let kept = c.self.invariant in
    let l = kept.owners Transaction in
    let first = c.clear.ensures.step Transaction l.0 l.1 in
    let one = transaction_step vars c.clear.new.slots c.clear.new.chain kept first in
    let m = one.owners Request in
    let second = c.clear-2.ensures.step Request m.0 m.1 in
    let two = request_step (record vars { slots = c.clear.new.slots; transaction = c.clear.new.chain }) c.clear-2.new.slots c.clear-2.new.chain one second in
    let n = two.owners Response in
    (Response, n.0, n.1)

pub returns : goal.returns
returns c =
    let vars = c.self.inside in
    let kept = c.self.invariant in
    let l = kept.owners Transaction in
    let first = c.clear.ensures.step Transaction l.0 l.1 in
    let one = transaction_step vars c.clear.new.slots c.clear.new.chain kept first in
    let m = one.owners Request in
    let second = c.clear-2.ensures.step Request m.0 m.1 in
    let two = request_step (record vars { slots = c.clear.new.slots; transaction = c.clear.new.chain }) c.clear-2.new.slots c.clear-2.new.chain one second in
    let n = two.owners Response in
    let third = c.clear-3.ensures.step Response n.0 n.1 in
    request_ended vars.slots c.clear.new.slots c.clear-2.new.slots c.clear-3.new.slots c.clear.new.chain c.clear-2.new.chain c.clear-3.new.chain kept.alone first second third (c.clear.ensures.none Transaction l.0 l.1) (c.clear-2.ensures.none Request m.0 m.1) (c.clear-3.ensures.none Response n.0 n.1) (c.clear.ensures.loses Transaction l.0 l.1) (c.clear-2.ensures.loses Request m.0 m.1) (c.clear-3.ensures.loses Response n.0 n.1)
    ∙ ap after_request c.self.view_is

pub invariant_of-self : goal.invariant_of-self
invariant_of-self c =
    let vars = c.self.inside in
    let kept = c.self.invariant in
    let l = kept.owners Transaction in
    let first = c.clear.ensures.step Transaction l.0 l.1 in
    let one = transaction_step vars c.clear.new.slots c.clear.new.chain kept first in
    let m = one.owners Request in
    let second = c.clear-2.ensures.step Request m.0 m.1 in
    let two = request_step (record vars { slots = c.clear.new.slots; transaction = c.clear.new.chain }) c.clear-2.new.slots c.clear-2.new.chain one second in
    let n = two.owners Response in
    let third = c.clear-3.ensures.step Response n.0 n.1 in
    response_step (record vars { slots = c.clear-2.new.slots; transaction = c.clear.new.chain; request = c.clear-2.new.chain }) c.clear-3.new.slots c.clear-3.new.chain two third
