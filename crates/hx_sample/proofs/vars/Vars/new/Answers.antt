use Rattle.hx_sample.proofs.OwnerLemmas.{new_kept}
use Rattle.hx_sample.proofs.VarLemmas.{none_seen}
use Rattle.hx_sample.proofs.vars.Vars.new.Goals as goal

pub invariant_of-result : goal.invariant_of-result
invariant_of-result c =
    new_kept (record { slots = c.new.result; process = c.new-2.result; sessions = c.new-3.result; transaction = c.new-4.result; request = c.new-5.result; response = c.new-6.result; rooms = c.new-7.result }) c.new.ensures.none c.new-3.ensures.empty c.new-2.ensures c.new-4.ensures c.new-5.ensures c.new-6.ensures

pub returns : goal.returns
returns c = none_seen c.new.result c.new.ensures.none
