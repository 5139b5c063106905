use Rattle.hx_sample.proofs.ChangeLemmas.{put_lies, put_off, put_turns, set_live}
use Rattle.hx_sample.proofs.slots.put_last.Goals as goal

pub push_back-requires-clause-live : goal.push_back-requires-clause-live
push_back-requires-clause-live g c =
    set_live c.take-id.new.self c.take-id.result c.args.variable c.take-id.ensures.updates.changed

pub push_back-requires-clause-lies : goal.push_back-requires-clause-lies
push_back-requires-clause-lies g c =
    let r = c.requires.lies in
    let took = c.take-id in (
      r.0,
      put_lies c.args.slots.now took.new.self c.args.chain.now r.0 took.result c.args.variable r.1 took.ensures.was_free took.ensures.updates,
      put_off c.args.slots.now c.args.chain.now r.0 took.result r.1 took.ensures.was_free,
    )

pub returns : goal.returns
returns g c xs lies =
    let took = c.take-id in
    let put = c.push_back in
    let p = c.args.slots.now in
    let r = took.new.self in
    let still = put_lies p r c.args.chain.now xs took.result c.args.variable lies took.ensures.was_free took.ensures.updates in
    let off = put_off p c.args.chain.now xs took.result lies took.ensures.was_free in (
      took.result,
      took.ensures.was_free,
      put_turns p r put.new.pool c.args.chain.now put.new.self xs took.result c.args.variable lies took.ensures.was_free took.ensures.updates put.ensures.values
          (put.ensures.lies xs still off) (λ zs e apart there. put.ensures.apart xs zs e still apart there),
    )
