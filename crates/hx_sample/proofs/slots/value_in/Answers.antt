use Rattle.hx_sample.proofs.ChangeLemmas.{found_live, found_none, found_some, value_got, value_none}
use Rattle.hx_sample.proofs.slots.value_in.Goals as goal

pub find-requires : goal.find-requires
find-requires g c =
    let r = c.requires.leads in
    (r.1, r.2.lies)

pub get-requires : goal.get-requires
get-requires g c =
    let r = c.requires.leads in
    let p = c.args.slots.now in
    found_live p r.1 c.args.name.now c.in-Some.id (found_some p r.1 c.args.name.now c.find.result c.in-Some.id (c.find.ensures r.1 r.2.lies) c.in-Some.is)

pub returns-in-Some : goal.returns-in-Some
returns-in-Some g c owner xs h =
    let p = c.args.slots.now in
    value_got p c.args.chain.now owner xs c.args.name.now c.in-Some.id c.get.result.now h
    (found_some p xs c.args.name.now c.find.result c.in-Some.id (c.find.ensures xs h.lies) c.in-Some.is) c.get.ensures.value

pub returns : goal.returns
returns g c owner xs h =
    let p = c.args.slots.now in
    value_none p c.args.chain.now owner xs c.args.name.now h (found_none p xs c.args.name.now c.find.result (c.find.ensures xs h.lies) c.in-None.is)
