use Rattle.std.proofs.Common.{[], ◌∷◌, ◌++◌}
use Rattle.std.proofs.lemmas.Result.{on_ok_weaker}
use Rattle.hx_sample.proofs.ChangeLemmas.{found_live, found_none, found_set, found_some, new_put}
use Rattle.hx_sample.proofs.slots.set_in.Goals as goal

pub find-requires : goal.find-requires
find-requires g c =
    let r = c.requires.leads in
    (r.0, r.1.lies)

pub put_value-requires : goal.put_value-requires
put_value-requires g c =
    let r = c.requires.leads in
    let p = c.args.slots.now in
    found_live p r.0 c.args.name.now c.in-Some.id (found_some p r.0 c.args.name.now c.find.result c.in-Some.id (c.find.ensures r.0 r.1.lies) c.in-Some.is)

pub add-requires : goal.add-requires
add-requires g c =
    let r = c.requires.leads in
    (r.0, r.1.lies)

pub returns-in-Some-clause-ok : goal.returns-in-Some-clause-ok
returns-in-Some-clause-ok g c xs h alone =
    let p = c.args.slots.now in
    let found = found_some p xs c.args.name.now c.find.result c.in-Some.id (c.find.ensures xs h.lies) c.in-Some.is in
    found_set p c.put_value.new.slots c.args.chain.now c.args.owner xs c.args.name.now c.in-Some.id c.args.value h found c.put_value.ensures alone

pub returns-clause-ok : goal.returns-clause-ok
returns-clause-ok g c =
    let p = c.args.slots.now in
    on_ok_weaker c.add.result
    (λ adds xs h alone.
    let t = adds xs h.lies in
    let none = found_none p xs c.args.name.now c.find.result (c.find.ensures xs h.lies) c.in-None.is in
    new_put p c.add.new.slots c.args.chain.now c.add.new.chain c.args.owner xs (xs ++ t.0 ∷ []) c.args.name.now t.0 c.args.value h none t.1 t.2 alone)
    c.add.ensures.ok
