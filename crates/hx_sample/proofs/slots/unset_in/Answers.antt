use Rattle.hx_sample.proofs.ChangeLemmas.{dropped_unset, found_none, found_some, none_unset}
use Rattle.hx_sample.proofs.slots.unset_in.Goals as goal

pub find-requires : goal.find-requires
find-requires g c =
    let r = c.requires.leads in
    (r.1, r.2.lies)

pub drop_at-requires : goal.drop_at-requires
drop_at-requires g c =
    let r = c.requires.leads in
    let found = found_some c.args.slots.now r.1 c.args.name.now c.find.result c.in-Some.id (c.find.ensures r.1 r.2.lies) c.in-Some.is in
    (r.1, r.2.lies, found.0)

pub returns-in_default : goal.returns-in_default
returns-in_default g c owner xs h alone =
    let p = c.args.slots.now in
    none_unset p c.args.chain.now owner xs c.args.name.now h (found_none p xs c.args.name.now c.find.result (c.find.ensures xs h.lies) c.in_default.is) alone

pub returns : goal.returns
returns g c owner xs h alone =
    let p = c.args.slots.now in
    let id = c.in-Some.id in
    let found = found_some p xs c.args.name.now c.find.result id (c.find.ensures xs h.lies) c.in-Some.is in
    let t = c.drop_at.ensures.turns owner xs h found.0 in
    dropped_unset p c.drop_at.new.slots c.args.chain.now c.drop_at.new.chain owner xs t.0 id h t.1 c.args.name.now found alone
