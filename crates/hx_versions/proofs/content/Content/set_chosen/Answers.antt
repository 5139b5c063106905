use Rattle.hx_versions.proofs.content.Content.set_chosen.Goals as goal

pub give_values-requires : goal.give_values-requires
give_values-requires g c =
    let r = c.requires in (r.0, r.1, c.args.value.now, r.2, c.in_ok-copies.ensures r.0 r.1 r.2)

pub returns-clause-ok : goal.returns-clause-ok
returns-clause-ok g c v placed h =
    c.give_values.ensures.content v placed c.args.value.now h (c.in_ok-copies.ensures v placed h)

pub returns-clause-others : goal.returns-clause-others
returns-clause-others g c v placed h =
    c.give_values.ensures.others v placed c.args.value.now h (c.in_ok-copies.ensures v placed h)
