use Rattle.std.proofs.Common.{◌∙◌}
use Rattle.hx_index.proofs.ItemLemmas.{parts_empty}
use Rattle.hx_ebtree.proofs.NodeLemmas.{kept_on}
use Rattle.hx_index.proofs.index.Index.detach_any.Goals as goal

pub detach_wide-requires : goal.detach_wide-requires
detach_wide-requires g c =
    let r = c.requires in (r.0, (c.detach_keyed.ensures.takes.none r.0 r.1 c.in-None.is).1)

pub returns-in-Some-detach_wide-clause-some : goal.returns-in-Some-detach_wide-clause-some
returns-in-Some-detach_wide-clause-some g c items node h e =
    let keyed = c.detach_keyed.ensures.takes.none items h c.in-None.is in
    c.detach_wide.ensures.takes.some items node keyed.1 (c.in-Some-detach_wide.is ∙ e)

pub returns-in-None-detach_wide-clause-none : goal.returns-in-None-detach_wide-clause-none
returns-in-None-detach_wide-clause-none g c items h e =
    let keyed = c.detach_keyed.ensures.takes.none items h c.in-None.is in
    let wide = c.detach_wide.ensures.takes.none items keyed.1 c.in-None-detach_wide.is in
    let listed = c.detach_listed.ensures.takes.none items wide.1 e in
    (parts_empty items keyed.0 wide.0 listed.0, listed.1)

pub returns-in-None-detach_wide-clause-some : goal.returns-in-None-detach_wide-clause-some
returns-in-None-detach_wide-clause-some g c items node h e =
    let keyed = c.detach_keyed.ensures.takes.none items h c.in-None.is in
    let wide = c.detach_wide.ensures.takes.none items keyed.1 c.in-None-detach_wide.is in
    c.detach_listed.ensures.takes.some items node wide.1 e

pub returns-in-None-detach_wide-clause-kept : goal.returns-in-None-detach_wide-clause-kept
returns-in-None-detach_wide-clause-kept g c =
    kept_on c.args.nodes.now c.detach_wide.new.nodes c.detach_listed.new.nodes
    (kept_on c.args.nodes.now c.detach_keyed.new.nodes c.detach_wide.new.nodes c.detach_keyed.ensures.takes.kept c.detach_wide.ensures.takes.kept)
    c.detach_listed.ensures.takes.kept

pub returns-in-None-detach_wide-clause-others : goal.returns-in-None-detach_wide-clause-others
returns-in-None-detach_wide-clause-others g c items h k away =
    let keyed = c.detach_keyed.ensures.takes.none items h c.in-None.is in
    let wide = c.detach_wide.ensures.takes.none items keyed.1 c.in-None-detach_wide.is in
    c.detach_listed.ensures.takes.others items wide.1 k away
    ∙ c.detach_wide.ensures.takes.others items keyed.1 k away
    ∙ c.detach_keyed.ensures.takes.others items h k away
