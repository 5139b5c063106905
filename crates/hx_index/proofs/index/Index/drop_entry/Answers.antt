use Rattle.std.proofs.Common.{sym, ap, ◌∙◌}
use Rattle.hx_match.specs.Patterns.{PatternText}
use Rattle.hx_index.specs.Parts.{pattern_part}
use Rattle.hx_ebtree.proofs.NodeLemmas.{kept_live}
use Rattle.hx_index.proofs.HoldingLemmas.{apart_frame, holds_live, in_its_part}
use Rattle.hx_index.proofs.NodeUseLemmas.{given_back, node_use, other_than}
use Rattle.hx_index.proofs.index.Index.drop_entry.Goals as goal

pub get-requires : goal.get-requires
get-requires g c =
    let r = c.requires in holds_live c.args.nodes.now c.args.self.now r.0 c.args.node r.1 r.2

pub pattern_part-part-requires-clause-method : goal.pattern_part-part-requires-clause-method
pattern_part-part-requires-clause-method g c =
    let r = c.requires in
    ap (λ (t : PatternText). t.by) c.value.ensures ∙ (node_use c.args.nodes.now c.args.self.now r.0 c.args.node c.get.result.now r.1 r.2 c.get.ensures.value).0

pub pattern_part-part-requires-clause-case : goal.pattern_part-part-requires-clause-case
pattern_part-part-requires-clause-case g c =
    let r = c.requires in
    ap (λ (t : PatternText). t.ci) c.value.ensures ∙ (node_use c.args.nodes.now c.args.self.now r.0 c.args.node c.get.result.now r.1 r.2 c.get.ensures.value).1

pub detach-requires : goal.detach-requires
detach-requires g c =
    let r = c.requires in
    (r.0, r.1, in_its_part c.args.nodes.now c.args.self.now c.pattern_part-part.result r.0 c.args.node c.get.result.now r.1 r.2 c.get.ensures.value (sym (c.pattern_part-part.ensures ∙ ap pattern_part c.value.ensures)))

pub give_back-requires : goal.give_back-requires
give_back-requires g c =
    let r = c.requires in
    kept_live c.args.nodes.now c.detach.new.nodes c.args.node c.detach.ensures.kept (holds_live c.args.nodes.now c.args.self.now r.0 c.args.node r.1 r.2)

pub returns-clause-holds : goal.returns-clause-holds
returns-clause-holds g c items h there =
    let mine = in_its_part c.args.nodes.now c.args.self.now c.pattern_part-part.result items c.args.node c.get.result.now h there c.get.ensures.value (sym (c.pattern_part-part.ensures ∙ ap pattern_part c.value.ensures)) in
    given_back c.detach.new.nodes c.give_back.new.nodes c.detach.new.self items c.args.node c.give_back.ensures.updates (c.detach.ensures.holds items h mine)

pub returns-clause-others : goal.returns-clause-others
returns-clause-others g c items h there k away =
    let mine = in_its_part c.args.nodes.now c.args.self.now c.pattern_part-part.result items c.args.node c.get.result.now h there c.get.ensures.value (sym (c.pattern_part-part.ensures ∙ ap pattern_part c.value.ensures)) in
    c.give_back.ensures.updates.others k (other_than c.args.node k items there away) ∙ c.detach.ensures.others items h mine k away

pub returns-clause-other_indexes : goal.returns-clause-other_indexes
returns-clause-other_indexes g c items others other h there at apart =
    apart_frame c.args.nodes.now c.give_back.new.nodes other others items apart (returns-clause-others g c items h there) at
