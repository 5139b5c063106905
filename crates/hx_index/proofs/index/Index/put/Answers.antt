use Rattle.std.proofs.Common.{subst, refl, ap, ◌∙◌}
use Rattle.hx_pool.specs.Chain.{IsIn}
use Rattle.hx_match.specs.Patterns.{PatternText}
use Rattle.hx_index.specs.Items.{Item, nodes_of}
use Rattle.hx_index.specs.Index.{ignores_case, method_of}
use Rattle.hx_index.specs.Search.{IsNewItem}
use Rattle.hx_index.proofs.HoldingLemmas.{free_off, holds_frame, holds_updated}
use Rattle.hx_index.proofs.NodeUseLemmas.{new_item}
use Rattle.hx_index.proofs.index.Index.put.Goals as goal

pub attach-requires-clause-holds : goal.attach-requires-clause-holds
attach-requires-clause-holds g c =
    let r = c.requires.holds in
    let off = free_off c.args.nodes.now c.args.self.now r.0 c.take-node.result r.1 c.take-node.ensures.was_free in
    (r.0, holds_updated c.args.nodes.now c.take-node.new.self c.args.self.now r.0 c.take-node.result _ c.take-node.ensures.updates off r.1, off)

pub returns-clause-holds : goal.returns-clause-holds
returns-clause-holds g c items h =
    let id = c.take-node.result in
    let off = free_off c.args.nodes.now c.args.self.now items id h c.take-node.ensures.was_free in
    let held = holds_updated c.args.nodes.now c.take-node.new.self c.args.self.now items id _ c.take-node.ensures.updates off h in
    let item : Item = record { node = id; entry = c.args.entry; pattern = c.args.prepared } in
    let new = new_item c.args.nodes.now c.take-node.new.self c.args.self.now items id c.args.entry c.prepared.inside.key c.prepared.inside.pattern c.new.result c.pattern_part-part.result h
    c.take-node.ensures.was_free c.take-node.ensures.updates c.new.ensures.key c.new.ensures.entry c.new.ensures.value c.prepared.invariant c.pattern_part-part.ensures
    (ap (λ (t : PatternText). t.by) c.prepared.view_is ∙ c.requires.method) (ap (λ (t : PatternText). t.ci) c.prepared.view_is ∙ c.requires.case) in
    let shown = subst (λ (t : PatternText). IsNewItem c.take-node.new.self (method_of c.args.self.now) (ignores_case c.args.self.now) c.pattern_part-part.result items (record { node = id; entry = c.args.entry; pattern = t })) c.prepared.view_is new in
    c.attach.ensures.holds items item held shown refl

pub returns-clause-others : goal.returns-clause-others
returns-clause-others g c items h k away differs =
    let id = c.take-node.result in
    let off = free_off c.args.nodes.now c.args.self.now items id h c.take-node.ensures.was_free in
    let held = holds_updated c.args.nodes.now c.take-node.new.self c.args.self.now items id _ c.take-node.ensures.updates off h in
    c.attach.ensures.others items held off k away differs ∙ c.take-node.ensures.updates.others k differs

pub returns-clause-other_indexes : goal.returns-clause-other_indexes
returns-clause-other_indexes g c items others other h there apart =
    let id = c.take-node.result in
    let off = free_off c.args.nodes.now other others id there c.take-node.ensures.was_free in
    holds_frame c.args.nodes.now c.attach.new.nodes other others
    (λ k here. returns-clause-others g c items h k (λ at. apart k here at) (λ e. off (subst (λ m. IsIn m (nodes_of others)) e here))) there
