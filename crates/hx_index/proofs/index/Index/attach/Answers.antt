use Rattle.std.proofs.Common.{inl, inr}
use Rattle.hx_ebtree.proofs.NodeLemmas.{kept_relinked}
use Rattle.hx_index.specs.declared.part.Part.TheVariants.{Listed, Keyed, Wide}
use Rattle.hx_index.specs.Items.{nodes_of}
use Rattle.hx_index.specs.Index.{in_part, key_pairs}
use Rattle.hx_index.proofs.HoldingLemmas.{keyed_alone, of_part, wide_alone}
use Rattle.hx_index.proofs.ChangeLemmas.{from_ids, listed_in, tree_in}
use Rattle.hx_index.proofs.index.Index.attach.Goals as goal

pub push_back-requires-clause-lies : goal.push_back-requires-clause-lies
push_back-requires-clause-lies g c =
    let r = c.requires.holds in
    (nodes_of (in_part Listed r.0), r.1.parts Listed, λ there. r.2 (of_part c.args.nodes.now c.args.self.now Listed r.0 c.args.node r.1 there))

pub insert-requires-clause-stands : goal.insert-requires-clause-stands
insert-requires-clause-stands g c =
    let r = c.requires.holds in
    (key_pairs (in_part Keyed r.0), r.1.parts Keyed, λ there. r.2 (of_part c.args.nodes.now c.args.self.now Keyed r.0 c.args.node r.1 (from_ids (in_part Keyed r.0) c.args.node there)))

pub insert-requires-in-Wide-clause-stands : goal.insert-requires-in-Wide-clause-stands
insert-requires-in-Wide-clause-stands g c =
    let r = c.requires.holds in
    (key_pairs (in_part Wide r.0), r.1.parts Wide, λ there. r.2 (of_part c.args.nodes.now c.args.self.now Wide r.0 c.args.node r.1 (from_ids (in_part Wide r.0) c.args.node there)))

pub returns-in-Listed-clause-holds : goal.returns-in-Listed-clause-holds
returns-in-Listed-clause-holds g c items item h new is =
    listed_in c.args.nodes.now c.push_back.new.pool c.args.self.now items h c.push_back.new.self c.args.node item (rw c.in-Listed.is at new) is c.push_back.ensures.values c.push_back.ensures.others c.push_back.ensures.lies

pub returns-in-Listed-clause-kept : goal.returns-in-Listed-clause-kept
returns-in-Listed-clause-kept g c = kept_relinked c.args.nodes.now c.push_back.new.pool c.push_back.ensures.values

pub returns-in-Listed-clause-others : goal.returns-in-Listed-clause-others
returns-in-Listed-clause-others g c items h off k away differs =
    c.push_back.ensures.others (nodes_of (in_part Listed items)) (h.parts Listed) k
    (λ there. elim there as (λ _. ⊥) [ inl e ↦ differs e | inr t ↦ away (of_part c.args.nodes.now c.args.self.now Listed items k h t) ])

pub returns-in-Keyed-clause-holds : goal.returns-in-Keyed-clause-holds
returns-in-Keyed-clause-holds g c items item h new is =
    tree_in c.args.nodes.now c.insert.new.pool c.args.self.now items h (record c.args.self.now { keyed = c.insert.new.self }) Keyed c.args.self.now.keyed c.insert.new.self c.args.node item (keyed_alone c.args.self.now c.insert.new.self) (λ xs s. s) (λ xs s. s)
    (rw c.in-Keyed.is at new) is c.insert.ensures.kept c.insert.ensures.others c.insert.ensures.stands

pub returns-in-Keyed-clause-others : goal.returns-in-Keyed-clause-others
returns-in-Keyed-clause-others g c items h off k away differs =
    let mine = in_part Keyed items in
    c.insert.ensures.others (key_pairs mine) (h.parts Keyed) (λ there. off (of_part c.args.nodes.now c.args.self.now Keyed items c.args.node h (from_ids mine c.args.node there)))
    k (λ there. away (of_part c.args.nodes.now c.args.self.now Keyed items k h (from_ids mine k there))) differs

pub returns-in-Wide-clause-holds : goal.returns-in-Wide-clause-holds
returns-in-Wide-clause-holds g c items item h new is =
    tree_in c.args.nodes.now c.insert-in-Wide.new.pool c.args.self.now items h (record c.args.self.now { wide = c.insert-in-Wide.new.self }) Wide c.args.self.now.wide c.insert-in-Wide.new.self c.args.node item (wide_alone c.args.self.now c.insert-in-Wide.new.self) (λ xs s. s) (λ xs s. s)
    (rw c.in-Wide.is at new) is c.insert-in-Wide.ensures.kept c.insert-in-Wide.ensures.others c.insert-in-Wide.ensures.stands

pub returns-in-Wide-clause-others : goal.returns-in-Wide-clause-others
returns-in-Wide-clause-others g c items h off k away differs =
    let mine = in_part Wide items in
    c.insert-in-Wide.ensures.others (key_pairs mine) (h.parts Wide) (λ there. off (of_part c.args.nodes.now c.args.self.now Wide items c.args.node h (from_ids mine c.args.node there)))
    k (λ there. away (of_part c.args.nodes.now c.args.self.now Wide items k h (from_ids mine k there))) differs
