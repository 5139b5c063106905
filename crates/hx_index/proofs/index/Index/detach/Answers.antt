use Rattle.std.proofs.Common.{subst}
use Rattle.hx_pool.specs.Chain.{IsIn, LiesIn}
use Rattle.hx_ebtree.specs.Node.{links_of}
use Rattle.hx_ebtree.proofs.NodeLemmas.{kept_relinked}
use Rattle.hx_index.specs.declared.part.Part.{Part}
use Rattle.hx_index.specs.declared.part.Part.TheVariants.{Listed, Keyed, Wide}
use Rattle.hx_index.specs.Items.{nodes_of}
use Rattle.hx_index.specs.Index.{in_part, key_pairs}
use Rattle.hx_index.proofs.NumberLemmas.{around}
use Rattle.hx_index.proofs.HoldingLemmas.{keyed_alone, of_part, wide_alone}
use Rattle.hx_index.proofs.ChangeLemmas.{from_ids, listed_out, to_ids, tree_out, less_in}
use Rattle.hx_index.proofs.index.Index.detach.Goals as goal

pub unlink-requires : goal.unlink-requires
unlink-requires g c =
    let r = c.requires in
    let there : IsIn c.args.node (nodes_of (in_part Listed r.0)) = subst (λ (p : Part). IsIn c.args.node (nodes_of (in_part p r.0))) c.in-Listed.is r.2 in
    let s = around c.args.node (nodes_of (in_part Listed r.0)) there in
    (s.before, s.after, subst (LiesIn links_of c.args.nodes.now c.args.self.now.listed) s.is (r.1.parts Listed))

pub remove-requires : goal.remove-requires
remove-requires g c =
    let r = c.requires in
    let there : IsIn c.args.node (nodes_of (in_part Keyed r.0)) = subst (λ (p : Part). IsIn c.args.node (nodes_of (in_part p r.0))) c.in-Keyed.is r.2 in
    (key_pairs (in_part Keyed r.0), r.1.parts Keyed, to_ids (in_part Keyed r.0) c.args.node there)

pub remove-requires-in-Wide : goal.remove-requires-in-Wide
remove-requires-in-Wide g c =
    let r = c.requires in
    let there : IsIn c.args.node (nodes_of (in_part Wide r.0)) = subst (λ (p : Part). IsIn c.args.node (nodes_of (in_part p r.0))) c.in-Wide.is r.2 in
    (key_pairs (in_part Wide r.0), r.1.parts Wide, to_ids (in_part Wide r.0) c.args.node there)

pub returns-in-Listed-clause-holds : goal.returns-in-Listed-clause-holds
returns-in-Listed-clause-holds g c items h at =
    let there : IsIn c.args.node (nodes_of (in_part Listed items)) = subst (λ (p : Part). IsIn c.args.node (nodes_of (in_part p items))) c.in-Listed.is at in
    listed_out c.args.nodes.now c.unlink.new.pool c.args.self.now items h c.unlink.new.self c.args.node there c.unlink.ensures.values c.unlink.ensures.others c.unlink.ensures.lies

pub returns-in-Listed-clause-kept : goal.returns-in-Listed-clause-kept
returns-in-Listed-clause-kept g c = kept_relinked c.args.nodes.now c.unlink.new.pool c.unlink.ensures.values

pub returns-in-Listed-clause-others : goal.returns-in-Listed-clause-others
returns-in-Listed-clause-others g c items h at k away =
    let there : IsIn c.args.node (nodes_of (in_part Listed items)) = subst (λ (p : Part). IsIn c.args.node (nodes_of (in_part p items))) c.in-Listed.is at in
    let s = around c.args.node (nodes_of (in_part Listed items)) there in
    c.unlink.ensures.others s.before s.after (subst (LiesIn links_of c.args.nodes.now c.args.self.now.listed) s.is (h.parts Listed)) k
    (λ here. away (of_part c.args.nodes.now c.args.self.now Listed items k h (less_in c.args.node (nodes_of (in_part Listed items)) s k here)))

pub returns-in-Keyed-clause-holds : goal.returns-in-Keyed-clause-holds
returns-in-Keyed-clause-holds g c items h at =
    let there : IsIn c.args.node (nodes_of (in_part Keyed items)) = subst (λ (p : Part). IsIn c.args.node (nodes_of (in_part p items))) c.in-Keyed.is at in
    tree_out c.args.nodes.now c.remove.new.pool c.args.self.now items h (record c.args.self.now { keyed = c.remove.new.self }) Keyed c.args.self.now.keyed c.remove.new.self c.args.node (keyed_alone c.args.self.now c.remove.new.self) (λ xs s. s) (λ xs s. s) there c.remove.ensures.kept c.remove.ensures.others c.remove.ensures.stands

pub returns-in-Keyed-clause-others : goal.returns-in-Keyed-clause-others
returns-in-Keyed-clause-others g c items h at k away =
    let there : IsIn c.args.node (nodes_of (in_part Keyed items)) = subst (λ (p : Part). IsIn c.args.node (nodes_of (in_part p items))) c.in-Keyed.is at in
    let mine = in_part Keyed items in
    c.remove.ensures.others (key_pairs mine) (h.parts Keyed) (to_ids mine c.args.node there) k (λ here. away (of_part c.args.nodes.now c.args.self.now Keyed items k h (from_ids mine k here)))

pub returns-in-Wide-clause-holds : goal.returns-in-Wide-clause-holds
returns-in-Wide-clause-holds g c items h at =
    let there : IsIn c.args.node (nodes_of (in_part Wide items)) = subst (λ (p : Part). IsIn c.args.node (nodes_of (in_part p items))) c.in-Wide.is at in
    tree_out c.args.nodes.now c.remove-in-Wide.new.pool c.args.self.now items h (record c.args.self.now { wide = c.remove-in-Wide.new.self }) Wide c.args.self.now.wide c.remove-in-Wide.new.self c.args.node (wide_alone c.args.self.now c.remove-in-Wide.new.self) (λ xs s. s) (λ xs s. s) there c.remove-in-Wide.ensures.kept c.remove-in-Wide.ensures.others c.remove-in-Wide.ensures.stands

pub returns-in-Wide-clause-others : goal.returns-in-Wide-clause-others
returns-in-Wide-clause-others g c items h at k away =
    let there : IsIn c.args.node (nodes_of (in_part Wide items)) = subst (λ (p : Part). IsIn c.args.node (nodes_of (in_part p items))) c.in-Wide.is at in
    let mine = in_part Wide items in
    c.remove-in-Wide.ensures.others (key_pairs mine) (h.parts Wide) (to_ids mine c.args.node there) k (λ here. away (of_part c.args.nodes.now c.args.self.now Wide items k h (from_ids mine k here)))
