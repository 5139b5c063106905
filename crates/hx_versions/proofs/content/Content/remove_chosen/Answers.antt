use Rattle.std.proofs.Common.{◌*◌, length, sym, ap, subst, ◌∙◌, arith}
use Rattle.hx_versions.specs.Contents.{IsContent}
use Rattle.hx_versions.specs.Versions.{is_chosen}
use Rattle.hx_versions.proofs.ContentLemmas.{leaves_self}
use Rattle.hx_versions.proofs.PlacedLemmas.{entry_live}
use Rattle.hx_versions.proofs.WalkLemmas.{chosen_out, other_stays, tested}
use Rattle.hx_versions.proofs.content.Content.remove_chosen.Goals as goal

pub is_chosen-requires : goal.is_chosen-requires
is_chosen-requires g c =
    let r = c.requires in
    entry_live c.args.entries.now c.args.nodes.now r.0 c.args.self.now r.1 r.2 r.3 c.args.slot r.4 r.5

pub returns-then-is_chosen-clause-content : goal.returns-then-is_chosen-clause-content
returns-then-is_chosen-clause-content g c v before p after here h =
    let e = c.args.entries.now in
    let test = is_chosen c.args.choice.now in
    let hit = tested e c.args.nodes.now v c.args.self.now before p after c.args.slot here h test c.is_chosen.result c.is_chosen.ensures ∙ c.if-is_chosen.true in
    subst (IsContent c.remove.new.entries c.remove.new.nodes v c.remove.new.self) (sym (chosen_out test before p after hit))
    (c.remove.ensures.content v before p after here h)

pub returns-then-is_chosen-clause-live_nodes : goal.returns-then-is_chosen-clause-live_nodes
returns-then-is_chosen-clause-live_nodes g c =
    let many = length c.args.self.now.indexes.items in
    omega (arith, c.remove.ensures.live_nodes, ap (λ k. k * many) c.remove.ensures.count)

pub returns-else-is_chosen-clause-content : goal.returns-else-is_chosen-clause-content
returns-else-is_chosen-clause-content g c v before p after here h =
    let e = c.args.entries.now in
    let test = is_chosen c.args.choice.now in
    let miss = tested e c.args.nodes.now v c.args.self.now before p after c.args.slot here h test c.is_chosen.result c.is_chosen.ensures ∙ c.if-is_chosen.false in
    subst (IsContent e c.args.nodes.now v c.args.self.now) (sym (other_stays test before p after miss)) h

pub returns-else-is_chosen-clause-others : goal.returns-else-is_chosen-clause-others
returns-else-is_chosen-clause-others g c v before p after here h = leaves_self v c.args.entries.now c.args.nodes.now
