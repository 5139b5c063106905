use Rattle.std.proofs.Common.{subst}
use Rattle.hx_pool.specs.Chain.{LiesIn}
use Rattle.hx_ebtree.specs.Node.{links_of}
use Rattle.hx_index.specs.declared.part.Part.TheVariants.{Listed}
use Rattle.hx_index.specs.Items.{nodes_of}
use Rattle.hx_index.specs.Index.{in_part}
use Rattle.hx_index.proofs.NumberLemmas.{around}
use Rattle.hx_index.proofs.TakingLemmas.{front_in, listed_ends, listed_takes}
use Rattle.hx_index.proofs.index.Index.detach_listed.Goals as goal

pub unlink-requires : goal.unlink-requires
unlink-requires g c =
    let r = c.requires in
    let mine = nodes_of (in_part Listed r.0) in
    let s = around c.in-Some.node mine (front_in c.args.nodes.now c.args.self.now c.front.result c.front.ensures r.0 c.in-Some.node c.in-Some.is r.1) in
    (s.before, s.after, subst (LiesIn links_of c.args.nodes.now c.args.self.now.listed) s.is (r.1.parts Listed))

pub returns-in-Some-clause-takes : goal.returns-in-Some-clause-takes
returns-in-Some-clause-takes g c =
    listed_takes c.args.nodes.now c.args.self.now c.front.result c.front.ensures c.unlink.new.pool c.unlink.new.self c.in-Some.node c.in-Some.is c.unlink.ensures.values c.unlink.ensures.others c.unlink.ensures.lies

pub returns-in-None-clause-takes : goal.returns-in-None-clause-takes
returns-in-None-clause-takes g c = listed_ends c.args.nodes.now c.args.self.now c.front.result c.front.ensures c.in-None.is
