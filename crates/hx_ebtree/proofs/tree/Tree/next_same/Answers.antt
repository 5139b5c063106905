use Rattle.hx_ebtree.proofs.FrameLemmas.{listed_live}
use Rattle.hx_ebtree.proofs.PlaceLemmas.{links_read}
use Rattle.hx_ebtree.proofs.tree.Tree.next_same.Goals as goal

pub get-requires : goal.get-requires
get-requires g c = listed_live c.args.pool.now c.args.self.now c.requires.0 c.args.id c.requires.1 c.requires.2

pub returns-clause-next : goal.returns-clause-next
returns-clause-next g c pairs key xs ys stands e =
    (links_read c.args.pool.now c.args.self.now pairs c.args.id c.get.result.now c.get.ensures.value c.links.result c.links.ensures stands key xs ys e).1
