use Rattle.std.proofs.Common.{List, length}
use Rattle.hx_pool.specs.Chain.{links_at}
use Rattle.hx_ebtree.specs.Node.{links_of}
use Rattle.hx_sample.specs.Seen.{value_of}
use Rattle.hx_index.specs.declared.part.Part.TheVariants.{Listed}
use Rattle.hx_index.specs.Items.{Item}
use Rattle.hx_index.specs.Index.{Holds, in_part}
use Rattle.hx_index.proofs.WalkLemmas.{Walks, chain_left}
use Rattle.hx_index.proofs.index.Index.first_hit.Given as goal

abbrev pub invariant-loop-at : goal.invariant-loop-at
invariant-loop-at g l = (items : List Item) → Holds l.nodes l.self items
    → Walks (in_part Listed items) (value_of l.sample) l.at l.steps l.fn.steps

abbrev pub decreases-loop-at : goal.decreases-loop-at
decreases-loop-at g l = chain_left (links_at links_of l.nodes) (length l.nodes.slots) l.at
