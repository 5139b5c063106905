use Rattle.hx_filling.proofs.AddingLemmas.{first_added}
use Rattle.hx_filling.proofs.adding.add_full.Goals as goal

pub returns-clause-left : goal.returns-clause-left
returns-clause-left g c = λ more. rw c.new.ensures (first_added c.args.r c.args.pairs more c.args.refs.now.content c.add_pairs.new.refs.content
    c.in_ok-add_pairs.ensures.0 c.in_ok-add_pairs.ensures.1)
