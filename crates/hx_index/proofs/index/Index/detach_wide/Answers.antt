use Rattle.hx_index.specs.declared.part.Part.TheVariants.{Wide}
use Rattle.hx_index.specs.Index.{in_part, key_pairs}
use Rattle.hx_index.proofs.HoldingLemmas.{wide_alone}
use Rattle.hx_index.proofs.TakingLemmas.{tree_takes}
use Rattle.hx_index.proofs.index.Index.detach_wide.Goals as goal

pub pop_any-requires : goal.pop_any-requires
pop_any-requires g c = (key_pairs (in_part Wide c.requires.0), c.requires.1.parts Wide)

pub returns-clause-takes : goal.returns-clause-takes
returns-clause-takes g c =
    tree_takes c.args.nodes.now c.pop_any.new.pool c.args.self.now (record c.args.self.now { wide = c.pop_any.new.self }) Wide c.args.self.now.wide c.pop_any.new.self c.pop_any.result (wide_alone c.args.self.now c.pop_any.new.self)
    (λ xs s. s) (λ xs s. s) c.pop_any.ensures.kept c.pop_any.ensures.none c.pop_any.ensures.some c.pop_any.ensures.others
