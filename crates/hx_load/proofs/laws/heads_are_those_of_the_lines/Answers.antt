use Rattle.hx_filling.proofs.DeclareLemmas.{declared_heads}
use Rattle.hx_filling.proofs.FilledLemmas.{filled_heads}
use Rattle.hx_load.proofs.laws.heads_are_those_of_the_lines.Goals as goal

pub returns : goal.returns
returns c = record {
  declared = λ limits given are. declared_heads limits given.specs given.heads are.distinct;
  filled = λ files specs before after filled. filled_heads files 0 specs before after filled;
}
