use Rattle.hx_versions.specs.Contents.{ways_of}
use Rattle.hx_versions.proofs.KeyLemmas.{NoneKeeps}
use Rattle.hx_versions.proofs.content.Content.text_index.Given as goal

abbrev pub invariant-loop-at : goal.invariant-loop-at
invariant-loop-at l = NoneKeeps (ways_of l.self.indexes.items) l.at
