use Rattle.hx_trace.proofs.NumberLemmas.{loaded_numbers}
use Rattle.hx_trace.proofs.laws.the_numbers_are_those_of_references.Goals as goal

pub returns : goal.returns
returns c = loaded_numbers
