use Rattle.hx_calls.specs.Known.{nothing_known}
use Rattle.hx_load.specs.Configuration.{lines_of}
use Rattle.hx_load.proofs.FirstRefusalLemmas.{refused_again}
use Rattle.hx_load.proofs.laws.a_refusal_is_decided_by_the_lines_up_to_it.Goals as goal

pub returns : goal.returns
returns c = λ env config other refusal.
    refused_again env (lines_of config) (lines_of other) nothing_known refusal
