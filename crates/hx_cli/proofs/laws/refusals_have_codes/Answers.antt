use Rattle.hx_cli.proofs.RefusalLemmas.{addition_coded, commit_coded, deletion_coded, preparation_coded, resolution_coded, value_coded}
use Rattle.hx_cli.proofs.laws.refusals_have_codes.Goals as goal

pub returns : goal.returns
returns c = record {
  named = resolution_coded;
  added = addition_coded;
  deleted = deletion_coded;
  changed = value_coded;
  prepared = preparation_coded;
  committed = commit_coded;
}
