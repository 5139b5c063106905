use Rattle.hx_load.proofs.LoadedLemmas.{loads, loads_one, loads_only}
use Rattle.hx_load.proofs.laws.loading.Goals as goal

pub returns : goal.returns
returns c = record { loads = loads; only = loads_only; one = loads_one }
