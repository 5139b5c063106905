use Rattle.std.proofs.Common.{[], None, refl}
use Rattle.hx_versions.proofs.version_entries.Entries.none.Goals as goal

pub invariant_of-result : goal.invariant_of-result
invariant_of-result c = record { slots = []; before = None; linked = tt; first = refl; count = refl }
