use Rattle.std.proofs.Common.{arith}
use Rattle.hx_refs.proofs.FilledLemmas.{filled_length}
use Rattle.hx_refs.proofs.kept_references.KeptReferences.len.Goals as goal

pub returns : goal.returns
returns c =
    rw (← c.self.view_is)
    (omega (arith, c.len.ensures, c.self.inside.references.ok.0, filled_length c.self.inside.references.items c.self.inside.store.rows))
