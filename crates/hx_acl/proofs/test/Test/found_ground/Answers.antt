use Rattle.std.proofs.Common.{rules}
use Rattle.hx_sample.specs.Seen.{value_of}
use Rattle.hx_acl.proofs.HeadLemmas.{heads_take}
use Rattle.hx_acl.proofs.test.Test.found_ground.Goals as goal

pub entry_ground-requires : goal.entry_ground-requires
entry_ground-requires g c =
    rw c.as_slice.ensures
    (heads_take (g.T.Tables.heads (g.T.Tables.state c.args.tables.now)) c.self.inside.by (value_of c.in-Some.input) c.self.inside.heads (search rules) (rw (← c.self.view_is) at c.requires))
