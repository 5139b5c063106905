use Rattle.std.proofs.Common.{rules}
use Rattle.hx_sample.specs.Seen.{value_of}
use Rattle.hx_acl.proofs.HeadLemmas.{heads_take}
use Rattle.hx_acl.proofs.test.Test.finds.Goals as goal

pub finds_entry-requires : goal.finds_entry-requires
finds_entry-requires g c =
    rw c.as_slice.ensures
    (heads_take (g.T.Tables.heads (g.T.Tables.state c.args.tables.now)) c.self.inside.by (value_of c.args.sample) c.self.inside.heads (search rules) (rw (← c.self.view_is) at c.requires))
