use Rattle.std.proofs.Common.{arith}
use Rattle.hx_pool.proofs.pool.Pool.live_count.Goals as goal

pub overflow_sub-result : goal.overflow_sub-result
overflow_sub-result g c =
    let counted = c.self.invariant.counted in
    omega arith

pub returns : goal.returns
returns g c =
    let counted = c.self.invariant.counted in
    rw (← c.self.view_is) (omega arith)
