-- The chain of each owner of variables.
use Rattle.std.specs.Prelude.{Option, Some}
use Rattle.std.specs.BTreeMap as tree
use Rattle.std.specs.Ordering.{nat_cmp}
use Rattle.hx_pool.specs.declared.chain.Chain.{Chain}
use Rattle.hx_sample.specs.declared.stored_variable.Owner.{Owner}
use Rattle.hx_sample.specs.declared.stored_variable.Owner.TheVariants.{Process, Session, Transaction, Request, Response}
use Rattle.hx_sample.specs.declared.vars.Vars.TheInside.{Inside}

-- an owner's chain, which a session has once it had a variable
abbrev pub chain_of : Inside → Owner → Option Chain
chain_of vars Process = Some vars.process
chain_of vars (Session conn) = tree.get nat_cmp vars.sessions conn
chain_of vars Transaction = Some vars.transaction
chain_of vars Request = Some vars.request
chain_of vars Response = Some vars.response
