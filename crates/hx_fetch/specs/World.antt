-- What a fetch looks at.
use Rattle.hx_http.specs.Parts.{Parts}
use Rattle.hx_sample.specs.Vars.{Scopes}
use Rattle.hx_fetch.specs.declared.world.Conn.{Conn}
use Rattle.hx_fetch.specs.declared.world.World.{World}

-- the parts of the request's head, the connection that it came by, and the variables of every scope
pub record Context : Type 0 where
  pub message : Parts
  pub conn : Conn
  pub vars : Scopes

-- what the references of a world point to
abbrev pub context_of : World → Context
context_of world =
    record { message = world.message.now; conn = world.conn.now; vars = world.vars.now }
