-- What is written beside the lines that answer requests, where something tells of verdicts.
use Rattle.std.specs.Prelude.{ℕ, List, [], ◌++◌}
use Rattle.std.specs.FinMap as map
use Rattle.std.specs.Option.{option_map_or}
use Rattle.hx_fetch.specs.declared.Conn.{Conn as Connection}
use Rattle.hx_http.specs.Head.{Head, head_of, message}
use Rattle.hx_record.specs.declared.Event.{Event}
use Rattle.hx_record.specs.declared.Event.TheVariants.{Req}
use Rattle.hx_refs.specs.References.{References}
use Rattle.hx_rules.specs.Programs.{Rules}
use Rattle.hx_rules.specs.State.{State}
use Rattle.hx_rules.specs.Verdicts.{start}
use Rattle.hx_core.specs.Steps.{answer_of, head_answer}
use Rattle.hx_core.specs.World.{World}

-- what is told of a request that rules judge, by its connection and the state in which they begin,
-- and of one whose bytes begin with no head
pub record Telling : Type 0 where
  pub judged : Rules → Connection → State References → List ℕ
  pub unread : List ℕ

-- nothing
abbrev pub nothing_told : Telling
nothing_told = record { judged = λ rules conn state. []; unread = [] }

-- what is told of a request with this head, by this connection
abbrev pub told_of_head : Telling → World → Connection → Head → List ℕ
told_of_head telling world conn (message head len) =
    telling.judged world.rules conn (start head world.vars world.refs)
told_of_head telling world conn _ = telling.unread

-- the lines that answer an event, and what is told of it
abbrev pub told_answer : Telling → World → Event → List ℕ
told_answer telling world (Req id bytes) =
    option_map_or (λ conn. head_answer world conn (head_of bytes)
    ++ told_of_head telling world conn (head_of bytes)) (map.get world.connections id) []
told_answer telling world event = answer_of world event
