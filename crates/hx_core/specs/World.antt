-- What is known between two events of a record.
use Rattle.std.specs.Prelude.{ℕ, length, Option, None}
use Rattle.std.specs.FinMap as map
use Rattle.std.specs.Ordering.{nat_cmp}
use Rattle.hx_cli.specs.Payloads.{OpenPayloads}
use Rattle.hx_fetch.specs.declared.Conn.{Conn}
use Rattle.hx_refs.specs.References.{References, searched_lists}
use Rattle.hx_refs.specs.TableChanges.{after_table_change}
use Rattle.hx_refs.specs.declared.Slots.{Slots}
use Rattle.hx_rules.specs.Programs.{Rules}
use Rattle.hx_rules.specs.State.{TableView}
use Rattle.hx_rules.specs.Tables.{HasHeads, HasLists}
use Rattle.hx_sample.specs.Vars.{Scopes}
use Rattle.hx_core.specs.declared.fault.StepFault.{StepFault}

-- The world between two events: the rules of the configuration, the connections that are open by
-- their numbers, how many requests came so far, the variables, the references, and the payloads of
-- the management socket that have begun, by their sessions.
pub record World : Type 0 where
  pub rules : Rules
  pub connections : map.FinMap nat_cmp Conn
  pub requests : ℕ
  pub vars : Scopes
  pub refs : References
  pub payloads : OpenPayloads

-- before the first event, with the references as they were loaded
abbrev pub first_world : Rules → References → World
first_world rules refs = record {
  rules = rules;
  connections = map.empty;
  requests = 0;
  vars = map.empty;
  refs = refs;
  payloads = map.empty;
}

-- references as rules know them
abbrev pub refs_view : TableView References
refs_view = record { heads = λ now. now.heads; lists = searched_lists; after = after_table_change }

-- the heads that rules name are heads of the references, with their methods, and each list that
-- they change is one of theirs
pub record FitRules (refs : References) (rules : Rules) : Type 0 where
  pub heads : HasHeads refs.heads rules
  pub lists : HasLists (length (searched_lists refs)) rules

-- an engine: its world, the slots of memory in which its references are kept, and the fault with
-- which it stopped, if it did
pub record EngineParts : Type 0 where
  pub world : World
  pub slots : Slots
  pub stopped : Option StepFault

-- an engine that goes on in a world
abbrev pub running : World → Slots → EngineParts
running world slots = record { world = world; slots = slots; stopped = None }
