-- A configuration as it was loaded: its rules, and the references in which these look values up and
-- which they change.
use Rattle.std.specs.Prelude.{[]}
use Rattle.hx_core.specs.Steps.{answer_of, refusal_of, world_after}
use Rattle.hx_core.specs.World.{first_world, World}
use Rattle.hx_refs.specs.References.{References}
use Rattle.hx_refs.specs.declared.Limits.{Limits}
use Rattle.hx_rules.specs.Programs.{Rules}
use Rattle.hx_replay.specs.Behavior.{Behavior}

-- the rules, and the references before the first event
pub record Program : Type 0 where
  pub rules : Rules
  pub references : References

-- the world before the first event
abbrev pub initial_world : Program → World
initial_world program = first_world program.rules program.references

-- what an engine does, which answers each event by its rules and references
abbrev pub engine_behavior : Behavior World
engine_behavior = record {
  refusal = refusal_of;
  answer = answer_of;
  after = world_after;
  ending = λ world. [];
}

-- the limits of the references of a configuration
abbrev pub usual_limits : Limits
usual_limits = record { entries = 1000000; adds = 4000000000; versions = 4294967295 }
