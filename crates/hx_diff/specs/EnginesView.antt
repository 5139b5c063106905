-- A view of the code: two engines that answer the same events.
use Rattle.std.specs.Prelude.{◌≡◌, None}
use Rattle.hx_diff.specs.Comparison.{Comparison}
use Rattle.hx_diff.specs.declared.engines.Engines.{Engines}

-- what two engines know between two events
abbrev pub comparison_of : Engines → Comparison
comparison_of engines = record {
  old_world = engines.old_engine.world;
  new_world = engines.new_engine.world;
  report = engines.report;
}

-- neither engine has stopped, and the same connections are open in both
pub record AreRunning (engines : Engines) : Type 0 where
  pub old_running : engines.old_engine.stopped ≡ None
  pub new_running : engines.new_engine.stopped ≡ None
  pub alike : engines.old_engine.world.connections ≡ engines.new_engine.world.connections
