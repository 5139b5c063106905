-- A view of the code: an engine whose answers are set beside a trace.
use Rattle.hx_core.specs.World.{World}
use Rattle.hx_trace_run.specs.AgreementView.{CheckState}
use Rattle.hx_trace_run.specs.declared.checking_engine.CheckingEngine.{CheckingEngine}

-- what it knows between two events
abbrev pub check_state : CheckingEngine → CheckState World
check_state checking = record { state = checking.engine.world; agreement = checking.agreement }
