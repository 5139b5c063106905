-- A command as the code keeps it.
use Rattle.std.specs.Prelude.{ℕ, List, Option, None, Some}
use Rattle.hx_run.specs.Command.{asked_of}
use Rattle.hx_run.specs.Run.{Asked}
use Rattle.hx_trace_run.specs.declared.command.TraceCommand.{TraceCommand}
use Rattle.hx_trace_run.specs.declared.command.TraceCommand.TheVariants.{Check, Trace}

-- what is asked for, where a record is to be answered and why is to be told
abbrev pub traced_of : TraceCommand → Option Asked
traced_of (Trace command) = Some (asked_of command)
traced_of (Check config trace) = None

-- the names of the configuration and of the trace, where a trace is to be checked
abbrev pub checked_of : TraceCommand → Option (List ℕ × List ℕ)
checked_of (Trace command) = None
checked_of (Check config trace) = Some (config.now, trace.now)
