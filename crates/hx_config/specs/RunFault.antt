-- Views of the code of a run: what it writes, and its faults.
use Rattle.std.specs.Prelude.{ℕ, Bool, Option, None, Some, Result, Ok, Err}
use Rattle.hx_outside.specs.declared.FileFault.{FileFault}
use Rattle.hx_outside.specs.declared.FileFault.TheVariants as file
use Rattle.hx_outside.specs.declared.SinkFault.{SinkFault}
use Rattle.hx_outside.specs.declared.SinkFault.TheVariants as sink
use Rattle.hx_config.specs.Run.{Outcome, Written, NoFrontend, written_status}
use Rattle.hx_config.specs.declared.configuration.Written.{Written as CodeWritten}
use Rattle.hx_config.specs.declared.run_fault.RunFault.{RunFault}
use Rattle.hx_config.specs.declared.run_fault.RunFault.TheVariants as fault

abbrev pub outcome_view : Option CodeWritten → Outcome
outcome_view None = NoFrontend
outcome_view (Some written) = Written written.text.items written.notes.items written.amiss

abbrev pub fault_of_file : FileFault → RunFault
fault_of_file file.Failed = fault.Files
fault_of_file file.NoMemory = fault.NoMemory

abbrev pub sink_fault : SinkFault → RunFault
sink_fault sink.Failed = fault.Sink
sink_fault sink.NoMemory = fault.NoMemory

-- the status with which a run ends that has this fault
abbrev pub fault_status : RunFault → ℕ
fault_status fault.NoFrontend = 3
fault_status fault.Files = 5
fault_status fault.Sink = 6
fault_status fault.NoMemory = 7

abbrev pub result_status : Result Bool RunFault → ℕ
result_status (Ok amiss) = written_status amiss
result_status (Err fault) = fault_status fault
