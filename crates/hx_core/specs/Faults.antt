-- Where the faults of a step come from, and which of them stop an engine.
use Rattle.std.specs.Prelude.{Option, None, Some}
use Rattle.hx_sample.specs.declared.tables.TableFault.{TableFault}
use Rattle.hx_sample.specs.declared.tables.TableFault.TheVariants as change
use Rattle.hx_core.specs.declared.fault.StepFault.{StepFault}
use Rattle.hx_core.specs.declared.fault.StepFault.TheVariants.{UnknownConn, ConnOpen, TooLarge, NoMemory}

-- the fault of an event in which a change of a list comes to no end
abbrev pub fault_of_change : TableFault → StepFault
fault_of_change change.TooLarge = TooLarge
fault_of_change change.NoMemory = NoMemory

-- the fault with which an engine stops, where this one stops it
abbrev pub stop_by : StepFault → Option StepFault
stop_by UnknownConn = None
stop_by ConnOpen = None
stop_by TooLarge = Some TooLarge
stop_by NoMemory = Some NoMemory
