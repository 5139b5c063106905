use Rattle.hx_trace.proofs.SoundLineLemmas.{brought_lines, loaded_lines}
use Rattle.hx_trace.proofs.laws.what_loads_has_no_fault_in_its_lines.Goals as goal

pub returns : goal.returns
returns c = record { brought = brought_lines; loaded = loaded_lines }
