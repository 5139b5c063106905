-- The fault of a line, by the fault of a part of it.
use Rattle.std.specs.Prelude.{ℕ, Option, None, Some}
use Rattle.hx_expr.specs.declared.PlanFault.{PlanFault}
use Rattle.hx_expr.specs.declared.PlanFault.TheVariants as plan
use Rattle.hx_outside.specs.declared.PatFault.{PatFault}
use Rattle.hx_outside.specs.declared.PatFault.TheVariants as pattern
use Rattle.hx_calls.specs.declared.SpellFault.{SpellFault}
use Rattle.hx_calls.specs.declared.SpellFault.TheVariants as spell
use Rattle.hx_words.specs.Fault.{word_fault_code}
use Rattle.hx_words.specs.declared.WordFault.{WordFault}
use Rattle.hx_filling.specs.Refusals.{bad_pattern}
use Rattle.hx_load.specs.Configuration.{bad_type}
use Rattle.hx_load.specs.declared.line_fault.LineFault.{LineFault}
use Rattle.hx_load.specs.declared.line_fault.LineFault.TheVariants as line

abbrev pub refused_or_no_memory : Option ℕ → LineFault
refused_or_no_memory (Some code) = line.Refused code
refused_or_no_memory None = line.NoMemory

abbrev pub fault_of_words : WordFault → LineFault
fault_of_words fault = refused_or_no_memory (word_fault_code fault)

abbrev pub fault_of_spelling : SpellFault → LineFault
fault_of_spelling (spell.Code code) = line.Refused code
fault_of_spelling spell.NoMemory = line.NoMemory

abbrev pub fault_of_plan : PlanFault → LineFault
fault_of_plan plan.BadType = line.Refused bad_type
fault_of_plan plan.BadPattern = line.Refused bad_pattern
fault_of_plan plan.TooLarge = line.TooLarge
fault_of_plan plan.NoMemory = line.NoMemory

abbrev pub fault_of_pattern : PatFault → LineFault
fault_of_pattern pattern.TooLarge = line.TooLarge
fault_of_pattern pattern.NoMemory = line.NoMemory
fault_of_pattern _ = line.Refused bad_pattern
