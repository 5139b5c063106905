-- The numbers of faults of patterns, and what the fault of a regular expression is to its pattern.
use Rattle.std.specs.Prelude.{ℕ, Option, Some, None}
use Rattle.hx_outside.specs.declared.pattern_fault.PatFault.{PatFault}
use Rattle.hx_outside.specs.declared.pattern_fault.PatFault.TheVariants as pattern
use Rattle.hx_outside.specs.declared.pattern_fault.ReFault.{ReFault}
use Rattle.hx_outside.specs.declared.pattern_fault.ReFault.TheVariants as expression

-- the number of a pattern's fault; out of memory has none
abbrev pub pattern_fault_code : PatFault → Option ℕ
pattern_fault_code pattern.BadInt = Some 1
pattern_fault_code pattern.BadRange = Some 2
pattern_fault_code pattern.BadAddress = Some 3
pattern_fault_code pattern.BadHex = Some 4
pattern_fault_code pattern.BadRegex = Some 5
pattern_fault_code pattern.TooLarge = Some 6
pattern_fault_code pattern.NotUtf8 = Some 7
pattern_fault_code pattern.NoMemory = None

-- the fault of a regular expression, to the pattern that it stands in
abbrev pub pattern_fault : ReFault → PatFault
pattern_fault expression.BadRegex = pattern.BadRegex
pattern_fault expression.TooLarge = pattern.TooLarge
pattern_fault expression.NoMemory = pattern.NoMemory
