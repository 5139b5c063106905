-- The numbers of faults, as a refused configuration is reported by them.
use Rattle.std.specs.Prelude.{ℕ, Option, Some, None}
use Rattle.hx_words.specs.declared.fault.WordFault.{WordFault}
use Rattle.hx_words.specs.declared.fault.ArgFault.{ArgFault}
use Rattle.hx_words.specs.declared.fault.ArgFault.TheVariants as arguments
use Rattle.hx_words.specs.declared.fault.WordFault.TheVariants.{OpenQuote, BadEscape, BadVariable, TooManyWords, NoMemory}

-- the number of a line's fault; out of memory has none
abbrev pub word_fault_code : WordFault → Option ℕ
word_fault_code OpenQuote = Some 1
word_fault_code BadEscape = Some 2
word_fault_code BadVariable = Some 3
word_fault_code TooManyWords = Some 4
word_fault_code NoMemory = None

-- the number of a fault of a text of calls; out of memory has none
abbrev pub arg_fault_code : ArgFault → Option ℕ
arg_fault_code arguments.Unclosed = Some 5
arg_fault_code arguments.AfterClose = Some 6
arg_fault_code arguments.BadEscape = Some 7
arg_fault_code arguments.OpenQuote = Some 8
arg_fault_code arguments.NoMemory = None
