-- What a change of a list answers where a call on the references answered this.
use Rattle.std.specs.Prelude.{Bool, true, false, Result, Ok, Err, ⊤}
use Rattle.hx_sample.specs.declared.tables.TableFault.{TableFault}
use Rattle.hx_sample.specs.declared.tables.TableFault.TheVariants as table
use Rattle.hx_refs.specs.declared.fault.RefFault.{RefFault}
use Rattle.hx_refs.specs.declared.fault.RefFault.TheVariants as fault

-- that an expression is too large, or out of memory; any other fault is none of a change
abbrev pub table_answer : Result ⊤ RefFault → Result ⊤ TableFault
table_answer (Err fault.TooLarge) = Err table.TooLarge
table_answer (Err fault.NoMemory) = Err table.NoMemory
table_answer _ = Ok tt

-- a call was refused since no entry has the key
abbrev pub lacks_key : Result ⊤ RefFault → Bool
lacks_key (Err fault.KeyNotFound) = true
lacks_key _ = false
