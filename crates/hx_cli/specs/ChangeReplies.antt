-- The reply to a change of the references, by what the call of the change answered.
use Rattle.std.specs.Prelude.{[], Result, Ok, Err, ⊤}
use Rattle.hx_text.specs.declared.fault.NoMemory.{NoMemory}
use Rattle.hx_sample.specs.declared.tables.TableFault.{TableFault}
use Rattle.hx_sample.specs.declared.tables.TableFault.TheVariants as table
use Rattle.hx_refs.specs.declared.fault.RefFault.{RefFault}
use Rattle.hx_refs.specs.declared.fault.RefFault.TheVariants as fault
use Rattle.hx_cli.specs.Effects.{code_of}
use Rattle.hx_cli.specs.Replies.{ReplyParts}

-- a change that takes no memory
abbrev pub change_reply : Result ⊤ RefFault → ReplyParts
change_reply (Ok done) = record { code = 0; lines = [] }
change_reply (Err refusal) = record { code = code_of refusal; lines = [] }

-- a change of values, for which memory may run out
abbrev pub value_reply : Result ⊤ RefFault → Result ReplyParts NoMemory
value_reply (Err fault.NoMemory) = Err (record {})
value_reply answer = Ok (change_reply answer)

-- an addition, of which an expression may also be too large
abbrev pub addition_reply : Result ⊤ RefFault → Result ReplyParts TableFault
addition_reply (Err fault.TooLarge) = Err table.TooLarge
addition_reply (Err fault.NoMemory) = Err table.NoMemory
addition_reply answer = Ok (change_reply answer)
