-- The codes of the refusals.
use Rattle.std.specs.Prelude.{ℕ}
use Rattle.hx_record.specs.declared.refusal.RecordRefusal.{RecordRefusal}
use Rattle.hx_record.specs.declared.refusal.RecordRefusal.TheVariants.{BadLine, BadNumber, CutRequest, TooLong, LineTooLong}

-- the code of a refusal
abbrev pub code_of : RecordRefusal → ℕ
code_of BadLine = 1
code_of BadNumber = 2
code_of CutRequest = 3
code_of TooLong = 4
code_of LineTooLong = 5
