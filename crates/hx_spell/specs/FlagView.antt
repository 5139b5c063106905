-- The private enum of src/flag_table.rt as the definitions have it.
use Rattle.hx_spell.specs.declared.flag_table.Flag.TheVariants as code
use Rattle.hx_spell.specs.declared.flag_table.Flag.{Flag as CodeFlag}
use Rattle.hx_spell.specs.Flags.{Flag}
use Rattle.hx_spell.specs.Flags.Flag.{IgnoreCase, TwoColumns, Numeric, File, Method, Number, End}

abbrev pub flag_of : CodeFlag → Flag
flag_of code.IgnoreCase = IgnoreCase
flag_of code.TwoColumns = TwoColumns
flag_of code.Numeric = Numeric
flag_of code.File = File
flag_of code.Method = Method
flag_of code.Number = Number
flag_of code.End = End
