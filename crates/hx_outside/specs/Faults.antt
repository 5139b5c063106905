-- What the fault of one layer is to the layer above.
use Rattle.hx_outside.specs.declared.fault.FileFault.{FileFault}
use Rattle.hx_outside.specs.declared.fault.FileFault.TheVariants.{Failed, NoMemory}
use Rattle.hx_outside.specs.declared.fault.ReadFault.{ReadFault}
use Rattle.hx_outside.specs.declared.fault.ReadFault.TheVariants as reading

-- a fault of reading a file, to who asked for the file: one that is too long has failed
abbrev pub file_fault : ReadFault → FileFault
file_fault reading.Failed = Failed
file_fault reading.TooLong = Failed
file_fault reading.NoMemory = NoMemory
