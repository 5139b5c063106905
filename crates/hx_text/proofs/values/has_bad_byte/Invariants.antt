use Rattle.std.proofs.Common.{◌≡◌, take}
use Rattle.std.specs.List.{list_any}
use Rattle.hx_base.specs.Bytes.{is_bad_value_byte}
use Rattle.hx_text.proofs.values.has_bad_byte.Given as goal

abbrev pub invariant-loop-byte : goal.invariant-loop-byte
invariant-loop-byte l = l.found ≡ list_any is_bad_value_byte (take l.byte-index l.part)
