use Rattle.std.proofs.Common.{◌≡◌, ◌<◌, ◌^◌, drop}
use Rattle.std.specs.Char.{is_ascii_hexdigit}
use Rattle.std.specs.List.{list_all}
use Rattle.std.specs.Str.Parse.{digits_value, digits_value_after}
use Rattle.hx_conv_val.proofs.hex_number.digits_value.Given as goal

-- the digits before `i` write the value, and those that are left follow them
abbrev pub invariant-loop-i : goal.invariant-loop-i
invariant-loop-i l =
    record {
      digits : list_all is_ascii_hexdigit l.text ≡ list_all is_ascii_hexdigit (drop l.i l.text);
      number : digits_value 16 l.text ≡ digits_value_after 16 l.value (drop l.i l.text);
      within : l.value < 16 ^ l.i;
    }
