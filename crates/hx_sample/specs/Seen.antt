-- What definitions see of bytes and samples: the bytes themselves, and the value. Whether bytes are
-- lent or owned is not seen.
use Rattle.std.specs.Prelude.{◌≡◌, ℕ, List, map, Option, Some, None, option_map}
use Rattle.hx_sample.specs.declared.sample.Bytes.{Bytes}
use Rattle.hx_sample.specs.declared.sample.Bytes.TheVariants.{Lent, Own}
use Rattle.hx_sample.specs.declared.sample.Sample.{Sample}
use Rattle.hx_sample.specs.declared.sample.Sample.TheVariants as sample
use Rattle.hx_sample.specs.declared.sample.Value.{Value}
use Rattle.hx_sample.specs.declared.sample.Value.TheVariants as value

-- the bytes
abbrev pub bytes_of : Bytes → List ℕ
bytes_of (Lent bytes) = bytes.now
bytes_of (Own octets) = octets

-- the value of a sample
abbrev pub value_of : Sample → Value
value_of (sample.Bool b) = value.Bool b
value_of (sample.Int n) = value.Int n
value_of (sample.Ip ip) = value.Ip ip
value_of (sample.Str bytes) = value.Str (bytes_of bytes)
value_of (sample.Bin bytes) = value.Bin (bytes_of bytes)
value_of (sample.Method bytes) = value.Method (bytes_of bytes)

-- the bytes of a sample as it keeps them, lent or owned, if it has any
abbrev pub kept_bytes : Sample → Option Bytes
kept_bytes (sample.Bool b) = None
kept_bytes (sample.Int n) = None
kept_bytes (sample.Ip ip) = None
kept_bytes (sample.Str bytes) = Some bytes
kept_bytes (sample.Bin bytes) = Some bytes
kept_bytes (sample.Method bytes) = Some bytes

-- where both have bytes, those are the same, lent from the same memory or owned
abbrev pub IsSameWhereBoth : Option Bytes → Option Bytes → Type 0
IsSameWhereBoth (Some bytes) (Some others) = bytes ≡ others
IsSameWhereBoth _ _ = Unit {0}

-- the value of an occurrence, or none
abbrev pub occurrence_value : Option Sample → Option Value
occurrence_value occurrence = option_map value_of occurrence

-- the values of a list of occurrences
abbrev pub occurrence_values : List (Option Sample) → List (Option Value)
occurrence_values occurrences = map occurrence_value occurrences
