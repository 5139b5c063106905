-- The table of casts (HAProxy configuration manual 2.4, section 7.3.1): a row for each kind that a
-- value has and each kind that it is cast to. What has no row has no cast. `Any` asks for no kind,
-- so every value is left as it is.
use Rattle.std.specs.Prelude.{ℤ, pos, Bool, true, false, not, codes, Option, Some, None, option_map, if◌then◌else◌}
use Rattle.std.specs.Fmt.{signed_decimal}
use Rattle.std.specs.Ordering.{int_eq}
use Rattle.hx_text.specs.declared.kinds.Kind.{Kind}
use Rattle.hx_text.specs.declared.kinds.Kind.TheVariants as kind
use Rattle.hx_text.specs.Address.{ip_of, ip_text}
use Rattle.hx_text.specs.Number.{int_of}
use Rattle.hx_sample.specs.declared.sample.Value.{Value}
use Rattle.hx_sample.specs.declared.sample.Value.TheVariants as value

-- the kind that a value has
abbrev pub kind_of : Value → Kind
kind_of (value.Bool b) = kind.Bool
kind_of (value.Int n) = kind.Int
kind_of (value.Ip ip) = kind.Ip
kind_of (value.Str text) = kind.Str
kind_of (value.Bin bytes) = kind.Bin
kind_of (value.Method name) = kind.Method

-- a number is true where it isn't zero
abbrev pub is_not_zero : ℤ → Bool
is_not_zero n = not (int_eq n (pos 0))

-- The value as one of that kind, or none where the table has none. True is 1 and false is 0, as a
-- number and as a text. A number as a text is its shortest decimal text, and an address the text
-- that is printed of it. A text is the number or the address that it writes, where it writes one,
-- and is true where it writes a number that isn't zero. Texts, plain bytes and the names of methods
-- are cast to one another with the same bytes, as far as the table has it.
abbrev pub cast_of : Value → Kind → Option Value
cast_of v kind.Any = Some v
cast_of (value.Bool b) kind.Bool = Some (value.Bool b)
cast_of (value.Bool b) kind.Int = Some (value.Int (if b then pos 1 else pos 0))
cast_of (value.Bool b) kind.Str = Some (value.Str (if b then codes "1" else codes "0"))
cast_of (value.Int n) kind.Bool = Some (value.Bool (is_not_zero n))
cast_of (value.Int n) kind.Int = Some (value.Int n)
cast_of (value.Int n) kind.Str = Some (value.Str (signed_decimal n))
cast_of (value.Ip ip) kind.Ip = Some (value.Ip ip)
cast_of (value.Ip ip) kind.Str = Some (value.Str (ip_text ip))
cast_of (value.Str text) kind.Bool = option_map (λ n. value.Bool (is_not_zero n)) (int_of text)
cast_of (value.Str text) kind.Int = option_map value.Int (int_of text)
cast_of (value.Str text) kind.Ip = option_map value.Ip (ip_of text)
cast_of (value.Str text) kind.Str = Some (value.Str text)
cast_of (value.Str text) kind.Bin = Some (value.Bin text)
cast_of (value.Str text) kind.Method = Some (value.Method text)
cast_of (value.Bin bytes) kind.Str = Some (value.Str bytes)
cast_of (value.Bin bytes) kind.Bin = Some (value.Bin bytes)
cast_of (value.Method name) kind.Str = Some (value.Str name)
cast_of (value.Method name) kind.Bin = Some (value.Bin name)
cast_of (value.Method name) kind.Method = Some (value.Method name)
cast_of _ _ = None

-- The value is cast by printing it: a number or an address as a text.
abbrev pub is_printed : Value → Kind → Bool
is_printed (value.Int n) kind.Str = true
is_printed (value.Ip ip) kind.Str = true
is_printed _ _ = false
