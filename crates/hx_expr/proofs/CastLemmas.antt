-- For each cast that the table of types has, a value that has it.
use Rattle.std.proofs.Common.{◌≡◌, pos, true, [], option_map, is_some, refl, ap, arith}
use Rattle.std.proofs.lemmas.Bool.{false≢true}
use Rattle.std.specs.Fmt.{signed_decimal}
use Rattle.std.specs.Prelude.{IsSome}
use Rattle.hx_sample.specs.Cast.{cast_of, is_not_zero}
use Rattle.hx_sample.specs.declared.sample.Value.{Value}
use Rattle.hx_sample.specs.declared.sample.Value.TheVariants as value
use Rattle.hx_text.proofs.NumberLemmas.{int_of-signed_decimal}
use Rattle.hx_text.proofs.RoundTripLemmas.{ipv4_reads_back}
use Rattle.hx_text.specs.Address.{ip_text}
use Rattle.hx_text.specs.declared.address.Ip.TheVariants.{V4}
use Rattle.hx_text.specs.declared.kinds.Kind.{Kind}
use Rattle.hx_text.specs.declared.kinds.Kind.TheVariants as kind
use Rattle.hx_expr.specs.Kinds.{HasKind}
use Rattle.hx_expr.specs.Types.{can_cast}

pub some_cast : (from to : Kind) → can_cast from to ≡ true → (v : Value) × HasKind from v × IsSome (cast_of v to)
some_cast kind.Any kind.Any can = (value.Bool true, tt, refl)
some_cast kind.Any kind.Bool can = (value.Bool true, tt, refl)
some_cast kind.Any kind.Int can = (value.Bool true, tt, refl)
some_cast kind.Any kind.Ip can = (value.Ip (V4 0), tt, refl)
some_cast kind.Any kind.Str can = (value.Bool true, tt, refl)
some_cast kind.Any kind.Bin can = (value.Bin [], tt, refl)
some_cast kind.Any kind.Method can = (value.Method [], tt, refl)
some_cast kind.Bool kind.Any can = (value.Bool true, refl, refl)
some_cast kind.Bool kind.Str can = (value.Bool true, refl, refl)
some_cast kind.Bool kind.Bool can = (value.Bool true, refl, refl)
some_cast kind.Bool kind.Int can = (value.Bool true, refl, refl)
some_cast kind.Int kind.Any can = (value.Int (pos 0), refl, refl)
some_cast kind.Int kind.Str can = (value.Int (pos 0), refl, refl)
some_cast kind.Int kind.Bool can = (value.Int (pos 0), refl, refl)
some_cast kind.Int kind.Int can = (value.Int (pos 0), refl, refl)
some_cast kind.Ip kind.Any can = (value.Ip (V4 0), refl, refl)
some_cast kind.Ip kind.Str can = (value.Ip (V4 0), refl, refl)
some_cast kind.Ip kind.Ip can = (value.Ip (V4 0), refl, refl)
some_cast kind.Str kind.Any can = (value.Str [], refl, refl)
some_cast kind.Str kind.Str can = (value.Str [], refl, refl)
some_cast kind.Str kind.Bin can = (value.Str [], refl, refl)
some_cast kind.Str kind.Method can = (value.Str [], refl, refl)
some_cast kind.Str kind.Bool can =
    (value.Str (signed_decimal (pos 0)), refl, ap (λ n. is_some (option_map (λ m. value.Bool (is_not_zero m)) n)) (int_of-signed_decimal (pos 0) (record { sfits = omega arith })))
some_cast kind.Str kind.Int can =
    (value.Str (signed_decimal (pos 0)), refl, ap (λ n. is_some (option_map value.Int n)) (int_of-signed_decimal (pos 0) (record { sfits = omega arith })))
some_cast kind.Str kind.Ip can =
    (value.Str (ip_text (V4 0)), refl, ap (λ ip. is_some (option_map value.Ip ip)) (ipv4_reads_back 0 (omega arith)))
some_cast kind.Bin kind.Any can = (value.Bin [], refl, refl)
some_cast kind.Bin kind.Str can = (value.Bin [], refl, refl)
some_cast kind.Bin kind.Bin can = (value.Bin [], refl, refl)
some_cast kind.Method kind.Any can = (value.Method [], refl, refl)
some_cast kind.Method kind.Str can = (value.Method [], refl, refl)
some_cast kind.Method kind.Bin can = (value.Method [], refl, refl)
some_cast kind.Method kind.Method can = (value.Method [], refl, refl)
some_cast _ _ can = absurd (false≢true can)
