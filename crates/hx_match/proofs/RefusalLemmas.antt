-- A text that is no pattern of its method hits nothing.
use Rattle.std.proofs.Common.{◌≡◌, ◌≢◌, ℕ, Bool, true, false, ◌&&◌, List, length, refl, sym, subst, arith, T, inl, inr}
use Rattle.std.specs.Prelude.{Option, Some, None, ℤ, ◌≤ℤ◌, ◌<ℤ◌, pos, int_le, int_lt}
use Rattle.std.specs.Option.{option_map_or}
use Rattle.std.specs.Result.{result_ok}
use Rattle.std.specs.Str.{bytes_eq, is_utf8}
use Rattle.std.proofs.lemmas.Bool.{cases_Bool}
use Rattle.std.proofs.lemmas.Int.{ints}
use lib.Signed.{le_z_yes, lt_z_yes}
use Rattle.hex.specs.Hex.{decode_of}
use Rattle.regex.specs.Patterns.{Re}
use Rattle.hx_outside.specs.Expressions.{expression}
use Rattle.hx_outside.specs.declared.pattern_fault.PatFault.TheVariants.{BadAddress, BadHex, BadRegex}
use Rattle.hx_text.specs.declared.address.Ip.{Ip}
use Rattle.hx_text.specs.declared.kinds.By.{By}
use Rattle.hx_text.specs.declared.kinds.By.TheVariants as by
use Rattle.hx_text.specs.declared.network.Net.{Net}
use Rattle.hx_text.specs.Network.{net_of}
use Rattle.hx_sample.specs.declared.sample.Value.{Value}
use Rattle.hx_sample.specs.declared.sample.Value.TheVariants as value
use Rattle.hx_sample.specs.Keys.{Range, has_address, hits, is_found_in, is_within, key_expression, range_of}
use Rattle.hx_match.specs.Patterns.{fault_without, range_fault, text_fault}

-- ---- ranges

outside : (least greatest n : ℤ) → int_lt greatest least ≡ true → (int_le least n && int_le n greatest) ≡ false
outside least greatest n reversed =
    elim (cases_Bool (int_le least n)) [
      | inr below ↦ rw below refl
      | inl above ↦ elim (cases_Bool (int_le n greatest)) [
        | inr past ↦ rw (above, past) refl
        | inl within ↦
            let low : least ≤ℤ n = le_z_yes (subst T (sym above) tt) in
            let high : n ≤ℤ greatest = le_z_yes (subst T (sym within) tt) in
            let apart : greatest <ℤ least = lt_z_yes (subst T (sym reversed) tt) in
            absurd (omega (arith, ints))
      ]
    ]

refused_range : (range : Option Range) (n : ℤ) → range_fault range ≢ None
    → option_map_or (λ r. is_within r n) range false ≡ false
refused_range None n fault = refl
refused_range (Some (Some low, Some high)) n fault =
    elim (cases_Bool (int_lt high low)) [
      | inl reversed ↦ outside low high n reversed
      | inr ordered ↦ absurd (fault (rw ordered refl))
    ]
refused_range (Some (Some low, None)) n fault = absurd (fault refl)
refused_range (Some (None, greatest)) n fault = absurd (fault refl)

-- ---- other texts

refused_network : (net : Option Net) (ip : Ip) → fault_without BadAddress net ≢ None
    → option_map_or (λ n. has_address n ip) net false ≡ false
refused_network None ip fault = refl
refused_network (Some net) ip fault = absurd (fault refl)

refused_hex : (same : Option (List ℕ)) (bytes : List ℕ) → fault_without BadHex same ≢ None
    → option_map_or (λ b. bytes_eq bytes b) same false ≡ false
refused_hex None bytes fault = refl
refused_hex (Some same) bytes fault = absurd (fault refl)

refused_pattern : (pattern : Option Re) (text : List ℕ) → fault_without BadRegex pattern ≢ None
    → is_found_in pattern text ≡ false
refused_pattern None text fault = refl
refused_pattern (Some pattern) text fault = absurd (fault refl)

refused_expression : (ci : Bool) (key text : List ℕ) → text_fault by.Reg ci key ≢ None
    → is_found_in (key_expression ci key) text ≡ false
refused_expression ci key text fault =
    elim (cases_Bool (is_utf8 key)) [
      | inl utf8 ↦ rw utf8 (refused_pattern (expression ci key) text (rw utf8 at fault))
      | inr other ↦ rw other refl
    ]

pub refused_misses : (method : By) (ci : Bool) (key : List ℕ) (v : Value) → text_fault method ci key ≢ None
    → hits method ci key v ≡ false
refused_misses by.Int ci key (value.Int n) fault = refused_range (range_of key) n fault
refused_misses by.Len ci key (value.Str text) fault = refused_range (range_of key) (pos (length text)) fault
refused_misses by.Ip ci key (value.Ip ip) fault = refused_network (net_of key) ip fault
refused_misses by.Bin ci key (value.Bin bytes) fault = refused_hex (result_ok (decode_of key)) bytes fault
refused_misses by.Reg ci key (value.Str text) fault = refused_expression ci key text fault
refused_misses by.Found ci key v fault = absurd (fault refl)
refused_misses by.Bool ci key v fault = absurd (fault refl)
refused_misses by.Str ci key v fault = absurd (fault refl)
refused_misses by.Beg ci key v fault = absurd (fault refl)
refused_misses by.End ci key v fault = absurd (fault refl)
refused_misses by.Sub ci key v fault = absurd (fault refl)
refused_misses by.Dir ci key v fault = absurd (fault refl)
refused_misses by.Dom ci key v fault = absurd (fault refl)
refused_misses by.Int ci key v fault = refl
refused_misses by.Len ci key v fault = refl
refused_misses by.Ip ci key v fault = refl
refused_misses by.Bin ci key v fault = refl
refused_misses by.Reg ci key v fault = refl
