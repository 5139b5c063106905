-- Addresses under a mask.
use Rattle.std.specs.Prelude.{ℕ, bit_and, Option, Some, option_map}
use Rattle.hx_text.specs.Network.{prefix_bits}
use Rattle.hx_text.specs.declared.address.Ip.{Ip}
use Rattle.hx_text.specs.declared.address.Ip.TheVariants.{V4, V6}

-- An IPv4 address keeps the bits of a mask, and an IPv6 address so many of its first bits. Without
-- that number an IPv6 address has none.
abbrev pub masked_address : ℕ → Option ℕ → Ip → Option Ip
masked_address mask bits (V4 address) = Some (V4 (bit_and address mask))
masked_address mask bits (V6 address) = option_map (λ n. V6 (prefix_bits 128 n address)) bits
