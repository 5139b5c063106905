-- Networks: addresses with a width or a mask, and the texts that write them.
use Rattle.std.specs.Prelude.{◌≡◌, ◌≢◌, ℕ, ◌-◌, ◌*◌, ◌/◌, ◌^◌, ◌≤◌, ◌&&◌, List, length, slice_index, bit_and, Option, None, option_map, option_and_then, ◌==◌, nat_lt, if◌then◌else◌}
use Rattle.std.specs.Char.{digit_char}
use Rattle.std.specs.Int.{w32, leading_ones}
use Rattle.std.specs.Option.{option_or, option_map_or}
use Rattle.hx_base.specs.Bytes.{ascii}
use Rattle.hx_text.specs.declared.address.Ip.{Ip}
use Rattle.hx_text.specs.declared.address.Ip.TheVariants.{V4, V6}
use Rattle.hx_text.specs.declared.network.Net.{Net}
use Rattle.hx_text.specs.declared.network.Net.TheVariants.{Plain, Masked}
use Rattle.hx_text.specs.Number.{number_up_to}
use Rattle.hx_text.specs.Address.{dotted_of, ip_of}
use Rattle.hx_text.specs.Cut.{cut_of}

-- the first n of w bits of an address, and zeros after them
abbrev pub prefix_bits : ℕ → ℕ → ℕ → ℕ
prefix_bits w n address = address / 2 ^ (w - n) * 2 ^ (w - n)

-- the mask of 32 bits whose first n are ones and the others zeros
abbrev pub mask_of : ℕ → ℕ
mask_of n = 2 ^ 32 - 2 ^ (32 - n)

-- the network of an address and a mask: by the count of ones where they all come first, else by the
-- mask
unfoldable pub masked_network : ℕ → ℕ → Net
masked_network address mask =
    if mask == mask_of (leading_ones w32 mask)
    then Plain (V4 (prefix_bits 32 (leading_ones w32 mask) address)) (leading_ones w32 mask)
    else Masked (bit_and address mask) mask

-- a bit count of at most so much: a decimal number that doesn't begin with a zero, or `0`
unfoldable pub width_of : ℕ → List ℕ → Option ℕ
width_of most text =
    if nat_lt 1 (length text) && (slice_index text 0 == digit_char 0) then None
    else number_up_to most text

-- an address alone, which is the network of all its bits
abbrev pub host_network : Ip → Net
host_network (V4 address) = Plain (V4 address) 32
host_network (V6 address) = Plain (V6 address) 128

-- the network of the text that follows the slash and an address: the text is a bit count, or else,
-- after an IPv4 address, a mask
abbrev pub network_with : List ℕ → Ip → Option Net
network_with text (V4 address) =
    option_or (option_map (λ n. Plain (V4 (prefix_bits 32 n address)) n) (width_of 32 text))
    (option_map (masked_network address) (dotted_of text))
network_with text (V6 address) =
    option_map (λ n. Plain (V6 (prefix_bits 128 n address)) n) (width_of 128 text)

-- the network that a text writes, cut at its first slash, if it has one
unfoldable pub net_of : List ℕ → Option Net
net_of text =
    option_map_or (λ parts. option_and_then (network_with parts.1) (ip_of parts.0))
    (cut_of (ascii "/") text) (option_map host_network (ip_of text))

-- What a network keeps: no bit outside its width or its mask is set, and a mask has a zero before a
-- one.
abbrev pub IsNet : Net → Type 0
IsNet (Plain (V4 address) n) = (n ≤ 32) × (prefix_bits 32 n address ≡ address)
IsNet (Plain (V6 address) n) = (n ≤ 128) × (prefix_bits 128 n address ≡ address)
IsNet (Masked address mask) =
    (bit_and address mask ≡ address) × ((n : ℕ) → n ≤ 32 → mask_of n ≢ mask)
