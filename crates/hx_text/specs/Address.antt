-- Internet addresses as numbers, and the texts that write them.
use Rattle.std.specs.Prelude.{◌≡◌, ◌⊎◌, ◌==◌, ◌&&◌, ℕ, ◌+◌, ◌*◌, ◌^◌, List, ◌++◌, length, take, Option, Some, None, option_map, option_and_then, codes, nat_le, if◌then◌else◌}
use Rattle.std.specs.List.{filter_map, fold}
use Rattle.std.specs.Option.{option_or}
use Rattle.std.specs.Int.{w32, from_be_bytes, to_be_bytes}
use Rattle.std.specs.Net.Grammar.{IsColonHex}
use Rattle.std.specs.Net.Reader.{read_ipv6, whole_value}
use Rattle.std.specs.Net.Text.{ipv4_text, ipv6_text}
use Rattle.hx_base.specs.Bytes.{ascii}
use Rattle.hx_text.specs.Cut.{pieces, last_cut_of}
use Rattle.hx_text.specs.Number.{number_up_to}
use Rattle.hx_text.specs.Printing.{groups_of}
use Rattle.hx_text.specs.declared.address.Ip.{Ip}
use Rattle.hx_text.specs.declared.address.Ip.TheVariants.{V4, V6}

infixl 10 ◌>>=◌
abbrev ◌>>=◌ : {A B : Type 0} → Option A → (A → Option B) → Option B
o >>= f = option_and_then f o

-- ---- which text writes which address

-- an octet in decimal: one to three digits, and at most 255
unfoldable pub octet_of : List ℕ → Option ℕ
octet_of piece = if nat_le (length piece) 3 then number_up_to 255 piece else None

-- four pieces that are each an octet, the highest first, as the number of 32 bits that they make
abbrev pub four_octets : List (List ℕ) → Option ℕ
four_octets parts =
    let octets = filter_map octet_of parts in
    if length parts == 4 && length octets == 4 then Some (from_be_bytes w32 octets) else None

-- an IPv4 address in dotted decimal: the text cut at its dots is four octets
unfoldable pub dotted_of : List ℕ → Option ℕ
dotted_of text = four_octets (pieces (ascii ".") text)

-- an IPv6 address as the number of 128 bits that its eight groups of 16 bits make, the highest
-- first: they are its digits to the base 2^16
abbrev pub groups_number : List ℕ → ℕ
groups_number groups = fold (λ n g. n * 2 ^ 16 + g) 0 groups

-- the address of the first six of these groups and an IPv4 address (RFC 4291 section 2.2, form 3)
abbrev pub address_ending_in : ℕ → List ℕ → ℕ
address_ending_in ipv4 groups = groups_number (take 6 groups) * 2 ^ 32 + ipv4

-- The text is one of std's grammar of RFC 4291 section 2.2, `IsColonHex`, and its groups make this
-- address. In that grammar no octet of a dotted end has a leading zero.
pub record IsPlainIpv6 (text : List ℕ) (address : ℕ) : Type 0 where
  pub groups : List ℕ
  pub spelled : IsColonHex text groups
  pub number : address ≡ groups_number groups

-- The text ends in an IPv4 address in dotted decimal after a colon. With `0:0` instead it is one of
-- std's grammar, and the first six groups and the IPv4 address make this address.
pub record EndsInIpv4 (text : List ℕ) (address : ℕ) : Type 0 where
  pub before : List ℕ
  pub end : List ℕ
  pub ipv4 : ℕ
  pub groups : List ℕ
  pub spelled : text ≡ before ++ codes ":" ++ end
  pub dotted : dotted_of end ≡ Some ipv4
  pub plain : IsColonHex (before ++ codes ":0:0") groups
  pub number : address ≡ address_ending_in ipv4 groups

-- the text writes this address: four octets in dotted decimal, an IPv6 address of std's grammar, or
-- one that ends in an IPv4 address, whose octets may have leading zeros
abbrev pub IsIpText : List ℕ → Ip → Type 0
IsIpText text (V4 a) = dotted_of text ≡ Some a
IsIpText text (V6 a) = IsPlainIpv6 text a ⊎ EndsInIpv4 text a

-- ---- the address of a text

-- the groups of a text of std's grammar, and none for any other text
unfoldable pub plain_groups_of : List ℕ → Option (List ℕ)
plain_groups_of text = whole_value (read_ipv6 text)

-- The address of a text that is cut after its last colon and ends in an IPv4 address in dotted
-- decimal. The dotted end stands for the last two groups: with `0:0` instead the text is one of
-- std's grammar, and its first six groups are those of the address.
abbrev pub dotted_end_of : List ℕ × List ℕ → Option ℕ
dotted_end_of parts = do
  ipv4 ← dotted_of parts.1
  option_map (address_ending_in ipv4) (plain_groups_of (parts.0 ++ codes "0:0"))

-- An IPv6 address as RFC 4291 section 2.2 writes it: eight groups of one to four hex digits with
-- colons between them, of which one or more zero groups may be written `::`, once, and the last two
-- may be an IPv4 address in dotted decimal, whose octets may have leading zeros.
unfoldable pub colon_hex_of : List ℕ → Option ℕ
colon_hex_of text =
    option_or (option_map groups_number (plain_groups_of text))
    (option_and_then dotted_end_of (last_cut_of (ascii ":") text))

-- the address that a text writes: an IPv6 address, or else an IPv4 address in dotted decimal. No
-- text writes one of each.
unfoldable pub ip_of : List ℕ → Option Ip
ip_of text = option_or (option_map V6 (colon_hex_of text)) (option_map V4 (dotted_of text))

-- ---- the text of an address

-- The text of an address: an IPv4 address in dotted decimal with no leading zeros; an IPv6 address
-- as RFC 5952 section 4 has it, in lower case, each group with no leading zeros, the first of the
-- longest runs of two or more zero groups written `::`, and `::ffff:0:0/96` alone ended by a dotted
-- IPv4 address (its section 5).
unfoldable pub ip_text : Ip → List ℕ
ip_text (V4 a) = ipv4_text (to_be_bytes w32 a)
ip_text (V6 a) = ipv6_text (groups_of a)
