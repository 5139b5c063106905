-- What a key hits: a text that is read as a pattern of a match method, and the values that it hits
-- (HAProxy configuration manual 2.4, section 7.1).
use Rattle.std.specs.Prelude.{◌≡◌, ℕ, ◌-◌, ◌&&◌, ◌||◌, ◌==◌, ℤ, pos, int_le, bit_and, Bool, true, false, List, [], ◌∷◌, length, take, drop, Option, None, Some, is_some, option_map, slice_get, if◌then◌else◌, nat_eq, ⊤}
use Rattle.std.specs.List.{starts_with, ends_with, list_any, prefix_len, suffix_len}
use Rattle.std.specs.Result.{result_ok}
use Rattle.std.specs.Option.{option_map_or, option_zip, unwrap_or}
use Rattle.std.specs.Str.{bytes_eq, is_utf8, str_to_ascii_lowercase}
use Rattle.hex.specs.Hex.{decode_of}
use Rattle.regex.specs.Patterns.{Re, find}
use Rattle.hx_base.specs.Bytes.{ascii}
use Rattle.hx_outside.specs.Expressions.{expression}
use Rattle.hx_text.specs.declared.address.Ip.{Ip}
use Rattle.hx_text.specs.declared.address.Ip.TheVariants.{V4, V6}
use Rattle.hx_text.specs.declared.kinds.By.{By}
use Rattle.hx_text.specs.declared.kinds.By.TheVariants as by
use Rattle.hx_text.specs.declared.kinds.Kind.{Kind}
use Rattle.hx_text.specs.declared.kinds.Kind.TheVariants as kind
use Rattle.hx_text.specs.declared.network.Net.{Net}
use Rattle.hx_text.specs.declared.network.Net.TheVariants.{Plain, Masked}
use Rattle.hx_text.specs.Cut.{cut_of}
pub use Rattle.hx_text.specs.Methods.{kind_by}
use Rattle.hx_text.specs.Mapping.{mapped_address, ipv4_of}
use Rattle.hx_text.specs.Network.{prefix_bits, net_of}
use Rattle.hx_text.specs.Number.{int_of}
use Rattle.hx_sample.specs.declared.sample.Value.{Value}
use Rattle.hx_sample.specs.declared.sample.Value.TheVariants as value
use Rattle.hx_sample.specs.Cast.{kind_of}

-- the value is of the kind, where that isn't any
abbrev pub IsOfKind : Kind → Value → Type 0
IsOfKind kind.Any v = ⊤
IsOfKind k v = kind_of v ≡ k

-- ---- numbers

-- the least and the greatest number of a range; without the one, all on that side
abbrev pub Range : Type 0
Range = Option ℤ × Option ℤ

-- whether the number is in the range
abbrev pub is_within : Range → ℤ → Bool
is_within (least, greatest) n =
    option_map_or (λ low. int_le low n) least true && option_map_or (int_le n) greatest true

-- a bound as it is written: a number, or nothing for no bound; none for any other text
abbrev pub bound_of : List ℕ → Option (Option ℤ)
bound_of [] = Some None
bound_of text = option_map Some (int_of text)

-- the range between two bounds as they are written, of which one at least is there
abbrev pub range_between : List ℕ × List ℕ → Option Range
range_between ([], []) = None
range_between (least, greatest) = option_zip (bound_of least) (bound_of greatest)

-- the range that a text writes: `N:M`, `N:` or `:M`, and `N`, which is both bounds
abbrev pub range_of : List ℕ → Option Range
range_of text = range_between (unwrap_or (cut_of (ascii ":") text) (text, text))

-- whether the number is in the range that the key writes
abbrev pub is_in_range : List ℕ → ℤ → Bool
is_in_range key n = option_map_or (λ range. is_within range n) (range_of key) false

-- ---- addresses

-- the IPv4 address that an address is or stands for
abbrev pub as_ipv4 : Ip → Option ℕ
as_ipv4 (V4 address) = Some address
as_ipv4 (V6 address) = ipv4_of address

-- the IPv6 address that an address is, or that stands for it
abbrev pub as_ipv6 : Ip → ℕ
as_ipv6 (V4 address) = mapped_address address
as_ipv6 (V6 address) = address

-- whether the network has the address, or one of its own family that this stands for
abbrev pub has_address : Net → Ip → Bool
has_address (Plain (V4 network) width) ip =
    option_map_or (λ address. prefix_bits 32 width address == network) (as_ipv4 ip) false
has_address (Plain (V6 network) width) ip = prefix_bits 128 width (as_ipv6 ip) == network
has_address (Masked network mask) ip =
    option_map_or (λ address. bit_and address mask == network) (as_ipv4 ip) false

-- whether the network that the key writes has the address
abbrev pub is_in_network : List ℕ → Ip → Bool
is_in_network key ip = option_map_or (λ net. has_address net ip) (net_of key) false

-- ---- texts

-- whether the key stands somewhere in the text
abbrev pub is_part : List ℕ → List ℕ → Bool
is_part key [] = starts_with nat_eq [] key
is_part key (b ∷ text) = starts_with nat_eq (b ∷ text) key || is_part key text

-- the bytes that part the components of a path
abbrev pub parts_path : ℕ → Bool
parts_path b = b == ascii "/" || b == ascii "?"

-- the bytes that part the labels of a host's name, and the name from what stands around it
abbrev pub parts_domain : ℕ → Bool
parts_domain b = parts_path b || b == ascii "." || b == ascii ":"

-- the text without the delimiters at its ends
abbrev pub trimmed : (ℕ → Bool) → List ℕ → List ℕ
trimmed is_delim text =
    let rest = drop (prefix_len is_delim text) text in
    take (length rest - suffix_len is_delim rest) rest

-- what follows each delimiter of a text
abbrev pub rests_after : (ℕ → Bool) → List ℕ → List (List ℕ)
rests_after is_delim [] = []
rests_after is_delim (b ∷ text) =
    if is_delim b then text ∷ rests_after is_delim text else rests_after is_delim text

-- whether the text is empty or begins with a delimiter
abbrev pub is_ended : (ℕ → Bool) → List ℕ → Bool
is_ended is_delim text = option_map_or is_delim (slice_get text 0) true

-- whether the part stands somewhere in the text with a delimiter, or an end of the text, on each
-- side
abbrev pub is_delimited_part : (ℕ → Bool) → List ℕ → List ℕ → Bool
is_delimited_part is_delim part text =
    list_any (λ rest. starts_with nat_eq rest part && is_ended is_delim (drop (length part) rest))
    (text ∷ rests_after is_delim text)

-- the empty part stands nowhere
abbrev pub is_component : (ℕ → Bool) → List ℕ → List ℕ → Bool
is_component is_delim [] text = false
is_component is_delim part text = is_delimited_part is_delim part text

-- whether the key hits the text, by a method that compares bytes
abbrev pub hits_text : By → List ℕ → List ℕ → Bool
hits_text by.Str key text = bytes_eq text key
hits_text by.Beg key text = starts_with nat_eq text key
hits_text by.End key text = ends_with nat_eq text key
hits_text by.Sub key text = is_part key text
hits_text by.Dir key text = is_component parts_path (trimmed parts_path key) text
hits_text by.Dom key text = is_component parts_domain (trimmed parts_domain key) text
hits_text _ key text = false

-- the text, or where case is ignored the same with small letters for ASCII capitals
abbrev pub folded : Bool → List ℕ → List ℕ
folded ci text = if ci then str_to_ascii_lowercase text else text

-- ---- expressions

-- whether the expression matches somewhere in the text
abbrev pub is_found_in : Option Re → List ℕ → Bool
is_found_in pattern text = option_map_or (λ re. is_some (find re text 0)) pattern false

-- the regular expression that the key is, and none where it isn't UTF-8
abbrev pub key_expression : Bool → List ℕ → Option Re
key_expression ci key = if is_utf8 key then expression ci key else None

-- ---- keys

-- Whether the key, read as a pattern of the method, hits the value. Case is ignored where the flag
-- says so. A key that is no pattern of the method hits nothing, and so does one of a method that
-- looks at another kind of value.
abbrev pub hits : By → Bool → List ℕ → Value → Bool
hits by.Found ci key v = true
hits by.Bool ci key (value.Bool b) = b
hits by.Int ci key (value.Int n) = is_in_range key n
hits by.Len ci key (value.Str text) = is_in_range key (pos (length text))
hits by.Ip ci key (value.Ip ip) = is_in_network key ip
hits by.Bin ci key (value.Bin bytes) =
    option_map_or (λ same. bytes_eq bytes same) (result_ok (decode_of key)) false
hits by.Reg ci key (value.Str text) = is_found_in (key_expression ci key) text
hits method ci key (value.Str text) = hits_text method (folded ci key) (folded ci text)
hits _ ci key v = false
