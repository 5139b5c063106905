-- Encodings of bytes as texts, and digests.
use Rattle.std.specs.Prelude.{ℕ, ◌-◌, ◌^◌, ◌==◌, nat_le, ◌&&◌, ℤ, pos, Bool, List, length, Option, Some, None, if◌then◌else◌}
use Rattle.std.specs.Char.{is_ascii_hexdigit}
use Rattle.std.specs.List.{list_all}
use Rattle.std.specs.Result.{result_ok}
use Rattle.std.specs.Str.Parse.{digits_value}
use Rattle.base64.specs.Engines.{standard, url_safe_no_pad}
use Rattle.base64.specs.GeneralPurpose.{encode_of, decode_of}
use Rattle.sha2.specs.Sha256.{sha224, sha256}
use Rattle.sha2.specs.Sha512.{sha384, sha512}

-- base64 with padding (RFC 4648, section 4)
unfoldable pub base64_text : List ℕ → List ℕ
base64_text bytes = encode_of standard bytes

-- base64url without padding (RFC 4648, section 5)
unfoldable pub base64url_text : List ℕ → List ℕ
base64url_text bytes = encode_of url_safe_no_pad bytes

-- the bytes that such a text encodes, and none where it is the encoding of no bytes
unfoldable pub base64_bytes : List ℕ → Option (List ℕ)
base64_bytes text = result_ok (decode_of standard text)

unfoldable pub base64url_bytes : List ℕ → Option (List ℕ)
base64url_bytes text = result_ok (decode_of url_safe_no_pad text)

-- one to 16 hexadecimal digits, of a value that an integer of 64 bits with a sign has
abbrev pub is_hex_number : List ℕ → Bool
is_hex_number text =
    nat_le 1 (length text) && nat_le (length text) 16 && list_all is_ascii_hexdigit text
    && nat_le (digits_value 16 text) (2 ^ 63 - 1)

-- the number that hexadecimal digits write, and 0 where the text is no such number
unfoldable pub hex_number : List ℕ → ℤ
hex_number text = if is_hex_number text then pos (digits_value 16 text) else pos 0

-- the SHA-2 digest (FIPS 180-4) of so many bits, of 256 where none are given
abbrev pub digest_of : Option ℕ → List ℕ → List ℕ
digest_of None bytes = sha256 bytes
digest_of (Some bits) bytes =
    if bits == 224 then sha224 bytes
    else if bits == 384 then sha384 bytes
    else if bits == 512 then sha512 bytes
    else sha256 bytes
