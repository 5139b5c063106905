-- IPv6 addresses that stand for IPv4 addresses.
use Rattle.std.specs.Prelude.{◌≡◌, ◌<◌, ◌⊎◌, ◌&&◌, ℕ, ◌+◌, ◌*◌, ◌/◌, ◌%◌, ◌^◌, Option, Some, None, ◌==◌, if◌then◌else◌}

-- ::ffff:a.b.c.d of a.b.c.d (RFC 4291 section 2.5.5.2)
abbrev pub mapped_address : ℕ → ℕ
mapped_address ipv4 = 0xffff * 2 ^ 32 + ipv4

-- 2002:a.b.c.d:: of a.b.c.d (RFC 3056 section 2)
abbrev pub address_6to4 : ℕ → ℕ
address_6to4 ipv4 = 0x2002 * 2 ^ 112 + ipv4 * 2 ^ 80

-- an IPv6 address that stands for an IPv4 address: ::ffff:a.b.c.d, ::a.b.c.d or 2002:a.b.c.d::
abbrev pub StandsFor : ℕ → ℕ → Type 0
StandsFor ipv6 ipv4 =
    (ipv4 < 2 ^ 32)
    × ((ipv6 ≡ mapped_address ipv4) ⊎ ((ipv6 ≡ ipv4) ⊎ (ipv6 ≡ address_6to4 ipv4)))

-- the IPv4 address that an IPv6 address stands for, by its upper and its lower bits
unfoldable pub ipv4_of : ℕ → Option ℕ
ipv4_of ipv6 =
    if ipv6 / 2 ^ 32 == 0xffff then Some (ipv6 % 2 ^ 32) else
    (if ipv6 / 2 ^ 32 == 0 then Some ipv6 else
    (if ipv6 / 2 ^ 112 == 0x2002 && ipv6 % 2 ^ 80 == 0 then Some (ipv6 / 2 ^ 80 % 2 ^ 32) else
    None))
