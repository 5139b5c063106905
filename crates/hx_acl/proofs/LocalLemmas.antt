-- The network of the predefined ACL LOCALHOST.
use Rattle.std.proofs.Common.{◌≡◌, ◌==◌, false, codes, Some, refl, ap}
use Rattle.std.specs.Net.Reader.{read_ipv6, read_segments, read_ipv4, read_octet, read_number}
use Rattle.std.specs.Option.{option_map_or}
use Rattle.hx_sample.specs.Keys.{as_ipv4, has_address, is_in_network}
use Rattle.hx_text.specs.Address.{ip_of, colon_hex_of, plain_groups_of, dotted_of, octet_of}
use Rattle.hx_text.specs.Network.{net_of, prefix_bits, width_of}
use Rattle.hx_text.specs.Number.{number_of, number_up_to}
use Rattle.hx_text.specs.declared.address.Ip.{Ip}
use Rattle.hx_text.specs.declared.address.Ip.TheVariants.{V4}
use Rattle.hx_text.specs.declared.network.Net.TheVariants.{Plain}

local_network : net_of (codes "127.0.0.1/8") ≡ Some (Plain (V4 2130706432) 8)
unfolding net_of width_of ip_of colon_hex_of plain_groups_of dotted_of octet_of number_of number_up_to read_ipv6 read_segments read_ipv4 read_octet read_number
local_network = refl

-- an address is in it by its first eight bits as an IPv4 address
pub local_bits : (ip : Ip) → is_in_network (codes "127.0.0.1/8") ip ≡ option_map_or (λ address. prefix_bits 32 8 address == 2130706432) (as_ipv4 ip) false
local_bits ip = ap (λ net. option_map_or (λ n. has_address n ip) net false) local_network
