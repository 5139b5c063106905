-- Which arguments a fetch may have (HAProxy configuration manual 2.4, sections 7.3.2 to 7.3.6).
use Rattle.std.specs.Prelude.{◌≡◌, ℕ, ℤ, pos, List, Option, IfSome, ⊤}
use Rattle.httparse.specs.Grammar.{IsToken}
use Rattle.hx_text.specs.declared.address.Ip.{Ip}
use Rattle.hx_text.specs.declared.address.Ip.TheVariants.{V4, V6}
use Rattle.hx_ast.specs.declared.fetch.Fetch.{Fetch}
use Rattle.hx_ast.specs.declared.fetch.Fetch.TheVariants as fetch
use Rattle.hx_ast.specs.Names.{IsVariable}

-- the number of an occurrence, where one is given: any but 0
abbrev pub IsOccurrence : Option ℤ → Type 0
IsOccurrence at = IfSome at (λ n. ¬ (n ≡ pos 0))

-- the name of a header, which is a token (RFC 9110, section 5.1), and which of its occurrences
pub record IsHeader (header : List ℕ) (at : Option ℤ) : Type 0 where
  pub name : IsToken header
  pub occurrence : IsOccurrence at

-- an address of the family that the fetch names
abbrev pub IsIpv4 : Ip → Type 0
IsIpv4 ip = (n : ℕ) × (ip ≡ V4 n)

abbrev pub IsIpv6 : Ip → Type 0
IsIpv6 ip = (n : ℕ) × (ip ≡ V6 n)

-- The arguments of the fetch are such as its row of the table allows. Fetches that aren't named
-- here have no argument, or take any.
abbrev pub IsFetch : Fetch → Type 0
IsFetch (fetch.Ipv4 ip) = IsIpv4 ip
IsFetch (fetch.Ipv6 ip) = IsIpv6 ip
IsFetch (fetch.Var name default) = IsVariable name
IsFetch (fetch.ReqHdr name at) = IsHeader name at
IsFetch (fetch.ReqFhdr name at) = IsHeader name at
IsFetch (fetch.ReqHdrIp name at) = IsHeader name at
IsFetch (fetch.ReqHdrVal name at) = IsHeader name at
IsFetch (fetch.ReqHdrCnt name) = IfSome name IsToken
IsFetch _ = ⊤
