-- The fetches and the converters, a row for each: its names, its parameters, and what is made of
-- what is given for them (HAProxy configuration manual 2.4, sections 7.3.1 to 7.3.6). Of a table of
-- names the first row of a name counts.
use Rattle.std.specs.Prelude.{ℕ, false, List, [], ◌∷◌, codes, map, unwrap_or}
use Rattle.std.specs.List.{flat_map}
use Rattle.std.specs.Option.{option_flatten}
pub use Rattle.hx_base.specs.Pairs.{entry_at}
use Rattle.hx_ast.specs.declared.Fetch.{Fetch}
use Rattle.hx_ast.specs.declared.Fetch.TheVariants as fetch
use Rattle.hx_ast.specs.declared.Conv.{Conv}
use Rattle.hx_ast.specs.declared.Conv.TheVariants as conv
use Rattle.hx_calls.specs.declared.fetches.FetchName.{FetchName}
use Rattle.hx_calls.specs.declared.fetches.FetchName.TheVariants as fetch_name
use Rattle.hx_calls.specs.declared.convs.ConvName.{ConvName}
use Rattle.hx_calls.specs.declared.convs.ConvName.TheVariants as conv_name
use Rattle.hx_calls.specs.Forms.{Row, row}
use Rattle.hx_calls.specs.Forms.Form.{Text, HeaderName, Variable, VariableOrNothing, Integer, Index, Amount, Operand, Boolean, Letters, Byte, Delimiters, Hexadecimal, Ipv4Address, Ipv6Address, Ipv4Mask, Width, DigestLength}
use Rattle.hx_calls.specs.Forms.Parameter.{Required, Optional}

abbrev pub Table : Type 0 → Type 0
Table A = List (List ℕ × A)

-- a name of a fetch or a converter, under each text of its row
abbrev pub under_texts : {A N : Type 0} → (N → Row A) → N → Table N
under_texts row_of name = map (λ text. (text, name)) (row_of name).names

-- ---- fetches

abbrev pub fetch_row : FetchName → Row Fetch
fetch_row fetch_name.AlwaysTrue = row (codes "always_true" ∷ []) [] fetch.AlwaysTrue
fetch_row fetch_name.AlwaysFalse = row (codes "always_false" ∷ []) [] fetch.AlwaysFalse
fetch_row fetch_name.Bool = row (codes "bool" ∷ []) (Required Boolean ∷ []) fetch.Bool
fetch_row fetch_name.Int = row (codes "int" ∷ []) (Required Integer ∷ []) fetch.Int
fetch_row fetch_name.Str = row (codes "str" ∷ []) (Required Text ∷ []) fetch.Str
fetch_row fetch_name.Bin = row (codes "bin" ∷ []) (Required Hexadecimal ∷ []) fetch.Bin
fetch_row fetch_name.Ipv4 = row (codes "ipv4" ∷ []) (Required Ipv4Address ∷ []) fetch.Ipv4
fetch_row fetch_name.Ipv6 = row (codes "ipv6" ∷ []) (Required Ipv6Address ∷ []) fetch.Ipv6
fetch_row fetch_name.Var =
    row (codes "var" ∷ []) (Required Variable ∷ Optional Text ∷ []) fetch.Var
fetch_row fetch_name.Src = row (codes "src" ∷ []) [] fetch.Src
fetch_row fetch_name.Dst = row (codes "dst" ∷ []) [] fetch.Dst
fetch_row fetch_name.SrcPort = row (codes "src_port" ∷ []) [] fetch.SrcPort
fetch_row fetch_name.DstPort = row (codes "dst_port" ∷ []) [] fetch.DstPort
fetch_row fetch_name.Method = row (codes "method" ∷ []) [] fetch.Method
fetch_row fetch_name.ReqVer = row (codes "req.ver" ∷ codes "req_ver" ∷ []) [] fetch.ReqVer
fetch_row fetch_name.Path = row (codes "path" ∷ []) [] fetch.Path
fetch_row fetch_name.Query = row (codes "query" ∷ []) [] fetch.Query
fetch_row fetch_name.Url = row (codes "url" ∷ []) [] fetch.Url
fetch_row fetch_name.Base = row (codes "base" ∷ []) [] fetch.Base
fetch_row fetch_name.ReqHdr =
    row (codes "req.hdr" ∷ codes "hdr" ∷ []) (Required HeaderName ∷ Optional Index ∷ [])
    fetch.ReqHdr
fetch_row fetch_name.ReqFhdr =
    row (codes "req.fhdr" ∷ []) (Required HeaderName ∷ Optional Index ∷ []) fetch.ReqFhdr
fetch_row fetch_name.ReqHdrIp =
    row (codes "req.hdr_ip" ∷ codes "hdr_ip" ∷ []) (Required HeaderName ∷ Optional Index ∷ [])
    fetch.ReqHdrIp
fetch_row fetch_name.ReqHdrVal =
    row (codes "req.hdr_val" ∷ codes "hdr_val" ∷ []) (Required HeaderName ∷ Optional Index ∷ [])
    fetch.ReqHdrVal
fetch_row fetch_name.ReqHdrCnt =
    row (codes "req.hdr_cnt" ∷ codes "hdr_cnt" ∷ []) (Optional HeaderName ∷ []) fetch.ReqHdrCnt
fetch_row fetch_name.ReqCook =
    row (codes "req.cook" ∷ codes "cook" ∷ []) (Optional Text ∷ []) fetch.ReqCook
fetch_row fetch_name.ReqCookCnt =
    row (codes "req.cook_cnt" ∷ codes "cook_cnt" ∷ []) (Optional Text ∷ []) fetch.ReqCookCnt
fetch_row fetch_name.UrlParam =
    row (codes "url_param" ∷ codes "urlp" ∷ []) (Optional Text ∷ Optional Byte ∷ []) fetch.UrlParam

unfoldable pub fetch_names : Table FetchName
fetch_names = flat_map (under_texts fetch_row) (
    fetch_name.AlwaysTrue ∷ fetch_name.AlwaysFalse ∷ fetch_name.Bool ∷ fetch_name.Int
    ∷ fetch_name.Str ∷ fetch_name.Bin ∷ fetch_name.Ipv4 ∷ fetch_name.Ipv6 ∷ fetch_name.Var
    ∷ fetch_name.Src ∷ fetch_name.Dst ∷ fetch_name.SrcPort ∷ fetch_name.DstPort ∷ fetch_name.Method
    ∷ fetch_name.ReqVer ∷ fetch_name.Path ∷ fetch_name.Query ∷ fetch_name.Url ∷ fetch_name.Base
    ∷ fetch_name.ReqHdr ∷ fetch_name.ReqFhdr ∷ fetch_name.ReqHdrIp ∷ fetch_name.ReqHdrVal
    ∷ fetch_name.ReqHdrCnt ∷ fetch_name.ReqCook ∷ fetch_name.ReqCookCnt ∷ fetch_name.UrlParam ∷ [])

-- ---- converters

abbrev pub conv_row : ConvName → Row Conv
conv_row conv_name.Lower = row (codes "lower" ∷ []) [] conv.Lower
conv_row conv_name.Upper = row (codes "upper" ∷ []) [] conv.Upper
conv_row conv_name.Length = row (codes "length" ∷ []) [] conv.Length
conv_row conv_name.Field =
    row (codes "field" ∷ []) (Required Index ∷ Required Delimiters ∷ Optional Amount ∷ [])
    conv.Field
conv_row conv_name.Word =
    row (codes "word" ∷ []) (Required Index ∷ Required Delimiters ∷ Optional Amount ∷ []) conv.Word
conv_row conv_name.Bytes =
    row (codes "bytes" ∷ []) (Required Amount ∷ Optional Amount ∷ []) conv.Bytes
conv_row conv_name.Ltrim = row (codes "ltrim" ∷ []) (Required Text ∷ []) conv.Ltrim
conv_row conv_name.Rtrim = row (codes "rtrim" ∷ []) (Required Text ∷ []) conv.Rtrim
conv_row conv_name.CutCrlf = row (codes "cut_crlf" ∷ []) [] conv.CutCrlf
conv_row conv_name.Concat =
    row (codes "concat" ∷ []) (Optional Text ∷ Optional VariableOrNothing ∷ Optional Text ∷ [])
    (λ start variable end. conv.Concat start (option_flatten variable) end)
conv_row conv_name.Strcmp = row (codes "strcmp" ∷ []) (Required Variable ∷ []) conv.Strcmp
conv_row conv_name.Regsub =
    row (codes "regsub" ∷ []) (Required Text ∷ Required Text ∷ Optional Letters ∷ [])
    (λ re sub letters. let found = unwrap_or letters (false, false) in
    conv.Regsub re sub found.0 found.1)
conv_row conv_name.UrlDec = row (codes "url_dec" ∷ []) (Optional Integer ∷ []) conv.UrlDec
conv_row conv_name.Iif = row (codes "iif" ∷ []) (Required Text ∷ Required Text ∷ []) conv.Iif
conv_row conv_name.Bool = row (codes "bool" ∷ []) [] conv.Bool
conv_row conv_name.Even = row (codes "even" ∷ []) [] conv.Even
conv_row conv_name.Odd = row (codes "odd" ∷ []) [] conv.Odd
conv_row conv_name.Not = row (codes "not" ∷ []) [] conv.Not
conv_row conv_name.Add = row (codes "add" ∷ []) (Required Operand ∷ []) conv.Add
conv_row conv_name.Sub = row (codes "sub" ∷ []) (Required Operand ∷ []) conv.Sub
conv_row conv_name.Mul = row (codes "mul" ∷ []) (Required Operand ∷ []) conv.Mul
conv_row conv_name.Div = row (codes "div" ∷ []) (Required Operand ∷ []) conv.Div
conv_row conv_name.Mod = row (codes "mod" ∷ []) (Required Operand ∷ []) conv.Mod
conv_row conv_name.Neg = row (codes "neg" ∷ []) [] conv.Neg
conv_row conv_name.And = row (codes "and" ∷ []) (Required Operand ∷ []) conv.And
conv_row conv_name.Or = row (codes "or" ∷ []) (Required Operand ∷ []) conv.Or
conv_row conv_name.Xor = row (codes "xor" ∷ []) (Required Operand ∷ []) conv.Xor
conv_row conv_name.Cpl = row (codes "cpl" ∷ []) [] conv.Cpl
conv_row conv_name.Ipmask =
    row (codes "ipmask" ∷ []) (Required Ipv4Mask ∷ Optional (Width 128) ∷ []) conv.Ipmask
conv_row conv_name.Base64 = row (codes "base64" ∷ []) [] conv.Base64
conv_row conv_name.Ub64enc = row (codes "ub64enc" ∷ []) [] conv.Ub64enc
conv_row conv_name.B64dec = row (codes "b64dec" ∷ []) [] conv.B64dec
conv_row conv_name.Ub64dec = row (codes "ub64dec" ∷ []) [] conv.Ub64dec
conv_row conv_name.Hex = row (codes "hex" ∷ []) [] conv.Hex
conv_row conv_name.Hex2i = row (codes "hex2i" ∷ []) [] conv.Hex2i
conv_row conv_name.Sha2 = row (codes "sha2" ∷ []) (Optional DigestLength ∷ []) conv.Sha2

unfoldable pub conv_names : Table ConvName
conv_names = flat_map (under_texts conv_row) (
    conv_name.Lower ∷ conv_name.Upper ∷ conv_name.Length ∷ conv_name.Field ∷ conv_name.Word
    ∷ conv_name.Bytes ∷ conv_name.Ltrim ∷ conv_name.Rtrim ∷ conv_name.CutCrlf ∷ conv_name.Concat
    ∷ conv_name.Strcmp ∷ conv_name.Regsub ∷ conv_name.UrlDec ∷ conv_name.Iif ∷ conv_name.Bool
    ∷ conv_name.Even ∷ conv_name.Odd ∷ conv_name.Not ∷ conv_name.Add ∷ conv_name.Sub
    ∷ conv_name.Mul ∷ conv_name.Div ∷ conv_name.Mod ∷ conv_name.Neg ∷ conv_name.And ∷ conv_name.Or
    ∷ conv_name.Xor ∷ conv_name.Cpl ∷ conv_name.Ipmask ∷ conv_name.Base64 ∷ conv_name.Ub64enc
    ∷ conv_name.B64dec ∷ conv_name.Ub64dec ∷ conv_name.Hex ∷ conv_name.Hex2i ∷ conv_name.Sha2 ∷ [])
