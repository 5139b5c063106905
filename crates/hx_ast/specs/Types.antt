-- Which types the parts of an expression take and give, as far as its syntax tells (HAProxy
-- configuration manual 2.4, sections 7.3.1 to 7.3.6).
use Rattle.std.specs.Prelude.{List, fold}
use Rattle.hx_text.specs.declared.kinds.Kind.{Kind}
use Rattle.hx_text.specs.declared.kinds.Kind.TheVariants as kind
use Rattle.hx_text.specs.declared.kinds.Out.{Out}
use Rattle.hx_text.specs.declared.kinds.Out.TheVariants as out
use Rattle.hx_text.specs.Methods.{kind_by}
use Rattle.hx_ast.specs.declared.conv.Conv.{Conv}
use Rattle.hx_ast.specs.declared.conv.Conv.TheVariants as conv
use Rattle.hx_ast.specs.declared.expr.Expr.{Expr}
use Rattle.hx_ast.specs.declared.fetch.Fetch.{Fetch}
use Rattle.hx_ast.specs.declared.fetch.Fetch.TheVariants as fetch

-- the type of what a fetch finds: a string, where no row says otherwise; of a variable it isn't
-- known
abbrev pub fetch_kind : Fetch → Kind
fetch_kind fetch.AlwaysTrue = kind.Bool
fetch_kind fetch.AlwaysFalse = kind.Bool
fetch_kind (fetch.Bool b) = kind.Bool
fetch_kind (fetch.Int n) = kind.Int
fetch_kind (fetch.Bin bytes) = kind.Bin
fetch_kind (fetch.Ipv4 ip) = kind.Ip
fetch_kind (fetch.Ipv6 ip) = kind.Ip
fetch_kind (fetch.Var name default) = kind.Any
fetch_kind fetch.Src = kind.Ip
fetch_kind fetch.Dst = kind.Ip
fetch_kind fetch.SrcPort = kind.Int
fetch_kind fetch.DstPort = kind.Int
fetch_kind fetch.Method = kind.Method
fetch_kind (fetch.ReqHdrIp name at) = kind.Ip
fetch_kind (fetch.ReqHdrVal name at) = kind.Int
fetch_kind (fetch.ReqHdrCnt name) = kind.Int
fetch_kind (fetch.ReqCookCnt name) = kind.Int
fetch_kind _ = kind.Str

-- the type of the values of a map
abbrev pub kind_out : Out → Kind
kind_out out.Str = kind.Str
kind_out out.Int = kind.Int
kind_out out.Ip = kind.Ip

-- The type to which a converter casts its input, and the type of what it gives: strings, where no
-- row says otherwise.
abbrev pub conv_kinds : Conv → Kind × Kind
conv_kinds conv.Length = (kind.Str, kind.Int)
conv_kinds (conv.Bytes offset len) = (kind.Bin, kind.Bin)
conv_kinds (conv.Strcmp variable) = (kind.Str, kind.Int)
conv_kinds (conv.Map head by out default) = (kind_by by, kind_out out)
conv_kinds (conv.Iif t f) = (kind.Bool, kind.Str)
conv_kinds conv.Bool = (kind.Int, kind.Bool)
conv_kinds conv.Even = (kind.Int, kind.Bool)
conv_kinds conv.Odd = (kind.Int, kind.Bool)
conv_kinds conv.Not = (kind.Int, kind.Bool)
conv_kinds (conv.Add operand) = (kind.Int, kind.Int)
conv_kinds (conv.Sub operand) = (kind.Int, kind.Int)
conv_kinds (conv.Mul operand) = (kind.Int, kind.Int)
conv_kinds (conv.Div operand) = (kind.Int, kind.Int)
conv_kinds (conv.Mod operand) = (kind.Int, kind.Int)
conv_kinds conv.Neg = (kind.Int, kind.Int)
conv_kinds (conv.And operand) = (kind.Int, kind.Int)
conv_kinds (conv.Or operand) = (kind.Int, kind.Int)
conv_kinds (conv.Xor operand) = (kind.Int, kind.Int)
conv_kinds conv.Cpl = (kind.Int, kind.Int)
conv_kinds (conv.Ipmask mask bits) = (kind.Ip, kind.Ip)
conv_kinds conv.Base64 = (kind.Bin, kind.Str)
conv_kinds conv.Ub64enc = (kind.Bin, kind.Str)
conv_kinds conv.B64dec = (kind.Str, kind.Bin)
conv_kinds conv.Ub64dec = (kind.Str, kind.Bin)
conv_kinds conv.Hex = (kind.Bin, kind.Str)
conv_kinds conv.Hex2i = (kind.Str, kind.Int)
conv_kinds (conv.Sha2 bits) = (kind.Bin, kind.Bin)
conv_kinds _ = (kind.Str, kind.Str)

abbrev pub input_kind : Conv → Kind
input_kind c = (conv_kinds c).0

abbrev pub output_kind : Conv → Kind
output_kind c = (conv_kinds c).1

-- the type of what the last of several converters gives, where the first takes a value of this type
abbrev pub kind_after : Kind → List Conv → Kind
kind_after before convs = fold (λ kind c. output_kind c) before convs

-- the type of the values of an expression
abbrev pub expr_kind : Expr → Kind
expr_kind expr = kind_after (fetch_kind expr.fetch) expr.convs
