-- Which arguments a converter may have (HAProxy configuration manual 2.4, section 7.3.1).
use Rattle.std.specs.Prelude.{◌≡◌, ℕ, ◌<◌, ◌≤◌, ◌||◌, ◌==◌, ℤ, pos, ◌≤ℤ◌, Bool, true, false, List, length, Option, IfSome, IsSome, IsTrue, ⊤}
use Rattle.std.specs.List.{All}
use Rattle.hx_text.specs.Address.{ip_of}
use Rattle.hx_text.specs.Number.{int_of}
use Rattle.hx_text.specs.declared.kinds.By.{By}
use Rattle.hx_text.specs.declared.kinds.By.TheVariants as method
use Rattle.hx_text.specs.declared.kinds.Out.{Out}
use Rattle.hx_text.specs.declared.kinds.Out.TheVariants as output
use Rattle.hx_ast.specs.declared.conv.Conv.{Conv}
use Rattle.hx_ast.specs.declared.conv.Conv.TheVariants as conv
use Rattle.hx_ast.specs.declared.expr.Expr.{Expr}
use Rattle.hx_ast.specs.declared.val.Val.{Val}
use Rattle.hx_ast.specs.declared.val.Val.TheVariants as val
use Rattle.hx_ast.specs.Fetches.{IsFetch}
use Rattle.hx_ast.specs.Names.{IsVariable}

abbrev pub IsNotNegative : ℤ → Type 0
IsNotNegative n = pos 0 ≤ℤ n

-- which pieces of a string `field` and `word` take: one of a number other than 0, of those between
-- one delimiter or more, and how many from there
pub record IsPieceChoice (at : ℤ) (bytes : List ℕ) (most : Option ℤ) : Type 0 where
  pub index : ¬ (at ≡ pos 0)
  pub delims : 0 < length bytes
  pub count : IfSome most IsNotNegative

-- an operand of arithmetic: any number, or a variable
abbrev pub IsOperand : Val → Type 0
IsOperand (val.Number n) = ⊤
IsOperand (val.Var name) = IsVariable name

-- the match methods by which maps are searched
abbrev pub is_map_method : By → Bool
is_map_method method.Found = false
is_map_method method.Bool = false
is_map_method method.Bin = false
is_map_method method.Len = false
is_map_method _ = true

-- the texts that a map's value of this type can have
abbrev pub IsReadableAs : Out → List ℕ → Type 0
IsReadableAs output.Str text = ⊤
IsReadableAs output.Int text = IsSome (int_of text)
IsReadableAs output.Ip text = IsSome (ip_of text)

-- a map is searched by one of its methods, and the default, where one is given, is a value
pub record IsMapChoice (by : By) (out : Out) (text : Option (List ℕ)) : Type 0 where
  pub method : IsTrue (is_map_method by)
  pub default : IfSome text (IsReadableAs out)

-- the lengths of the digests of SHA-2 (FIPS 180-4), in bits
abbrev pub is_digest_length : ℕ → Bool
is_digest_length bits = bits == 224 || bits == 256 || bits == 384 || bits == 512

-- The arguments of the converter are such as its row of the table allows. Converters that aren't
-- named here have no argument, or take any. Whether the first argument of `regsub` is a regular
-- expression isn't said here: it shows when the expression is made.
abbrev pub IsConv : Conv → Type 0
IsConv (conv.Field index delims count) = IsPieceChoice index delims count
IsConv (conv.Word index delims count) = IsPieceChoice index delims count
IsConv (conv.Bytes offset len) = IsNotNegative offset × IfSome len IsNotNegative
IsConv (conv.Concat start variable end) = IfSome variable IsVariable
IsConv (conv.Strcmp variable) = IsVariable variable
IsConv (conv.Map head by out default) = IsMapChoice by out default
IsConv (conv.Add operand) = IsOperand operand
IsConv (conv.Sub operand) = IsOperand operand
IsConv (conv.Mul operand) = IsOperand operand
IsConv (conv.Div operand) = IsOperand operand
IsConv (conv.Mod operand) = IsOperand operand
IsConv (conv.And operand) = IsOperand operand
IsConv (conv.Or operand) = IsOperand operand
IsConv (conv.Xor operand) = IsOperand operand
IsConv (conv.Ipmask mask bits) = IfSome bits (λ n. n ≤ 128)
IsConv (conv.Sha2 bits) = IfSome bits (λ n. IsTrue (is_digest_length n))
IsConv _ = ⊤

-- a fetch and converters, each with arguments that its row allows
pub record IsExpr (expr : Expr) : Type 0 where
  pub fetch : IsFetch expr.fetch
  pub convs : All IsConv expr.convs
