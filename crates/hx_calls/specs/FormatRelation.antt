-- Formats, and the texts that write them (HAProxy configuration manual 2.4, section 8.2.4).
use Rattle.std.specs.Prelude.{◌≢◌, ℕ, List, [], ◌∷◌, ◌++◌, Some}
use Rattle.hx_ast.specs.declared.Expr.{Expr}
use Rattle.hx_ast.specs.declared.Part.{Part}
use Rattle.hx_ast.specs.declared.Part.TheVariants.{Value}
use Rattle.hx_calls.specs.ExpressionRelation.{WritesExpr}
use Rattle.hx_base.specs.Bytes.{ascii}
use Rattle.hx_calls.specs.Formats.{with_byte}
use Rattle.hx_calls.specs.Known.{Known, Reading, reading}

-- Nothing; or a format after a byte that stands for itself, after `%%`, or after an expression in
-- brackets, which the text inside writes with its last bracket.
pub data WritesFormat (line : ℕ) : Known → List ℕ → Reading (List Part) → Type 0 where
  Nothing : (before : Known) → WritesFormat line before [] (reading [] before)
  PlainByte : (before : Known) (b : ℕ) (text : List ℕ) (others : Reading (List Part))
      → b ≢ ascii "%" → WritesFormat line before text others
      → WritesFormat line before (b ∷ text) (with_byte b others)
  PercentSign : (before : Known) (text : List ℕ) (others : Reading (List Part))
      → WritesFormat line before text others
      → WritesFormat line before (ascii "%" ∷ ascii "%" ∷ text)
      (with_byte (ascii "%") others)
  ValueInBrackets : (before : Known) (inside text : List ℕ) (expr : Reading Expr)
      (others : Reading (List Part))
      → WritesExpr (Some (ascii "]")) line before inside expr
      → WritesFormat line expr.known text others
      → WritesFormat line before (ascii "%" ∷ ascii "[" ∷ (inside ++ text))
      (reading (Value expr.value ∷ others.value) others.known)
