-- What building a converter of texts says of the text that it reads as a regular expression.
use Rattle.std.specs.Prelude.{◌≡◌, true, false, Option, Some, None, IsSome, IsUtf8, Result, Err, ⊤}
use Rattle.hx_ast.specs.declared.conv.Conv.{Conv}
use Rattle.hx_ast.specs.declared.conv.Conv.TheVariants as conv
use Rattle.hx_outside.specs.Expressions.{expression}
use Rattle.hx_outside.specs.Makers.{CountsLarge, ExpressionText, MakerState}
use Rattle.hx_outside.specs.declared.pattern_fault.PatFault.{PatFault}
use Rattle.hx_outside.specs.declared.pattern_fault.PatFault.TheVariants.{BadRegex, TooLarge, NotUtf8, NoMemory}

-- the text that a converter reads as a regular expression, and its case, if it reads one
abbrev pub expression_text : Conv → Option ExpressionText
expression_text (conv.Regsub text sub each ci) = Some (record { text = text; ci = ci })
expression_text _ = None

-- the text is an expression
pub record IsRegex (asked : ExpressionText) : Type 0 where
  pub utf8 : IsUtf8 asked.text
  pub expression : IsSome (expression asked.ci asked.text)

-- the text is UTF-8, but no expression
pub record IsNoRegex (asked : ExpressionText) : Type 0 where
  pub utf8 : IsUtf8 asked.text
  pub none : expression asked.ci asked.text ≡ None

-- why a converter of texts isn't built: its expression, or memory
abbrev pub IsExpressionFault : PatFault → Type 0
IsExpressionFault BadRegex = ⊤
IsExpressionFault TooLarge = ⊤
IsExpressionFault NotUtf8 = ⊤
IsExpressionFault NoMemory = ⊤
IsExpressionFault _ = ⊥

-- what a maker of regular expressions knows before and after such a text is read
abbrev pub BuildCountsLarge :
    {T : Type 0} → Result T PatFault → (ExpressionText → Type 0) → MakerState → MakerState → Type 0
BuildCountsLarge (Err TooLarge) Asked before now = CountsLarge true Asked before now
BuildCountsLarge _ Asked before now = CountsLarge false Asked before now
