-- The texts that an expression reads as regular expressions: those of its `regsub` converters
-- (HAProxy configuration manual 2.4, section 7.3.1).
use Rattle.std.specs.Prelude.{Bool, true, List, is_some}
use Rattle.std.specs.List.{filter_map}
use Rattle.hx_ast.specs.declared.conv.Conv.{Conv}
use Rattle.hx_ast.specs.declared.conv.Conv.TheVariants as conv
use Rattle.hx_ast.specs.declared.expr.Expr.{Expr}
use Rattle.hx_conv_text.specs.Building.{expression_text}
use Rattle.hx_outside.specs.Makers.{ExpressionText}
use Rattle.hx_sample.specs.Keys.{key_expression}

-- whether the regular expression of the converter, where it has one, is one: UTF-8, and nested no
-- deeper than is allowed
abbrev pub has_expression : Conv → Bool
has_expression (conv.Regsub text replacement all ci) = is_some (key_expression ci text)
has_expression _ = true

-- the texts that converters read as regular expressions, each with its case, in their order
abbrev pub texts_of : List Conv → List ExpressionText
texts_of convs = filter_map expression_text convs

-- the texts that an expression reads as regular expressions
abbrev pub expression_texts : Expr → List ExpressionText
expression_texts expr = texts_of expr.convs
