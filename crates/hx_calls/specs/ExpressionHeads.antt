-- Which heads an expression or a format names: those of its maps (HAProxy configuration manual 2.4,
-- section 7.3.1, `map`).
use Rattle.std.specs.Prelude.{◌≡◌, ℕ, ◌<◌, List, length, slice_get, IfSome, ⊤}
use Rattle.std.specs.List.{All}
use Rattle.hx_text.specs.declared.By.{By}
use Rattle.hx_ast.specs.declared.Conv.{Conv}
use Rattle.hx_ast.specs.declared.Conv.TheVariants as conv
use Rattle.hx_ast.specs.declared.Expr.{Expr}
use Rattle.hx_ast.specs.declared.Part.{Part}
use Rattle.hx_ast.specs.declared.Part.TheVariants.{Text, Value}
use Rattle.hx_calls.specs.declared.table_specs.HeadSpec.{HeadSpec}

-- the number of a head, which searches by this method
abbrev pub IsHeadBy : List HeadSpec → By → ℕ → Type 0
IsHeadBy heads by h = (h < length heads) × IfSome (slice_get heads h) (λ head. head.by ≡ by)

-- a converter that looks up in a map names a head with its method
abbrev pub NamesHead : List HeadSpec → Conv → Type 0
NamesHead heads (conv.Map head by out default) = IsHeadBy heads by head
NamesHead heads _ = ⊤

-- the maps of an expression
abbrev pub ExprNames : List HeadSpec → Expr → Type 0
ExprNames heads expr = All (NamesHead heads) expr.convs

abbrev pub PartNames : List HeadSpec → Part → Type 0
PartNames heads (Text bytes) = ⊤
PartNames heads (Value expr) = ExprNames heads expr

abbrev pub FormatNames : List HeadSpec → List Part → Type 0
FormatNames heads format = All (PartNames heads) format
