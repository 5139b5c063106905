-- The heads under which the declarations of ACLs look samples up (HAProxy configuration manual 2.4,
-- section 7.1).
use Rattle.std.specs.Prelude.{ℕ, ◌<◌, List, length}
use Rattle.std.specs.List.{All}
use Rattle.hx_ast.specs.declared.statement.Decl.{Decl}
use Rattle.hx_expr.specs.Values.{HasTableHeads, IsHeadBy}
use Rattle.hx_sample.specs.Tables.{TableHead, TakesValue}
use Rattle.hx_sample.specs.declared.sample.Value.{Value}

-- The heads of the declaration are among these, with its method, and so are those of its
-- expression's maps. Its inline patterns stand under the last of its heads, so the words that write
-- them play no part.
pub record HasTestHeads (heads : List TableHead) (decl : Decl) : Type 0 where
  pub maps : HasTableHeads heads decl.expr.convs
  pub patterns : All (λ position. IsHeadBy heads position decl.by) decl.heads

-- the head is one of these, and its method looks at values of this type
pub record TakesHead (heads : List TableHead) (v : Value) (position : ℕ) : Type 0 where
  pub head : position < length heads
  pub value : TakesValue heads position v
