-- What rules look at and change: the message, the variables and the tables.
use Rattle.std.specs.Prelude.{ℕ, Bool, List}
use Rattle.hx_fetch.specs.World.{Context}
use Rattle.hx_fetch.specs.declared.world.Conn.{Conn}
use Rattle.hx_http.specs.Parts.{Parts}
use Rattle.hx_sample.specs.Changes.{ListChange}
use Rattle.hx_sample.specs.Find.{Entry}
use Rattle.hx_sample.specs.Tables.{TableHead}
use Rattle.hx_sample.specs.Vars.{Scopes}

-- what rules know of tables whose states are those of S: their heads, their lists, and what a
-- change of the list at a position makes of them
pub record TableView (S : Type 0) : Type 0 where
  pub heads : S → List TableHead
  pub lists : S → List (List Entry)
  pub after : S → ℕ → ListChange → S

-- the view of these three
abbrev pub table_view : {S : Type 0} → (S → List TableHead) → (S → List (List Entry))
    → (S → ℕ → ListChange → S) → TableView S
table_view heads lists after = record { heads = heads; lists = lists; after = after }

-- The state between two rules: the head of the request, the variables of every scope, the tables,
-- and whether a rewrite that fails ends the request with an error.
pub record State (S : Type 0) : Type 0 where
  pub message : Parts
  pub vars : Scopes
  pub tables : S
  pub strict : Bool

-- what something is in a state, if this is what it is for a context, and for the heads and the
-- lists of tables
abbrev pub in_state : {S A : Type 0} → (Context → List TableHead → List (List Entry) → A)
    → TableView S → Conn → State S → A
in_state given view conn state =
    given (record { message = state.message; conn = conn; vars = state.vars })
    (view.heads state.tables) (view.lists state.tables)
