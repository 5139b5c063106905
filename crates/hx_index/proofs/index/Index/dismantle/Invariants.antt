use Rattle.std.proofs.Common.{◌≡◌, ℕ, ◌+◌, ◌*◌, ◌≤◌, List}
use Rattle.hx_pool.specs.Pool.{get, live_count}
use Rattle.hx_pool.specs.Chain.{IsIn}
use Rattle.hx_index.specs.Items.{Item, LeavesOut, nodes_of}
use Rattle.hx_index.specs.Index.{Holds, ignores_case, method_of}
use Rattle.hx_index.proofs.index.Index.dismantle.Given as goal

abbrev pub invariant-loop-taken : goal.invariant-loop-taken
invariant-loop-taken g l = record {
  holds : (items : List Item) → Holds l.fn.nodes l.fn.self items → (left : List Item) × Holds l.nodes l.self left × LeavesOut l.taken items left;
  others : (items : List Item) → Holds l.fn.nodes l.fn.self items → (k : ℕ) → (IsIn k (nodes_of items) → ⊥) → get l.nodes k ≡ get l.fn.nodes k;
  spare : l.nodes.spare ≡ l.fn.nodes.spare + l.taken;
  live : live_count l.nodes + l.taken ≡ live_count l.fn.nodes;
  cost : l.steps ≤ l.fn.steps + 16 * l.taken;
  method_is : method_of l.self ≡ method_of l.fn.self;
  case_is : ignores_case l.self ≡ ignores_case l.fn.self;
}
