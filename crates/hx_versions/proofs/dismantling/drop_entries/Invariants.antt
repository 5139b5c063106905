use Rattle.std.proofs.Common.{◌≡◌, ℕ, ◌+◌, ◌≤◌, List, All, length}
use Rattle.hx_pool.specs.Pool.{live_count}
use Rattle.hx_pool.specs.Chain.{LiesIn}
use Rattle.hx_versions.specs.StoredEntries.{entry_links}
use Rattle.hx_versions.specs.Contents.{IsOfVersion, LeavesEntries}
use Rattle.hx_versions.proofs.dismantling.drop_entries.Given as goal

abbrev pub invariant-loop-taken : goal.invariant-loop-taken
invariant-loop-taken g l = record {
  most : l.taken ≤ l.n;
  live : live_count l.entries + l.taken ≡ live_count l.fn.entries;
  chain : (version : ℕ) (slots : List ℕ) → LiesIn entry_links l.fn.entries l.fn.chain slots
      → All (IsOfVersion l.fn.entries version) slots → (left : List ℕ)
      × LiesIn entry_links l.entries l.chain left × All (IsOfVersion l.entries version) left
      × (length left + l.taken ≡ length slots) × LeavesEntries version l.fn.entries l.entries;
}
