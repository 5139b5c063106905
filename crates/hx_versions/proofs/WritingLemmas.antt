-- An entry in its slot gets another value of one of its fields.
use Rattle.std.proofs.Common.{◌≡◌, ℕ, ◌+◌, get_or, Option, Some, None, is_some, IsSome, cond, refl, sym, ap, subst, ◌∙◌, arith}
use Rattle.std.proofs.lemmas.List.Sums.{sum_by-set}
use Rattle.hx_pool.specs.Pool.{IsLive, Updates, get, live_count, with_value}
use Rattle.hx_pool.proofs.PoolLemmas.{Updates-with_value, live_within}
use Rattle.hx_versions.specs.declared.stored_entry.StoredEntry.{StoredEntry}
use Rattle.hx_versions.specs.Contents.{EntryPool}
use Rattle.hx_versions.proofs.IndexListLemmas.{some_same}

abbrev count_one : Option StoredEntry → ℕ
count_one o = cond (is_some o) 1 0

pub live_entry : (e : EntryPool) (slot : ℕ) (s : StoredEntry) → get e slot ≡ Some s → IsLive e slot
live_entry e slot s is = subst IsSome (sym is) refl

-- the slot has the changed entry, by whichever equation the entry is known
pub written : (e : EntryPool) (slot : ℕ) (s t : StoredEntry) (change : StoredEntry → StoredEntry) → get e slot ≡ Some s → get e slot ≡ Some t → Updates e (with_value e slot (change s)) slot (Some (change t))
written e slot s t change is also =
    subst (λ x. Updates e (with_value e slot (change s)) slot (Some (change x))) (some_same s t (sym is ∙ also))
    (Updates-with_value e slot (change s) (live_entry e slot s is))

-- as many slots are live
pub written_live : (e : EntryPool) (slot : ℕ) (s new : StoredEntry) → get e slot ≡ Some s → live_count (with_value e slot new) ≡ live_count e
written_live e slot s new is =
    let within = live_within e slot (live_entry e slot s is) in
    let counted : live_count (with_value e slot new) + count_one (get_or e.slots slot None) ≡ live_count e + 1 = sum_by-set (λ (o : Option StoredEntry). cond (is_some o) 1 0) e.slots slot (Some new) None within in
    let one : count_one (get_or e.slots slot None) ≡ 1 = ap count_one is in
    omega (arith, counted, one)
