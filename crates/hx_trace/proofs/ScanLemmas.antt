-- The best of the entries that were looked at, and those that are left.
use Rattle.std.proofs.Common.{◌≡◌, Bool, true, false, List, [], ◌∷◌, Option, Some, None, refl, sym, ◌∙◌}
use Rattle.hx_text.specs.declared.kinds.By.{By}
use Rattle.hx_sample.specs.declared.sample.Value.{Value}
use Rattle.hx_sample.specs.Find.{hitting_entries, Entry}
use Rattle.hx_sample.specs.Keys.{hits}
use Rattle.hx_trace.specs.Ranks.{better_of, first_highest, highest_entry, rank_of, with_best}
use Rattle.hx_trace.proofs.RankLemmas.{highest_of_best, highest_of_better}

-- the best so far and the entries that are left give what is found in all
pub record Leaves (method : By) (ci : Bool) (v : Value) (all left : List Entry) (best : Option Entry) : Type 0 where
  pub is :
      first_highest (λ entry. rank_of method ci v entry.key)
      (with_best best (hitting_entries method ci left v))
      ≡ highest_entry method ci all v

pub leaves_all : (method : By) (ci : Bool) (v : Value) (all : List Entry) → Leaves method ci v all all None
leaves_all method ci v all = record { is = refl }

-- an entry that doesn't hit
pub leaves_missed : (method : By) (ci : Bool) (v : Value) (all left : List Entry) (best : Option Entry) (entry : Entry)
    → hits method ci entry.key v ≡ false → Leaves method ci v all (entry ∷ left) best
    → Leaves method ci v all left best
leaves_missed method ci v all left best entry misses before =
    let is = rw misses at before.is in
    record { is = is }

-- one that hits
pub leaves_better : (method : By) (ci : Bool) (v : Value) (all left : List Entry) (best : Option Entry) (entry : Entry)
    → hits method ci entry.key v ≡ true → Leaves method ci v all (entry ∷ left) best
    → Leaves method ci v all left (Some (better_of (λ e. rank_of method ci v e.key) best entry))
leaves_better method ci v all left best entry hit before =
    let is = rw hit at before.is in
    record {
      is = sym
          (highest_of_better (λ (e : Entry). rank_of method ci v e.key) best entry (hitting_entries method ci left v))
          ∙ is;
    }

-- none is left
pub leaves_none : (method : By) (ci : Bool) (v : Value) (all : List Entry) (best : Option Entry)
    → Leaves method ci v all [] best → best ≡ highest_entry method ci all v
leaves_none method ci v all best last =
    sym (highest_of_best (λ (e : Entry). rank_of method ci v e.key) best) ∙ last.is
