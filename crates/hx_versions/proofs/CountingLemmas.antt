-- No slot is lost where a version of one row changes, is retired or is cleared.
use Rattle.std.proofs.Common.{◌≡◌, ◌≢◌, ℕ, zero, suc, ◌+◌, ◌*◌, ◌^◌, ◌<◌, ◌≤◌, List, [], ◌∷◌, ◌++◌, length, map, set, Option, Some, refl, sym, ap, subst, ◌∙◌, arith}
use Rattle.std.specs.List.{sum_by}
use Rattle.std.specs.Prelude.{slice_get}
use Rattle.std.proofs.lemmas.List.Sums.{sum_by_push}
use Rattle.hx_pool.specs.Pool.{live_count}
use Rattle.hx_versions.specs.declared.pools.Pools.{Pools}
use Rattle.hx_versions.specs.Contents.{remaining_slots}
use Rattle.hx_versions.specs.Rows.{ShownVersion, filled_one, kept_slots, row_slots, version_slots}
use Rattle.hx_versions.specs.Store.{CountsSlots, RetiredVersion, filled_count, waiting_slots}
use Rattle.hx_versions.proofs.PartLemmas.{sum_about, sum_beside}
use Rattle.hx_versions.proofs.StoreLemmas.{sum_changed}

abbrev pub slots_waiting : RetiredVersion → ℕ
slots_waiting v = 1 + remaining_slots v.left

abbrev pub row_filled : List ShownVersion → ℕ
row_filled row = sum_by filled_one row

-- ---- sums over rows, of which one is another

module _ (shown : List (List ShownVersion)) (r : ℕ) (old new : List ShownVersion) (is : slice_get shown r ≡ Some old) where
  pub kept_changed : kept_slots (set shown r new) + row_slots old ≡ kept_slots shown + row_slots new
  kept_changed = sum_changed row_slots shown r old new is

  pub filled_changed : filled_count (set shown r new) + row_filled old ≡ filled_count shown + row_filled new
  filled_changed = sum_changed row_filled shown r old new is

module _ (p q : Pools) (waiting filled waiting' filled' : ℕ) (shown : List (List ShownVersion)) (gone : List RetiredVersion) (r : ℕ) (xs : List ShownVersion) (s : ShownVersion) (ys : List ShownVersion) (is : slice_get shown r ≡ Some (xs ++ s ∷ ys)) (h : CountsSlots p waiting filled shown gone) where
  -- the version waits from then on
  pub counts_retired : (left : RetiredVersion) → slots_waiting left ≡ version_slots s
      → live_count q.versions ≡ live_count p.versions → live_count q.entries ≡ live_count p.entries → live_count q.nodes ≡ live_count p.nodes
      → q.versions.spare ≡ p.versions.spare → waiting' ≡ waiting + version_slots s → filled' + filled_one s ≡ filled
      → CountsSlots q waiting' filled' (set shown r (xs ++ ys)) (gone ++ left ∷ [])
  counts_retired left left_is versions entries nodes spare waits fills =
      let kept = kept_changed shown r (xs ++ s ∷ ys) (xs ++ ys) is in
      let full = filled_changed shown r (xs ++ s ∷ ys) (xs ++ ys) is in
      let k1 = sum_about version_slots xs s ys in
      let k2 = sum_beside version_slots xs ys in
      let f1 = sum_about filled_one xs s ys in
      let f2 = sum_beside filled_one xs ys in
      let more = sum_by_push slots_waiting gone left in
      record {
        waits = omega (arith, waits, h.waits, more, left_is);
        live = omega (arith, versions, entries, nodes, h.live, kept, k1, k2, waits);
        fills = omega (arith, h.fills, fills, full, f1, f2);
        spare = omega (arith, spare, h.spare, fills);
        versions_fit = omega (arith, versions, h.versions_fit, fills);
        entries_fit = omega (arith, entries, h.entries_fit);
        nodes_fit = omega (arith, nodes, h.nodes_fit);
      }

  -- the version, which has entries, waits from then on, and one without entries takes its place
  pub counts_cleared : (left : RetiredVersion) (light : ShownVersion) → slots_waiting left ≡ version_slots s
      → version_slots light ≡ 1 → filled_one light ≡ 0 → filled_one s ≡ 1
      → live_count q.versions ≡ live_count p.versions + 1 → live_count q.entries ≡ live_count p.entries → live_count q.nodes ≡ live_count p.nodes
      → q.versions.spare + 1 ≡ p.versions.spare → waiting' ≡ waiting + version_slots s → filled' + 1 ≡ filled
      → CountsSlots q waiting' filled' (set shown r (xs ++ light ∷ ys)) (gone ++ left ∷ [])
  counts_cleared left light left_is one none some versions entries nodes spare waits fills =
      let kept = kept_changed shown r (xs ++ s ∷ ys) (xs ++ light ∷ ys) is in
      let full = filled_changed shown r (xs ++ s ∷ ys) (xs ++ light ∷ ys) is in
      let k1 = sum_about version_slots xs s ys in
      let k2 = sum_about version_slots xs light ys in
      let f1 = sum_about filled_one xs s ys in
      let f2 = sum_about filled_one xs light ys in
      let more = sum_by_push slots_waiting gone left in
      record {
        waits = omega (arith, waits, h.waits, more, left_is);
        live = omega (arith, versions, entries, nodes, h.live, kept, k1, k2, waits, one);
        fills = omega (arith, h.fills, fills, full, f1, f2, none, some);
        spare = omega (arith, spare, h.spare, fills);
        versions_fit = omega (arith, versions, h.versions_fit, fills);
        entries_fit = omega (arith, entries, h.entries_fit);
        nodes_fit = omega (arith, nodes, h.nodes_fit);
      }

  -- the version has other entries
  pub counts_changed : (s' : ShownVersion) → waiting' ≡ waiting
      → live_count q.versions ≡ live_count p.versions
      → live_count q.entries + live_count q.nodes + version_slots s ≡ live_count p.entries + live_count p.nodes + version_slots s'
      → filled' + filled_one s ≡ filled + filled_one s'
      → filled' ≤ q.versions.spare → live_count q.versions + filled' ≤ 2 ^ 32 → live_count q.entries ≤ 2 ^ 32 → live_count q.nodes ≤ 2 ^ 32
      → CountsSlots q waiting' filled' (set shown r (xs ++ s' ∷ ys)) gone
  counts_changed s' waits versions live fills spare few_versions few_entries few_nodes =
      let kept = kept_changed shown r (xs ++ s ∷ ys) (xs ++ s' ∷ ys) is in
      let full = filled_changed shown r (xs ++ s ∷ ys) (xs ++ s' ∷ ys) is in
      let k1 = sum_about version_slots xs s ys in
      let k2 = sum_about version_slots xs s' ys in
      let f1 = sum_about filled_one xs s ys in
      let f2 = sum_about filled_one xs s' ys in
      record {
        waits = waits ∙ h.waits;
        live = omega (arith, versions, live, h.live, kept, k1, k2, waits);
        fills = omega (arith, h.fills, fills, full, f1, f2);
        spare = spare;
        versions_fit = few_versions;
        entries_fit = few_entries;
        nodes_fit = few_nodes;
      }
