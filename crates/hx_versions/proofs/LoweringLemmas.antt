-- A walk along all versions of a row, which lowers their numbers.
use Rattle.std.proofs.Common.{◌≡◌, ◌≢◌, ℕ, ◌+◌, ◌-◌, ◌≤◌, List, [], ◌∷◌, ◌++◌, length, map, Option, Some, None, All, refl, sym, ap, subst, ◌∙◌, arith, append-nil}
use Rattle.hx_pool.specs.Pool.{IsLive, Updates, get}
use Rattle.hx_pool.specs.Chain.{LiesIn, first_or}
use Rattle.hx_versions.specs.declared.pools.Pools.{Pools}
use Rattle.hx_versions.specs.declared.pools.Row.{Row}
use Rattle.hx_versions.specs.declared.stored_version.Owner.{Owner}
use Rattle.hx_versions.specs.declared.stored_version.StoredVersion.{StoredVersion}
use Rattle.hx_versions.specs.StoredVersions.{version_links}
use Rattle.hx_versions.specs.Store.{HasContent, IsRow, KeepsVersions, PlacedVersion, VersionPool, lowered_version, version_slots_of}
use Rattle.hx_versions.proofs.ContentLemmas.{leaves_self}
use Rattle.hx_versions.proofs.CountWalkLemmas.{IsFirstOf, lies_about}
use Rattle.hx_versions.proofs.PartLemmas.{all_here}
use Rattle.hx_versions.proofs.RowLemmas.{keeps_beside}
use Rattle.hx_versions.proofs.StoreLemmas.{row_changed}
use Rattle.hx_versions.proofs.VersionWalkLemmas.{has_at, live_at}

abbrev pub lowered_all : ℕ → List PlacedVersion → List PlacedVersion
lowered_all by vs = map (lowered_version by) vs

-- so many versions were passed, which are lowered, and the others are left, the first of them in
-- this slot
pub record LowersPassed (by : ℕ) (p : Pools) (owner : Owner) (row : Row) (vs : List PlacedVersion) (at : Option ℕ) (passed : ℕ) : Type 0 where
  pub before : List PlacedVersion
  pub rest : List PlacedVersion
  pub whole : vs ≡ before ++ rest
  pub here : at ≡ first_or (version_slots_of rest) None
  pub left : length rest + passed ≡ length vs
  pub stands : IsRow p owner row (lowered_all by before ++ rest)

pub lower_begins : (by : ℕ) (p : Pools) (owner : Owner) (row : Row) (vs : List PlacedVersion) (at : Option ℕ) → at ≡ first_or (version_slots_of vs) None → IsRow p owner row vs → LowersPassed by p owner row vs at 0
lower_begins by p owner row vs at here h =
    record { before = []; rest = vs; whole = refl; here = here; left = omega arith; stands = h }

lowered_more : (by : ℕ) (xs : List PlacedVersion) (x : PlacedVersion) (ys : List PlacedVersion) → lowered_all by xs ++ lowered_version by x ∷ ys ≡ lowered_all by (xs ++ x ∷ []) ++ ys
lowered_more by [] x ys = refl
lowered_more by (z ∷ xs) x ys = ap (λ l. lowered_version by z ∷ l) (lowered_more by xs x ys)

append_more : (xs : List PlacedVersion) (x : PlacedVersion) (ys : List PlacedVersion) → xs ++ x ∷ ys ≡ (xs ++ x ∷ []) ++ ys
append_more [] x ys = refl
append_more (z ∷ xs) x ys = ap (λ l. z ∷ l) (append_more xs x ys)

module _ (by : ℕ) (p : Pools) (owner : Owner) (row : Row) (vs : List PlacedVersion) (at : Option ℕ) (passed : ℕ) (w : LowersPassed by p owner row vs at passed) where
  -- none is left
  pub lower_ends : w.rest ≡ [] → IsRow p owner row (lowered_all by vs)
  lower_ends none =
      subst (λ xs. IsRow p owner row (lowered_all by xs)) (sym (w.whole ∙ ap (λ xs. w.before ++ xs) none ∙ append-nil w.before))
      (subst (IsRow p owner row) (ap (λ xs. lowered_all by w.before ++ xs) none ∙ append-nil (lowered_all by w.before)) w.stands)

  module _ (slot : ℕ) (a : IsFirstOf slot w.rest) where
    pub parts : lowered_all by w.before ++ w.rest ≡ lowered_all by w.before ++ a.version ∷ a.after
    parts = ap (λ xs. lowered_all by w.before ++ xs) a.is

    -- what the calls ask of the version at which the walk is
    pub lower_lies : LiesIn version_links p.versions row.versions (version_slots_of (lowered_all by w.before) ++ slot ∷ version_slots_of a.after)
    lower_lies =
        lies_about p owner row (lowered_all by w.before ++ w.rest) (lowered_all by w.before) a.version a.after slot w.stands parts a.here

    pub lower_live : IsLive p.versions slot
    lower_live =
        live_at p owner row (lowered_all by w.before ++ w.rest) (lowered_all by w.before) a.version a.after slot w.stands parts a.here

    abbrev pub lower_has : (stored : StoredVersion) × (get p.versions slot ≡ Some stored) × (stored.owner ≡ owner) × (stored.number ≡ a.version.number) × (stored.serial ≡ a.version.serial) × (stored.content ≡ a.version.content)
    lower_has =
        has_at p owner row (lowered_all by w.before ++ w.rest) (lowered_all by w.before) a.version a.after slot w.stands parts a.here

    pub lower_above : All (λ (v : PlacedVersion). by ≤ v.number) vs → by ≤ a.version.number
    lower_above all =
        all_here (λ (v : PlacedVersion). by ≤ v.number) w.before a.version a.after
        (subst (All (λ (v : PlacedVersion). by ≤ v.number)) (w.whole ∙ ap (λ xs. w.before ++ xs) a.is) all)

    module _ (q : VersionPool) (updates : Updates p.versions q slot (Some (record lower_has.0 { number = lower_has.0.number - by }))) where
      abbrev now : Pools
      now = record p { versions = q }

      -- one more is lowered
      pub lower_on : (next : Option ℕ) → next ≡ first_or (version_slots_of a.after) None → LowersPassed by now owner row vs next (passed + 1)
      lower_on next here = record {
        before = w.before ++ a.version ∷ [];
        rest = a.after;
        whole = w.whole ∙ ap (λ xs. w.before ++ xs) a.is ∙ append_more w.before a.version a.after;
        here = here;
        left = omega (arith, w.left, ap length a.is);
        stands =
            let h = subst (IsRow p owner row) parts w.stands in
            let changed : StoredVersion = record lower_has.0 { number = lower_has.0.number - by } in
            let content : HasContent p a.version = all_here (HasContent p) (lowered_all by w.before) a.version a.after h.contents in
            subst (IsRow now owner row) (lowered_more by w.before a.version a.after)
            (row_changed owner p now row (lowered_all by w.before) a.version (lowered_version by a.version) a.after h refl lower_has.0 changed
            (ap (get p.versions) a.here ∙ lower_has.1) (subst (λ k. Updates p.versions q k (Some changed)) (sym a.here) updates) refl
            (leaves_self a.version.slot p.entries p.nodes)
            lower_has.2 (ap (λ n. n - by) lower_has.3) lower_has.4 lower_has.5 content);
      }

      -- no other version changes
      pub lower_keeps : (theirs : Owner) → theirs ≢ owner → KeepsVersions theirs p now
      lower_keeps theirs differs =
          keeps_beside owner theirs p now slot lower_has.0 (Some (record lower_has.0 { number = lower_has.0.number - by })) lower_has.1 lower_has.2 differs updates (leaves_self slot p.entries p.nodes)
