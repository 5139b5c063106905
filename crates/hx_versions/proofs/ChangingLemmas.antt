-- The entries of one version of a row change.
use Rattle.std.proofs.Common.{◌≡◌, ◌≢◌, ℕ, ◌+◌, ◌-◌, ◌*◌, ◌≤◌, List, [], ◌∷◌, ◌++◌, length, Option, Some, All, refl, sym, ap, subst, ◌∙◌, arith, ltb, ◌==◌, ◌&&◌, ne_eqb}
use Rattle.std.proofs.lemmas.Bool.{lt-ltb}
use Rattle.hx_pool.specs.Pool.{Updates, get, live_count}
use Rattle.hx_versions.specs.declared.content.Content.{Content}
use Rattle.hx_versions.specs.declared.pools.Pools.{Pools}
use Rattle.hx_versions.specs.declared.pools.Row.{Row}
use Rattle.hx_versions.specs.declared.stored_version.Owner.{Owner}
use Rattle.hx_versions.specs.declared.stored_version.StoredVersion.{StoredVersion}
use Rattle.hx_versions.specs.Contents.{IsContent, LeavesOthers, PlacedEntry, ways_of}
use Rattle.hx_versions.specs.Store.{ChangesVersionAt, HasContent, HasVersion, IsRow, PlacedVersion, is_emptied}
use Rattle.hx_versions.proofs.PartLemmas.{all_here}
use Rattle.hx_versions.proofs.RowLemmas.{keeps_beside}
use Rattle.hx_versions.proofs.StoreLemmas.{row_changed}

module _ (owner : Owner) (p : Pools) (row : Row) (before : List PlacedVersion) (v : PlacedVersion) (after : List PlacedVersion) (slot : ℕ) (here : v.slot ≡ slot) (h : IsRow p owner row (before ++ v ∷ after)) where
  -- the version in the slot
  pub version_at : (s : StoredVersion) × (get p.versions slot ≡ Some s) × (s.owner ≡ owner) × (s.number ≡ v.number) × (s.serial ≡ v.serial) × (s.content ≡ v.content)
  version_at =
      let has = all_here (HasVersion p.versions owner) before v after h.found in
      (has.stored, ap (get p.versions) (sym here) ∙ has.is, has.owner_is, has.number_is, has.serial_is, has.content_is)

  -- its content stands for its entries
  pub content_at : (content : Content) → content ≡ version_at.0.content → IsContent p.entries p.nodes slot content v.placed
  content_at content same =
      let stands = all_here (HasContent p) before v after h.contents in
      subst (λ c. IsContent p.entries p.nodes slot c v.placed) (sym (same ∙ version_at.5))
      (subst (λ k. IsContent p.entries p.nodes k v.content v.placed) here stands)

  module _ (q : Pools) (s' : StoredVersion) (content : Content) (serial : ℕ) (placed : List PlacedEntry)
      (updates : Updates p.versions q.versions slot (Some s')) (leaves : LeavesOthers slot p.entries q.entries p.nodes q.nodes)
      (links : s'.links ≡ version_at.0.links) (owner_is : s'.owner ≡ version_at.0.owner) (number_is : s'.number ≡ version_at.0.number)
      (serial_is : s'.serial ≡ serial) (content_is : s'.content ≡ content) where
    -- the row stands with it changed, and other rows as before
    pub changes_at : IsContent q.entries q.nodes slot content placed → ways_of content.indexes.items ≡ ways_of v.content.indexes.items
        → live_count q.entries + live_count q.nodes + length v.placed * (1 + length (ways_of v.content.indexes.items)) ≡ live_count p.entries + live_count p.nodes + length placed * (1 + length (ways_of v.content.indexes.items))
        → ChangesVersionAt p q owner row before v after serial placed
    changes_at stands ways live = record {
      content = content;
      ways = ways;
      row_is =
          row_changed owner p q row before v (record v { serial = serial; content = content; placed = placed }) after h refl version_at.0 s'
          (ap (get p.versions) here ∙ version_at.1)
          (subst (λ k. Updates p.versions q.versions k (Some s')) (sym here) updates) links
          (subst (λ k. LeavesOthers k p.entries q.entries p.nodes q.nodes) (sym here) leaves)
          (owner_is ∙ version_at.2) (number_is ∙ version_at.3) serial_is content_is
          (subst (λ k. IsContent q.entries q.nodes k content placed) (sym here) stands);
      others = λ theirs differs. keeps_beside owner theirs p q slot version_at.0 (Some s') version_at.1 version_at.2 differs updates leaves;
      live = live;
    }

-- slots of entries and nodes, by counts
pub live_by_counts : (entries nodes entries' nodes' before now ways : ℕ) → entries' + before ≡ entries + now → nodes' + before * ways ≡ nodes + now * ways → entries' + nodes' + before * (1 + ways) ≡ entries + nodes + now * (1 + ways)
live_by_counts entries nodes entries' nodes' before now ways e n =
    let a : before * (1 + ways) ≡ before + before * ways = omega arith in
    let b : now * (1 + ways) ≡ now + now * ways = omega arith in
    omega (arith, e, n, a, b)

pub fewer_by_counts : (nodes nodes' before now ways : ℕ) → now ≤ before → nodes' + before * ways ≡ nodes + now * ways → nodes' ≤ nodes
fewer_by_counts nodes nodes' before now ways few n =
    let gap : before * ways ≡ now * ways + (before - now) * ways =
    ap (λ k. k * ways) (split before now few) ∙ plus_times now (before - now) ways in
    omega (arith, n, gap)
  where
    split : (a b : ℕ) → b ≤ a → a ≡ b + (a - b)
    split a b le = omega (arith, le)

    plus_times : (a b k : ℕ) → (a + b) * k ≡ a * k + b * k
    plus_times a b k = omega arith

-- there were entries and there are none, by counts
pub emptied_is : (placed left : List PlacedEntry) (before now : ℕ) → before ≡ length placed → now ≡ length left → (ltb 0 before && now == 0) ≡ is_emptied placed left
emptied_is [] [] before now b n = rw b refl
emptied_is [] (q ∷ left) before now b n = rw b refl
emptied_is (p ∷ placed) [] before now b n = rw (lt-ltb 0 before (omega (arith, b)), n) refl
emptied_is (p ∷ placed) (q ∷ left) before now b n =
    rw (lt-ltb 0 before (omega (arith, b)), ne_eqb now 0 (λ e. omega (arith, e, n))) refl
