-- A version gets indexes and entries, or is put into a row.
use Rattle.std.proofs.Common.{◌≡◌, ◌≢◌, ℕ, ◌+◌, ◌*◌, ◌<◌, Bool, List, [], ◌∷◌, ◌++◌, length, map, get_or, set, Some, All, refl, sym, ap, subst, ◌∙◌, inl, inr, arith, append-nil, length-append}
use Rattle.std.specs.Prelude.{slice_get, Result, Ok, Err, IfOk}
use Rattle.std.proofs.lemmas.List.{length-map, map-append}
use Rattle.std.proofs.lemmas.List.Elements.{All-nil}
use Rattle.std.proofs.lemmas.Option.{get_or_from_slice_get, slice_get_read, slice_get_within}
use Rattle.hx_text.specs.declared.kinds.By.{By}
use Rattle.hx_pool.specs.Pool.{Updates, get, live_count}
use Rattle.hx_pool.specs.Chain.{LiesIn}
use Rattle.hx_index.specs.declared.index.Index.{Index}
use Rattle.hx_index.specs.Index.{Holds, NodePool, ignores_case, method_of}
use Rattle.hx_sample.specs.Find.{Entry}
use Rattle.hx_versions.specs.declared.content.Content.{Content}
use Rattle.hx_versions.specs.declared.placing.Place.{Place}
use Rattle.hx_versions.specs.declared.placing.Place.TheVariants.{At, Before, Last}
use Rattle.hx_versions.specs.declared.pools.Pools.{Pools}
use Rattle.hx_versions.specs.declared.pools.Row.{Row}
use Rattle.hx_versions.specs.declared.stored_version.Owner.{Owner}
use Rattle.hx_versions.specs.declared.stored_version.Owner.TheVariants.{Reference}
use Rattle.hx_versions.specs.declared.stored_version.StoredVersion.{StoredVersion}
use Rattle.hx_versions.specs.StoredEntries.{entry_links}
use Rattle.hx_versions.specs.StoredVersions.{version_links}
use Rattle.hx_versions.specs.Contents.{EntryPool, HasNodes, IsContent, PlacedEntry, StandIn, entries_of, items_of, slots_of, ways_of}
use Rattle.hx_versions.specs.Rows.{AreSearchedBy, IsSearchedBy, ShownVersion, use_ways}
use Rattle.hx_versions.specs.Store.{AreAllBelow, AreBare, BeginAbove, BeginsAt, HasRowFor, HasVersionFor, IsAtPlace, IsFree, IsRow, PlacedVersion, PutsVersion, VersionPool, shown_version, version_slots_of}
use Rattle.hx_versions.specs.Uses.{Use}
use Rattle.hx_versions.proofs.ChangingLemmas.{version_at}
use Rattle.hx_versions.proofs.ContentLemmas.{leaves_self}
use Rattle.hx_versions.proofs.IndexListLemmas.{some_same, way_of}
use Rattle.hx_versions.proofs.PartLemmas.{all_here, numbers_beside}
use Rattle.hx_versions.proofs.PlacingLemmas.{put_keeps, row_with}
use Rattle.hx_versions.proofs.RowLemmas.{keeps_beside, keeps_versions_self}
use Rattle.hx_versions.proofs.StoreLemmas.{row_changed}
use Rattle.hx_versions.proofs.VersionReadLemmas.{seen_about}

-- ---- indexes without patterns

pub index_pushed : (indexes : List Index) (index : Index) (method : By) (ci : Bool) → method_of index ≡ method → ignores_case index ≡ ci → ways_of (indexes ++ index ∷ []) ≡ ways_of indexes ++ (method, ci) ∷ []
index_pushed indexes index method ci method_is case_is =
    map-append way_of indexes (index ∷ [])
    ∙ ap (λ m. ways_of indexes ++ (m, ignores_case index) ∷ []) method_is
    ∙ ap (λ c. ways_of indexes ++ (method, c) ∷ []) case_is

bare_at : (n : NodePool) (indexes : List Index) (at : ℕ) (index : Index) → AreBare indexes → slice_get indexes at ≡ Some index → Holds n index []
bare_at n indexes at index bare is =
    subst (λ x. Holds n x []) (get_or_from_slice_get indexes at index index is) (bare at index (slice_get_within indexes at index is) n)

stand_bare : (n : NodePool) (indexes : List Index) → AreBare indexes → StandIn n indexes (items_of [])
stand_bare n indexes bare = record {
  apart = λ at other a b is_a is_b differs k in_a in_b. absurd in_a;
  holds = λ at index is. bare_at n indexes at index bare is;
}

-- a content without entries stands with other indexes
pub bare_content : (e : EntryPool) (n : NodePool) (v : ℕ) (c c' : Content) → IsContent e n v c [] → c'.entries ≡ c.entries → c'.count ≡ c.count → AreBare c'.indexes.items → IsContent e n v c' []
bare_content e n v c c' h entries count bare = record {
  chain = subst (λ x. LiesIn entry_links e x (slots_of [])) (sym entries) h.chain;
  count = count ∙ h.count;
  found = h.found;
  whole = All-nil (HasNodes (length c'.indexes.items));
  indexes = stand_bare n c'.indexes.items bare;
}

-- ---- whether a version has the ways already

abbrev pub use_way : Use → By × Bool
use_way u = (u.by, u.ci)

-- ways are as many as indexes, and as uses
pub ways_many : (c content : Content) (uses : List Use) → c ≡ content → length c.indexes.items ≡ length uses → length (ways_of content.indexes.items) ≡ length (use_ways uses)
ways_many c content uses same many =
    sym (ap (λ (x : Content). length (ways_of x.indexes.items)) same) ∙ length-map c.indexes.items way_of ∙ many ∙ sym (length-map uses use_way)

pub uses_many : (c content : Content) (uses : List Use) → c ≡ content → length (ways_of content.indexes.items) ≡ length (use_ways uses) → length c.indexes.items ≡ length uses
uses_many c content uses same many =
    sym (length-map c.indexes.items way_of) ∙ ap (λ (x : Content). length (ways_of x.indexes.items)) same ∙ many ∙ length-map uses use_way

no_items : {X : Type 0} (xs : List X) → length xs ≡ 0 → xs ≡ []
no_items [] none = refl
no_items (x ∷ xs) none = absurd (omega (arith, none))

pub has_already : (ways : List (By × Bool)) (s : ShownVersion) → IsSearchedBy ways s → length s.ways ≡ length ways → s.ways ≡ ways
has_already ways s (inl same) many = same
has_already ways s (inr none) many = none.0 ∙ sym (no_items ways (sym many ∙ ap length none.0))

pub has_none_yet : (ways : List (By × Bool)) (s : ShownVersion) → IsSearchedBy ways s → length s.ways ≢ length ways → s.entries ≡ []
has_none_yet ways s (inl same) differs = absurd (differs (ap length same))
has_none_yet ways s (inr none) differs = none.1

pub none_placed : (placed : List PlacedEntry) → entries_of placed ≡ [] → placed ≡ []
none_placed [] none = refl
none_placed (p ∷ placed) none = absurd (cc)

no_slots : (entries : List Entry) (a b : ℕ) → entries ≡ [] → 1 + length entries * (1 + a) ≡ 1 + length entries * (1 + b)
no_slots [] a b none = omega arith
no_slots (x ∷ entries) a b none = absurd (cc)

module _ (owner : Owner) (p : Pools) (row : Row) (before : List PlacedVersion) (v : PlacedVersion) (after : List PlacedVersion) (slot : ℕ) (here : v.slot ≡ slot) (h : IsRow p owner row (before ++ v ∷ after)) (below : AreAllBelow v.number before) (ways : List (By × Bool)) where
  -- the version has the ways
  pub has_ways : ways_of v.content.indexes.items ≡ ways → HasVersionFor slot v.number ways p p owner row (before ++ v ∷ after)
  has_ways same = record {
    before = before;
    version = v;
    after = after;
    here = here;
    number_is = refl;
    ways_are = same;
    below = below;
    stands = h;
    was = inl (record { was = v; whole = refl; number = refl; placed = refl; slots = refl });
    others = λ theirs differs. keeps_versions_self theirs p;
    total = refl;
    versions = refl;
    entries = refl;
    nodes = refl;
  }

  abbrev stored_at : StoredVersion
  stored_at = (version_at owner p row before v after slot here h).0

  -- it gets them
  pub gets_ways : (vs : VersionPool) (s' : StoredVersion) (content : Content) → Updates p.versions vs slot (Some s') → s' ≡ record stored_at { content = content } → IsContent p.entries p.nodes slot content [] → v.placed ≡ [] → ways_of content.indexes.items ≡ ways → live_count vs ≡ live_count p.versions → vs.spare ≡ p.versions.spare → HasVersionFor slot v.number ways p (record p { versions = vs }) owner row (before ++ v ∷ after)
  gets_ways vs s' content updates is stands none ways_are live spare =
      let at = version_at owner p row before v after slot here h in
      let q : Pools = record p { versions = vs } in
      let given : PlacedVersion = record v { content = content } in
      let content_here : IsContent p.entries p.nodes v.slot content v.placed = subst (λ xs. IsContent p.entries p.nodes v.slot content xs) (sym none) (subst (λ k. IsContent p.entries p.nodes k content []) (sym here) stands) in
      record {
        before = before;
        version = given;
        after = after;
        here = here;
        number_is = refl;
        ways_are = ways_are;
        below = below;
        stands =
            row_changed owner p q row before v given after h refl at.0 s'
            (ap (get p.versions) here ∙ at.1) (subst (λ k. Updates p.versions vs k (Some s')) (sym here) updates)
            (ap (λ (x : StoredVersion). x.links) is) (leaves_self v.slot p.entries p.nodes)
            (ap (λ (x : StoredVersion). x.owner) is ∙ at.2) (ap (λ (x : StoredVersion). x.number) is ∙ at.3)
            (ap (λ (x : StoredVersion). x.serial) is ∙ at.4) (ap (λ (x : StoredVersion). x.content) is) content_here;
        was = inl (record {
          was = v;
          whole = refl;
          number = refl;
          placed = refl;
          slots = no_slots (entries_of v.placed) (length (ways_of v.content.indexes.items)) (length (ways_of content.indexes.items)) (ap entries_of none);
        });
        others = λ theirs differs. keeps_beside owner theirs p q slot at.0 (Some s') at.1 at.2 differs updates (leaves_self slot p.entries p.nodes);
        total = omega (arith, live, spare);
        versions = omega (arith, live, length-append before (v ∷ after), length-append before (given ∷ after));
        entries = refl;
        nodes = refl;
      }

-- ---- a version is put into a row

-- the versions before a place where none stands, and those after it
pub record SplitsAt (number : ℕ) (place : Place) (vs : List PlacedVersion) : Type 0 where
  pub before : List PlacedVersion
  pub after : List PlacedVersion
  pub whole : vs ≡ before ++ after
  pub below : AreAllBelow number before
  pub above : BeginAbove number after
  pub begins : BeginsAt place (version_slots_of after)

pub splits_at : (number : ℕ) (place : Place) (vs : List PlacedVersion) → IsFree place → IsAtPlace number place vs → SplitsAt number place vs
splits_at number (At slot) vs free at = absurd free
splits_at number (Before slot) vs free at = record {
  before = at.0;
  after = at.1 ∷ at.2;
  whole = at.3;
  below = at.4;
  above = at.6;
  begins = (version_slots_of at.2, ap (λ k. k ∷ version_slots_of at.2) at.5);
}
splits_at number Last vs free at = record {
  before = vs;
  after = [];
  whole = sym (append-nil vs);
  below = at;
  above = tt;
  begins = refl;
}

module _ (p : Pools) (owner : Owner) (row : Row) (number : ℕ) (place : Place) (vs : List PlacedVersion) (h : IsRow p owner row vs) (split : SplitsAt number place vs) where
  -- the chain lies for the slots before the place and those after it
  pub splits_chain : LiesIn version_links p.versions row.versions (version_slots_of split.before ++ version_slots_of split.after)
  splits_chain =
      subst (LiesIn version_links p.versions row.versions)
      (ap version_slots_of split.whole ∙ numbers_beside (λ (v : PlacedVersion). v.slot) split.before split.after) h.chain

  -- the row stands with the new version in its place
  pub has_new : (ways : List (By × Bool)) (new : VersionPool) (row' : Row) (slot : ℕ) (stored : StoredVersion) → PutsVersion p.versions new row'.versions slot stored (version_slots_of split.before) (version_slots_of split.after)
      → stored.owner ≡ owner → stored.number ≡ number → stored.serial ≡ 0 → ways_of stored.content.indexes.items ≡ ways → IsContent p.entries p.nodes slot stored.content [] → row'.count ≡ row.count + 1
      → new.spare + 1 ≡ p.versions.spare → live_count new ≡ live_count p.versions + 1 → HasVersionFor slot number ways p (record p { versions = new }) owner row' vs
  has_new ways new row' slot stored put owner_is number_is serial_is ways_are content count_is spare live =
      let made : PlacedVersion = record { slot = slot; number = number; serial = 0; content = stored.content; placed = [] } in
      let split_row = subst (IsRow p owner row) split.whole h in
      record {
        before = split.before;
        version = made;
        after = split.after;
        here = refl;
        number_is = refl;
        ways_are = ways_are;
        below = split.below;
        stands = row_with p new owner row row' split.before made split.after stored split_row put owner_is number_is serial_is refl content count_is;
        was = inr (record { whole = split.whole; above = split.above; placed = refl });
        others = λ theirs differs. put_keeps p new owner row row' split.before made split.after stored split_row put theirs differs;
        total = omega (arith, spare, live);
        versions = omega (arith, live, ap length split.whole, length-append split.before split.after, length-append split.before (made ∷ split.after));
        entries = refl;
        nodes = refl;
      }

-- ---- entries are appended

-- nodes, by how many entries there were and how many more there are
pub grown_nodes : (nodes nodes' before more now ways : ℕ) → now ≡ before + more → nodes' ≡ nodes + more * ways → nodes' + before * ways ≡ nodes + now * ways
grown_nodes nodes nodes' before more now ways many n =
    let whole : now * ways ≡ before * ways + more * ways = ap (λ k. k * ways) many ∙ plus_times before more ways in
    omega (arith, n, whole)
  where
    plus_times : (a b k : ℕ) → (a + b) * k ≡ a * k + b * k
    plus_times a b k = omega arith

-- ---- the row at a position

pub row_read : (rows : List Row) (r : ℕ) (row read : Row) → slice_get rows r ≡ Some row → r < length rows → read ≡ get_or rows r read → row ≡ read
row_read rows r row read is within at =
    some_same row read (sym is ∙ slice_get_read rows (length rows) r read refl within at)

pub here_is_searched : (ways : List (By × Bool)) (vs before : List PlacedVersion) (v : PlacedVersion) (after : List PlacedVersion) → vs ≡ before ++ v ∷ after → AreSearchedBy ways (map shown_version vs) → IsSearchedBy ways (shown_version v)
here_is_searched ways vs before v after whole all =
    all_here (IsSearchedBy ways) (map shown_version before) (shown_version v) (map shown_version after) (subst (All (IsSearchedBy ways)) (seen_about vs before v after whole) all)

-- the version of the number stood in the row
pub row_for_here : (slot number : ℕ) (ways : List (By × Bool)) (p q : Pools) (rows : List Row) (r : ℕ) (row : Row) (vs : List PlacedVersion) (at : IsAtPlace number (At slot) vs) → HasVersionFor slot at.1.number ways p q (Reference r) row (at.0 ++ at.1 ∷ at.2) → HasRowFor slot number ways p q rows (set rows r row) r vs
row_for_here slot number ways p q rows r row vs at has = record {
  row = row;
  rows_are = refl;
  has =
      subst (HasVersionFor slot number ways p q (Reference r) row) (sym at.3)
      (subst (λ k. HasVersionFor slot k ways p q (Reference r) row (at.0 ++ at.1 ∷ at.2)) at.6 has);
}

-- a new one stands in it
pub row_for : {E : Type 0} (result : Result ℕ E) (number : ℕ) (ways : List (By × Bool)) (p q : Pools) (rows : List Row) (r : ℕ) (read row' : Row) (place : Place) → r < length rows → read ≡ get_or rows r read
    → ((owner : Owner) (vs : List PlacedVersion) → IsRow p owner read vs → IsAtPlace number place vs)
    → IfOk result (λ slot. (vs : List PlacedVersion) → IsRow p (Reference r) read vs → IsAtPlace number place vs → HasVersionFor slot number ways p q (Reference r) row' vs)
    → IfOk result (λ slot. (row : Row) (vs : List PlacedVersion) → slice_get rows r ≡ Some row → IsRow p (Reference r) row vs → AreSearchedBy ways (map shown_version vs) → HasRowFor slot number ways p q rows (set rows r row') r vs)
row_for (Ok slot) number ways p q rows r read row' place within at placed has = λ row vs is h searched.
    let here = subst (λ x. IsRow p (Reference r) x vs) (row_read rows r row read is within at) h in
    record { row = row'; rows_are = refl; has = has vs here (placed (Reference r) vs here) }
row_for (Err e) number ways p q rows r read row' place within at placed has = tt
