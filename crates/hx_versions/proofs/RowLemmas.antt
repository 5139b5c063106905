-- What a row stands for: that callers see it, and that it stands as before where a step leaves its
-- versions.
use Rattle.std.proofs.Common.{◌≡◌, ◌≢◌, ℕ, zero, suc, ◌+◌, Bool, List, [], ◌∷◌, ◌++◌, length, map, set, Option, Some, None, All, refl, sym, ap, subst, ◌∙◌, inl, inr, arith}
use Rattle.std.specs.List.{cons_option, filter_map}
use Rattle.std.specs.Option.{option_map}
use Rattle.std.specs.Prelude.{slice_get}
use Rattle.std.proofs.lemmas.Bool.{cases_eq}
use Rattle.std.proofs.lemmas.List.{length-map}
use Rattle.std.proofs.lemmas.List.Elements.{All-head, All-tail, All-weaker}
use Rattle.std.proofs.lemmas.Option.{slice_get-map}
use Rattle.hx_text.specs.declared.kinds.By.{By}
use Rattle.hx_sample.specs.Find.{Entry}
use Rattle.hx_pool.specs.Pool.{Updates, get}
use Rattle.hx_pool.specs.Chain.{AreDistinct, IsIn, LiesIn, links_at, numbers_in}
use Rattle.hx_pool.proofs.ListLemmas.{lies_kept, lies_linked, lies_numbers}
use Rattle.hx_pool.proofs.LyingLemmas.{distinct_off}
use Rattle.hx_pool.proofs.ChainLemmas.{in_right}
use Rattle.hx_versions.specs.declared.content.Content.{Content}
use Rattle.hx_versions.specs.declared.pools.Pools.{Pools}
use Rattle.hx_versions.specs.declared.pools.Row.{Row}
use Rattle.hx_versions.specs.declared.stored_version.Owner.{Owner}
use Rattle.hx_versions.specs.declared.stored_version.Owner.TheVariants.{Reference, Retired}
use Rattle.hx_versions.specs.declared.stored_version.StoredVersion.{StoredVersion}
use Rattle.hx_versions.specs.StoredVersions.{version_links}
use Rattle.hx_versions.specs.Contents.{EntryPool, IsContent, KeepsContent, LeavesOthers, PlacedEntry, content_entries, entries_of, ways_of}
use Rattle.hx_versions.specs.Rows.{ShownVersion}
use Rattle.hx_versions.specs.Store.{AreRetired, HasContent, HasRemains, HasRetired, HasRow, HasVersion, IsRow, KeepsVersions, PlacedVersion, RetiredVersion, VersionPool, retired_slots_of, seen_row, seen_rows, seen_version, shown_version, version_in, version_slots_of}
use Rattle.hx_versions.proofs.ContentLemmas.{content_frame, content_view, keeps_other, keeps_on, keeps_self, retired_frame}
use Rattle.hx_versions.proofs.PartLemmas.{all_about, all_after, all_here, all_left, none_has, number_at, numbers_about, same_items}

-- ---- what callers see

made : ℕ → ℕ → List Entry → List (By × Bool) → ShownVersion
made number serial entries ways =
    record { number = number; serial = serial; entries = entries; ways = ways }

seen_is : (e : EntryPool) (s : StoredVersion) (number serial : ℕ) (c : Content) (entries : List Entry) → s.number ≡ number → s.serial ≡ serial → s.content ≡ c → content_entries e c ≡ entries → seen_version e s ≡ made number serial entries (ways_of c.indexes.items)
unfolding made
seen_is e s number serial c entries number_is serial_is content_is view =
    ap (λ n. made n s.serial (content_entries e s.content) (ways_of s.content.indexes.items)) number_is
    ∙ ap (λ n. made number n (content_entries e s.content) (ways_of s.content.indexes.items)) serial_is
    ∙ ap (λ (x : Content). made number serial (content_entries e x) (ways_of x.indexes.items)) content_is
    ∙ ap (λ es. made number serial es (ways_of c.indexes.items)) view

module _ (p : Pools) (owner : Owner) where
  version_read : (v : PlacedVersion) → HasVersion p.versions owner v → HasContent p v → version_in p v.slot ≡ Some (shown_version v)
  unfolding made
  version_read v has content =
      ap (option_map (seen_version p.entries)) has.is
      ∙ ap Some (seen_is p.entries has.stored v.number v.serial v.content (entries_of v.placed) has.number_is has.serial_is has.content_is (content_view p.entries p.nodes v.slot v.content v.placed content))

  versions_read : (vs : List PlacedVersion) → All (HasVersion p.versions owner) vs → All (HasContent p) vs → filter_map (version_in p) (version_slots_of vs) ≡ map shown_version vs
  versions_read [] found contents = refl
  versions_read (v ∷ vs) found contents =
      ap (λ o. cons_option o (filter_map (version_in p) (version_slots_of vs))) (version_read v (All-head (HasVersion p.versions owner) v vs found) (All-head (HasContent p) v vs contents))
      ∙ ap (λ ys. shown_version v ∷ ys) (versions_read vs (All-tail (HasVersion p.versions owner) v vs found) (All-tail (HasContent p) v vs contents))

  -- what callers see of a row is what it stands for
  pub row_view : (row : Row) (vs : List PlacedVersion) → IsRow p owner row vs → seen_row p row ≡ map shown_version vs
  row_view row vs h =
      let slot = λ (v : PlacedVersion). v.slot in
      let many : row.count ≡ length (version_slots_of vs) = h.count ∙ sym (length-map vs slot) in
      ap (filter_map (version_in p)) (ap (numbers_in version_links p.versions row.versions) many ∙ lies_numbers version_links p.versions row.versions (version_slots_of vs) h.chain)
      ∙ versions_read vs h.found h.contents

row_seen : (p : Pools) (r : ℕ) (row : Option Row) (shown : Option (List ShownVersion)) → HasRow p r row shown → option_map (seen_row p) row ≡ shown
row_seen p r None None h = refl
row_seen p r None (Some shown) h = absurd h
row_seen p r (Some row) None h = absurd h
row_seen p r (Some row) (Some shown) h = ap Some (row_view p (Reference r) row h.0 h.1 ∙ h.2)

pub rows_view : (p : Pools) (rows : List Row) (shown : List (List ShownVersion)) → ((r : ℕ) → HasRow p r (slice_get rows r) (slice_get shown r)) → seen_rows p rows ≡ shown
rows_view p rows shown h = same_items (seen_rows p rows) shown (λ r.
    slice_get-map (seen_row p) rows r ∙ row_seen p r (slice_get rows r) (slice_get shown r) (h r))

-- ---- steps that keep versions

pub keeps_versions_self : (owner : Owner) (p : Pools) → KeepsVersions owner p p
keeps_versions_self owner p = record {
  versions = λ slot stored is own. is;
  contents = λ slot stored is own. keeps_self slot p.entries p.nodes;
}

pub keeps_versions_on : (owner : Owner) (p q s : Pools) → KeepsVersions owner p q → KeepsVersions owner q s → KeepsVersions owner p s
keeps_versions_on owner p q s a b = record {
  versions = λ slot stored is own. b.versions slot stored (a.versions slot stored is own) own;
  contents = λ slot stored is own.
      keeps_on slot p.entries q.entries s.entries p.nodes q.nodes s.nodes (a.contents slot stored is own) (b.contents slot stored (a.versions slot stored is own) own);
}

-- a step on one version keeps those of other owners
pub keeps_beside : (owner other : Owner) (p q : Pools) (k : ℕ) (s : StoredVersion) (value : Option StoredVersion) → get p.versions k ≡ Some s → s.owner ≡ owner → other ≢ owner → Updates p.versions q.versions k value → LeavesOthers k p.entries q.entries p.nodes q.nodes → KeepsVersions other p q
keeps_beside owner other p q k s value is own differs updates leaves =
    let apart : (slot : ℕ) (stored : StoredVersion) → get p.versions slot ≡ Some stored → stored.owner ≡ other → slot ≢ k = λ slot stored at theirs same.
    let one : Some stored ≡ Some s = sym at ∙ ap (get p.versions) same ∙ is in
    let e : stored ≡ s = cc in
    differs (sym theirs ∙ ap (λ (x : StoredVersion). x.owner) e ∙ own) in
    record {
      versions = λ slot stored at theirs. updates.others slot (apart slot stored at theirs) ∙ at;
      contents = λ slot stored at theirs. keeps_other k slot p.entries q.entries p.nodes q.nodes leaves (apart slot stored at theirs);
    }

module _ (owner : Owner) (p q : Pools) (keeps : KeepsVersions owner p q) where
  version_frame : (v : PlacedVersion) → HasVersion p.versions owner v → HasVersion q.versions owner v
  version_frame v has = record {
    stored = has.stored;
    is = keeps.versions v.slot has.stored has.is has.owner_is;
    owner_is = has.owner_is;
    number_is = has.number_is;
    serial_is = has.serial_is;
    content_is = has.content_is;
  }

  -- a row stands as before
  pub row_frame : (row : Row) (vs : List PlacedVersion) → IsRow p owner row vs → IsRow q owner row vs
  row_frame row vs h = record {
    chain = lies_kept version_links p.versions q.versions row.versions (version_slots_of vs) h.chain (λ k there.
        let at = number_at (λ (v : PlacedVersion). v.slot) (HasVersion p.versions owner) vs k h.found there in
        ap (get q.versions) at.1 ∙ keeps.versions at.0.slot at.2.stored at.2.is at.2.owner_is ∙ sym at.2.is ∙ ap (get p.versions) (sym at.1));
    count = h.count;
    found = All-weaker (HasVersion p.versions owner) (HasVersion q.versions owner) version_frame vs h.found;
    contents = λ i d below.
        let v = All-weaker (HasVersion p.versions owner) (λ v. (content : HasContent p v) → HasContent q v)
        (λ v has content. content_frame v.slot p.entries q.entries p.nodes q.nodes (keeps.contents v.slot has.stored has.is has.owner_is) v.content v.placed content) vs h.found in
        v i d below (h.contents i d below);
  }

pub has_row_frame : (p q : Pools) (r : ℕ) (row : Option Row) (shown : Option (List ShownVersion)) → KeepsVersions (Reference r) p q → HasRow p r row shown → HasRow q r row shown
has_row_frame p q r None None keeps h = h
has_row_frame p q r None (Some shown) keeps h = absurd h
has_row_frame p q r (Some row) None keeps h = absurd h
has_row_frame p q r (Some row) (Some shown) keeps h =
    (h.0, row_frame (Reference r) p q keeps row h.0 h.1, h.2)

-- and so do the versions that wait
module _ (p q : Pools) (keeps : KeepsVersions Retired p q) where
  retired_version_frame : (v : RetiredVersion) → HasRetired p.versions v → HasRetired q.versions v
  retired_version_frame v has = record {
    stored = has.stored;
    is = keeps.versions v.slot has.stored has.is has.owner_is;
    owner_is = has.owner_is;
    content_is = has.content_is;
  }

  pub waiting_frame : (chain : _) (gone : List RetiredVersion) → AreRetired p chain gone → AreRetired q chain gone
  waiting_frame chain gone h = record {
    lies = lies_kept version_links p.versions q.versions chain (retired_slots_of gone) h.lies (λ k there.
        let at = number_at (λ (v : RetiredVersion). v.slot) (HasRetired p.versions) gone k h.found there in
        ap (get q.versions) at.1 ∙ keeps.versions at.0.slot at.2.stored at.2.is at.2.owner_is ∙ sym at.2.is ∙ ap (get p.versions) (sym at.1));
    found = All-weaker (HasRetired p.versions) (HasRetired q.versions) retired_version_frame gone h.found;
    contents = λ i d below.
        let v = All-weaker (HasRetired p.versions) (λ v. (left : HasRemains p v) → HasRemains q v)
        (λ v has left. retired_frame v.slot p.entries q.entries p.nodes q.nodes (keeps.contents v.slot has.stored has.is has.owner_is) v.content v.left left) gone h.found in
        v i d below (h.contents i d below);
  }
