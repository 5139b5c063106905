-- What callers see of the version of a number in a row.
use Rattle.std.proofs.Common.{◌≡◌, ℕ, zero, suc, ◌+◌, ◌<◌, ◌≤◌, List, [], ◌∷◌, ◌++◌, length, map, Option, Some, None, All, refl, sym, ap, subst, ◌∙◌, arith}
use Rattle.std.proofs.lemmas.List.{length-map, map-append}
use Rattle.std.proofs.lemmas.List.Elements.{All-map}
use Rattle.hx_pool.specs.Pool.{IsLive, get}
use Rattle.hx_versions.specs.declared.pools.Pools.{Pools}
use Rattle.hx_versions.specs.declared.pools.Row.{Row}
use Rattle.hx_versions.specs.declared.stored_version.Owner.{Owner}
use Rattle.hx_versions.specs.declared.stored_version.StoredVersion.{StoredVersion}
use Rattle.hx_versions.specs.Contents.{IsContent, PlacedEntry, entries_of}
use Rattle.hx_versions.specs.Versions.{Version, empty_version}
use Rattle.hx_versions.specs.Rows.{AreBelow, AreNumbered, ShownVersion, version_in_row, version_numbered}
use Rattle.hx_versions.specs.Store.{AreAllBelow, BeginAbove, HasContent, IsRow, IsSlotOf, PlacedVersion, shown_version}
use Rattle.hx_versions.proofs.PartLemmas.{all_here}
use Rattle.hx_versions.proofs.VersionWalkLemmas.{has_at, live_at}
use Rattle.hx_versions.proofs.RowChangeLemmas.{BeginsAbove, version_absent, version_here}

-- the versions in a place and about it, as callers see them
pub seen_about : (vs before : List PlacedVersion) (v : PlacedVersion) (after : List PlacedVersion) → vs ≡ before ++ v ∷ after → map shown_version vs ≡ map shown_version before ++ shown_version v ∷ map shown_version after
seen_about vs before v after whole =
    ap (map shown_version) whole ∙ map-append shown_version before (v ∷ after)

pub seen_beside : (vs before after : List PlacedVersion) → vs ≡ before ++ after → map shown_version vs ≡ map shown_version before ++ map shown_version after
seen_beside vs before after whole = ap (map shown_version) whole ∙ map-append shown_version before after

pub below_seen : (number : ℕ) (before : List PlacedVersion) → AreAllBelow number before → AreBelow number (map shown_version before)
below_seen number before below = All-map (λ (v : ShownVersion). v.number < number) shown_version before below

pub above_seen : (number : ℕ) (after : List PlacedVersion) → BeginAbove number after → BeginsAbove number (map shown_version after)
above_seen number [] above = tt
above_seen number (v ∷ after) above = above

module _ (number slot : ℕ) (vs : List PlacedVersion) (at : IsSlotOf number (Some slot) vs) where
  -- the version that stands in the slot is that of the number
  pub version_found : version_numbered number (map shown_version vs) ≡ version_in_row (shown_version at.1)
  version_found =
      ap (version_numbered number) (seen_about vs at.0 at.1 at.2 at.3)
      ∙ version_here number (map shown_version at.0) (shown_version at.1) (map shown_version at.2) (below_seen number at.0 at.4) at.6

-- none stands there, so that the version is empty
pub version_missing : (number first last : ℕ) (vs : List PlacedVersion) → IsSlotOf number None vs → AreNumbered first last (map shown_version vs) → version_numbered number (map shown_version vs) ≡ empty_version
version_missing number first last vs none numbered =
    let seen = seen_beside vs none.0 none.1 none.2 in
    ap (version_numbered number) seen
    ∙ version_absent number first last (map shown_version none.0) (map shown_version none.1) (subst (AreNumbered first last) seen numbered) (below_seen number none.0 none.3) (above_seen number none.1 none.4)

-- ---- what stands in the slot of the version

module _ (p : Pools) (owner : Owner) (row : Row) (vs : List PlacedVersion) (number slot : ℕ) (h : IsRow p owner row vs) (at : IsSlotOf number (Some slot) vs) (stored : StoredVersion) (is : get p.versions slot ≡ Some stored) where
  one : (x : StoredVersion) → get p.versions slot ≡ Some x → x ≡ stored
  one x e = let both : Some x ≡ Some stored = sym e ∙ is in cc

  -- its content stands for the entries of the version
  pub content_stands : IsContent p.entries p.nodes slot stored.content at.1.placed
  content_stands =
      let has = has_at p owner row vs at.0 at.1 at.2 slot h at.3 at.5 in
      let content = all_here (HasContent p) at.0 at.1 at.2 (subst (All (HasContent p)) at.3 h.contents) in
      let same : stored.content ≡ at.1.content = ap (λ (x : StoredVersion). x.content) (sym (one has.0 has.1)) ∙ has.5 in
      subst (λ c. IsContent p.entries p.nodes slot c at.1.placed) (sym same)
      (subst (λ k. IsContent p.entries p.nodes k at.1.content at.1.placed) at.5 content)

  pub entries_are : (version_numbered number (map shown_version vs)).entries ≡ entries_of at.1.placed
  entries_are = ap (λ (x : Version). x.entries) (version_found number slot vs at)

  pub count_is : stored.content.count ≡ length (version_numbered number (map shown_version vs)).entries
  count_is =
      content_stands.count ∙ sym (length-map at.1.placed (λ (x : PlacedEntry). x.entry)) ∙ ap length (sym entries_are)

  pub serial_is : stored.serial ≡ (version_numbered number (map shown_version vs)).serial
  serial_is =
      let has = has_at p owner row vs at.0 at.1 at.2 slot h at.3 at.5 in
      ap (λ (x : StoredVersion). x.serial) (sym (one has.0 has.1)) ∙ has.4
      ∙ sym (ap (λ (x : Version). x.serial) (version_found number slot vs at))

pub slot_live : (p : Pools) (owner : Owner) (row : Row) (vs : List PlacedVersion) (number slot : ℕ) → IsRow p owner row vs → IsSlotOf number (Some slot) vs → IsLive p.versions slot
slot_live p owner row vs number slot h at = live_at p owner row vs at.0 at.1 at.2 slot h at.3 at.5
