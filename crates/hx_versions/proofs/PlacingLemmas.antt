-- A version is put into its place in a row.
use Rattle.std.proofs.Common.{◌≡◌, ◌≢◌, ℕ, suc, ◌+◌, List, [], ◌∷◌, ◌++◌, length, map, Option, Some, None, All, refl, sym, ap, subst, ◌∙◌, inl, inr, arith, length-append}
use Rattle.std.proofs.lemmas.List.Elements.{All-append, All-cons, All-nil, All-weaker}
use Rattle.hx_pool.specs.declared.chain.Chain.{Chain}
use Rattle.hx_pool.specs.Pool.{Updates, get}
use Rattle.hx_pool.specs.Chain.{IsIn, IsSameSlot, LiesIn, Relinked}
use Rattle.hx_pool.proofs.LyingLemmas.{free_off, lies_updated}
use Rattle.hx_versions.specs.declared.content.Content.{Content}
use Rattle.hx_versions.specs.declared.pools.Pools.{Pools}
use Rattle.hx_versions.specs.declared.pools.Row.{Row}
use Rattle.hx_versions.specs.declared.stored_version.Owner.{Owner}
use Rattle.hx_versions.specs.declared.stored_version.StoredVersion.{StoredVersion}
use Rattle.hx_versions.specs.StoredVersions.{IsSameStoredVersion, same_version_self, version_links}
use Rattle.hx_versions.specs.Store.{HasContent, HasVersion, IsRow, KeepsVersions, PlacedVersion, PutsVersion, VersionPool, version_slots_of}
use Rattle.hx_versions.proofs.ContentLemmas.{keeps_self}
use Rattle.hx_versions.proofs.PartLemmas.{all_about, all_left, all_right, number_at, numbers_about, numbers_beside}
use Rattle.hx_versions.proofs.MovingLemmas.{same_slot_from, slot_on, version_same}

-- ---- the two steps

slot_self : (a : Option StoredVersion) → IsSameSlot IsSameStoredVersion a a
slot_self None = refl
slot_self (Some a) = (a, refl, same_version_self a)

pub puts : (p0 p1 p2 : VersionPool) (row2 : Chain) (slot : ℕ) (stored : StoredVersion) (xs ys : List ℕ) → get p0 slot ≡ None → Updates p0 p1 slot (Some stored) → LiesIn version_links p2 row2 (xs ++ slot ∷ ys) → Relinked IsSameStoredVersion p1 p2 → ((k : ℕ) → (IsIn k (slot ∷ xs ++ ys) → ⊥) → get p2 k ≡ get p1 k) → PutsVersion p0 p2 row2 slot stored xs ys
puts p0 p1 p2 row2 slot stored xs ys free taken lies relinked same = record {
  lies = lies;
  was_free = free;
  here = same_slot_from p1 p2 slot stored (relinked.values slot) taken.changed;
  linked = λ k differs. subst (λ o. IsSameSlot IsSameStoredVersion o (get p2 k)) (taken.others k differs) (relinked.values k);
  others = λ k off differs.
      same k (λ there. elim there as (λ _. ⊥) [ inl e ↦ differs e | inr inside ↦ off inside ])
      ∙ taken.others k differs;
}

-- ---- what the row stands for afterwards

none_some : (o : Option StoredVersion) (s : StoredVersion) → o ≡ None → o ≡ Some s → ⊥
none_some None s n e = cc
none_some (Some t) s n e = cc

module _ (p : Pools) (new : VersionPool) (owner : Owner) (row row' : Row) (before : List PlacedVersion) (v : PlacedVersion) (after : List PlacedVersion) (stored : StoredVersion)
    (h : IsRow p owner row (before ++ after))
    (put : PutsVersion p.versions new row'.versions v.slot stored (version_slots_of before) (version_slots_of after)) where
  abbrev q : Pools
  q = record p { versions = new }

  abbrev slot_of : PlacedVersion → ℕ
  slot_of x = x.slot

  other_slot : (k : ℕ) (s : StoredVersion) → get p.versions k ≡ Some s → k ≢ v.slot
  other_slot k s is same = none_some (get p.versions k) s (ap (get p.versions) same ∙ put.was_free) is

  kept : (ws : List PlacedVersion) → All (HasVersion p.versions owner) ws → All (HasVersion new owner) ws
  kept ws found =
      All-weaker (HasVersion p.versions owner) (HasVersion new owner)
      (λ w has. version_same p.versions new owner w (put.linked w.slot (other_slot w.slot has.stored has.is)) has) ws found

  -- the row stands with the version in its place
  pub row_with : stored.owner ≡ owner → stored.number ≡ v.number → stored.serial ≡ v.serial → stored.content ≡ v.content → HasContent p v → row'.count ≡ row.count + 1 → IsRow q owner row' (before ++ v ∷ after)
  row_with owner_is number_is serial_is content_is content count_is =
      let here : HasVersion new owner v = record {
        stored = put.here.0;
        is = put.here.1;
        owner_is = ap (λ (x : StoredVersion). x.owner) put.here.2 ∙ owner_is;
        number_is = ap (λ (x : StoredVersion). x.number) put.here.2 ∙ number_is;
        serial_is = ap (λ (x : StoredVersion). x.serial) put.here.2 ∙ serial_is;
        content_is = ap (λ (x : StoredVersion). x.content) put.here.2 ∙ content_is;
      } in
      record {
        chain = subst (LiesIn version_links new row'.versions) (sym (numbers_about slot_of before v after)) put.lies;
        count = omega (arith, count_is, h.count, length-append before after, length-append before (v ∷ after));
        found = all_about (HasVersion new owner) before v after
            (kept before (all_left (HasVersion p.versions owner) before after h.found)) here
            (kept after (all_right (HasVersion p.versions owner) before after h.found));
        contents = all_about (HasContent q) before v after
            (all_left (HasContent p) before after h.contents) content (all_right (HasContent p) before after h.contents);
      }

  -- versions of other owners are as before
  pub put_keeps : (theirs : Owner) → theirs ≢ owner → KeepsVersions theirs p q
  put_keeps theirs differs = record {
    versions = λ k s at own.
        put.others k (λ there. differs (one_owner k s at own there)) (other_slot k s at) ∙ at;
    contents = λ k s at own. keeps_self k p.entries p.nodes;
  }
    where
      one_owner : (k : ℕ) (s : StoredVersion) → get p.versions k ≡ Some s → s.owner ≡ theirs → IsIn k (version_slots_of before ++ version_slots_of after) → theirs ≡ owner
      one_owner k s at own there =
          let b = number_at slot_of (HasVersion p.versions owner) (before ++ after) k h.found (subst (IsIn k) (sym (numbers_beside slot_of before after)) there) in
          let one : Some s ≡ Some b.2.stored = sym at ∙ ap (get p.versions) b.1 ∙ b.2.is in
          let same : s ≡ b.2.stored = cc in
          sym own ∙ ap (λ (x : StoredVersion). x.owner) same ∙ b.2.owner_is
