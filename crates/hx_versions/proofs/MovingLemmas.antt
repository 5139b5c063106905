-- A version moves from the chain of its row to that of the versions that wait.
use Rattle.std.proofs.Common.{◌≡◌, ◌≢◌, ℕ, suc, ◌+◌, List, [], ◌∷◌, ◌++◌, length, map, Option, Some, None, IsSome, All, refl, sym, ap, subst, ◌∙◌, inl, inr, arith, length-append}
use Rattle.std.proofs.lemmas.List.Elements.{All-append, All-cons, All-nil, All-weaker}
use Rattle.hx_pool.specs.declared.chain.Chain.{Chain}
use Rattle.hx_pool.specs.Pool.{Updates, get, with_value}
use Rattle.hx_pool.specs.Chain.{AreApart, IsIn, IsSameSlot, LiesIn, Relinked}
use Rattle.hx_pool.proofs.ChainLemmas.{in_left, in_right}
use Rattle.hx_pool.proofs.PoolLemmas.{Updates-with_value}
use Rattle.hx_pool.proofs.LyingLemmas.{distinct_off, lies_updated}
use Rattle.hx_versions.specs.declared.content.Content.{Content}
use Rattle.hx_versions.specs.declared.pools.Pools.{Pools}
use Rattle.hx_versions.specs.declared.pools.Row.{Row}
use Rattle.hx_versions.specs.declared.stored_version.Owner.{Owner}
use Rattle.hx_versions.specs.declared.stored_version.Owner.TheVariants.{Reference, Retired}
use Rattle.hx_versions.specs.declared.stored_version.StoredVersion.{StoredVersion}
use Rattle.hx_versions.specs.StoredVersions.{IsSameStoredVersion, same_version_on, version_links}
use Rattle.hx_versions.specs.Store.{AreRetired, HasContent, HasRemains, HasRetired, HasVersion, IsRow, KeepsVersions, MovesVersion, PlacedVersion, RetiredVersion, VersionPool, as_retired, retired_slots_of, version_slots_of}
use Rattle.hx_versions.proofs.ContentLemmas.{keeps_self}
use Rattle.hx_versions.proofs.PartLemmas.{all_after, all_here, all_left, none_has, number_at, numbers_about, numbers_beside}
use Rattle.hx_versions.proofs.RetiringLemmas.{retire}

-- ---- slots that are the same but for their links

pub slot_on : (a b c : Option StoredVersion) → IsSameSlot IsSameStoredVersion a b → IsSameSlot IsSameStoredVersion b c → IsSameSlot IsSameStoredVersion a c
slot_on None b c s t = subst (λ o. IsSameSlot IsSameStoredVersion o c) s t
slot_on (Some a) b c s t =
    let u : IsSameSlot IsSameStoredVersion (Some s.0) c = subst (λ o. IsSameSlot IsSameStoredVersion o c) s.1 t in
    (u.0, u.1, same_version_on a s.0 u.0 s.2 u.2)

pub same_slot_from : (a b : VersionPool) (k : ℕ) (s : StoredVersion) → IsSameSlot IsSameStoredVersion (get a k) (get b k) → get a k ≡ Some s → (z : StoredVersion) × (get b k ≡ Some z) × IsSameStoredVersion s z
same_slot_from a b k s same is = subst (λ o. IsSameSlot IsSameStoredVersion o (get b k)) is same

-- a number that is in the one or the other part of a list
in_joined : (xs ys : List ℕ) (k id : ℕ) → IsIn k (xs ++ ys) → IsIn k (xs ++ id ∷ ys)
in_joined [] ys k id there = inr there
in_joined (x ∷ xs) ys k id (inl e) = inl e
in_joined (x ∷ xs) ys k id (inr there) = inr (in_joined xs ys k id there)

-- ---- the three steps of the move

module _ (p0 p1 p2 p3 : VersionPool) (row0 row1 retired0 retired3 : Chain) (slot : ℕ) (stored : StoredVersion) (xs ys gone : List ℕ)
    (is : get p0 slot ≡ Some stored)
    (lies : LiesIn version_links p0 row0 (xs ++ slot ∷ ys))
    (wait : LiesIn version_links p0 retired0 gone)
    (apart : AreApart gone (xs ++ slot ∷ ys))
    (unlinked : LiesIn version_links p1 row1 (xs ++ ys))
    (relinked : Relinked IsSameStoredVersion p0 p1)
    (others : (k : ℕ) → (IsIn k (xs ++ ys) → ⊥) → get p1 k ≡ get p0 k)
    (wait1 : LiesIn version_links p1 retired0 gone) where
  slot_off : IsIn slot (xs ++ ys) → ⊥
  slot_off there = distinct_off xs slot ys lies.distinct there

  pub gone_off : IsIn slot gone → ⊥
  gone_off there = apart slot there (in_right xs (slot ∷ ys) slot (inl refl))

  pub still_there : get p1 slot ≡ Some stored
  still_there = others slot slot_off ∙ is

  module _ (retired_version : StoredVersion) (set : Updates p1 p2 slot (Some retired_version)) where
    pub waits_still : LiesIn version_links p2 retired0 gone
    waits_still = lies_updated version_links p1 p2 retired0 gone slot (Some retired_version) wait1 gone_off set

    pub row_still : LiesIn version_links p2 row1 (xs ++ ys)
    row_still = lies_updated version_links p1 p2 row1 (xs ++ ys) slot (Some retired_version) unlinked slot_off set

    pub row_apart : AreApart (xs ++ ys) (slot ∷ gone)
    row_apart k there (inl e) = slot_off (subst (λ m. IsIn m (xs ++ ys)) e there)
    row_apart k there (inr in_gone) = apart k in_gone (in_joined xs ys k slot there)

    pub moves : retired_version ≡ record stored { owner = Retired } → LiesIn version_links p3 row1 (xs ++ ys) → LiesIn version_links p3 retired3 (gone ++ slot ∷ []) → Relinked IsSameStoredVersion p2 p3 → ((k : ℕ) → (IsIn k (slot ∷ gone) → ⊥) → get p3 k ≡ get p2 k) → MovesVersion p0 p3 row1 retired3 slot stored xs ys gone
    moves is_retired row_lies retired_lies last last_others = record {
      row_lies = row_lies;
      retired_lies = retired_lies;
      here =
          let z = same_slot_from p2 p3 slot retired_version (last.values slot) set.changed in
          (z.0, z.1, subst (λ x. IsSameStoredVersion x z.0) is_retired z.2);
      linked = λ k differs.
          slot_on (get p0 k) (get p1 k) (get p3 k) (relinked.values k)
          (subst (λ o. IsSameSlot IsSameStoredVersion o (get p3 k)) (set.others k differs) (last.values k));
      others = λ k off_row off_gone.
          let differs : k ≢ slot = λ e. off_row (subst (λ m. IsIn m (xs ++ slot ∷ ys)) (sym e) (in_right xs (slot ∷ ys) slot (inl refl))) in
          last_others k (λ there. elim there as (λ _. ⊥) [ inl e ↦ differs e | inr in_gone ↦ off_gone in_gone ])
          ∙ set.others k differs
          ∙ others k (λ there. off_row (in_joined xs ys k slot there));
    }

-- ---- what rows and versions that wait stand for afterwards

pub version_same : (a b : VersionPool) (owner : Owner) (w : PlacedVersion) → IsSameSlot IsSameStoredVersion (get a w.slot) (get b w.slot) → HasVersion a owner w → HasVersion b owner w
version_same a b owner w same has =
    let z = same_slot_from a b w.slot has.stored same has.is in record {
      stored = z.0;
      is = z.1;
      owner_is = ap (λ (x : StoredVersion). x.owner) z.2 ∙ has.owner_is;
      number_is = ap (λ (x : StoredVersion). x.number) z.2 ∙ has.number_is;
      serial_is = ap (λ (x : StoredVersion). x.serial) z.2 ∙ has.serial_is;
      content_is = ap (λ (x : StoredVersion). x.content) z.2 ∙ has.content_is;
    }

pub waiting_same : (a b : VersionPool) (w : RetiredVersion) → IsSameSlot IsSameStoredVersion (get a w.slot) (get b w.slot) → HasRetired a w → HasRetired b w
waiting_same a b w same has =
    let z = same_slot_from a b w.slot has.stored same has.is in record {
      stored = z.0;
      is = z.1;
      owner_is = ap (λ (x : StoredVersion). x.owner) z.2 ∙ has.owner_is;
      content_is = ap (λ (x : StoredVersion). x.content) z.2 ∙ has.content_is;
    }

-- the versions of a row and those that wait have no slot in common
pub owners_apart : (p : Pools) (owner : Owner) (vs : List PlacedVersion) (gone : List RetiredVersion) → owner ≢ Retired → All (HasVersion p.versions owner) vs → All (HasRetired p.versions) gone → (k : ℕ) → IsIn k (retired_slots_of gone) → IsIn k (version_slots_of vs) → ⊥
owners_apart p owner vs gone differs found waiting k in_gone in_row =
    let a = number_at (λ (v : RetiredVersion). v.slot) (HasRetired p.versions) gone k waiting in_gone in
    let b = number_at (λ (v : PlacedVersion). v.slot) (HasVersion p.versions owner) vs k found in_row in
    let same : Some a.2.stored ≡ Some b.2.stored = sym a.2.is ∙ ap (get p.versions) (sym a.1 ∙ b.1) ∙ b.2.is in
    let one : a.2.stored ≡ b.2.stored = cc in
    differs (sym b.2.owner_is ∙ ap (λ (x : StoredVersion). x.owner) (sym one) ∙ a.2.owner_is)

module _ (p : Pools) (new : VersionPool) (owner : Owner) (row row' : Row) (retired retired' : Chain) (before : List PlacedVersion) (v : PlacedVersion) (after : List PlacedVersion) (gone : List RetiredVersion) (stored : StoredVersion)
    (other : owner ≢ Retired)
    (h : IsRow p owner row (before ++ v ∷ after))
    (wait : AreRetired p retired gone)
    (is : get p.versions v.slot ≡ Some stored)
    (moved : MovesVersion p.versions new row'.versions retired' v.slot stored (version_slots_of before) (version_slots_of after) (retired_slots_of gone)) where
  abbrev q : Pools
  q = record p { versions = new }

  abbrev slot_of : PlacedVersion → ℕ
  slot_of x = x.slot

  lies_about : LiesIn version_links p.versions row.versions (version_slots_of before ++ v.slot ∷ version_slots_of after)
  lies_about = subst (LiesIn version_links p.versions row.versions) (numbers_about slot_of before v after) h.chain

  off_before : All (λ w. slot_of w ≢ v.slot) before
  off_before = none_has slot_of before v.slot (λ there. distinct_off (version_slots_of before) v.slot (version_slots_of after) lies_about.distinct (in_left (version_slots_of before) (version_slots_of after) v.slot there))

  off_after : All (λ w. slot_of w ≢ v.slot) after
  off_after = none_has slot_of after v.slot (λ there. distinct_off (version_slots_of before) v.slot (version_slots_of after) lies_about.distinct (in_right (version_slots_of before) (version_slots_of after) v.slot there))

  row_kept : (ws : List PlacedVersion) → All (HasVersion p.versions owner) ws → All (λ w. slot_of w ≢ v.slot) ws → All (HasVersion new owner) ws
  row_kept ws found off =
      All-weaker (λ w. HasVersion p.versions owner w × (slot_of w ≢ v.slot)) (HasVersion new owner)
      (λ w both. version_same p.versions new owner w (moved.linked w.slot both.1) both.0) ws (λ i d below. (found i d below, off i d below))

  -- the row stands without the version
  pub row_without : row'.count + 1 ≡ row.count → IsRow q owner row' (before ++ after)
  row_without count_is = record {
    chain = subst (LiesIn version_links new row'.versions) (sym (numbers_beside slot_of before after)) moved.row_lies;
    count = omega (arith, count_is, h.count, length-append before (v ∷ after), length-append before after);
    found = All-append (HasVersion new owner) before after
        (row_kept before (all_left (HasVersion p.versions owner) before (v ∷ after) h.found) off_before)
        (row_kept after (all_after (HasVersion p.versions owner) before v after h.found) off_after);
    contents = All-append (HasContent q) before after
        (all_left (HasContent p) before (v ∷ after) h.contents) (all_after (HasContent p) before v after h.contents);
  }

  waiting_kept : (ws : List RetiredVersion) → All (HasRetired p.versions) ws → All (λ (w : RetiredVersion). w.slot ≢ v.slot) ws → All (HasRetired new) ws
  waiting_kept ws found off =
      All-weaker (λ w. HasRetired p.versions w × (w.slot ≢ v.slot)) (HasRetired new)
      (λ w both. waiting_same p.versions new w (moved.linked w.slot both.1) both.0) ws (λ i d below. (found i d below, off i d below))

  off_gone : All (λ (w : RetiredVersion). w.slot ≢ v.slot) gone
  off_gone = none_has (λ (w : RetiredVersion). w.slot) gone v.slot (λ there.
      owners_apart p owner (before ++ v ∷ after) gone other h.found wait.found v.slot there
      (subst (IsIn v.slot) (sym (numbers_about slot_of before v after)) (in_right (version_slots_of before) (v.slot ∷ version_slots_of after) v.slot (inl refl))))

  -- the version waits after the others
  pub waits_with : AreRetired q retired' (gone ++ as_retired v ∷ [])
  waits_with =
      let has = all_here (HasVersion p.versions owner) before v after h.found in
      let content = all_here (HasContent p) before v after h.contents in
      let one : Some has.stored ≡ Some stored = sym has.is ∙ is in
      let same : has.stored ≡ stored = cc in
      let here : HasRetired new (as_retired v) = record {
        stored = moved.here.0;
        is = moved.here.1;
        owner_is = ap (λ (x : StoredVersion). x.owner) moved.here.2;
        content_is = ap (λ (x : StoredVersion). x.content) moved.here.2 ∙ ap (λ (x : StoredVersion). x.content) (sym same) ∙ has.content_is;
      } in
      let left : HasRemains q (as_retired v) = retire p.entries p.nodes v.slot v.content v.placed content in
      record {
        lies = subst (LiesIn version_links new retired') (sym (numbers_about (λ (w : RetiredVersion). w.slot) gone (as_retired v) [])) moved.retired_lies;
        found = All-append (HasRetired new) gone (as_retired v ∷ []) (waiting_kept gone wait.found off_gone) (All-cons (HasRetired new) (as_retired v) [] here (All-nil (HasRetired new)));
        contents = All-append (HasRemains q) gone (as_retired v ∷ []) wait.contents (All-cons (HasRemains q) (as_retired v) [] left (All-nil (HasRemains q)));
      }

  -- versions of other owners are as before
  pub move_keeps : (theirs : Owner) → theirs ≢ owner → theirs ≢ Retired → KeepsVersions theirs p q
  move_keeps theirs differs waits = record {
    versions = λ slot s at own.
        moved.others slot
        (λ there. differs (one_owner slot s at own there))
        (λ there. waits (one_waits slot s at own there)) ∙ at;
    contents = λ slot s at own. keeps_self slot p.entries p.nodes;
  }
    where
      one_owner : (slot : ℕ) (s : StoredVersion) → get p.versions slot ≡ Some s → s.owner ≡ theirs → IsIn slot (version_slots_of before ++ v.slot ∷ version_slots_of after) → theirs ≡ owner
      one_owner slot s at own there =
          let b = number_at slot_of (HasVersion p.versions owner) (before ++ v ∷ after) slot h.found (subst (IsIn slot) (sym (numbers_about slot_of before v after)) there) in
          let one : Some s ≡ Some b.2.stored = sym at ∙ ap (get p.versions) b.1 ∙ b.2.is in
          let same : s ≡ b.2.stored = cc in
          sym own ∙ ap (λ (x : StoredVersion). x.owner) same ∙ b.2.owner_is

      one_waits : (slot : ℕ) (s : StoredVersion) → get p.versions slot ≡ Some s → s.owner ≡ theirs → IsIn slot (retired_slots_of gone) → theirs ≡ Retired
      one_waits slot s at own there =
          let b = number_at (λ (w : RetiredVersion). w.slot) (HasRetired p.versions) gone slot wait.found there in
          let one : Some s ≡ Some b.2.stored = sym at ∙ ap (get p.versions) b.1 ∙ b.2.is in
          let same : s ≡ b.2.stored = cc in
          sym own ∙ ap (λ (x : StoredVersion). x.owner) same ∙ b.2.owner_is

-- ---- live numbers

pub live_value : {T : Type 0} (o : Option T) → IsSome o → (x : T) × (o ≡ Some x)
live_value None live = absurd (cc)
live_value (Some x) live = (x, refl)

pub set_live : {T : Type 0} (o : Option T) (x : T) → o ≡ Some x → IsSome o
set_live o x e = rw e refl

-- a version in its slot gets another value of one of its fields
pub written_version : (p : VersionPool) (slot : ℕ) (s t : StoredVersion) (change : StoredVersion → StoredVersion) → get p slot ≡ Some s → get p slot ≡ Some t → Updates p (with_value p slot (change s)) slot (Some (change t))
written_version p slot s t change is also =
    let both : Some s ≡ Some t = sym is ∙ also in
    let same : s ≡ t = cc in
    subst (λ x. Updates p (with_value p slot (change s)) slot (Some (change x))) same
    (Updates-with_value p slot (change s) (set_live (get p slot) s is))
