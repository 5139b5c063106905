-- A walk along the versions of a row, to that of a number.
use Rattle.std.proofs.Common.{◌≡◌, ◌≢◌, ℕ, zero, suc, ◌+◌, ◌<◌, ◌≤◌, List, [], ◌∷◌, ◌++◌, length, map, Option, Some, None, IsSome, All, refl, sym, ap, subst, ◌∙◌, inl, arith, append-nil}
use Rattle.std.proofs.lemmas.List.Elements.{All-cons, All-nil, All-push}
use Rattle.hx_pool.specs.declared.chain.Chain.{Chain}
use Rattle.hx_pool.specs.Pool.{IsLive, get}
use Rattle.hx_pool.specs.Chain.{IsIn, LiesIn, first_or}
use Rattle.hx_versions.specs.declared.pools.Pools.{Pools}
use Rattle.hx_versions.specs.declared.pools.Row.{Row}
use Rattle.hx_versions.specs.declared.stored_version.Owner.{Owner}
use Rattle.hx_versions.specs.declared.stored_version.StoredVersion.{StoredVersion}
use Rattle.hx_versions.specs.StoredVersions.{version_links}
use Rattle.hx_versions.specs.Store.{AreAllBelow, BeginAbove, HasContent, HasVersion, IsRow, PlacedVersion, VersionPool, version_slots_of}
use Rattle.hx_versions.proofs.PartLemmas.{all_here, numbers_about}

-- those that were passed have smaller numbers, and the others are left, the first of them in this
-- slot
pub record WalksTo (number : ℕ) (vs : List PlacedVersion) (at : Option ℕ) : Type 0 where
  pub before : List PlacedVersion
  pub rest : List PlacedVersion
  pub whole : vs ≡ before ++ rest
  pub below : AreAllBelow number before
  pub here : at ≡ first_or (version_slots_of rest) None

-- the walk is at a version
pub record IsAtVersion (number : ℕ) (vs : List PlacedVersion) (slot : ℕ) : Type 0 where
  pub before : List PlacedVersion
  pub version : PlacedVersion
  pub after : List PlacedVersion
  pub whole : vs ≡ before ++ version ∷ after
  pub below : AreAllBelow number before
  pub here : version.slot ≡ slot

pub walk_begins : (number : ℕ) (vs : List PlacedVersion) (at : Option ℕ) → at ≡ first_or (version_slots_of vs) None → WalksTo number vs at
walk_begins number vs at here = record {
  before = [];
  rest = vs;
  whole = refl;
  below = All-nil (λ (v : PlacedVersion). v.number < number);
  here = here;
}

at_version : (number : ℕ) (vs : List PlacedVersion) (slot : ℕ) (before rest : List PlacedVersion) → vs ≡ before ++ rest → AreAllBelow number before → Some slot ≡ first_or (version_slots_of rest) None → IsAtVersion number vs slot
at_version number vs slot before [] whole below here = absurd (cc)
at_version number vs slot before (v ∷ rest) whole below here =
    let same : v.slot ≡ slot = cc in
    record { before = before; version = v; after = rest; whole = whole; below = below; here = same }

pub walk_at : (number : ℕ) (vs : List PlacedVersion) (at : Option ℕ) (slot : ℕ) → WalksTo number vs at → at ≡ Some slot → IsAtVersion number vs slot
walk_at number vs at slot w is =
    at_version number vs slot w.before w.rest w.whole w.below (sym is ∙ w.here)

rest_ends : (rest : List PlacedVersion) → None ≡ first_or (version_slots_of rest) None → rest ≡ []
rest_ends [] here = refl
rest_ends (v ∷ rest) here = absurd (cc)

-- there are no more
pub walk_ends : (number : ℕ) (vs : List PlacedVersion) (at : Option ℕ) → WalksTo number vs at → at ≡ None → AreAllBelow number vs
walk_ends number vs at w is =
    let none = rest_ends w.rest (sym is ∙ w.here) in
    subst (AreAllBelow number) (sym (w.whole ∙ ap (λ xs. w.before ++ xs) none ∙ append-nil w.before)) w.below

append_more : (xs : List PlacedVersion) (x : PlacedVersion) (ys : List PlacedVersion) → xs ++ x ∷ ys ≡ (xs ++ x ∷ []) ++ ys
append_more [] x ys = refl
append_more (z ∷ xs) x ys = ap (λ l. z ∷ l) (append_more xs x ys)

pub walk_on : (number : ℕ) (vs : List PlacedVersion) (slot : ℕ) (next : Option ℕ) (a : IsAtVersion number vs slot) → a.version.number < number → next ≡ first_or (version_slots_of a.after) None → WalksTo number vs next
walk_on number vs slot next a less is = record {
  before = a.before ++ a.version ∷ [];
  rest = a.after;
  whole = a.whole ∙ append_more a.before a.version a.after;
  below = All-push (λ (v : PlacedVersion). v.number < number) a.before a.version a.below less;
  here = is;
}

-- ---- the version at which the walk is

pub slots_at : (number : ℕ) (vs : List PlacedVersion) (slot : ℕ) (a : IsAtVersion number vs slot) → version_slots_of vs ≡ version_slots_of a.before ++ slot ∷ version_slots_of a.after
slots_at number vs slot a =
    ap version_slots_of a.whole ∙ numbers_about (λ (v : PlacedVersion). v.slot) a.before a.version a.after
    ∙ ap (λ k. version_slots_of a.before ++ k ∷ version_slots_of a.after) a.here

pub lies_at : (p : Pools) (owner : Owner) (row : Row) (number : ℕ) (vs : List PlacedVersion) (slot : ℕ) → IsRow p owner row vs → (a : IsAtVersion number vs slot) → LiesIn version_links p.versions row.versions (version_slots_of a.before ++ slot ∷ version_slots_of a.after)
lies_at p owner row number vs slot h a =
    subst (LiesIn version_links p.versions row.versions) (slots_at number vs slot a) h.chain

-- what stands in its slot
pub has_at : (p : Pools) (owner : Owner) (row : Row) (vs before : List PlacedVersion) (v : PlacedVersion) (after : List PlacedVersion) (slot : ℕ) → IsRow p owner row vs → vs ≡ before ++ v ∷ after → v.slot ≡ slot → (stored : StoredVersion) × (get p.versions slot ≡ Some stored) × (stored.owner ≡ owner) × (stored.number ≡ v.number) × (stored.serial ≡ v.serial) × (stored.content ≡ v.content)
has_at p owner row vs before v after slot h whole here =
    let has = all_here (HasVersion p.versions owner) before v after (subst (All (HasVersion p.versions owner)) whole h.found) in
    (has.stored, ap (get p.versions) (sym here) ∙ has.is, has.owner_is, has.number_is, has.serial_is, has.content_is)

some_live : {T : Type 0} (o : Option T) (x : T) → o ≡ Some x → IsSome o
some_live o x e = rw e refl

pub live_at : (p : Pools) (owner : Owner) (row : Row) (vs before : List PlacedVersion) (v : PlacedVersion) (after : List PlacedVersion) (slot : ℕ) → IsRow p owner row vs → vs ≡ before ++ v ∷ after → v.slot ≡ slot → IsLive p.versions slot
live_at p owner row vs before v after slot h whole here =
    let has = has_at p owner row vs before v after slot h whole here in
    some_live (get p.versions slot) has.0 has.1
