-- A walk along all versions of a row, which counts their entries.
use Rattle.std.proofs.Common.{◌≡◌, ℕ, ◌+◌, List, [], ◌∷◌, ◌++◌, length, map, Option, Some, None, All, refl, sym, ap, subst, ◌∙◌, arith, append-nil}
use Rattle.std.specs.List.{sum_by}
use Rattle.std.proofs.lemmas.List.{length-map}
use Rattle.std.proofs.lemmas.List.Sums.{sum_by-cons, sum_by_push}
use Rattle.hx_pool.specs.Pool.{get}
use Rattle.hx_pool.specs.Chain.{LiesIn, first_or}
use Rattle.hx_versions.specs.declared.pools.Pools.{Pools}
use Rattle.hx_versions.specs.declared.pools.Row.{Row}
use Rattle.hx_versions.specs.declared.stored_version.Owner.{Owner}
use Rattle.hx_versions.specs.declared.stored_version.StoredVersion.{StoredVersion}
use Rattle.hx_versions.specs.StoredVersions.{version_links}
use Rattle.hx_versions.specs.Contents.{IsContent, PlacedEntry}
use Rattle.hx_versions.specs.Rows.{ShownVersion, total_count}
use Rattle.hx_versions.specs.Store.{HasContent, IsRow, PlacedVersion, shown_version, version_slots_of}
use Rattle.hx_versions.proofs.IndexListLemmas.{some_same}
use Rattle.hx_versions.proofs.PartLemmas.{all_here, numbers_about}
use Rattle.hx_versions.proofs.VersionWalkLemmas.{has_at}

abbrev pub entry_count : PlacedVersion → ℕ
entry_count v = length v.placed

-- so many versions were passed, which have so many entries, and the others are left, the first of
-- them in this slot
pub record CountsPassed (vs : List PlacedVersion) (at : Option ℕ) (passed count : ℕ) : Type 0 where
  pub before : List PlacedVersion
  pub rest : List PlacedVersion
  pub whole : vs ≡ before ++ rest
  pub here : at ≡ first_or (version_slots_of rest) None
  pub left : length rest + passed ≡ length vs
  pub counted : count ≡ sum_by entry_count before

-- the first of the versions that are left
pub record IsFirstOf (slot : ℕ) (rest : List PlacedVersion) : Type 0 where
  pub version : PlacedVersion
  pub after : List PlacedVersion
  pub is : rest ≡ version ∷ after
  pub here : version.slot ≡ slot

pub first_at : (slot : ℕ) (rest : List PlacedVersion) → Some slot ≡ first_or (version_slots_of rest) None → IsFirstOf slot rest
first_at slot [] e = absurd (cc)
first_at slot (v ∷ rest) e =
    let same : v.slot ≡ slot = cc in
    record { version = v; after = rest; is = refl; here = same }

pub none_at : (rest : List PlacedVersion) → None ≡ first_or (version_slots_of rest) None → rest ≡ []
none_at [] e = refl
none_at (v ∷ rest) e = absurd (cc)

pub none_left : (rest : List PlacedVersion) → length rest ≡ 0 → rest ≡ []
none_left [] e = refl
none_left (v ∷ rest) e = absurd (omega (arith, e))

-- ---- the walk

pub count_begins : (vs : List PlacedVersion) (at : Option ℕ) → at ≡ first_or (version_slots_of vs) None → CountsPassed vs at 0 0
count_begins vs at here =
    record { before = []; rest = vs; whole = refl; here = here; left = omega arith; counted = refl }

append_more : (xs : List PlacedVersion) (x : PlacedVersion) (ys : List PlacedVersion) → xs ++ x ∷ ys ≡ (xs ++ x ∷ []) ++ ys
append_more [] x ys = refl
append_more (z ∷ xs) x ys = ap (λ l. z ∷ l) (append_more xs x ys)

module _ (vs : List PlacedVersion) (at : Option ℕ) (passed count : ℕ) (w : CountsPassed vs at passed count) where
  pub count_about : (slot : ℕ) (a : IsFirstOf slot w.rest) → vs ≡ w.before ++ a.version ∷ a.after
  count_about slot a = w.whole ∙ ap (λ xs. w.before ++ xs) a.is

  -- one more is passed
  pub count_on : (next : Option ℕ) (slot one : ℕ) (a : IsFirstOf slot w.rest) → one ≡ length a.version.placed → next ≡ first_or (version_slots_of a.after) None → CountsPassed vs next (passed + 1) (count + one)
  count_on next slot one a is here = record {
    before = w.before ++ a.version ∷ [];
    rest = a.after;
    whole = count_about slot a ∙ append_more w.before a.version a.after;
    here = here;
    left = omega (arith, w.left, ap length a.is);
    counted =
        ap (λ k. k + one) w.counted ∙ ap (λ k. sum_by entry_count w.before + k) is
        ∙ sym (sum_by_push entry_count w.before a.version);
  }

  -- none is left
  pub count_ends : w.rest ≡ [] → count ≡ sum_by entry_count vs
  count_ends none =
      w.counted
      ∙ ap (sum_by entry_count) (sym (w.whole ∙ ap (λ xs. w.before ++ xs) none ∙ append-nil w.before))

-- ---- the version at which the walk is

module _ (p : Pools) (owner : Owner) (row : Row) (vs before : List PlacedVersion) (v : PlacedVersion) (after : List PlacedVersion) (slot : ℕ) (h : IsRow p owner row vs) (whole : vs ≡ before ++ v ∷ after) (here : v.slot ≡ slot) where
  pub lies_about : LiesIn version_links p.versions row.versions (version_slots_of before ++ slot ∷ version_slots_of after)
  lies_about =
      subst (LiesIn version_links p.versions row.versions) (ap version_slots_of whole ∙ numbers_about (λ (x : PlacedVersion). x.slot) before v after ∙ ap (λ k. version_slots_of before ++ k ∷ version_slots_of after) here) h.chain

  module _ (stored : StoredVersion) (is : get p.versions slot ≡ Some stored) where
    pub number_there : stored.number ≡ v.number
    number_there =
        let has = has_at p owner row vs before v after slot h whole here in
        ap (λ (x : StoredVersion). x.number) (some_same stored has.0 (sym is ∙ has.1)) ∙ has.3

    pub content_there : stored.content ≡ v.content
    content_there =
        let has = has_at p owner row vs before v after slot h whole here in
        ap (λ (x : StoredVersion). x.content) (some_same stored has.0 (sym is ∙ has.1)) ∙ has.5

    -- its content stands for its entries
    pub stands_there : IsContent p.entries p.nodes slot stored.content v.placed
    stands_there =
        let content : IsContent p.entries p.nodes v.slot v.content v.placed = all_here (HasContent p) before v after (subst (All (HasContent p)) whole h.contents) in
        subst (λ c. IsContent p.entries p.nodes slot c v.placed) (sym content_there)
        (subst (λ k. IsContent p.entries p.nodes k v.content v.placed) here content)

    pub count_there : stored.content.count ≡ length v.placed
    count_there = stands_there.count

-- ---- as callers see it

abbrev shown_count : ShownVersion → ℕ
shown_count version = length version.entries

pub total_seen : (vs : List PlacedVersion) → total_count (map shown_version vs) ≡ sum_by entry_count vs
total_seen [] = refl
total_seen (v ∷ vs) =
    sum_by-cons shown_count (shown_version v) (map shown_version vs)
    ∙ ap (λ k. k + total_count (map shown_version vs)) (length-map v.placed (λ (x : PlacedEntry). x.entry))
    ∙ ap (λ k. length v.placed + k) (total_seen vs) ∙ sym (sum_by-cons entry_count v vs)
