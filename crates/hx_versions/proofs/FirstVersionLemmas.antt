-- The first version of a row, in which entries are found.
use Rattle.std.proofs.Common.{◌≡◌, ◌≢◌, ℕ, suc, ◌+◌, ◌*◌, ◌<◌, Bool, false, List, [], ◌∷◌, length, map, filter, Some, None, All, refl, sym, ap, subst, ◌∙◌, inl, inr, arith, eq-eqb, ne_eqb}
use Rattle.std.specs.Prelude.{slice_get}
use Rattle.std.proofs.lemmas.Bool.{cases_Bool}
use Rattle.std.proofs.lemmas.List.{length-map}
use Rattle.std.proofs.lemmas.List.Elements.{All-head}
use Rattle.std.proofs.lemmas.Option.{slice_get_within}
use Rattle.hx_text.specs.declared.kinds.By.{By}
use Rattle.hx_text.specs.declared.kinds.By.TheVariants as by
use Rattle.hx_pool.specs.Pool.{IsLive, get}
use Rattle.hx_pool.specs.Chain.{first_or}
use Rattle.hx_index.specs.declared.index.Index.{Index}
use Rattle.hx_index.specs.Index.{listed_count, tree_steps}
use Rattle.hx_sample.specs.declared.sample.Value.{Value}
use Rattle.hx_sample.specs.declared.sample.Value.TheVariants as value
use Rattle.hx_sample.specs.Find.{Entry, found_entry}
use Rattle.hx_versions.specs.declared.content.Content.{Content}
use Rattle.hx_versions.specs.declared.pools.Pools.{Pools}
use Rattle.hx_versions.specs.declared.pools.Row.{Row}
use Rattle.hx_versions.specs.declared.stored_version.Owner.{Owner}
use Rattle.hx_versions.specs.declared.stored_version.StoredVersion.{StoredVersion}
use Rattle.hx_versions.specs.Contents.{IsContent, PlacedEntry, entries_of, item_of, items_of, ways_of}
use Rattle.hx_versions.specs.Costs.{key_item, search_steps}
use Rattle.hx_versions.specs.Rows.{AreSearchedBy, IsSearchedBy, first_entries}
use Rattle.hx_versions.specs.Store.{IsRow, PlacedVersion, shown_version, version_slots_of}
use Rattle.hx_versions.proofs.IndexListLemmas.{way_of}
use Rattle.hx_versions.proofs.CountWalkLemmas.{IsFirstOf, content_there, first_at, none_at, number_there, stands_there}
use Rattle.hx_versions.proofs.VersionWalkLemmas.{live_at}

-- ---- without entries nothing is found

pub none_found : (method : By) (ci : Bool) (v : Value) → None ≡ found_entry method ci [] v
none_found by.Beg false v = refl
none_found by.Ip ci (value.Ip ip) = refl
none_found _ ci v = refl

no_entries : (placed : List PlacedEntry) → length placed ≡ 0 → entries_of placed ≡ []
no_entries [] none = refl
no_entries (x ∷ placed) none = absurd (omega (arith, none))

no_placed : (placed : List PlacedEntry) → entries_of placed ≡ [] → length placed ≡ 0
no_placed [] none = refl
no_placed (x ∷ placed) none = absurd (cc)

-- ---- the cost of a search

filtered_same : {X Y Z W : Type 0} (p : Y → Bool) (q : W → Bool) (f : X → Y) (h : X → Z) (g : Z → W) → ((x : X) → p (f x) ≡ q (g (h x))) → (xs : List X) → length (filter p (map f xs)) ≡ length (filter q (map g (map h xs)))
filtered_same p q f h g same [] = refl
filtered_same p q f h g same (x ∷ xs) = elim (cases_Bool (q (g (h x)))) [
  | inl kept ↦ rw (same x ∙ kept, kept) (ap suc (filtered_same p q f h g same xs))
  | inr left ↦ rw (same x ∙ left, left) (filtered_same p q f h g same xs)
]

-- the keys of the entries are the patterns of an index
listed_same : (at : ℕ) (method : By) (ci : Bool) (placed : List PlacedEntry) → listed_count (items_of placed at method ci) ≡ listed_count (map (key_item method ci) (entries_of placed))
listed_same at method ci placed =
    filtered_same _ _ (item_of at method ci) (λ (p : PlacedEntry). p.entry) (key_item method ci) (λ p. refl) placed

-- the steps of a search through the index, and two more
pub searched_in : (at : ℕ) (method : By) (ci : Bool) (v : Value) (placed : List PlacedEntry) (entries : List Entry) → entries ≡ entries_of placed → tree_steps method ci v + 2 * listed_count (items_of placed at method ci) + 3 ≡ search_steps method ci entries v
searched_in at method ci v placed entries same =
    ap (λ k. tree_steps method ci v + 2 * k + 3) (listed_same at method ci placed)
    ∙ ap (λ es. search_steps method ci es v) (sym same)

-- ---- the first version

module _ (p : Pools) (owner : Owner) (row : Row) (vs : List PlacedVersion) (h : IsRow p owner row vs) (number : ℕ) where
  -- there is none
  pub none_first : None ≡ first_or (version_slots_of vs) None → first_entries number (map shown_version vs) ≡ []
  none_first is = ap (λ xs. first_entries number (map shown_version xs)) (none_at vs is)

  module _ (slot : ℕ) (is : Some slot ≡ first_or (version_slots_of vs) None) where
    abbrev first : IsFirstOf slot vs
    first = first_at slot vs is

    pub first_live : IsLive p.versions slot
    first_live = live_at p owner row vs [] first.version first.after slot h first.is first.here

    abbrev pub first_placed : List PlacedEntry
    first_placed = first.version.placed

    seen_first : first_entries number (map shown_version vs) ≡ first_entries number (shown_version first.version ∷ map shown_version first.after)
    seen_first = ap (λ xs. first_entries number (map shown_version xs)) first.is

    module _ (stored : StoredVersion) (at : get p.versions slot ≡ Some stored) where
      pub first_stands : IsContent p.entries p.nodes slot stored.content first_placed
      first_stands = stands_there p owner row vs [] first.version first.after slot h first.is first.here stored at

      first_number : stored.number ≡ first.version.number
      first_number = number_there p owner row vs [] first.version first.after slot h first.is first.here stored at

      -- it has another number
      pub other_first : stored.number ≢ number → first_entries number (map shown_version vs) ≡ []
      other_first differs =
          seen_first ∙ rw (ne_eqb first.version.number number (λ e. differs (first_number ∙ e))) refl

      pub entries_first : stored.number ≡ number → first_entries number (map shown_version vs) ≡ entries_of first_placed
      entries_first same =
          seen_first ∙ rw (eq-eqb first.version.number number (sym first_number ∙ same)) refl

      pub empty_first : stored.number ≡ number → stored.content.count ≡ 0 → first_entries number (map shown_version vs) ≡ []
      empty_first same none =
          entries_first same ∙ no_entries first_placed (sym first_stands.count ∙ none)

      -- with entries it has an index for each of the ways
      pub way_first : (ways : List (By × Bool)) (place : ℕ) (way : By × Bool) → stored.content.count ≢ 0 → AreSearchedBy ways (map shown_version vs) → slice_get ways place ≡ Some way → slice_get (ways_of stored.content.indexes.items) place ≡ Some way
      way_first ways place way some searched is_way =
          go (All-head (IsSearchedBy ways) (shown_version first.version) (map shown_version first.after) (subst (λ xs. All (IsSearchedBy ways) (map shown_version xs)) first.is searched))
        where
          content_is : stored.content ≡ first.version.content
          content_is = content_there p owner row vs [] first.version first.after slot h first.is first.here stored at

          go : IsSearchedBy ways (shown_version first.version) → slice_get (ways_of stored.content.indexes.items) place ≡ Some way
          go (inl same) =
              ap (λ (c : Content). slice_get (ways_of c.indexes.items) place) content_is
              ∙ ap (λ ws. slice_get ws place) same ∙ is_way
          go (inr none) =
              absurd (some (first_stands.count ∙ no_placed first_placed none.1))

pub way_within : (indexes : List Index) (place : ℕ) (way : By × Bool) → slice_get (ways_of indexes) place ≡ Some way → place < length indexes
way_within indexes place way is =
    subst (λ k. place < k) (length-map indexes way_of) (slice_get_within (ways_of indexes) place way is)
