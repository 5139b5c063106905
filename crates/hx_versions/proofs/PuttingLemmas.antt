-- Keys that go into indexes, from the last index to the first.
use Rattle.std.proofs.Common.{◌≡◌, ◌≢◌, ℕ, ◌+◌, ◌<◌, ◌≤◌, Bool, cond, ltb, List, [], ◌∷◌, ◌++◌, length, get_or, set, Option, Some, None, All, refl, sym, ap, subst, ◌∙◌, inl, inr, arith, length-append}
use Rattle.std.specs.Option.{option_map}
use Rattle.std.specs.Prelude.{slice_get}
use Rattle.std.proofs.lemmas.Bool.{cases_eq, cases_lt, lt-ltb, le-ltb}
use Rattle.std.proofs.lemmas.List.{get_or-set_same, get_or-set_other}
use Rattle.std.proofs.lemmas.List.Elements.{All-push}
use Rattle.std.proofs.lemmas.List.{length-map}
use Rattle.std.proofs.lemmas.Option.{slice_get-map, slice_get_within}
use Rattle.hx_text.specs.declared.kinds.By.{By}
use Rattle.hx_match.specs.Patterns.{PatternText}
use Rattle.hx_index.specs.declared.index.Index.{Index}
use Rattle.hx_index.specs.Items.{Item}
use Rattle.hx_index.specs.Index.{NodePool}
use Rattle.hx_versions.specs.Contents.{AreItemsOfVersion, EntryPool, IsOfVersion, Listing, StandIn, new_item, ways_of, with_items, with_list}
use Rattle.hx_versions.specs.NewEntries.{prepared_patterns}
use Rattle.hx_versions.proofs.IndexListLemmas.{some_same, stand_same, way_of, with_other, with_same}

-- the lists while those from a position on have an item more
abbrev pub partly_with : ℕ → List ℕ → List ℕ → ℕ → Listing → Listing
partly_with entry key numbers from items at method ci = cond (ltb at from) (items at method ci) (with_items entry key numbers items at method ci)

part_below : (entry : ℕ) (key numbers : List ℕ) (from : ℕ) (items : Listing) (at : ℕ) (method : By) (ci : Bool) → at < from → partly_with entry key numbers from items at method ci ≡ items at method ci
part_below entry key numbers from items at method ci below = rw (lt-ltb at from below) refl

part_above : (entry : ℕ) (key numbers : List ℕ) (from : ℕ) (items : Listing) (at : ℕ) (method : By) (ci : Bool) → from ≤ at → partly_with entry key numbers from items at method ci ≡ with_items entry key numbers items at method ci
part_above entry key numbers from items at method ci above = rw (le-ltb at from above) refl

abbrev ended : ℕ → List ℕ → Listing → ℕ → By → Bool → ℕ → List Item
ended entry key items at method ci node = items at method ci ++ new_item node entry key method ci ∷ []

-- the list of one position more
module _ (entry from node : ℕ) (key numbers : List ℕ) (items : Listing) (by : By) (ci : Bool) (within : from < length numbers) where
  abbrev before : Listing
  before = partly_with entry key numbers (from + 1) items

  abbrev put : Listing
  put = with_list from (before from by ci ++ new_item node entry key by ci ∷ []) before

  abbrev after : Listing
  after = partly_with entry key (set numbers from node) from items

  here_same : after from by ci ≡ put from by ci
  here_same =
      part_above entry key (set numbers from node) from items from by ci (omega arith)
      ∙ ap (ended entry key items from by ci) (get_or-set_same numbers from node 0 within)
      ∙ ap (λ xs. xs ++ new_item node entry key by ci ∷ []) (sym (part_below entry key numbers (from + 1) items from by ci (omega arith)))
      ∙ sym (with_same from (before from by ci ++ new_item node entry key by ci ∷ []) before by ci)

  elsewhere : (at : ℕ) (method : By) (c : Bool) → at ≢ from → after at method c ≡ before at method c
  elsewhere at method c differs = elim (cases_lt at from) as (λ _. after at method c ≡ before at method c) [
    | inl below ↦ part_below entry key (set numbers from node) from items at method c below ∙ sym (part_below entry key numbers (from + 1) items at method c (omega arith))
    | inr above ↦
        part_above entry key (set numbers from node) from items at method c above
        ∙ ap (ended entry key items at method c) (get_or-set_other numbers from at node 0 differs)
        ∙ sym (part_above entry key numbers (from + 1) items at method c (omega (arith, above, differs)))
  ]

  one_more : (ways : List (By × Bool)) → slice_get ways from ≡ Some (by, ci) → (at : ℕ) (way : By × Bool) → slice_get ways at ≡ Some way → after at way.0 way.1 ≡ put at way.0 way.1
  one_more ways here at way is = elim (cases_eq at from) as (λ _. after at way.0 way.1 ≡ put at way.0 way.1) [
    | inl e ↦
        let same : way ≡ (by, ci) = some_same way (by, ci) (sym is ∙ ap (slice_get ways) e ∙ here) in
        ap (λ i. after i way.0 way.1) e ∙ ap (λ (w : By × Bool). after from w.0 w.1) same ∙ here_same
        ∙ ap (λ (w : By × Bool). put from w.0 w.1) (sym same) ∙ ap (λ i. put i way.0 way.1) (sym e)
    | inr differs ↦ elsewhere at way.0 way.1 differs ∙ sym (with_other from at (before from by ci ++ new_item node entry key by ci ∷ []) before way.0 way.1 differs)
  ]

  pub put_more : (n : NodePool) (indexes : List Index) → slice_get (ways_of indexes) from ≡ Some (by, ci) → StandIn n indexes put → StandIn n indexes after
  put_more n indexes here h = stand_same n indexes put after (one_more (ways_of indexes) here) h

pub put_step : (entry from node more : ℕ) (key text numbers : List ℕ) (items : Listing) (by : By) (ci : Bool) → from < length numbers → more ≡ from + 1 → text ≡ key → (n : NodePool) (indexes : List Index) → slice_get (ways_of indexes) from ≡ Some (by, ci) → StandIn n indexes (with_list from (partly_with entry key numbers more items from by ci ++ new_item node entry text by ci ∷ []) (partly_with entry key numbers more items)) → StandIn n indexes (partly_with entry key (set numbers from node) from items)
put_step entry from node more key text numbers items by ci within more_is text_is n indexes here h =
    put_more entry from node key numbers items by ci within n indexes here
    (subst (λ m. StandIn n indexes (with_list from (partly_with entry key numbers m items from by ci ++ new_item node entry key by ci ∷ []) (partly_with entry key numbers m items))) more_is
    (subst (λ t. StandIn n indexes (with_list from (partly_with entry key numbers more items from by ci ++ new_item node entry t by ci ∷ []) (partly_with entry key numbers more items))) text_is h))

-- none has one more at first, and each at last
pub put_none : (entry : ℕ) (key numbers : List ℕ) (items : Listing) (n : NodePool) (indexes : List Index) (from : ℕ) → ((at : ℕ) (way : By × Bool) → slice_get (ways_of indexes) at ≡ Some way → at < from) → StandIn n indexes items → StandIn n indexes (partly_with entry key numbers from items)
put_none entry key numbers items n indexes from below h =
    stand_same n indexes items (partly_with entry key numbers from items) (λ at way is. part_below entry key numbers from items at way.0 way.1 (below at way is)) h

pub put_all : (entry : ℕ) (key numbers : List ℕ) (items : Listing) (n : NodePool) (indexes : List Index) → StandIn n indexes (partly_with entry key numbers 0 items) → StandIn n indexes (with_items entry key numbers items)
put_all entry key numbers items n indexes h =
    stand_same n indexes (partly_with entry key numbers 0 items) (with_items entry key numbers items) (λ at way is. sym (part_above entry key numbers 0 items at way.0 way.1 (omega arith))) h

-- the items are of entries of one version where the entry is
abbrev pub of_version : EntryPool → ℕ → Item → Type 0
of_version e v item = IsOfVersion e v item.entry

pub put_owned : (e : EntryPool) (v entry : ℕ) (key numbers : List ℕ) (from : ℕ) (items : Listing) (ways : List (By × Bool)) → IsOfVersion e v entry → AreItemsOfVersion e v ways items → AreItemsOfVersion e v ways (partly_with entry key numbers from items)
put_owned e v entry key numbers from items ways own all at way is = elim (cases_lt at from) as (λ _. All (of_version e v) (partly_with entry key numbers from items at way.0 way.1)) [
  | inl below ↦ subst (All (of_version e v)) (sym (part_below entry key numbers from items at way.0 way.1 below)) (all at way is)
  | inr above ↦
      subst (All (of_version e v)) (sym (part_above entry key numbers from items at way.0 way.1 above))
      (All-push (of_version e v) (items at way.0 way.1) (new_item (get_or numbers at 0) entry key way.0 way.1) (all at way is) own)
]

-- ---- the keys that are left

get_at_end : {X : Type 0} (xs ys : List X) (x : X) → slice_get (xs ++ x ∷ ys) (length xs) ≡ Some x
get_at_end [] ys x = refl
get_at_end (y ∷ xs) ys x = get_at_end xs ys x

joined : {X : Type 0} (xs ys : List X) (x : X) → (xs ++ x ∷ []) ++ ys ≡ xs ++ x ∷ ys
joined [] ys x = refl
joined (y ∷ xs) ys x = ap (λ zs. y ∷ zs) (joined xs ys x)

-- the last of the keys that are left is the one of its position, and one more is gone
pub taken_last : {X : Type 0} (all left rest gone : List X) (x : X) → all ≡ left ++ gone → left ≡ rest ++ x ∷ [] → (all ≡ rest ++ x ∷ gone) × (slice_get all (length rest) ≡ Some x)
taken_last all left rest gone x whole last =
    let is : all ≡ rest ++ x ∷ gone = whole ∙ ap (λ xs. xs ++ gone) last ∙ joined rest gone x in
    (is, ap (λ xs. slice_get xs (length rest)) is ∙ get_at_end rest gone x)

-- a prepared key is for the way at its position
abbrev pattern_by : List ℕ → By × Bool → PatternText
pattern_by key way = record { by = way.0; ci = way.1; text = key }

pub prepared_way : (key : List ℕ) (ways : List (By × Bool)) (at : ℕ) (p : PatternText) → slice_get (prepared_patterns key ways) at ≡ Some p → (slice_get ways at ≡ Some (p.by, p.ci)) × (p.text ≡ key)
prepared_way key ways at p is = go (slice_get ways at) refl
  where
    go : (found : Option (By × Bool)) → slice_get ways at ≡ found → (slice_get ways at ≡ Some (p.by, p.ci)) × (p.text ≡ key)
    go None here =
        let none : None ≡ Some p = sym (slice_get-map (pattern_by key) ways at ∙ ap (option_map (pattern_by key)) here) ∙ is in
        absurd (cc)
    go (Some way) here =
        let some : Some (pattern_by key way) ≡ Some p = sym (slice_get-map (pattern_by key) ways at ∙ ap (option_map (pattern_by key)) here) ∙ is in
        let same : pattern_by key way ≡ p = some_same (pattern_by key way) p some in
        (here ∙ ap (λ (q : PatternText). Some (q.by, q.ci)) same, ap (λ (q : PatternText). q.text) (sym same))

pub ways_length : (a b : List Index) → ways_of a ≡ ways_of b → length a ≡ length b
ways_length a b e = sym (length-map a way_of) ∙ ap length e ∙ length-map b way_of

pub prepared_length : (key : List ℕ) (indexes : List Index) (all : List PatternText) → all ≡ prepared_patterns key (ways_of indexes) → length all ≡ length indexes
prepared_length key indexes all e = ap length e ∙ length-map (ways_of indexes) (pattern_by key) ∙ length-map indexes way_of

-- the next key, with what is known of its position
pub record NextKey (key : List ℕ) (indexes : List Index) (all left rest gone : List PatternText) (p : PatternText) (at : ℕ) : Type 0 where
  pub way : slice_get (ways_of indexes) at ≡ Some (p.by, p.ci)
  pub text : p.text ≡ key
  pub within : at < length indexes
  pub more : length left ≡ at + 1
  pub whole : all ≡ rest ++ p ∷ gone

pub next_key : (key : List ℕ) (first indexes : List Index) (all left rest gone : List PatternText) (p : PatternText) (at : ℕ) → all ≡ prepared_patterns key (ways_of first) → ways_of indexes ≡ ways_of first → all ≡ left ++ gone → left ≡ rest ++ p ∷ [] → at ≡ length rest → NextKey key indexes all left rest gone p at
next_key key first indexes all left rest gone p at keys ways whole last at_is =
    let t = taken_last all left rest gone p whole last in
    let w = prepared_way key (ways_of first) (length rest) p (ap (λ xs. slice_get xs (length rest)) (sym keys) ∙ t.1) in
    let way : slice_get (ways_of indexes) at ≡ Some (p.by, p.ci) = ap (slice_get (ways_of indexes)) at_is ∙ ap (λ ws. slice_get ws (length rest)) ways ∙ w.0 in
    record {
      way = way;
      text = w.1;
      within = omega (arith, slice_get_within (ways_of indexes) at (p.by, p.ci) way, length-map indexes way_of);
      more = ap length last ∙ length-append rest (p ∷ []) ∙ ap (λ n. n + 1) (sym at_is);
      whole = t.0;
    }
