-- A walk to the entries of a content that are chosen, which may pass over others.
use Rattle.std.proofs.Common.{◌≡◌, ℕ, zero, suc, ◌+◌, ◌<◌, ◌≤◌, Bool, true, false, not, List, [], ◌∷◌, ◌++◌, length, map, replicate, get_or, slice_index, All, Option, Some, None, IsSome, refl, sym, ap, subst, ◌∙◌, arith, append-nil, append_assoc, length-append}
use Rattle.std.proofs.lemmas.List.{map-append}
use Rattle.std.specs.List.{list_any}
use Rattle.std.proofs.lemmas.List.Elements.{All-cons, All-head, All-nil, All-tail, filter-append}
use Rattle.std.proofs.lemmas.Slice.Eq.{bytes_eq-Decides}
use Rattle.std.specs.Borrow.{Bor}
use Rattle.hx_pool.specs.Chain.{IsIn, first_or}
use Rattle.hx_index.specs.Items.{Item, nodes_of}
use Rattle.hx_index.specs.Index.{NodePool}
use Rattle.hx_text.specs.declared.kinds.By.{By}
use Rattle.hx_sample.specs.Changes.{has_key, with_value}
use Rattle.hx_sample.specs.Find.{Entry}
use Rattle.hx_versions.specs.declared.choice.Choice.{Choice}
use Rattle.hx_versions.specs.declared.content.Content.{Content}
use Rattle.hx_versions.specs.Contents.{EntryPool, IsContent, IsReached, IsWayTo, LeadsTo, PlacedEntry, Way, entries_of, first_chosen, slots_of, with_chosen_values, without_chosen_entries}
use Rattle.hx_versions.specs.Versions.{chosen_count, is_chosen}
use Rattle.hx_versions.proofs.KeyLemmas.{first_splits}
use Rattle.hx_versions.proofs.PlacedLemmas.{node_in}
use Rattle.hx_versions.proofs.ValueWalkLemmas.{ValuesLeft, other_more}
use Rattle.hx_versions.proofs.WalkLemmas.{OthersLeft, any_step, joined}

never_some : (A : Type 0) → IsSome {T = A} None → ⊥
never_some A some = cc

-- ---- the entries that are passed over

module _ (test : Entry → Bool) where
  abbrev pub IsOther : PlacedEntry → Type 0
  IsOther p = test p.entry ≡ false

  other_step : (b : Bool) (p : PlacedEntry) (placed : List PlacedEntry) → test p.entry ≡ b
      → first_chosen test (p ∷ placed) ≡ None
      → (first_chosen test placed ≡ None → All IsOther placed) → All IsOther (p ∷ placed)
  other_step true p placed hit is rest =
      let lost : Some p.slot ≡ None = rw hit at is in absurd (cc)
  other_step false p placed miss is rest = All-cons IsOther p placed miss (rest (rw miss at is))

  all_other : (placed : List PlacedEntry) → first_chosen test placed ≡ None → All IsOther placed
  all_other [] is = All-nil IsOther
  all_other (p ∷ placed) is = other_step (test p.entry) p placed refl is (all_other placed)

  -- none of them is counted
  pub counts_on : (before rest : List PlacedEntry) → All IsOther before
      → chosen_count test (entries_of (before ++ rest)) ≡ chosen_count test (entries_of rest)
  counts_on [] rest others = refl
  counts_on (p ∷ before) rest others =
      other_more test p (before ++ rest) (All-head IsOther p before others)
      ∙ counts_on before rest (All-tail IsOther p before others)

  -- none of them gets a value
  pub values_on : (value : List ℕ) (before : List PlacedEntry) → All IsOther before
      → with_chosen_values test value before ≡ before
  values_on value [] others = refl
  values_on value (p ∷ before) others =
      rw (All-head IsOther p before others)
      (ap (λ xs. p ∷ xs) (values_on value before (All-tail IsOther p before others)))

  -- ---- what leads to the chosen entries

  -- the chain does, as it leads to all
  pub chain_leads : (o : Option ℕ) (rest : List PlacedEntry) → o ≡ first_or (slots_of rest) None
      → LeadsTo None test o rest
  chain_leads o [] is = subst (λ q. LeadsTo None test q []) (sym is) (All-nil IsOther)
  chain_leads o (p ∷ rest) is =
      subst (λ q. LeadsTo None test q (p ∷ rest)) (sym is)
      (record {
        before = [];
        entry = p;
        after = rest;
        is = refl;
        here = refl;
        passed = All-nil IsOther;
        chosen = λ some. absurd (never_some (ℕ × Bor (List ℕ)) some);
      })

  -- an index does, as it leads to the first of them
  pub index_leads : (way : Way) (o : Option ℕ) (rest : List PlacedEntry)
      → o ≡ first_chosen test rest → LeadsTo way test o rest
  index_leads way None rest is = all_other rest (sym is)
  index_leads way (Some slot) rest is =
      first_splits way test rest slot (sym is)

-- ---- the walk

-- so many entries were visited; of those that are left the next is reached from this slot, and P
-- holds of those before it and those that are left
pub record Reaches (P : List PlacedEntry → List PlacedEntry → Type 0) (way : Way)
    (test : Entry → Bool) (placed : List PlacedEntry) (at : Option ℕ) (visited : ℕ) : Type 0 where
  pub seen : List PlacedEntry
  pub rest : List PlacedEntry
  pub whole : placed ≡ seen ++ rest
  pub here : LeadsTo way test at rest
  pub left : length rest + visited ≤ length placed
  pub holds : P seen rest

module _ (way : Way) (test : Entry → Bool) (placed : List PlacedEntry) where
  pub reach_begins : (P : List PlacedEntry → List PlacedEntry → Type 0) (at : Option ℕ)
      → LeadsTo way test at placed → P [] placed → Reaches P way test placed at 0
  reach_begins P at here holds = record {
    seen = [];
    rest = placed;
    whole = refl;
    here = here;
    left = omega arith;
    holds = holds;
  }

  -- all entries about the one that is reached
  pub reached_whole : (seen rest : List PlacedEntry) (slot : ℕ) → placed ≡ seen ++ rest
      → (a : IsReached way test slot rest) → placed ≡ (seen ++ a.before) ++ a.entry ∷ a.after
  reached_whole seen rest slot whole a =
      whole ∙ ap (λ xs. seen ++ xs) a.is ∙ sym (append_assoc seen a.before (a.entry ∷ a.after))

  -- one more is visited
  pub reach_on : (P Q : List PlacedEntry → List PlacedEntry → Type 0) (at next : Option ℕ)
      (visited slot : ℕ) (w : Reaches P way test placed at visited)
      (a : IsReached way test slot w.rest) → LeadsTo way test next a.after
      → Q ((w.seen ++ a.before) ++ a.entry ∷ []) a.after
      → Reaches Q way test placed next (visited + 1)
  reach_on P Q at next visited slot w a here holds = record {
    seen = (w.seen ++ a.before) ++ a.entry ∷ [];
    rest = a.after;
    whole = reached_whole w.seen w.rest slot w.whole a
        ∙ joined (w.seen ++ a.before) a.after a.entry;
    here = here;
    left = omega (arith, w.left, ap length a.is, length-append a.before (a.entry ∷ a.after));
    holds = holds;
  }

-- the entry that is reached from a slot
pub reached : (way : Way) (test : Entry → Bool) (at : Option ℕ) (slot : ℕ)
    (rest : List PlacedEntry) → at ≡ Some slot → LeadsTo way test at rest
    → IsReached way test slot rest
reached way test at slot rest is here = subst (λ o. LeadsTo way test o rest) is here

-- where none is reached, none that is left is chosen
pub none_reached : (way : Way) (test : Entry → Bool) (at : Option ℕ) (rest : List PlacedEntry)
    → at ≡ None → LeadsTo way test at rest → All (IsOther test) rest
none_reached way test at rest is here = subst (λ o. LeadsTo way test o rest) is here

-- the content about the entry that is reached
pub content_reached : (way : Way) (test : Entry → Bool) (e : EntryPool) (n : NodePool) (v : ℕ)
    (c : Content) (placed seen rest : List PlacedEntry) (slot : ℕ) → IsContent e n v c placed
    → placed ≡ seen ++ rest → (a : IsReached way test slot rest)
    → IsContent e n v c ((seen ++ a.before) ++ a.entry ∷ a.after)
content_reached way test e n v c placed seen rest slot h whole a =
    subst (IsContent e n v c) (reached_whole way test placed seen rest slot whole a) h

-- ---- whether one is chosen

any_on : (test : Entry → Bool) (before rest : List PlacedEntry) → All (IsOther test) before
    → list_any test (entries_of (before ++ rest)) ≡ list_any test (entries_of rest)
any_on test [] rest others = refl
any_on test (p ∷ before) rest others =
    any_step test p (before ++ rest) (All-head (IsOther test) p before others)
    ∙ any_on test before rest (All-tail (IsOther test) p before others)

-- one of those that are left is chosen where one of those from the reached one on is
pub any_reached : (way : Way) (test : Entry → Bool) (rest : List PlacedEntry) (slot : ℕ)
    (a : IsReached way test slot rest)
    → list_any test (entries_of rest) ≡ list_any test (entries_of (a.entry ∷ a.after))
any_reached way test rest slot a =
    ap (λ xs. list_any test (entries_of xs)) a.is
    ∙ any_on test a.before (a.entry ∷ a.after) a.passed

pub any_end : (test : Entry → Bool) (rest : List PlacedEntry) → All (IsOther test) rest
    → list_any test (entries_of rest) ≡ false
any_end test [] others = refl
any_end test (p ∷ rest) others =
    any_step test p rest (All-head (IsOther test) p rest others)
    ∙ any_end test rest (All-tail (IsOther test) p rest others)

-- ---- entries that go out

without_on : (test : Entry → Bool) (before : List PlacedEntry) → All (IsOther test) before
    → without_chosen_entries test before ≡ before
without_on test [] others = refl
without_on test (p ∷ before) others =
    rw (All-head (IsOther test) p before others)
    (ap (λ xs. p ∷ xs) (without_on test before (All-tail (IsOther test) p before others)))

without_joined : (test : Entry → Bool) (xs ys : List PlacedEntry)
    → without_chosen_entries test (xs ++ ys)
    ≡ without_chosen_entries test xs ++ without_chosen_entries test ys
without_joined test xs ys = filter-append (λ (p : PlacedEntry). not (test p.entry)) xs ys

-- those that are passed over stay
pub others_reached : (way : Way) (test : Entry → Bool) (e : EntryPool) (n : NodePool) (v : ℕ)
    (c : Content) (seen rest : List PlacedEntry) (slot : ℕ) → OthersLeft test e n v c seen rest
    → (a : IsReached way test slot rest)
    → OthersLeft test e n v c (seen ++ a.before) (a.entry ∷ a.after)
others_reached way test e n v c seen rest slot h a =
    let left = without_chosen_entries test in
    let same : left seen ++ rest ≡ left (seen ++ a.before) ++ (a.entry ∷ a.after) =
    ap (λ xs. left seen ++ xs) a.is
    ∙ sym (append_assoc (left seen) a.before (a.entry ∷ a.after))
    ∙ ap (λ xs. (left seen ++ xs) ++ (a.entry ∷ a.after)) (sym (without_on test a.before a.passed))
    ∙ ap (λ xs. xs ++ (a.entry ∷ a.after)) (sym (without_joined test seen a.before)) in
    subst (IsContent e n v c) same h

-- where none that is left is chosen, all that are have gone out
pub others_end : (test : Entry → Bool) (e : EntryPool) (n : NodePool) (v : ℕ) (c : Content)
    (placed seen rest : List PlacedEntry) → placed ≡ seen ++ rest → All (IsOther test) rest
    → OthersLeft test e n v c seen rest → IsContent e n v c (without_chosen_entries test placed)
others_end test e n v c placed seen rest whole others h =
    let left = without_chosen_entries test in
    let same : left seen ++ rest ≡ left placed =
    ap (λ xs. left seen ++ xs) (sym (without_on test rest others))
    ∙ sym (without_joined test seen rest) ∙ ap left (sym whole) in
    subst (IsContent e n v c) same h

-- ---- copies of a value

pub copies_reached : (way : Way) (test : Entry → Bool) (value : List ℕ) (copies all : List (List ℕ))
    (rest : List PlacedEntry) (slot : ℕ) (a : IsReached way test slot rest)
    → copies ++ replicate (chosen_count test (entries_of rest)) value ≡ all
    → copies ++ replicate (chosen_count test (entries_of (a.entry ∷ a.after))) value ≡ all
copies_reached way test value copies all rest slot a before =
    let same = ap (λ xs. chosen_count test (entries_of xs)) a.is
    ∙ counts_on test a.before (a.entry ∷ a.after) a.passed in
    ap (λ k. copies ++ replicate k value) (sym same) ∙ before

none_counted : (test : Entry → Bool) (rest : List PlacedEntry) → All (IsOther test) rest
    → chosen_count test (entries_of rest) ≡ 0
none_counted test [] others = refl
none_counted test (p ∷ rest) others =
    other_more test p rest (All-head (IsOther test) p rest others)
    ∙ none_counted test rest (All-tail (IsOther test) p rest others)

-- where none that is left is chosen, the copies are all
pub copies_end : (test : Entry → Bool) (value : List ℕ) (rest : List PlacedEntry)
    (copies all : List (List ℕ)) → All (IsOther test) rest
    → copies ++ replicate (chosen_count test (entries_of rest)) value ≡ all → copies ≡ all
copies_end test value rest copies all others before =
    sym (append-nil copies)
    ∙ ap (λ k. copies ++ replicate k value) (sym (none_counted test rest others)) ∙ before

-- nothing is left
pub nothing_left : (test : Entry → Bool) (rest : List PlacedEntry) → length rest ≡ 0
    → All (IsOther test) rest
nothing_left test [] e = All-nil (IsOther test)
nothing_left test (p ∷ rest) e = absurd (omega (arith, e))

-- ---- entries that get a value

values_joined : (test : Entry → Bool) (value : List ℕ) (xs ys : List PlacedEntry)
    → with_chosen_values test value (xs ++ ys)
    ≡ with_chosen_values test value xs ++ with_chosen_values test value ys
values_joined test value xs ys =
    let given = λ (p : PlacedEntry). record p { entry = with_value test value p.entry } in
    map-append given xs ys

module _ (way : Way) (test : Entry → Bool) (value : List ℕ) (e : EntryPool) (n : NodePool) (v : ℕ)
    (c : Content) (copies : List (List ℕ)) where
  -- those that are passed over get none
  pub values_reached : (seen rest : List PlacedEntry) (slot : ℕ)
      → ValuesLeft test value e n v c copies seen rest → (a : IsReached way test slot rest)
      → ValuesLeft test value e n v c copies (seen ++ a.before) (a.entry ∷ a.after)
  values_reached seen rest slot l a =
      let given = with_chosen_values test value in
      let others : given a.before ≡ a.before = values_on test value a.before a.passed in
      let same : given seen ++ rest ≡ given (seen ++ a.before) ++ (a.entry ∷ a.after) =
      ap (λ xs. given seen ++ xs) a.is
      ∙ sym (append_assoc (given seen) a.before (a.entry ∷ a.after))
      ∙ ap (λ xs. (given seen ++ xs) ++ (a.entry ∷ a.after)) (sym others)
      ∙ ap (λ xs. xs ++ (a.entry ∷ a.after)) (sym (values_joined test value seen a.before)) in
      record {
        content = subst (IsContent e n v c) same l.content;
        copies_are = l.copies_are
            ∙ ap (λ k. replicate k value)
            (ap (λ xs. chosen_count test (entries_of xs)) a.is
            ∙ counts_on test a.before (a.entry ∷ a.after) a.passed);
      }

-- where none that is left is chosen, all that are have the value
pub values_end : (test : Entry → Bool) (value : List ℕ) (e : EntryPool) (n : NodePool) (v : ℕ)
    (c : Content) (placed seen rest : List PlacedEntry) → placed ≡ seen ++ rest
    → All (IsOther test) rest → IsContent e n v c (with_chosen_values test value seen ++ rest)
    → IsContent e n v c (with_chosen_values test value placed)
values_end test value e n v c placed seen rest whole others h =
    let given = with_chosen_values test value in
    let same : given seen ++ rest ≡ given placed =
    ap (λ xs. given seen ++ xs) (sym (values_on test value rest others))
    ∙ sym (values_joined test value seen rest)
    ∙ ap given (sym whole) in
    subst (IsContent e n v c) same h

-- ---- the next entry with a key

-- the node of an entry, and the items about it
pub node_here : (f : PlacedEntry → Item) (node : ℕ) (before : List PlacedEntry) (p : PlacedEntry)
    (after : List PlacedEntry) → (f p).node ≡ node
    → IsIn node (nodes_of (map f (before ++ p ∷ after)))
node_here f node before p after here =
    subst (λ k. IsIn k (nodes_of (map f (before ++ p ∷ after)))) here (node_in f before p after)

-- the entry has the key that is sought
pub key_sought : (ways : List (By × Bool)) (found : ℕ × Bor (List ℕ)) (chosen : Choice)
    (p : PlacedEntry) → IsWayTo ways (Some found) chosen → is_chosen chosen p.entry ≡ true
    → (after : List PlacedEntry)
    → first_chosen (has_key p.entry.key) after ≡ first_chosen (is_chosen chosen) after
key_sought ways found chosen p is hit after =
    let same : is_chosen chosen ≡ has_key found.1.now = ap is_chosen is.1 in
    let equal : has_key found.1.now p.entry ≡ true = sym (ap (λ test. test p.entry) same) ∙ hit in
    let key : p.entry.key ≡ found.1.now = (bytes_eq-Decides p.entry.key found.1.now).0 equal in
    ap (λ k. first_chosen (has_key k) after) key ∙ ap (λ test. first_chosen test after) (sym same)

read_alike : (xs : List ℕ) (at d e : ℕ) → at < length xs → get_or xs at d ≡ get_or xs at e
read_alike [] at d e within = absurd (omega (arith, within))
read_alike (x ∷ xs) zero d e within = refl
read_alike (x ∷ xs) (suc at) d e within = read_alike xs at d e (omega (arith, within))

-- the number that is read at a position is that of the entry's node
pub node_is : (p : PlacedEntry) (numbers : List ℕ) (at node count : ℕ) → numbers ≡ p.nodes
    → length p.nodes ≡ count → at < count → node ≡ get_or numbers at node
    → slice_index p.nodes at ≡ node
node_is p numbers at node count same many within read =
    ap (λ xs. get_or xs at 0) (sym same)
    ∙ read_alike numbers at 0 node (omega (arith, ap length same, many, within)) ∙ sym read
