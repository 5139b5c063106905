-- Items by their whole texts, in an index that keeps these.
use Rattle.std.proofs.Common.{◌≡◌, ℕ, ◌<◌, ◌^◌, Bool, true, false, cond, List, [], ◌∷◌, ◌++◌, map, filter, find, length, All, Option, Some, None, option_map, option_and_then, bytes_eq, refl, sym, ap, ◌∙◌, arith, inl, inr}
use Rattle.std.proofs.lemmas.Bool.Decides.{same_from_decides}
use Rattle.std.proofs.lemmas.List.{map-append}
use Rattle.std.proofs.lemmas.List.Elements.{All-head, All-tail, All-weaker, filter-append}
use Rattle.std.proofs.lemmas.Slice.Eq.{bytes_eq-Decides}
use Rattle.hx_text.specs.declared.kinds.By.{By}
use Rattle.hx_text.specs.declared.kinds.By.TheVariants as by
use Rattle.hx_pool.specs.Pool.{get, IsLive}
use Rattle.hx_pool.specs.Chain.{IsIn, first_or}
use Rattle.hx_ebtree.specs.KeyList.{exact_of, is_same_key, numbers_of}
use Rattle.hx_sample.specs.declared.sample.Value.TheVariants as value
use Rattle.hx_sample.proofs.FindLemmas.{first_filtered}
use Rattle.hx_index.specs.declared.index.Index.{Index}
use Rattle.hx_index.specs.declared.finding.Search.TheVariants.{Exact}
use Rattle.hx_index.specs.declared.part.Part.TheVariants.{Keyed}
use Rattle.hx_index.specs.Items.{Item, nodes_of}
use Rattle.hx_index.specs.Parts.{key_by, part_by, pattern_key, text_bits}
use Rattle.hx_index.specs.Index.{HasNode, Holds, IsOfUse, NodePool, entry_found, entry_with, has_text, ignores_case, in_part, keeps_texts, key_pairs, method_of}
use Rattle.hx_index.specs.Search.{search_of}
use Rattle.hx_index.proofs.FoundItemLemmas.{exact_agrees, find_agrees}
use Rattle.hx_index.proofs.TextKeyLemmas.{text_equal}
use Rattle.hx_index.proofs.FindingLemmas.{IsBytes, all_in, entry_at, entry_is, entry_read, exact_use, find_all, found_use, item_entry, item_node, item_text, key_use}

-- ---- the patterns of such an index

-- each pattern is in the tree, under the bits of its text
pub kept_whole : (method : By) (ci : Bool) (text : List ℕ) → keeps_texts method ci ≡ true
    → (part_by method ci text ≡ Keyed) × (key_by method ci text ≡ text_bits text)
kept_whole by.Str false text e = (refl, refl)
kept_whole by.Str true text e = cc
kept_whole by.Beg false text e = (refl, refl)
kept_whole by.Beg true text e = cc
kept_whole by.Ip ci text e = cc
kept_whole by.Found ci text e = cc
kept_whole by.Bool ci text e = cc
kept_whole by.Int ci text e = cc
kept_whole by.Bin ci text e = cc
kept_whole by.Len ci text e = cc
kept_whole by.End ci text e = cc
kept_whole by.Sub ci text e = cc
kept_whole by.Dir ci text e = cc
kept_whole by.Dom ci text e = cc
kept_whole by.Reg ci text e = cc

-- what is searched by whole texts is such an index
pub exact_keeps : (method : By) (ci : Bool) → search_of method ci ≡ Exact
    → keeps_texts method ci ≡ true
exact_keeps method ci e =
    let u = exact_use method ci e in
    ap (λ m. keeps_texts m ci) u.0 ∙ ap (keeps_texts by.Str) u.1

eq_swaps : (a b : List ℕ) → bytes_eq a b ≡ bytes_eq b a
eq_swaps a b =
    let d = bytes_eq-Decides b a in
    same_from_decides (bytes_eq a b) (bytes_eq b a) (bytes_eq-Decides a b)
    (λ e. sym (d.0 e), λ p. d.1 (sym p))

-- ---- the first item with a text

find_nothing : {A : Type 0} (xs : List A) → find (λ x. false) xs ≡ None
find_nothing [] = refl
find_nothing (x ∷ xs) = find_nothing xs

too_long : (b : Bool) (key text : List ℕ) → bytes_eq key text ≡ b → length key < length text
    → b ≡ false
too_long true key text e long =
    let same = (bytes_eq-Decides key text).0 e in absurd (omega (arith, ap length same, long))
too_long false key text e long = refl

live_at : (nodes : NodePool) (o : Option Item) (id : ℕ)
    → ((item : Item) → o ≡ Some item → HasNode nodes item) → Some id ≡ option_map item_node o
    → IsLive nodes id
live_at nodes None id has e = cc
live_at nodes (Some item) id has e =
    let same : id ≡ item.node = cc in rw (ap (get nodes) same ∙ (has item refl).1) refl

-- the entry of the first item with a text, by its node
entry_by : (nodes : NodePool) (items : List Item) (text : List ℕ) → All (HasNode nodes) items
    → option_and_then (entry_at nodes) (option_map item_node (find (has_text text) items))
    ≡ entry_with text items
entry_by nodes items text found =
    entry_read nodes (find (has_text text) items)
    (λ item e. find_all (HasNode nodes) (has_text text) items item found e)

live_by : (nodes : NodePool) (items : List Item) (text : List ℕ) (id : ℕ)
    → All (HasNode nodes) items → Some id ≡ option_map item_node (find (has_text text) items)
    → IsLive nodes id
live_by nodes items text id found is =
    live_at nodes (find (has_text text) items) id
    (λ item e. find_all (HasNode nodes) (has_text text) items item found e) is

module _ (nodes : NodePool) (a : Index) (items : List Item) (h : Holds nodes a items)
    (keeps : keeps_texts (method_of a) (ignores_case a) ≡ true) where
  -- all of them are in the tree
  pub all_keyed : in_part Keyed items ≡ items
  all_keyed =
      all_in Keyed (method_of a) (ignores_case a) items
      (λ text. (kept_whole (method_of a) (ignores_case a) text keeps).0) h.uses

  same_keys : (text : List ℕ) → IsBytes text
      → All (λ item. is_same_key (pattern_key item.pattern) (text_bits text) ≡ has_text text item)
      items
  same_keys text bytes =
      All-weaker (IsOfUse (method_of a) (ignores_case a))
      (λ item. is_same_key (pattern_key item.pattern) (text_bits text) ≡ has_text text item)
      (λ item use_is. ap (λ key. is_same_key key (text_bits text))
      (key_use (method_of a) (ignores_case a) item use_is
      ∙ (kept_whole (method_of a) (ignores_case a) (item_text item) keeps).1)
      ∙ text_equal (item_text item) text use_is.text.bytes bytes
      ∙ eq_swaps text (item_text item)) items h.uses

  -- the node that the tree answers for a text
  pub first_node : (text : List ℕ) (node : Option ℕ) → IsBytes text
      → node ≡ exact_of (key_pairs (in_part Keyed items)) (text_bits text)
      → node ≡ option_map item_node (find (has_text text) items)
  first_node text number bytes is =
      is ∙ ap (λ xs. exact_of (key_pairs xs) (text_bits text)) all_keyed
      ∙ exact_agrees (λ item. pattern_key item.pattern) item_node (has_text text) items
      (text_bits text) (same_keys text bytes)

  pub first_entry : (text : List ℕ) (node : Option ℕ)
      → node ≡ option_map item_node (find (has_text text) items)
      → option_and_then (entry_at nodes) node ≡ entry_with text items
  first_entry text number is =
      ap (option_and_then (entry_at nodes)) is ∙ entry_by nodes items text h.found

  pub first_live : (text : List ℕ) (node : Option ℕ) (id : ℕ)
      → node ≡ option_map item_node (find (has_text text) items) → node ≡ Some id
      → IsLive nodes id
  first_live text number id is some = live_by nodes items text id h.found (sym some ∙ is)

  -- no pattern is as long as this text
  pub first_none : (text : List ℕ) → 2 ^ 60 < length text → None ≡ entry_with text items
  first_none text long =
      sym (ap (option_map item_entry)
      (find_agrees (has_text text) (λ item. false) items
      (All-weaker (IsOfUse (method_of a) (ignores_case a)) (λ item. has_text text item ≡ false)
      (λ item use_is. too_long (has_text text item) (item_text item) text refl
      (omega (arith, use_is.text.short, long))) items h.uses)
      ∙ find_nothing items))

-- a search by a whole text finds the first item that has it
pub text_found : (nodes : NodePool) (a : Index) (items : List Item) (h : Holds nodes a items)
    (text : List ℕ) → search_of (method_of a) (ignores_case a) ≡ Exact
    → entry_with text items ≡ entry_found a items (value.Str text)
text_found nodes a items h text e =
    let u = exact_use (method_of a) (ignores_case a) e in
    ap (option_map item_entry)
    (find_agrees (has_text text) (λ item. bytes_eq text (item_text item)) items
    (All-weaker (IsOfUse (method_of a) (ignores_case a))
    (λ item. has_text text item ≡ bytes_eq text (item_text item))
    (λ item use_is. eq_swaps (item_text item) text) items h.uses)
    ∙ sym (first_filtered (λ item. bytes_eq text (item_text item)) items)
    ∙ found_use nodes a items h by.Str false (value.Str text) u.0 u.1)
    ∙ sym (entry_is a items (value.Str text))

-- ---- the next item with a text

numbers_step : (b : Bool) (x : Item) (xs : List Item) (numbers : List ℕ)
    → numbers ≡ map item_node xs
    → cond b (x.node ∷ numbers) numbers ≡ map item_node (cond b (x ∷ xs) xs)
numbers_step true x xs numbers same = ap (λ ys. x.node ∷ ys) same
numbers_step false x xs numbers same = same

-- the numbers of a key are those of the items that pass the test of it
numbers_tested : (test : Item → Bool) (key : List Bool) (items : List Item)
    → All (λ (item : Item). is_same_key (pattern_key item.pattern) key ≡ test item) items
    → numbers_of key (key_pairs items) ≡ map item_node (filter test items)
numbers_tested test key [] same = refl
numbers_tested test key (x ∷ xs) same =
    let P = λ (item : Item). is_same_key (pattern_key item.pattern) key ≡ test item in
    rw (All-head P x xs same)
    (numbers_step (test x) x (filter test xs) (numbers_of key (key_pairs xs))
    (numbers_tested test key xs (All-tail P x xs same)))

first_step : (b : Bool) (x : Item) (xs : List Item) (o : Option Item)
    → first_or (map item_node xs) None ≡ option_map item_node o
    → first_or (map item_node (cond b (x ∷ xs) xs)) None ≡ option_map item_node (cond b (Some x) o)
first_step true x xs o same = refl
first_step false x xs o same = same

first_number : (test : Item → Bool) (items : List Item)
    → first_or (map item_node (filter test items)) None ≡ option_map item_node (find test items)
first_number test [] = refl
first_number test (x ∷ xs) =
    first_step (test x) x (filter test xs) (find test xs) (first_number test xs)

middle_of : (P : Item → Type 0) (before : List Item) (x : Item) (after : List Item)
    → All P (before ++ x ∷ after) → P x
middle_of P [] x after all = All-head P x after all
middle_of P (y ∷ before) x after all =
    middle_of P before x after (All-tail P y (before ++ x ∷ after) all)

after_of : (P : Item → Type 0) (before : List Item) (x : Item) (after : List Item)
    → All P (before ++ x ∷ after) → All P after
after_of P [] x after all = All-tail P x after all
after_of P (y ∷ before) x after all =
    after_of P before x after (All-tail P y (before ++ x ∷ after) all)

kept_middle : (test : Item → Bool) (x : Item) (after : List Item) → test x ≡ true
    → filter test (x ∷ after) ≡ x ∷ filter test after
kept_middle test x after passes = rw passes refl

text_of_itself : (x : Item) → has_text (item_text x) x ≡ true
text_of_itself x = (bytes_eq-Decides (item_text x) (item_text x)).1 refl

-- an item with the node, and those before and after it
pub split_node : (items : List Item) (k : ℕ) → IsIn k (nodes_of items)
    → (before : List Item) × (item : Item) × (after : List Item)
    × (items ≡ before ++ item ∷ after) × (item.node ≡ k)
split_node [] k there = absurd there
split_node (x ∷ xs) k (inl same) = ([], x, xs, refl, sym same)
split_node (x ∷ xs) k (inr there) =
    let r = split_node xs k there in (x ∷ r.0, r.1, r.2, ap (λ ys. x ∷ ys) r.3, r.4)

module _ (nodes : NodePool) (a : Index) (before : List Item) (item : Item) (after : List Item)
    (h : Holds nodes a (before ++ item ∷ after))
    (keeps : keeps_texts (method_of a) (ignores_case a) ≡ true) where
  numbers_about : numbers_of (text_bits (item_text item))
      (key_pairs (in_part Keyed (before ++ item ∷ after)))
      ≡ map item_node (filter (has_text (item_text item)) before)
      ++ item.node ∷ map item_node (filter (has_text (item_text item)) after)
  numbers_about =
      let text = item_text item in
      let items = before ++ item ∷ after in
      let use_is = middle_of (IsOfUse (method_of a) (ignores_case a)) before item after h.uses in
      ap (λ xs. numbers_of (text_bits text) (key_pairs xs)) (all_keyed nodes a items h keeps)
      ∙ numbers_tested (has_text text) (text_bits text) items
      (same_keys nodes a items h keeps text use_is.text.bytes)
      ∙ ap (map item_node) (filter-append (has_text text) before (item ∷ after)
      ∙ ap (λ ys. filter (has_text text) before ++ ys)
      (kept_middle (has_text text) item after (text_of_itself item)))
      ∙ map-append item_node (filter (has_text text) before) (item ∷ filter (has_text text) after)

  pub numbers_here : (id : ℕ) → item.node ≡ id
      → numbers_of (text_bits (item_text item)) (key_pairs (in_part Keyed (before ++ item ∷ after)))
      ≡ map item_node (filter (has_text (item_text item)) before)
      ++ id ∷ map item_node (filter (has_text (item_text item)) after)
  numbers_here id here =
      numbers_about
      ∙ ap (λ k. map item_node (filter (has_text (item_text item)) before)
      ++ k ∷ map item_node (filter (has_text (item_text item)) after)) here

  next_node : (node : Option ℕ)
      → node ≡ first_or (map item_node (filter (has_text (item_text item)) after)) None
      → node ≡ option_map item_node (find (has_text (item_text item)) after)
  next_node number is = is ∙ first_number (has_text (item_text item)) after

  pub next_entry : (node : Option ℕ)
      → node ≡ first_or (map item_node (filter (has_text (item_text item)) after)) None
      → option_and_then (entry_at nodes) node ≡ entry_with (item_text item) after
  next_entry number is =
      ap (option_and_then (entry_at nodes)) (next_node number is)
      ∙ entry_by nodes after (item_text item) (after_of (HasNode nodes) before item after h.found)

  pub next_live : (node : Option ℕ) (id : ℕ)
      → node ≡ first_or (map item_node (filter (has_text (item_text item)) after)) None
      → node ≡ Some id → IsLive nodes id
  next_live number id is some =
      live_by nodes after (item_text item) id
      (after_of (HasNode nodes) before item after h.found) (sym some ∙ next_node number is)
