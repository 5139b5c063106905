-- The entry that is found among the items of an index, by what its parts answer.
use Rattle.std.proofs.Common.{◌≡◌, ℕ, zero, suc, ◌<◌, ◌≤◌, ◌^◌, slice_index, slice_index_or, Bool, true, false, List, [], ◌∷◌, filter, find, length, take, nat_eq, All, Option, Some, None, option_map, option_and_then, Result, Ok, Err, IfOk, refl, sym, ap, subst, ◌∙◌, arith}
use Rattle.std.specs.Cmp.Lexicographic.{pointwise}
use Rattle.std.specs.List.{starts_with}
use Rattle.std.proofs.lemmas.List.Elements.{All-filter, All-head, All-tail, All-weaker}
use Rattle.hx_text.specs.declared.address.Ip.{Ip}
use Rattle.hx_text.specs.declared.address.Ip.TheVariants.{V4, V6}
use Rattle.hx_text.specs.declared.kinds.By.{By}
use Rattle.hx_text.specs.declared.kinds.By.TheVariants as by
use Rattle.hx_text.specs.declared.network.Net.{Net}
use Rattle.hx_text.specs.declared.network.Net.TheVariants.{Plain, Masked}
use Rattle.hx_text.specs.Network.{net_of}
use Rattle.hx_pool.specs.Pool.{get, IsLive}
use Rattle.hx_ebtree.specs.Node.{entry_of}
use Rattle.hx_ebtree.specs.KeyList.{longest_of}
use Rattle.hx_sample.specs.Seen.{value_of}
use Rattle.hx_sample.specs.declared.sample.Bytes.{Bytes}
use Rattle.hx_sample.specs.declared.sample.Sample.{Sample}
use Rattle.hx_sample.specs.declared.sample.Sample.TheVariants as sample
use Rattle.hx_sample.specs.declared.sample.Value.{Value}
use Rattle.hx_sample.specs.declared.sample.Value.TheVariants as value
use Rattle.hx_sample.specs.Find.{Entry, first_item, with_greatest, nearness}
use Rattle.hx_sample.specs.Keys.{hits}
use Rattle.hx_index.specs.declared.index.Index.{Index}
use Rattle.hx_index.specs.declared.finding.Search.TheVariants.{Exact, Longest}
use Rattle.hx_index.specs.declared.part.Part.{Part}
use Rattle.hx_index.specs.declared.part.Part.TheVariants.{Keyed}
use Rattle.hx_index.specs.Items.{Item, shown_item}
use Rattle.hx_index.specs.Parts.{is_same_part, key_by, part_by, pattern_key, pattern_part, text_bits}
use Rattle.hx_index.specs.Index.{HasNode, Holds, IsOfUse, NodePool, entry_found, ignores_case, in_part, key_pairs, method_of}
use Rattle.hx_index.specs.Search.{HasWidth, search_of}
use Rattle.hx_index.proofs.ItemLemmas.{part_self}
use Rattle.hx_index.proofs.FoundItemLemmas.{filter_all, filter_agrees, found_item, found_shown, network_measure, preferred_items}
use Rattle.hx_index.proofs.TextKeyLemmas.{IsTextKey, longest_text}
use Rattle.hx_index.proofs.NearestLemmas.{none_hits}
use Rattle.hx_index.proofs.AddressFoundLemmas.{FitsFamily}
use Rattle.hx_index.proofs.NetworkFitLemmas.{network_fits}

abbrev pub item_text : Item → List ℕ
item_text item = item.pattern.text

abbrev pub item_node : Item → ℕ
item_node item = item.node

abbrev pub item_entry : Item → ℕ
item_entry item = item.entry

-- the item that is found for a value
abbrev pub found_of : By → Bool → List Item → Value → Option Item
found_of method ci items v = found_item item_text method ci items v

shown_entry : (o : Option Item) → option_map (λ (entry : Entry). entry.number) (option_map shown_item o) ≡ option_map item_entry o
shown_entry None = refl
shown_entry (Some item) = refl

pub entry_is : (a : Index) (items : List Item) (v : Value) → entry_found a items v ≡ option_map item_entry (found_of (method_of a) (ignores_case a) items v)
entry_is a items v =
    ap (option_map (λ (entry : Entry). entry.number)) (found_shown shown_item (method_of a) (ignores_case a) items v)
    ∙ shown_entry (found_of (method_of a) (ignores_case a) items v)

-- ---- the item that is found is one of the list

module _ (P : Item → Type 0) where
  preferred_all : (method : By) (ci : Bool) (v : Value) (xs : List Item) → All P xs → All P (preferred_items item_text method ci v xs)
  preferred_all by.Beg false v xs all = All-filter _ P xs all
  preferred_all by.Ip ci (value.Ip ip) xs all =
      All-filter _ P (with_greatest (network_measure item_text (nearness ip)) xs) (All-filter _ P xs all)
  preferred_all _ ci v xs all = all

  first_all : (xs : List Item) (x : Item) → All P xs → first_item xs ≡ Some x → P x
  first_all [] x all e = cc
  first_all (y ∷ xs) x all e =
      let same : y ≡ x = cc in subst P same (All-head P y xs all)

  pub found_all : (method : By) (ci : Bool) (items : List Item) (v : Value) (x : Item) → All P items → found_of method ci items v ≡ Some x → P x
  found_all method ci items v x all e =
      first_all (preferred_items item_text method ci v (filter (λ item. hits method ci (item_text item) v) items)) x
      (preferred_all method ci v (filter (λ item. hits method ci (item_text item) v) items) (All-filter (λ item. hits method ci (item_text item) v) P items all)) e

  find_step : (test : Item → Bool) (y : Item) (xs : List Item) (x : Item) (b : Bool) → test y ≡ b → P y → find test (y ∷ xs) ≡ Some x → (find test xs ≡ Some x → P x) → P x
  find_step test y xs x true t p e rest =
      let some : Some y ≡ Some x = rw t at e in
      let same : y ≡ x = cc in subst P same p
  find_step test y xs x false t p e rest = rest (rw t at e)

  pub find_all : (test : Item → Bool) (items : List Item) (x : Item) → All P items → find test items ≡ Some x → P x
  find_all test [] x all e = cc
  find_all test (y ∷ xs) x all e =
      find_step test y xs x (test y) refl (All-head P y xs all) e (find_all test xs x (All-tail P y xs all))

-- the entry of a node, as the pool has it
abbrev pub entry_at : NodePool → ℕ → Option ℕ
entry_at nodes id = option_map entry_of (get nodes id)

entry_has : (nodes : NodePool) (item : Item) → HasNode nodes item → entry_at nodes item.node ≡ Some item.entry
entry_has nodes item has = ap (option_map entry_of) has.1 ∙ ap Some has.2

pub entry_read : (nodes : NodePool) (o : Option Item) → ((item : Item) → o ≡ Some item → HasNode nodes item) → option_and_then (entry_at nodes) (option_map item_node o) ≡ option_map item_entry o
entry_read nodes None has = refl
entry_read nodes (Some item) has = entry_has nodes item (has item refl)

-- the node of the item that is found leads to the entry that is found
pub entry_by_node : (nodes : NodePool) (a : Index) (items : List Item) (v : Value) (node : Option ℕ) → Holds nodes a items → node ≡ option_map item_node (found_of (method_of a) (ignores_case a) items v) → option_and_then (entry_at nodes) node ≡ entry_found a items v
entry_by_node nodes a items v number h is =
    ap (option_and_then (entry_at nodes)) is
    ∙ entry_read nodes (found_of (method_of a) (ignores_case a) items v) (λ item e. found_all (HasNode nodes) (method_of a) (ignores_case a) items v item h.found e)
    ∙ sym (entry_is a items v)

-- ---- texts

pub exact_use : (method : By) (ci : Bool) → search_of method ci ≡ Exact → (method ≡ by.Str) × (ci ≡ false)
exact_use by.Str false e = (refl, refl)
exact_use by.Str true e = cc
exact_use by.Beg false e = cc
exact_use by.Beg true e = cc
exact_use by.Ip ci e = cc
exact_use by.Found ci e = cc
exact_use by.Bool ci e = cc
exact_use by.Int ci e = cc
exact_use by.Bin ci e = cc
exact_use by.Len ci e = cc
exact_use by.End ci e = cc
exact_use by.Sub ci e = cc
exact_use by.Dir ci e = cc
exact_use by.Dom ci e = cc
exact_use by.Reg ci e = cc

longest_use : (method : By) (ci : Bool) → search_of method ci ≡ Longest → (method ≡ by.Beg) × (ci ≡ false)
longest_use by.Beg false e = (refl, refl)
longest_use by.Beg true e = cc
longest_use by.Str false e = cc
longest_use by.Str true e = cc
longest_use by.Ip ci e = cc
longest_use by.Found ci e = cc
longest_use by.Bool ci e = cc
longest_use by.Int ci e = cc
longest_use by.Bin ci e = cc
longest_use by.Len ci e = cc
longest_use by.End ci e = cc
longest_use by.Sub ci e = cc
longest_use by.Dir ci e = cc
longest_use by.Dom ci e = cc
longest_use by.Reg ci e = cc

-- ---- the parts of items of one use

pub part_use : (method : By) (ci : Bool) (item : Item) → IsOfUse method ci item → pattern_part item.pattern ≡ part_by method ci item.pattern.text
part_use method ci item use_is =
    ap (λ m. part_by m item.pattern.ci item.pattern.text) use_is.method_is ∙ ap (λ c. part_by method c item.pattern.text) use_is.case_is

pub key_use : (method : By) (ci : Bool) (item : Item) → IsOfUse method ci item → pattern_key item.pattern ≡ key_by method ci item.pattern.text
key_use method ci item use_is =
    ap (λ m. key_by m item.pattern.ci item.pattern.text) use_is.method_is ∙ ap (λ c. key_by method c item.pattern.text) use_is.case_is

-- all items of a use belong into one part
pub all_in : (part : Part) (method : By) (ci : Bool) (items : List Item) → ((text : List ℕ) → part_by method ci text ≡ part) → All (IsOfUse method ci) items → in_part part items ≡ items
all_in part method ci items is uses =
    filter_all (λ item. is_same_part part (pattern_part item.pattern)) items
    (All-weaker (IsOfUse method ci) (λ item. is_same_part part (pattern_part item.pattern) ≡ true)
    (λ item use_is. ap (is_same_part part) (part_use method ci item use_is ∙ is item.pattern.text) ∙ part_self part) items uses)

fits_width : (net : Net) → FitsFamily (Some net) → HasWidth net
fits_width (Plain (V4 n) w) fits = fits.1
fits_width (Plain (V6 n) w) fits = fits.1
fits_width (Masked n m) fits = tt

-- the width of a network that a text writes fits its family
pub has_width : (text : List ℕ) (net : Net) → net_of text ≡ Some net → HasWidth net
has_width text net is = fits_width net (subst FitsFamily is (network_fits text))

-- a pattern of any other method has no key
pub other_key : (method : By) (ci : Bool) (text : List ℕ) → (method ≡ by.Str → ⊥) → (method ≡ by.Beg → ⊥) → (method ≡ by.Ip → ⊥) → key_by method ci text ≡ []
other_key by.Str ci text no_str no_beg no_ip = absurd (no_str refl)
other_key by.Beg ci text no_str no_beg no_ip = absurd (no_beg refl)
other_key by.Ip ci text no_str no_beg no_ip = absurd (no_ip refl)
other_key _ ci text no_str no_beg no_ip = refl

abbrev pub IsBytes : List ℕ → Type 0
IsBytes text = (i : ℕ) → slice_index text i < 256

beg_node : (items : List Item) (text : List ℕ) → All (IsOfUse by.Beg false) items → IsBytes text → longest_of (key_pairs (in_part Keyed items)) (text_bits text) ≡ option_map item_node (found_of by.Beg false items (value.Str text))
beg_node items text uses bytes =
    ap (λ xs. longest_of (key_pairs xs) (text_bits text)) (all_in Keyed by.Beg false items (λ t. refl) uses)
    ∙ longest_text item_text (λ item. pattern_key item.pattern) item_node items text
    (All-weaker (IsOfUse by.Beg false) (λ item. IsTextKey (item_text item) (pattern_key item.pattern))
    (λ item use_is. record { whole = key_use by.Beg false item use_is; bytes = use_is.text.bytes }) items uses) bytes

take_cut : (m n : ℕ) (xs : List ℕ) → m ≤ n → take m (take n xs) ≡ take m xs
take_cut zero n xs few = refl
take_cut (suc m) zero xs few = absurd (omega (arith, few))
take_cut (suc m) (suc n) [] few = refl
take_cut (suc m) (suc n) (x ∷ xs) few = ap (λ ys. x ∷ ys) (take_cut m n xs (omega (arith, few)))

starts_cut : (n : ℕ) (text key : List ℕ) → length key ≤ n → starts_with nat_eq (take n text) key ≡ starts_with nat_eq text key
starts_cut n text key few = ap (pointwise nat_eq key) (take_cut (length key) n text few)

-- what follows the longest text that a key can be decides nothing
beg_cut : (items : List Item) (text : List ℕ) → All (IsOfUse by.Beg false) items → found_of by.Beg false items (value.Str (take (2 ^ 60) text)) ≡ found_of by.Beg false items (value.Str text)
beg_cut items text uses =
    ap (λ xs. first_item (with_greatest (λ item. length (item_text item)) xs))
    (filter_agrees (λ item. starts_with nat_eq (take (2 ^ 60) text) (item_text item)) (λ item. starts_with nat_eq text (item_text item)) items
    (All-weaker (IsOfUse by.Beg false) (λ item. starts_with nat_eq (take (2 ^ 60) text) (item_text item) ≡ starts_with nat_eq text (item_text item))
    (λ item use_is. starts_cut (2 ^ 60) text (item_text item) use_is.text.short) items uses))

pub none_of : (method : By) (ci : Bool) (v : Value) → ((key : List ℕ) → hits method ci key v ≡ false) → (items : List Item) → found_of method ci items v ≡ None
none_of method ci v misses items =
    none_hits item_text method ci items v (λ k d within. misses (item_text (slice_index_or items k d)))

pub bytes_cut : (n : ℕ) (xs : List ℕ) → IsBytes xs → IsBytes (take n xs)
bytes_cut zero xs bytes i = omega arith
bytes_cut (suc n) [] bytes i = omega arith
bytes_cut (suc n) (x ∷ xs) bytes zero = bytes zero
bytes_cut (suc n) (x ∷ xs) bytes (suc i) = bytes_cut n xs (λ j. bytes (suc j)) i

-- ---- values of other types

str_misses : (v : Value) → ((text : List ℕ) → v ≡ value.Str text → ⊥) → (key : List ℕ) → hits by.Str false key v ≡ false
str_misses (value.Str text) other key = absurd (other text refl)
str_misses (value.Bool b) other key = refl
str_misses (value.Int n) other key = refl
str_misses (value.Ip ip) other key = refl
str_misses (value.Bin bytes) other key = refl
str_misses (value.Method bytes) other key = refl

beg_misses : (v : Value) → ((text : List ℕ) → v ≡ value.Str text → ⊥) → (key : List ℕ) → hits by.Beg false key v ≡ false
beg_misses (value.Str text) other key = absurd (other text refl)
beg_misses (value.Bool b) other key = refl
beg_misses (value.Int n) other key = refl
beg_misses (value.Ip ip) other key = refl
beg_misses (value.Bin bytes) other key = refl
beg_misses (value.Method bytes) other key = refl

-- the value of a sample is a text where the sample is one
pub no_text : (s : Sample) → ((bytes : Bytes) → s ≡ sample.Str bytes → ⊥) → (text : List ℕ) → value_of s ≡ value.Str text → ⊥
no_text (sample.Str bytes) other text e = other bytes refl
no_text (sample.Bool b) other text e = cc
no_text (sample.Int n) other text e = cc
no_text (sample.Ip ip) other text e = cc
no_text (sample.Bin bytes) other text e = cc
no_text (sample.Method bytes) other text e = cc

pub no_address : (s : Sample) → ((ip : Ip) → s ≡ sample.Ip ip → ⊥) → (ip : Ip) → value_of s ≡ value.Ip ip → ⊥
no_address (sample.Ip ip) other a e = other ip refl
no_address (sample.Str bytes) other a e = cc
no_address (sample.Bool b) other a e = cc
no_address (sample.Int n) other a e = cc
no_address (sample.Bin bytes) other a e = cc
no_address (sample.Method bytes) other a e = cc

pub if_ok : {A E : Type 0} (r : Result A E) (P Q : A → Type 0) → ((x : A) → P x → Q x) → IfOk r P → IfOk r Q
if_ok (Ok x) P Q step p = step x p
if_ok (Err e) P Q step p = tt

-- ---- by the use of the index

module _ (nodes : NodePool) (a : Index) (items : List Item) (h : Holds nodes a items) where
  pub uses_of : (method : By) (ci : Bool) → method_of a ≡ method → ignores_case a ≡ ci → All (IsOfUse method ci) items
  uses_of method ci m c = subst (λ x. All (IsOfUse x ci) items) m (subst (λ x. All (IsOfUse (method_of a) x) items) c h.uses)

  pub found_use : (method : By) (ci : Bool) (v : Value) → method_of a ≡ method → ignores_case a ≡ ci → found_of method ci items v ≡ found_of (method_of a) (ignores_case a) items v
  found_use method ci v m c =
      ap (λ x. found_of x ci items v) (sym m) ∙ ap (λ x. found_of (method_of a) x items v) (sym c)

  pub none_entry : (v : Value) → found_of (method_of a) (ignores_case a) items v ≡ None → None ≡ entry_found a items v
  none_entry v none = sym (entry_is a items v ∙ ap (option_map item_entry) none)

  pub exact_other : (v : Value) → search_of (method_of a) (ignores_case a) ≡ Exact → ((text : List ℕ) → v ≡ value.Str text → ⊥) → None ≡ entry_found a items v
  exact_other v e other =
      let u = exact_use (method_of a) (ignores_case a) e in
      none_entry v (sym (found_use by.Str false v u.0 u.1) ∙ none_of by.Str false v (str_misses v other) items)

  pub longest_other : (v : Value) → search_of (method_of a) (ignores_case a) ≡ Longest → ((text : List ℕ) → v ≡ value.Str text → ⊥) → None ≡ entry_found a items v
  longest_other v e other =
      let u = longest_use (method_of a) (ignores_case a) e in
      none_entry v (sym (found_use by.Beg false v u.0 u.1) ∙ none_of by.Beg false v (beg_misses v other) items)

  pub longest_node : (text cut : List ℕ) (node : Option ℕ) → search_of (method_of a) (ignores_case a) ≡ Longest → cut ≡ take (2 ^ 60) text → IsBytes cut → node ≡ longest_of (key_pairs (in_part Keyed items)) (text_bits cut) → node ≡ option_map item_node (found_of (method_of a) (ignores_case a) items (value.Str text))
  longest_node text cut number e cut_is bytes is =
      let u = longest_use (method_of a) (ignores_case a) e in
      let uses = uses_of by.Beg false u.0 u.1 in
      is ∙ beg_node items cut uses bytes
      ∙ ap (option_map item_node) (ap (λ t. found_of by.Beg false items (value.Str t)) cut_is ∙ beg_cut items text uses ∙ found_use by.Beg false (value.Str text) u.0 u.1)

  -- the node of what is found is live
  pub node_live : (v : Value) (node : Option ℕ) (id : ℕ) → node ≡ option_map item_node (found_of (method_of a) (ignores_case a) items v) → node ≡ Some id → IsLive nodes id
  node_live v number id is some =
      by (found_of (method_of a) (ignores_case a) items v) (λ item e. found_all (HasNode nodes) (method_of a) (ignores_case a) items v item h.found e) (sym some ∙ is)
    where
      by : (o : Option Item) → ((item : Item) → o ≡ Some item → HasNode nodes item) → Some id ≡ option_map item_node o → IsLive nodes id
      by None has e = cc
      by (Some item) has e =
          let same : id ≡ item.node = cc in
          rw (ap (get nodes) same ∙ (has item refl).1) refl
