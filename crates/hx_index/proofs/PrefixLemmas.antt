-- The entry that is found for an address, by the node that the trees of networks answer.
use Rattle.std.proofs.Common.{◌≡◌, ℕ, ◌<◌, ◌^◌, Bool, true, false, List, filter, find, All, Option, Some, None, option_map, option_and_then, refl, sym, ap, ◌∙◌}
use Rattle.std.specs.Option.{option_or}
use Rattle.std.proofs.lemmas.List.Elements.{All-filter, All-weaker}
use Rattle.hx_text.specs.declared.address.Ip.{Ip}
use Rattle.hx_text.specs.declared.address.Ip.TheVariants.{V4, V6}
use Rattle.hx_text.specs.declared.kinds.By.{By}
use Rattle.hx_text.specs.declared.kinds.By.TheVariants as by
use Rattle.hx_text.specs.declared.network.Net.{Net}
use Rattle.hx_text.specs.declared.network.Net.TheVariants.{Plain, Masked}
use Rattle.hx_text.specs.Mapping.{ipv4_of, mapped_address}
use Rattle.hx_text.specs.Network.{net_of}
use Rattle.hx_ebtree.specs.KeyList.{longest_of}
use Rattle.hx_sample.specs.declared.sample.Value.{Value}
use Rattle.hx_sample.specs.declared.sample.Value.TheVariants as value
use Rattle.hx_sample.specs.Keys.{hits, is_in_network}
use Rattle.hx_index.specs.declared.index.Index.{Index}
use Rattle.hx_index.specs.declared.finding.Search.TheVariants.{Scan, Nearest}
use Rattle.hx_index.specs.declared.part.Part.{Part}
use Rattle.hx_index.specs.declared.part.Part.TheVariants.{Listed, Keyed, Wide}
use Rattle.hx_index.specs.Items.{Item}
use Rattle.hx_index.specs.Parts.{is_same_part, network_part, part_by, pattern_key, pattern_part}
use Rattle.hx_index.specs.Index.{HasNode, Holds, IsOfUse, NodePool, entry_found, ignores_case, in_part, key_pairs, method_of}
use Rattle.hx_index.specs.Search.{IsAddress, first_hit_of, is_hit, ipv4_bits, ipv6_bits, prefix_node_of, search_of}
use Rattle.hx_index.proofs.FoundItemLemmas.{filter_agrees, find_agrees}
use Rattle.hx_index.proofs.NearestLemmas.{by_net, first_hit, first_hit_found, is_ipv4_prefix, is_ipv6_prefix, is_no_prefix, takes_first}
use Rattle.hx_index.proofs.AddressFoundLemmas.{IsNetworkKey, class_pairs, ipv4_found, ipv6_found}
use Rattle.hx_index.proofs.NetworkFitLemmas.{network_fits}
use Rattle.hx_index.proofs.FindingLemmas.{all_in, entry_by_node, entry_is, entry_read, find_all, found_of, found_use, item_entry, item_node, item_text, key_use, none_entry, none_of, part_use, uses_of}

nearest_use : (method : By) (ci : Bool) → search_of method ci ≡ Nearest → method ≡ by.Ip
nearest_use by.Ip ci e = refl
nearest_use by.Str false e = cc
nearest_use by.Str true e = cc
nearest_use by.Beg false e = cc
nearest_use by.Beg true e = cc
nearest_use by.Found ci e = cc
nearest_use by.Bool ci e = cc
nearest_use by.Int ci e = cc
nearest_use by.Bin ci e = cc
nearest_use by.Len ci e = cc
nearest_use by.End ci e = cc
nearest_use by.Sub ci e = cc
nearest_use by.Dir ci e = cc
nearest_use by.Dom ci e = cc
nearest_use by.Reg ci e = cc

-- ---- classes of networks are parts

is_keyed : (o : Option Net) → is_same_part Keyed (network_part o) ≡ is_ipv4_prefix o
is_keyed (Some (Plain (V4 n) w)) = refl
is_keyed (Some (Plain (V6 n) w)) = refl
is_keyed (Some (Masked n m)) = refl
is_keyed None = refl

is_wide : (o : Option Net) → is_same_part Wide (network_part o) ≡ is_ipv6_prefix o
is_wide (Some (Plain (V4 n) w)) = refl
is_wide (Some (Plain (V6 n) w)) = refl
is_wide (Some (Masked n m)) = refl
is_wide None = refl

is_listed : (o : Option Net) → is_same_part Listed (network_part o) ≡ is_no_prefix o
is_listed (Some (Plain (V4 n) w)) = refl
is_listed (Some (Plain (V6 n) w)) = refl
is_listed (Some (Masked n m)) = refl
is_listed None = refl

module _ (ci : Bool) (items : List Item) (uses : All (IsOfUse by.Ip ci) items) where
  in_class : (part : Part) (class : Option Net → Bool) → ((o : Option Net) → is_same_part part (network_part o) ≡ class o) → in_part part items ≡ filter (by_net item_text class) items
  in_class part class same =
      filter_agrees (λ item. is_same_part part (pattern_part item.pattern)) (by_net item_text class) items
      (All-weaker (IsOfUse by.Ip ci) (λ item. is_same_part part (pattern_part item.pattern) ≡ by_net item_text class item)
      (λ item use_is. ap (is_same_part part) (part_use by.Ip ci item use_is) ∙ same (net_of (item_text item))) items uses)

  network_keys : All (λ item. IsNetworkKey (item_text item) (pattern_key item.pattern)) items
  network_keys =
      All-weaker (IsOfUse by.Ip ci) (λ item. IsNetworkKey (item_text item) (pattern_key item.pattern))
      (λ item use_is. record { whole = key_use by.Ip ci item use_is; fits = network_fits (item_text item) }) items uses

  keyed_pairs : class_pairs item_text (λ item. pattern_key item.pattern) item_node is_ipv4_prefix items ≡ key_pairs (in_part Keyed items)
  keyed_pairs = ap key_pairs (sym (in_class Keyed is_ipv4_prefix is_keyed))

  wide_pairs : class_pairs item_text (λ item. pattern_key item.pattern) item_node is_ipv6_prefix items ≡ key_pairs (in_part Wide items)
  wide_pairs = ap key_pairs (sym (in_class Wide is_ipv6_prefix is_wide))

  or_after : {A : Type 0} (a b c : Option A) → option_or a (option_or b c) ≡ option_or (option_or a b) c
  or_after None b c = refl
  or_after (Some x) b c = refl

  -- the first hit in the chain
  abbrev listed_hit : Ip → Option Item
  listed_hit ip = first_hit item_text ip (in_part Listed items)

  by_ipv4 : (address : ℕ) → address < 2 ^ 32 → option_map item_node (found_of by.Ip ci items (value.Ip (V4 address))) ≡ option_or (prefix_node_of items (V4 address)) (option_map item_node (listed_hit (V4 address)))
  by_ipv4 address fits =
      ipv4_found item_text (λ item. pattern_key item.pattern) item_node ci items address fits network_keys
      ∙ ap (λ ps. option_or (longest_of ps (ipv4_bits address)) (option_or (longest_of (class_pairs item_text (λ item. pattern_key item.pattern) item_node is_ipv6_prefix items) (ipv6_bits (mapped_address address))) (option_map item_node (first_hit item_text (V4 address) (filter (by_net item_text is_no_prefix) items))))) keyed_pairs
      ∙ ap (λ ps. option_or (longest_of (key_pairs (in_part Keyed items)) (ipv4_bits address)) (option_or (longest_of ps (ipv6_bits (mapped_address address))) (option_map item_node (first_hit item_text (V4 address) (filter (by_net item_text is_no_prefix) items))))) wide_pairs
      ∙ ap (λ xs. option_or (longest_of (key_pairs (in_part Keyed items)) (ipv4_bits address)) (option_or (longest_of (key_pairs (in_part Wide items)) (ipv6_bits (mapped_address address))) (option_map item_node (first_hit item_text (V4 address) xs)))) (sym (in_class Listed is_no_prefix is_listed))
      ∙ or_after (longest_of (key_pairs (in_part Keyed items)) (ipv4_bits address)) (longest_of (key_pairs (in_part Wide items)) (ipv6_bits (mapped_address address))) (option_map item_node (listed_hit (V4 address)))

  by_ipv6 : (address : ℕ) → address < 2 ^ 128 → option_map item_node (found_of by.Ip ci items (value.Ip (V6 address))) ≡ option_or (prefix_node_of items (V6 address)) (option_map item_node (listed_hit (V6 address)))
  by_ipv6 address fits =
      ipv6_found item_text (λ item. pattern_key item.pattern) item_node ci items address fits network_keys
      ∙ ap (λ ps. option_or (longest_of ps (ipv6_bits address)) (option_or (option_and_then (λ ipv4. longest_of (class_pairs item_text (λ item. pattern_key item.pattern) item_node is_ipv4_prefix items) (ipv4_bits ipv4)) (ipv4_of address)) (option_map item_node (first_hit item_text (V6 address) (filter (by_net item_text is_no_prefix) items))))) wide_pairs
      ∙ ap (λ ps. option_or (longest_of (key_pairs (in_part Wide items)) (ipv6_bits address)) (option_or (option_and_then (λ ipv4. longest_of ps (ipv4_bits ipv4)) (ipv4_of address)) (option_map item_node (first_hit item_text (V6 address) (filter (by_net item_text is_no_prefix) items))))) keyed_pairs
      ∙ ap (λ xs. option_or (longest_of (key_pairs (in_part Wide items)) (ipv6_bits address)) (option_or (option_and_then (λ ipv4. longest_of (key_pairs (in_part Keyed items)) (ipv4_bits ipv4)) (ipv4_of address)) (option_map item_node (first_hit item_text (V6 address) xs)))) (sym (in_class Listed is_no_prefix is_listed))
      ∙ or_after (longest_of (key_pairs (in_part Wide items)) (ipv6_bits address)) (option_and_then (λ ipv4. longest_of (key_pairs (in_part Keyed items)) (ipv4_bits ipv4)) (ipv4_of address)) (option_map item_node (listed_hit (V6 address)))

  by_ip : (ip : Ip) → IsAddress ip → option_map item_node (found_of by.Ip ci items (value.Ip ip)) ≡ option_or (prefix_node_of items ip) (option_map item_node (listed_hit ip))
  by_ip (V4 address) fits = by_ipv4 address fits
  by_ip (V6 address) fits = by_ipv6 address fits

  listed_is : (ip : Ip) → first_hit_of (value.Ip ip) (in_part Listed items) ≡ option_map item_entry (listed_hit ip)
  listed_is ip =
      ap (option_map item_entry) (find_agrees (is_hit (value.Ip ip)) (λ item. is_in_network (item_text item) ip) (in_part Listed items)
      (All-filter (λ item. is_same_part Listed (pattern_part item.pattern)) (λ item. is_hit (value.Ip ip) item ≡ is_in_network (item_text item) ip) items
      (All-weaker (IsOfUse by.Ip ci) (λ item. is_hit (value.Ip ip) item ≡ is_in_network (item_text item) ip)
      (λ item use_is. ap (λ m. hits m item.pattern.ci (item_text item) (value.Ip ip)) use_is.method_is) items uses)))

-- ---- by the use of the index

module _ (nodes : NodePool) (a : Index) (items : List Item) (h : Holds nodes a items) (e : search_of (method_of a) (ignores_case a) ≡ Nearest) where
  ip_uses : All (IsOfUse by.Ip (ignores_case a)) items
  ip_uses = uses_of nodes a items h by.Ip (ignores_case a) (nearest_use (method_of a) (ignores_case a) e) refl

  near : (ip : Ip) → IsAddress ip → option_map item_node (found_of (method_of a) (ignores_case a) items (value.Ip ip)) ≡ option_or (prefix_node_of items ip) (option_map item_node (listed_hit (ignores_case a) items ip_uses ip))
  near ip fits =
      ap (option_map item_node) (sym (found_use nodes a items h by.Ip (ignores_case a) (value.Ip ip) (nearest_use (method_of a) (ignores_case a) e) refl))
      ∙ by_ip (ignores_case a) items ip_uses ip fits

  -- the node that the trees answer leads to the entry
  pub prefix_found : (ip : Ip) (node : Option ℕ) (id : ℕ) → IsAddress ip → node ≡ prefix_node_of items ip → node ≡ Some id → Some id ≡ option_map item_node (found_of (method_of a) (ignores_case a) items (value.Ip ip))
  prefix_found ip number id fits is some =
      sym (near ip fits ∙ ap (λ o. option_or o (option_map item_node (listed_hit (ignores_case a) items ip_uses ip))) (sym is ∙ some))

  -- where they answer none, the chain has the entry
  pub prefix_none : (ip : Ip) (node entry : Option ℕ) → IsAddress ip → node ≡ prefix_node_of items ip → node ≡ None → entry ≡ first_hit_of (value.Ip ip) (in_part Listed items) → entry ≡ entry_found a items (value.Ip ip)
  prefix_none ip number entry fits is none entry_is =
      let hit = listed_hit (ignores_case a) items ip_uses ip in
      let same : option_map item_node hit ≡ option_map item_node (found_of (method_of a) (ignores_case a) items (value.Ip ip)) = sym (near ip fits ∙ ap (λ o. option_or o (option_map item_node hit)) (sym is ∙ none)) in
      let listed = All-filter (λ item. is_same_part Listed (pattern_part item.pattern)) (HasNode nodes) items h.found in
      entry_is ∙ listed_is (ignores_case a) items ip_uses ip
      ∙ sym (entry_read nodes hit (λ item found. find_all (HasNode nodes) (λ x. is_in_network (item_text x) ip) (in_part Listed items) item listed found))
      ∙ entry_by_node nodes a items (value.Ip ip) (option_map item_node hit) h same

-- an address is found by the method that looks at addresses alone
ip_misses : (ci : Bool) (v : Value) → ((ip : Ip) → v ≡ value.Ip ip → ⊥) → (key : List ℕ) → hits by.Ip ci key v ≡ false
ip_misses ci (value.Ip ip) other key = absurd (other ip refl)
ip_misses ci (value.Str text) other key = refl
ip_misses ci (value.Bool b) other key = refl
ip_misses ci (value.Int n) other key = refl
ip_misses ci (value.Bin bytes) other key = refl
ip_misses ci (value.Method bytes) other key = refl

pub nearest_other : (nodes : NodePool) (a : Index) (items : List Item) (v : Value) → Holds nodes a items → search_of (method_of a) (ignores_case a) ≡ Nearest → ((ip : Ip) → v ≡ value.Ip ip → ⊥) → None ≡ entry_found a items v
nearest_other nodes a items v h e other =
    let m = nearest_use (method_of a) (ignores_case a) e in
    none_entry nodes a items h v (sym (found_use nodes a items h by.Ip (ignores_case a) v m refl) ∙ none_of by.Ip (ignores_case a) v (ip_misses (ignores_case a) v other) items)

-- ---- scans

pub record IsScanned (method : By) (ci : Bool) : Type 0 where
  pub first : takes_first method ci ≡ true
  pub listed : (text : List ℕ) → part_by method ci text ≡ Listed

scan_use : (method : By) (ci : Bool) → search_of method ci ≡ Scan → IsScanned method ci
scan_use by.Str false e = cc
scan_use by.Str true e = record { first = refl; listed = λ t. refl }
scan_use by.Beg false e = cc
scan_use by.Beg true e = record { first = refl; listed = λ t. refl }
scan_use by.Ip ci e = cc
scan_use by.Found ci e = record { first = refl; listed = λ t. refl }
scan_use by.Bool ci e = record { first = refl; listed = λ t. refl }
scan_use by.Int ci e = record { first = refl; listed = λ t. refl }
scan_use by.Bin ci e = record { first = refl; listed = λ t. refl }
scan_use by.Len ci e = record { first = refl; listed = λ t. refl }
scan_use by.End ci e = record { first = refl; listed = λ t. refl }
scan_use by.Sub ci e = record { first = refl; listed = λ t. refl }
scan_use by.Dir ci e = record { first = refl; listed = λ t. refl }
scan_use by.Dom ci e = record { first = refl; listed = λ t. refl }
scan_use by.Reg ci e = record { first = refl; listed = λ t. refl }

-- the first hit in the chain is what is found
pub scan_entry : (nodes : NodePool) (a : Index) (items : List Item) (v : Value) (entry : Option ℕ) → Holds nodes a items → search_of (method_of a) (ignores_case a) ≡ Scan → entry ≡ first_hit_of v (in_part Listed items) → entry ≡ entry_found a items v
scan_entry nodes a items v entry h e is =
    let use_is = scan_use (method_of a) (ignores_case a) e in
    let test : Item → Bool = λ item. hits (method_of a) (ignores_case a) (item_text item) v in
    let same : find (is_hit v) items ≡ find test items = find_agrees (is_hit v) test items
    (All-weaker (IsOfUse (method_of a) (ignores_case a)) (λ item. is_hit v item ≡ test item)
    (λ item u. ap (λ m. hits m item.pattern.ci (item_text item) v) u.method_is ∙ ap (λ c. hits (method_of a) c (item_text item) v) u.case_is) items h.uses) in
    is
    ∙ ap (first_hit_of v) (all_in Listed (method_of a) (ignores_case a) items use_is.listed h.uses)
    ∙ ap (option_map item_entry) (same ∙ sym (first_hit_found item_text (method_of a) (ignores_case a) items v use_is.first))
    ∙ sym (entry_is a items v)
