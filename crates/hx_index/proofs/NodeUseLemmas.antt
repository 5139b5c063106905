-- Nodes that an index takes in, and the use of those that it has.
use Rattle.std.proofs.Common.{◌≡◌, ℕ, Bool, List, Some, None, refl, sym, ap, subst, ◌∙◌}
use Rattle.hx_pool.specs.Pool.{get, Updates}
use Rattle.hx_pool.specs.Chain.{IsIn}
use Rattle.hx_ebtree.specs.declared.node.Node.{Node}
use Rattle.hx_ebtree.specs.Node.{entry_of, key_of, value_of}
use Rattle.hx_match.specs.Patterns.{PatternText}
use Rattle.hx_index.specs.declared.index.Index.{Index}
use Rattle.hx_index.specs.declared.part.Part.{Part}
use Rattle.hx_index.specs.Items.{Item, nodes_of, without_node}
use Rattle.hx_index.specs.Parts.{IsPrepared, pattern_part}
use Rattle.hx_index.specs.Index.{HasNode, Holds, IsOfUse, NodePool, ignores_case, method_of}
use Rattle.hx_index.specs.Search.{IsNewItem}
use Rattle.hx_index.proofs.NumberLemmas.{in_less}
use Rattle.hx_index.proofs.ItemLemmas.{item_at, nodes_without}
use Rattle.hx_index.proofs.HoldingLemmas.{free_off, holds_updated}

-- a node that was made of what was prepared can be taken in
pub new_item : (p q : NodePool) (a : Index) (items : List Item) (id entry : ℕ) (key : List Bool) (pattern : PatternText) (node : Node PatternText) (part : Part) → Holds p a items → get p id ≡ None → Updates p q id (Some node) → key_of node ≡ key → entry_of node ≡ entry → value_of node ≡ pattern → IsPrepared key pattern → part ≡ pattern_part pattern → pattern.by ≡ method_of a → pattern.ci ≡ ignores_case a → IsNewItem q (method_of a) (ignores_case a) part items (record { node = id; entry = entry; pattern = pattern })
new_item p q a items id entry key pattern node part h free up key_is entry_is value_is prepared part_is method case = record {
  off = free_off p a items id h free;
  belongs = sym part_is;
  has = (node, up.changed, entry_is, value_is);
  keyed = λ n at.
      let some : Some node ≡ Some n = sym up.changed ∙ at in
      let same : node ≡ n = cc in
      ap key_of (sym same) ∙ key_is ∙ prepared.is;
  use_is = record { method_is = method; case_is = case; text = prepared.text };
}

-- the pattern of a node is of the index' method and case
pub node_use : (p : NodePool) (a : Index) (items : List Item) (id : ℕ) (n : Node PatternText) → Holds p a items → IsIn id (nodes_of items) → get p id ≡ Some n → ((value_of n).by ≡ method_of a) × ((value_of n).ci ≡ ignores_case a)
node_use p a items id n h there at =
    let found = item_at (λ item. HasNode p item × IsOfUse (method_of a) (ignores_case a) item) items id (λ k d within. (h.found k d within, h.uses k d within)) there in
    let has : HasNode p found.0 = found.2.0 in
    let use_is : IsOfUse (method_of a) (ignores_case a) found.0 = found.2.1 in
    let some : Some n ≡ Some has.0 = sym at ∙ ap (get p) found.1 ∙ has.1 in
    let same : n ≡ has.0 = cc in
    let pattern : value_of n ≡ found.0.pattern = ap value_of same ∙ has.3 in
    (ap (λ (t : PatternText). t.by) pattern ∙ use_is.method_is, ap (λ (t : PatternText). t.ci) pattern ∙ use_is.case_is)

pub gone_off : (id : ℕ) (items : List Item) → IsIn id (nodes_of (without_node id items)) → ⊥
gone_off id items there =
    (in_less id (nodes_of items) id (subst (IsIn id) (nodes_without id items) there)).1 refl

-- a node that was taken out is given back
pub given_back : (p q : NodePool) (a : Index) (items : List Item) (id : ℕ) → Updates p q id None → Holds p a (without_node id items) → Holds q a (without_node id items)
given_back p q a items id up h = holds_updated p q a (without_node id items) id None up (gone_off id items) h

pub other_than : (id k : ℕ) (items : List Item) → IsIn id (nodes_of items) → (IsIn k (nodes_of items) → ⊥) → k ≡ id → ⊥
other_than id k items there away same = away (subst (λ m. IsIn m (nodes_of items)) (sym same) there)
