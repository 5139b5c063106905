-- Nodes that keep their keys, entries and values, and the parts of nodes whose links alone change.
use Rattle.std.proofs.Common.{◌≡◌, ℕ, ◌+◌, ◌<◌, List, length, get_or, Option, Some, None, is_some, IsSome, cond, refl, sym, ap, subst, ◌∙◌, inl, inr, arith}
use Rattle.std.proofs.lemmas.Bool.{cases_eq}
use Rattle.std.proofs.lemmas.List.{get_or-set_same, get_or-set_other}
use Rattle.std.proofs.lemmas.List.Sums.{sum_by-set}
use Rattle.std.specs.Option.{option_map, option_and_then}
use Rattle.hx_pool.specs.declared.chain.Chain.{Chain}
use Rattle.hx_pool.specs.Pool.{Pool, get, live_count, with_value, IsLive}
use Rattle.hx_pool.specs.Chain.{LiesAt, LiesIn, links_at, Relinked, IsSameSlot}
use Rattle.hx_pool.proofs.PoolLemmas.{live_within}
use Rattle.hx_pool.proofs.ChainLemmas.{lies_frame}
use Rattle.hx_ebtree.specs.declared.node.Node.{Node}
use Rattle.hx_ebtree.specs.Node.{key_of, entry_of, value_of, links_of, IsSameNode}
use Rattle.hx_ebtree.specs.Shape.{LeafPart, links_in}
use Rattle.hx_ebtree.specs.Tree.{leaf_part, leaves_of, IsSameEntry, KeepsNodes}

module _ {V : Type 0} where
  same_entry : (a b : Option (Node V)) (old new : Node V) → a ≡ Some old → b ≡ Some new → key_of new ≡ key_of old → entry_of new ≡ entry_of old → value_of new ≡ value_of old → IsSameEntry a b
  same_entry None b old new ea eb k e v = cc
  same_entry (Some a) b old new ea eb k e v =
      let same : old ≡ a = cc in
      (new, eb, k ∙ ap (λ (n : Node V). n.key) same, e ∙ ap (λ (n : Node V). n.entry) same, v ∙ ap (λ (n : Node V). n.value) same)

  unchanged_entry : (a b : Option (Node V)) → b ≡ a → IsSameEntry a b
  unchanged_entry None b e = e
  unchanged_entry (Some a) b e = (a, e, refl, refl, refl)

  has_slot : (p : Pool (Node V)) (id : ℕ) (old : Node V) → get p id ≡ Some old → id < length p.slots
  has_slot p id old at = live_within p id (subst IsSome (sym at) refl)

  abbrev count_one : Option (Node V) → ℕ
  count_one o = cond (is_some o) 1 0

  pub kept_with : (p : Pool (Node V)) (id : ℕ) (old new : Node V) → get p id ≡ Some old → key_of new ≡ key_of old → entry_of new ≡ entry_of old → value_of new ≡ value_of old → KeepsNodes p (with_value p id new)
  kept_with p id old new at k e v =
      let within = has_slot p id old at in
      let counted : live_count (with_value p id new) + count_one (get_or p.slots id None) ≡ live_count p + 1 = sum_by-set (λ (o : Option (Node V)). cond (is_some o) 1 0) p.slots id (Some new) None within in
      let one : count_one (get_or p.slots id None) ≡ 1 = ap count_one at in
      record {
        nodes = λ j. elim (cases_eq j id) as (λ _. IsSameEntry (get p j) (get (with_value p id new) j)) [
          | inl same ↦ same_entry (get p j) (get (with_value p id new) j) old new (ap (get p) same ∙ at) (ap (get (with_value p id new)) same ∙ get_or-set_same p.slots id (Some new) None within) k e v
          | inr other ↦ unchanged_entry (get p j) (get (with_value p id new) j) (get_or-set_other p.slots id j (Some new) None other)
        ];
        spare = refl;
        live = omega (arith, counted, one);
      }

  pub kept_self : (p : Pool (Node V)) → KeepsNodes p p
  kept_self p = record { nodes = λ j. unchanged_entry (get p j) (get p j) refl; spare = refl; live = refl }

  entry_on : (a b c : Option (Node V)) → IsSameEntry a b → IsSameEntry b c → IsSameEntry a c
  entry_on None b c s t = subst (λ o. IsSameEntry o c) s t
  entry_on (Some a) b c s t =
      let u : IsSameEntry (Some s.0) c = subst (λ o. IsSameEntry o c) s.1 t in
      (u.0, u.1, u.2 ∙ s.2, u.3 ∙ s.3, u.4 ∙ s.4)

  pub kept_on : (p q r : Pool (Node V)) → KeepsNodes p q → KeepsNodes q r → KeepsNodes p r
  kept_on p q r a b = record {
    nodes = λ j. entry_on (get p j) (get q j) (get r j) (a.nodes j) (b.nodes j);
    spare = b.spare ∙ a.spare;
    live = b.live ∙ a.live;
  }

  slot_entry : (a b : Option (Node V)) → IsSameSlot IsSameNode a b → IsSameEntry a b
  slot_entry None b s = s
  slot_entry (Some a) b s = (s.0, s.1, ap (λ (n : Node V). n.key) s.2, ap (λ (n : Node V). n.entry) s.2, ap (λ (n : Node V). n.value) s.2)

  pub kept_relinked : (p q : Pool (Node V)) → Relinked IsSameNode p q → KeepsNodes p q
  kept_relinked p q r = record { nodes = λ j. slot_entry (get p j) (get q j) (r.values j); spare = r.spare; live = r.live }

  entry_live : (a b : Option (Node V)) → IsSameEntry a b → IsSome a → IsSome b
  entry_live None b s live = cc
  entry_live (Some a) b s live = subst IsSome (sym s.1) refl

  pub kept_live : (p q : Pool (Node V)) (k : ℕ) → KeepsNodes p q → IsLive p k → IsLive q k
  kept_live p q k kept live = entry_live (get p k) (get q k) (kept.nodes k) live

  -- the parts of a node whose links alone changed
  pub record SameParts (a b : Option (Node V)) : Type 0 where
    pub key : option_map (λ (n : Node V). n.key) b ≡ option_map (λ (n : Node V). n.key) a
    pub up : option_map (λ (n : Node V). n.leaf_up) b ≡ option_map (λ (n : Node V). n.leaf_up) a
    pub chain : option_map (λ (n : Node V). n.chain) b ≡ option_map (λ (n : Node V). n.chain) a
    pub fork : option_and_then (λ (n : Node V). n.branch) b ≡ option_and_then (λ (n : Node V). n.branch) a

  pub slot_parts : (a b : Option (Node V)) → IsSameSlot IsSameNode a b → SameParts a b
  slot_parts None b s = rw s (record { key = refl; up = refl; chain = refl; fork = refl })
  slot_parts (Some a) b s =
      rw s.1 (record {
        key = ap (λ (n : Node V). Some n.key) s.2;
        up = ap (λ (n : Node V). Some n.leaf_up) s.2;
        chain = ap (λ (n : Node V). Some n.chain) s.2;
        fork = ap (λ (n : Node V). n.branch) s.2;
      })

  -- the links and other parts of a node, as its leaf part has them
  links_seen : (o : Option (Node V)) → option_map (λ (part : LeafPart). part.links) (option_map leaf_part o) ≡ option_map links_of o
  links_seen None = refl
  links_seen (Some n) = refl

  pub lies_in_leaves : (p : Pool (Node V)) (c : Chain) (xs : List ℕ) → LiesIn links_of p c xs → LiesAt (links_in (leaves_of p)) c xs
  lies_in_leaves p c xs lies = lies_frame (links_at links_of p) (links_in (leaves_of p)) c xs (λ k there. links_seen (get p k)) lies

  pub lies_in_pool : (p : Pool (Node V)) (c : Chain) (xs : List ℕ) → LiesAt (links_in (leaves_of p)) c xs → LiesIn links_of p c xs
  lies_in_pool p c xs lies = lies_frame (links_in (leaves_of p)) (links_at links_of p) c xs (λ k there. sym (links_seen (get p k))) lies
