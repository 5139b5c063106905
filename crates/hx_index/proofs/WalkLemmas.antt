-- A walk along the chain of an index, to the first pattern that hits.
use Rattle.std.proofs.Common.{◌≡◌, ℕ, zero, suc, ◌+◌, ◌*◌, ◌<◌, ◌≤◌, Bool, true, false, List, [], ◌∷◌, ◌++◌, length, All, Option, Some, None, refl, sym, ap, subst, ◌∙◌, inl, arith}
use Rattle.std.specs.Option.{option_map_or}
use Rattle.std.proofs.lemmas.List.Elements.{All-head, All-tail, All-filter}
use Rattle.hx_pool.specs.declared.links.Links.{Links}
use Rattle.hx_pool.specs.declared.chain.Chain.{Chain}
use Rattle.hx_pool.specs.Pool.{Pool, get}
use Rattle.hx_pool.specs.Chain.{first_or, last_or, IsIn, AreLinked, LiesIn, links_at}
use Rattle.hx_pool.proofs.PoolLemmas.{live_within}
use Rattle.hx_pool.proofs.ChainLemmas.{in_right, linked_right}
use Rattle.hx_pool.proofs.LyingLemmas.{lies_live}
use Rattle.hx_sample.specs.declared.sample.Value.{Value}
use Rattle.hx_sample.specs.Keys.{hits}
use Rattle.hx_ebtree.specs.declared.node.Node.{Node}
use Rattle.hx_ebtree.specs.Node.{entry_of, value_of}
use Rattle.hx_match.specs.Patterns.{PatternText}
use Rattle.hx_index.specs.declared.index.Index.{Index}
use Rattle.hx_index.specs.declared.part.Part.TheVariants.{Listed}
use Rattle.hx_index.specs.Items.{Item, nodes_of}
use Rattle.hx_index.specs.Parts.{is_same_part, pattern_part}
use Rattle.hx_index.specs.Index.{HasNode, Holds, NodePool, in_part}
use Rattle.hx_index.specs.Search.{first_hit_of, is_hit}
use Rattle.hx_index.proofs.NumberLemmas.{distinct_few}

-- ---- how far the end of a chain is

next_in : Option Links → Option ℕ
next_in None = None
next_in (Some links) = links.next

-- the numbers from `at` on along the links f, but at most n
pub chain_left : (ℕ → Option Links) → ℕ → Option ℕ → ℕ
chain_left f zero at = 0
chain_left f (suc n) at = option_map_or (λ id. suc (chain_left f n (next_in (f id)))) at 0

left_is : (f : ℕ → Option Links) (n : ℕ) (p : Option ℕ) (xs : List ℕ) → length xs ≤ n → AreLinked f p xs None → chain_left f n (first_or xs None) ≡ length xs
unfolding chain_left next_in
left_is f zero p [] few l = refl
left_is f (suc n) p [] few l = refl
left_is f zero p (x ∷ xs) few l = absurd (omega (arith, few))
left_is f (suc n) p (x ∷ xs) few l = rw l.0 (ap suc (left_is f n (Some x) xs (omega (arith, few)) l.1))

module _ {T : Type 0} (links_of : T → Links) where
  few_listed : (p : Pool T) (c : Chain) (xs : List ℕ) → LiesIn links_of p c xs → length xs ≤ length p.slots
  few_listed p c xs lies =
      distinct_few (length p.slots) xs lies.distinct (λ k there. live_within p k (lies_live links_of p c xs k lies there))

  -- a step along a chain comes nearer to its end
  pub left_falls : (p : Pool T) (c : Chain) (before : List ℕ) (id : ℕ) (after : List ℕ) (next : Option ℕ) → LiesIn links_of p c (before ++ id ∷ after) → next ≡ first_or after None → chain_left (links_at links_of p) (length p.slots) next < chain_left (links_at links_of p) (length p.slots) (Some id)
  left_falls p c before id after next lies is =
      let f = links_at links_of p in
      let rest = linked_right f None None before (id ∷ after) lies.linked in
      let few = few_listed p c (before ++ id ∷ after) lies in
      let long = append_long before (id ∷ after) in
      let here = left_is f (length p.slots) (last_or None before) (id ∷ after) (omega (arith, few, long)) rest in
      let there = left_is f (length p.slots) (Some id) after (omega (arith, few, long)) rest.1 in
      rw (is, here, there) (omega arith)
    where
      append_long : (xs ys : List ℕ) → length (xs ++ ys) ≡ length xs + length ys
      append_long [] ys = omega arith
      append_long (x ∷ xs) ys = omega (arith, append_long xs ys)

-- ---- the walk

pub record Walks (items : List Item) (v : Value) (at : Option ℕ) (now start : ℕ) : Type 0 where
  pub before : List Item
  pub rest : List Item
  pub whole : items ≡ before ++ rest
  pub here : at ≡ first_or (nodes_of rest) None
  pub same : first_hit_of v rest ≡ first_hit_of v items
  pub cost : now + 2 * length rest ≤ start + 2 * length items

-- the walk is at the node of an item
pub record IsAtItem (items : List Item) (v : Value) (id now start : ℕ) : Type 0 where
  pub before : List Item
  pub item : Item
  pub after : List Item
  pub whole : items ≡ before ++ item ∷ after
  pub here : id ≡ item.node
  pub same : first_hit_of v (item ∷ after) ≡ first_hit_of v items
  pub cost : now + 2 * length (item ∷ after) ≤ start + 2 * length items

pub walk_begins : (items : List Item) (v : Value) (at : Option ℕ) (start : ℕ) → at ≡ first_or (nodes_of items) None → Walks items v at start start
walk_begins items v at start e =
    record { before = []; rest = items; whole = refl; here = e; same = refl; cost = omega arith }

at_item : (items : List Item) (v : Value) (id now start : ℕ) (before rest : List Item) → items ≡ before ++ rest → Some id ≡ first_or (nodes_of rest) None → first_hit_of v rest ≡ first_hit_of v items → now + 2 * length rest ≤ start + 2 * length items → IsAtItem items v id now start
at_item items v id now start before [] whole here same cost = cc
at_item items v id now start before (x ∷ rest) whole here same cost =
    let is : id ≡ x.node = cc in
    record { before = before; item = x; after = rest; whole = whole; here = is; same = same; cost = cost }

pub walk_at : (items : List Item) (v : Value) (at : Option ℕ) (id now start : ℕ) → Walks items v at now start → at ≡ Some id → IsAtItem items v id now start
walk_at items v at id now start w e =
    at_item items v id now start w.before w.rest w.whole (sym e ∙ w.here) w.same w.cost

append_more : (xs : List Item) (x : Item) (ys : List Item) → xs ++ x ∷ ys ≡ (xs ++ x ∷ []) ++ ys
append_more [] x ys = refl
append_more (z ∷ xs) x ys = ap (λ l. z ∷ l) (append_more xs x ys)

missed : (v : Value) (x : Item) (xs : List Item) → is_hit v x ≡ false → first_hit_of v (x ∷ xs) ≡ first_hit_of v xs
missed v x xs e = rw e refl

pub walk_on : (items : List Item) (v : Value) (id now later start : ℕ) (next : Option ℕ) (a : IsAtItem items v id now start) → is_hit v a.item ≡ false → next ≡ first_or (nodes_of a.after) None → later ≤ now + 2 → Walks items v next later start
walk_on items v id now later start next a miss is cost = record {
  before = a.before ++ a.item ∷ [];
  rest = a.after;
  whole = a.whole ∙ append_more a.before a.item a.after;
  here = is;
  same = sym (missed v a.item a.after miss) ∙ a.same;
  cost = omega (arith, a.cost, cost);
}

pub walk_hits : (items : List Item) (v : Value) (id now start : ℕ) (a : IsAtItem items v id now start) → is_hit v a.item ≡ true → Some a.item.entry ≡ first_hit_of v items
walk_hits items v id now start a hit = hit_first v a.item a.after hit ∙ a.same
  where
    hit_first : (v : Value) (x : Item) (xs : List Item) → is_hit v x ≡ true → Some x.entry ≡ first_hit_of v (x ∷ xs)
    hit_first v x xs e = rw e refl

ends : (v : Value) (rest : List Item) → None ≡ first_or (nodes_of rest) None → None ≡ first_hit_of v rest
ends v [] e = refl
ends v (x ∷ rest) e = cc

pub walk_ends : (items : List Item) (v : Value) (at : Option ℕ) (now start : ℕ) → Walks items v at now start → at ≡ None → None ≡ first_hit_of v items
walk_ends items v at now start w e = ends v w.rest (sym e ∙ w.here) ∙ w.same

-- ---- the item at which the walk is

pub nodes_around : (before : List Item) (item : Item) (after : List Item) → nodes_of (before ++ item ∷ after) ≡ nodes_of before ++ item.node ∷ nodes_of after
nodes_around [] item after = refl
nodes_around (x ∷ before) item after = ap (λ l. x.node ∷ l) (nodes_around before item after)

pub all_at : (P : Item → Type 0) (before : List Item) (item : Item) (after : List Item) → All P (before ++ item ∷ after) → P item
all_at P [] item after all = All-head P item after all
all_at P (x ∷ before) item after all =
    all_at P before item after (All-tail P x (before ++ item ∷ after) all)

pub nodes_at : (items : List Item) (v : Value) (id now start : ℕ) (a : IsAtItem items v id now start) → nodes_of items ≡ nodes_of a.before ++ id ∷ nodes_of a.after
nodes_at items v id now start a =
    ap nodes_of a.whole ∙ nodes_around a.before a.item a.after ∙ ap (λ k. nodes_of a.before ++ k ∷ nodes_of a.after) (sym a.here)

pub at_in : (items : List Item) (v : Value) (id now start : ℕ) → IsAtItem items v id now start → IsIn id (nodes_of items)
at_in items v id now start a =
    subst (IsIn id) (sym (nodes_at items v id now start a)) (in_right (nodes_of a.before) (id ∷ nodes_of a.after) id (inl refl))

-- the node at which the walk is keeps the pattern and the entry of the item
pub at_node : (p : NodePool) (index : Index) (items : List Item) (v : Value) (id now start : ℕ) (n : Node PatternText) → Holds p index items → (a : IsAtItem (in_part Listed items) v id now start) → get p id ≡ Some n → (value_of n ≡ a.item.pattern) × (entry_of n ≡ a.item.entry)
at_node p index items v id now start n h a at =
    let listed = All-filter (λ (item : Item). is_same_part Listed (pattern_part item.pattern)) (HasNode p) items h.found in
    let has : HasNode p a.item = all_at (HasNode p) a.before a.item a.after (subst (All (HasNode p)) a.whole listed) in
    let some : Some n ≡ Some has.0 = sym at ∙ ap (get p) a.here ∙ has.1 in
    let same : n ≡ has.0 = cc in
    (ap value_of same ∙ has.3, ap entry_of same ∙ has.2)

-- whether a pattern hits is whether its item does
pub hit_is : (v : Value) (pattern : PatternText) (item : Item) (b : Bool) → pattern ≡ item.pattern → b ≡ hits pattern.by pattern.ci pattern.text v → is_hit v item ≡ b
hit_is v pattern item b same e = ap (λ (t : PatternText). hits t.by t.ci t.text v) (sym same) ∙ sym e
