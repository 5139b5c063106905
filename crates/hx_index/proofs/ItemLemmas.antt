-- Lists of items: without a node, and those that belong into a part.
use Rattle.std.proofs.Common.{◌≡◌, ◌⊎◌, ℕ, ◌+◌, ◌==◌, ◌&&◌, Bool, true, false, cond, not, List, [], ◌∷◌, ◌++◌, length, map, filter, All, refl, sym, ap, subst, ◌∙◌, inl, inr, arith}
use Rattle.std.proofs.lemmas.List.{length-map}
use Rattle.std.proofs.lemmas.List.Elements.{All-head, All-tail, filter-append, filter_agree}
use Rattle.hx_pool.specs.Chain.{IsIn, AreDistinct}
use Rattle.hx_ebtree.specs.KeyList.{KeyList, ids_of, without}
use Rattle.hx_index.specs.declared.part.Part.{Part}
use Rattle.hx_index.specs.declared.part.Part.TheVariants.{Listed, Keyed, Wide}
use Rattle.hx_index.specs.Items.{Item, LeavesOut, nodes_of, without_node, without_nodes}
use Rattle.hx_index.specs.Parts.{is_same_part, pattern_part, pattern_key}
use Rattle.hx_index.specs.Index.{in_part, key_pairs}
use Rattle.hx_index.proofs.NumberLemmas.{in_less, length_less, less}

-- ---- filters

map_cond : {A B : Type 0} (f : A → B) (b : Bool) (x : A) (xs : List A) (ys : List B) → map f xs ≡ ys → map f (cond b (x ∷ xs) xs) ≡ cond b (f x ∷ ys) ys
map_cond f true x xs ys e = ap (λ zs. f x ∷ zs) e
map_cond f false x xs ys e = e

map_filtered : {A B : Type 0} (f : A → B) (p : B → Bool) (xs : List A) → map f (filter (λ x. p (f x)) xs) ≡ filter p (map f xs)
map_filtered f p [] = refl
map_filtered f p (x ∷ xs) = map_cond f (p (f x)) x (filter (λ y. p (f y)) xs) (filter p (map f xs)) (map_filtered f p xs)

filter_cond : {A : Type 0} (b : Bool) (q : A → Bool) (x : A) (xs ys : List A) → filter q xs ≡ ys → filter q (cond b (x ∷ xs) xs) ≡ cond (b && q x) (x ∷ ys) ys
filter_cond true q x xs ys h = ap (λ zs. cond (q x) (x ∷ zs) zs) h
filter_cond false q x xs ys h = h

filtered_twice : {A : Type 0} (p q : A → Bool) (xs : List A) → filter q (filter p xs) ≡ filter (λ x. p x && q x) xs
filtered_twice p q [] = refl
filtered_twice p q (x ∷ xs) =
    filter_cond (p x) q x (filter p xs) (filter (λ x. p x && q x) xs) (filtered_twice p q xs)

and_swap : (a b : Bool) → (a && b) ≡ (b && a)
and_swap true true = refl
and_swap true false = refl
and_swap false true = refl
and_swap false false = refl

filters_swap : {A : Type 0} (p q : A → Bool) (xs : List A) → filter p (filter q xs) ≡ filter q (filter p xs)
filters_swap p q xs =
    filtered_twice q p xs ∙ filter_agree (λ x. q x && p x) (λ x. p x && q x) (λ x. and_swap (q x) (p x)) xs ∙ sym (filtered_twice p q xs)

-- ---- the item of a node

-- an item of this node, of which P holds, that passes the test
pub record Found (P : Item → Type 0) (test : Item → Bool) (items : List Item) (k : ℕ) : Type 0 where
  pub item : Item
  pub here : k ≡ item.node
  pub passes : test item ≡ true
  pub holds : P item
  pub listed : IsIn k (nodes_of items)

module _ (P : Item → Type 0) (test : Item → Bool) where
  found_more : (x : Item) (xs : List Item) (k : ℕ) → Found P test xs k → Found P test (x ∷ xs) k
  found_more x xs k f = record { item = f.item; here = f.here; passes = f.passes; holds = f.holds; listed = inr f.listed }

  found_step : (x : Item) (xs : List Item) (k : ℕ) (b : Bool) → test x ≡ b → P x → IsIn k (nodes_of (cond b (x ∷ filter test xs) (filter test xs))) → (IsIn k (nodes_of (filter test xs)) → Found P test xs k) → Found P test (x ∷ xs) k
  found_step x xs k true e holds (inl same) rest = record { item = x; here = same; passes = e; holds = holds; listed = inl same }
  found_step x xs k true e holds (inr there) rest = found_more x xs k (rest there)
  found_step x xs k false e holds there rest = found_more x xs k (rest there)

  pub found_in : (items : List Item) (k : ℕ) → All P items → IsIn k (nodes_of (filter test items)) → Found P test items k
  found_in [] k all there = absurd there
  found_in (x ∷ xs) k all there =
      found_step x xs k (test x) refl (All-head P x xs all) there (found_in xs k (All-tail P x xs all))

  kept_step : (x : Item) (xs : List Item) (k : ℕ) (b : Bool) → test x ≡ b → P x → IsIn k (nodes_of (x ∷ xs)) → ((item : Item) → P item → k ≡ item.node → test item ≡ true) → (IsIn k (nodes_of xs) → IsIn k (nodes_of (filter test xs))) → IsIn k (nodes_of (cond b (x ∷ filter test xs) (filter test xs)))
  kept_step x xs k true e holds (inl same) passes rest = inl same
  kept_step x xs k true e holds (inr there) passes rest = inr (rest there)
  kept_step x xs k false e holds (inl same) passes rest = let t = passes x holds same in absurd (cc)
  kept_step x xs k false e holds (inr there) passes rest = rest there

  -- a node is left by a filter that its item passes
  pub left_in : (items : List Item) (k : ℕ) → All P items → IsIn k (nodes_of items) → ((item : Item) → P item → k ≡ item.node → test item ≡ true) → IsIn k (nodes_of (filter test items))
  left_in [] k all there passes = absurd there
  left_in (x ∷ xs) k all there passes =
      kept_step x xs k (test x) refl (All-head P x xs all) there passes (λ q. left_in xs k (All-tail P x xs all) q passes)

-- an item of the list with this node, of which P holds
pub item_at : (P : Item → Type 0) (items : List Item) (k : ℕ) → All P items → IsIn k (nodes_of items) → (item : Item) × (k ≡ item.node) × P item
item_at P [] k all there = absurd there
item_at P (x ∷ xs) k all (inl same) = (x, same, All-head P x xs all)
item_at P (x ∷ xs) k all (inr there) = item_at P xs k (All-tail P x xs all) there

-- ---- without a node

pub nodes_without : (id : ℕ) (items : List Item) → nodes_of (without_node id items) ≡ less id (nodes_of items)
nodes_without id items = map_filtered (λ (item : Item). item.node) (λ n. not (n == id)) items

pub in_without : (id : ℕ) (items : List Item) (k : ℕ) → IsIn k (nodes_of (without_node id items)) → IsIn k (nodes_of items)
in_without id items k there =
    (in_less id (nodes_of items) k (subst (IsIn k) (nodes_without id items) there)).0

pub in_without_nodes : (gone : List ℕ) (items : List Item) (k : ℕ) → IsIn k (nodes_of (without_nodes gone items)) → IsIn k (nodes_of items)
in_without_nodes [] items k there = there
in_without_nodes (id ∷ gone) items k there =
    in_without_nodes gone items k (in_without id (without_nodes gone items) k there)

pub length_without : (id : ℕ) (items : List Item) → AreDistinct (nodes_of items) → IsIn id (nodes_of items) → length (without_node id items) + 1 ≡ length items
length_without id items d there =
    let node = λ (item : Item). item.node in
    let whole = length-map items node in
    let left = length-map (without_node id items) node in
    omega (arith, length_less id (nodes_of items) d there, ap length (nodes_without id items), whole, left)

pub pairs_step : (b : Bool) (x : Item) (xs : List Item) (ys : KeyList) → key_pairs xs ≡ ys → key_pairs (cond (not b) (x ∷ xs) xs) ≡ cond b ys ((pattern_key x.pattern, x.node) ∷ ys)
pairs_step true x xs ys e = e
pairs_step false x xs ys e = ap (λ zs. (pattern_key x.pattern, x.node) ∷ zs) e

pub pairs_without : (id : ℕ) (items : List Item) → key_pairs (without_node id items) ≡ without id (key_pairs items)
pairs_without id [] = refl
pairs_without id (x ∷ xs) = pairs_step (x.node == id) x (without_node id xs) (without id (key_pairs xs)) (pairs_without id xs)

pub ids_are : (items : List Item) → ids_of (key_pairs items) ≡ nodes_of items
ids_are [] = refl
ids_are (x ∷ xs) = ap (λ ys. x.node ∷ ys) (ids_are xs)

-- one more is left out
pub leaves_more : (count : ℕ) (items left : List Item) (id : ℕ) → LeavesOut count items left → AreDistinct (nodes_of left) → IsIn id (nodes_of left) → LeavesOut (count + 1) items (without_node id left)
leaves_more count items left id out d there = record {
  gone = id ∷ out.gone;
  rest = ap (without_node id) out.rest;
  counted = omega (arith, out.counted, length_without id left d there);
}

pub leaves_none : (items : List Item) → LeavesOut 0 items items
leaves_none items = record { gone = []; rest = refl; counted = omega arith }

pub in_left : (count : ℕ) (items left : List Item) (k : ℕ) → LeavesOut count items left → IsIn k (nodes_of left) → IsIn k (nodes_of items)
in_left count items left k out there =
    in_without_nodes out.gone items k (subst (λ xs. IsIn k (nodes_of xs)) out.rest there)

-- ---- parts

pub part_self : (part : Part) → is_same_part part part ≡ true
part_self Listed = refl
part_self Keyed = refl
part_self Wide = refl

pub part_is : (a b : Part) → is_same_part a b ≡ true → a ≡ b
part_is Listed Listed e = refl
part_is Keyed Keyed e = refl
part_is Wide Wide e = refl
part_is Listed Keyed e = cc
part_is Listed Wide e = cc
part_is Keyed Listed e = cc
part_is Keyed Wide e = cc
part_is Wide Listed e = cc
part_is Wide Keyed e = cc

pub part_cases : (a b : Part) → (a ≡ b) ⊎ ((a ≡ b → ⊥) × (is_same_part a b ≡ false))
part_cases Listed Listed = inl refl
part_cases Keyed Keyed = inl refl
part_cases Wide Wide = inl refl
part_cases Listed Keyed = inr ((λ e. cc), refl)
part_cases Listed Wide = inr ((λ e. cc), refl)
part_cases Keyed Listed = inr ((λ e. cc), refl)
part_cases Keyed Wide = inr ((λ e. cc), refl)
part_cases Wide Listed = inr ((λ e. cc), refl)
part_cases Wide Keyed = inr ((λ e. cc), refl)

pub part_without : (part : Part) (id : ℕ) (items : List Item) → in_part part (without_node id items) ≡ without_node id (in_part part items)
part_without part id items =
    filters_swap (λ (item : Item). is_same_part part (pattern_part item.pattern)) (λ (item : Item). not (item.node == id)) items

pub part_with : (part : Part) (items : List Item) (item : Item) → pattern_part item.pattern ≡ part → in_part part (items ++ item ∷ []) ≡ in_part part items ++ item ∷ []
part_with part items item belongs =
    filter-append (λ (i : Item). is_same_part part (pattern_part i.pattern)) items (item ∷ [])
    ∙ ap (λ b. in_part part items ++ cond b (item ∷ []) []) (ap (is_same_part part) belongs ∙ part_self part)

pub part_with_other : (part : Part) (items : List Item) (item : Item) → is_same_part part (pattern_part item.pattern) ≡ false → in_part part (items ++ item ∷ []) ≡ in_part part items
part_with_other part items item other =
    filter-append (λ (i : Item). is_same_part part (pattern_part i.pattern)) items (item ∷ [])
    ∙ ap (λ b. in_part part items ++ cond b (item ∷ []) []) other ∙ no_more (in_part part items)
  where
    no_more : (xs : List Item) → xs ++ [] ≡ xs
    no_more [] = refl
    no_more (x ∷ xs) = ap (λ ys. x ∷ ys) (no_more xs)

empty_step : (x : Item) (xs : List Item) (b : Bool) → cond b (x ∷ xs) xs ≡ [] → (b ≡ false) × (xs ≡ [])
empty_step x xs true e = cc
empty_step x xs false e = (refl, e)

one_of : (part : Part) → is_same_part Listed part ≡ false → is_same_part Keyed part ≡ false → is_same_part Wide part ≡ false → ⊥
one_of Listed l k w = cc
one_of Keyed l k w = cc
one_of Wide l k w = cc

-- where no part has an item there is none
pub parts_empty : (items : List Item) → in_part Keyed items ≡ [] → in_part Wide items ≡ [] → in_part Listed items ≡ [] → items ≡ []
parts_empty [] k w l = refl
parts_empty (x ∷ xs) k w l =
    let part = pattern_part x.pattern in
    let fk = empty_step x (in_part Keyed xs) (is_same_part Keyed part) k in
    let fw = empty_step x (in_part Wide xs) (is_same_part Wide part) w in
    let fl = empty_step x (in_part Listed xs) (is_same_part Listed part) l in
    absurd (one_of part fl.0 fk.0 fw.0)
