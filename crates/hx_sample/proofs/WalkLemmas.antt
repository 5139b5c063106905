-- A walk along a chain, to the variable of a name.
use Rattle.std.proofs.Common.{◌≡◌, ℕ, zero, suc, ◌+◌, ◌<◌, ◌≤◌, ◌==◌, Bool, true, false, cond, not, List, [], ◌∷◌, ◌++◌, length, filter, Option, Some, None, refl, sym, ap, subst, ◌∙◌, inl, inr, arith, append-nil, true≢false, ne_eqb, eq-eqb}
use Rattle.std.proofs.lemmas.Bool.{cases_eq}
use Rattle.std.proofs.lemmas.Slice.Eq.{bytes_eq-Decides}
use Rattle.std.specs.Option.{option_map, option_map_or}
use Rattle.std.specs.Str.{bytes_eq}
use Rattle.hx_pool.specs.declared.links.Links.{Links}
use Rattle.hx_pool.specs.declared.chain.Chain.{Chain}
use Rattle.hx_pool.specs.Pool.{Pool, get, IsLive}
use Rattle.hx_pool.specs.Chain.{first_or, last_or, AreDistinct, AreLinked, IsIn, LiesIn, links_at}
use Rattle.hx_pool.proofs.PoolLemmas.{live_within}
use Rattle.hx_pool.proofs.ChainLemmas.{in_either, in_right, linked_has, linked_right}
use Rattle.hx_pool.proofs.LyingLemmas.{lies_live}
use Rattle.hx_sample.specs.declared.stored_variable.StoredVariable.{StoredVariable}
use Rattle.hx_sample.specs.Slots.{Variable, IsFound, VariablePool, variable_at, variable_of, variable_links}

-- ---- distinct numbers below a bound are at most so many

filtered_step : (p : ℕ → Bool) (x k : ℕ) (xs : List ℕ) (b : Bool) → p x ≡ b → IsIn k (cond b (x ∷ filter p xs) (filter p xs)) → (IsIn k (filter p xs) → IsIn k xs × (p k ≡ true)) → IsIn k (x ∷ xs) × (p k ≡ true)
filtered_step p x k xs true e (inl same) rest = (inl same, subst (λ n. p n ≡ true) (sym same) e)
filtered_step p x k xs true e (inr there) rest = let r = rest there in (inr r.0, r.1)
filtered_step p x k xs false e there rest = let r = rest there in (inr r.0, r.1)

in_filtered : (p : ℕ → Bool) (xs : List ℕ) (k : ℕ) → IsIn k (filter p xs) → IsIn k xs × (p k ≡ true)
in_filtered p [] k there = absurd there
in_filtered p (x ∷ xs) k there = filtered_step p x k xs (p x) refl there (in_filtered p xs k)

distinct_step : (p : ℕ → Bool) (x : ℕ) (xs : List ℕ) (b : Bool) → (IsIn x xs → ⊥) → AreDistinct (filter p xs) → AreDistinct (cond b (x ∷ filter p xs) (filter p xs))
distinct_step p x xs true off rest = (λ there. off (in_filtered p xs x there).0, rest)
distinct_step p x xs false off rest = rest

distinct_filtered : (p : ℕ → Bool) (xs : List ℕ) → AreDistinct xs → AreDistinct (filter p xs)
distinct_filtered p [] d = tt
distinct_filtered p (x ∷ xs) d = distinct_step p x xs (p x) d.0 (distinct_filtered p xs d.1)

abbrev less : ℕ → List ℕ → List ℕ
less id xs = filter (λ x. not (x == id)) xs

not_true : (b : Bool) → not b ≡ true → b ≡ false
not_true true e = absurd (true≢false (sym e))
not_true false e = refl

in_less : (id : ℕ) (xs : List ℕ) (k : ℕ) → IsIn k (less id xs) → IsIn k xs × (k ≡ id → ⊥)
in_less id xs k there =
    let r = in_filtered (λ x. not (x == id)) xs k there in
    (r.0, λ same. true≢false (sym (eq-eqb k id same) ∙ not_true (k == id) r.1))

less_off : (id : ℕ) (xs : List ℕ) → (IsIn id xs → ⊥) → less id xs ≡ xs
less_off id [] off = refl
less_off id (x ∷ xs) off =
    let other : (x ≡ id) → ⊥ = λ same. off (inl (sym same)) in
    rw (ne_eqb x id other) (ap (λ ys. x ∷ ys) (less_off id xs (λ there. off (inr there))))

length_most : (id : ℕ) (xs : List ℕ) → AreDistinct xs → length xs ≤ length (less id xs) + 1
length_most id [] d = omega arith
length_most id (x ∷ xs) d = elim (cases_eq x id) [
  | inl same ↦
      let off : IsIn id xs → ⊥ = λ there. d.0 (subst (λ k. IsIn k xs) (sym same) there) in
      rw (eq-eqb x id same, less_off id xs off) (omega arith)
  | inr other ↦ rw (ne_eqb x id other) (omega (arith, length_most id xs d.1))
]

below_less : (n k : ℕ) → k < suc n → (k ≡ n → ⊥) → k < n
below_less n k below other = omega (arith, other)

distinct_few : (n : ℕ) (xs : List ℕ) → AreDistinct xs → ((k : ℕ) → IsIn k xs → k < n) → length xs ≤ n
distinct_few zero [] d below = omega arith
distinct_few zero (x ∷ xs) d below = absurd (omega (arith, below x (inl refl)))
distinct_few (suc n) xs d below =
    let rest = distinct_few n (less n xs) (distinct_filtered (λ x. not (x == n)) xs d) (λ k there. let r = in_less n xs k there in below_less n k (below k r.0) r.1) in
    omega (arith, rest, length_most n xs d)

-- ---- how far the end of a chain is

next_in : Option Links → Option ℕ
next_in None = None
next_in (Some links) = links.next

-- the numbers from `at` on along the links f, but at most n
pub chain_left : (ℕ → Option Links) → ℕ → Option ℕ → ℕ
chain_left f zero at = 0
chain_left f (suc n) at = option_map_or (λ id. suc (chain_left f n (next_in (f id)))) at 0

left_is : (f : ℕ → Option Links) (n : ℕ) (p : Option ℕ) (xs : List ℕ) → length xs ≤ n → AreLinked f p xs None → chain_left f n (first_or xs None) ≡ length xs
unfolding chain_left next_in
left_is f zero p [] few l = refl
left_is f (suc n) p [] few l = refl
left_is f zero p (x ∷ xs) few l = absurd (omega (arith, few))
left_is f (suc n) p (x ∷ xs) few l = rw l.0 (ap suc (left_is f n (Some x) xs (omega (arith, few)) l.1))

module _ {T : Type 0} (links_of : T → Links) where
  few_listed : (p : Pool T) (c : Chain) (xs : List ℕ) → LiesIn links_of p c xs → length xs ≤ length p.slots
  few_listed p c xs lies =
      distinct_few (length p.slots) xs lies.distinct (λ k there. live_within p k (lies_live links_of p c xs k lies there))

  -- a step along a chain comes nearer to its end
  pub left_falls : (p : Pool T) (c : Chain) (before : List ℕ) (id : ℕ) (after : List ℕ) (next : Option ℕ) → LiesIn links_of p c (before ++ id ∷ after) → next ≡ first_or after None → chain_left (links_at links_of p) (length p.slots) next < chain_left (links_at links_of p) (length p.slots) (Some id)
  left_falls p c before id after next lies is =
      let f = links_at links_of p in
      let rest = linked_right f None None before (id ∷ after) lies.linked in
      let few = few_listed p c (before ++ id ∷ after) lies in
      let long = append_long before (id ∷ after) in
      let here = left_is f (length p.slots) (last_or None before) (id ∷ after) (omega (arith, few, long)) rest in
      let there = left_is f (length p.slots) (Some id) after (omega (arith, few, long)) rest.1 in
      rw (is, here, there) (omega arith)
    where
      append_long : (xs ys : List ℕ) → length (xs ++ ys) ≡ length xs + length ys
      append_long [] ys = omega arith
      append_long (x ∷ xs) ys = omega (arith, append_long xs ys)

-- ---- the walk

-- the slots that were passed don't have the name, and the others are left, the first of them here
pub record Walks (p : VariablePool) (xs name : List ℕ) (at : Option ℕ) : Type 0 where
  pub before : List ℕ
  pub rest : List ℕ
  pub whole : xs ≡ before ++ rest
  pub here : at ≡ first_or rest None
  pub missed : (i : ℕ) (f : Variable) → IsIn i before → variable_at p i ≡ Some f → f.name ≡ name → ⊥

-- the walk is at a slot
pub record IsAt (p : VariablePool) (xs name : List ℕ) (id : ℕ) : Type 0 where
  pub before : List ℕ
  pub after : List ℕ
  pub whole : xs ≡ before ++ id ∷ after
  pub missed : (i : ℕ) (f : Variable) → IsIn i before → variable_at p i ≡ Some f → f.name ≡ name → ⊥

pub walk_begins : (p : VariablePool) (xs name : List ℕ) (at : Option ℕ) → at ≡ first_or xs None → Walks p xs name at
walk_begins p xs name at here = record {
  before = [];
  rest = xs;
  whole = refl;
  here = here;
  missed = λ i f there is same. there;
}

at_rest : (p : VariablePool) (xs name : List ℕ) (id : ℕ) (before rest : List ℕ) → xs ≡ before ++ rest → Some id ≡ first_or rest None → ((i : ℕ) (f : Variable) → IsIn i before → variable_at p i ≡ Some f → f.name ≡ name → ⊥) → IsAt p xs name id
at_rest p xs name id before [] whole here missed = absurd (cc)
at_rest p xs name id before (x ∷ rest) whole here missed =
    let same : x ≡ id = cc in
    record {
      before = before;
      after = rest;
      whole = whole ∙ ap (λ k. before ++ k ∷ rest) same;
      missed = missed;
    }

pub walk_at : (p : VariablePool) (xs name : List ℕ) (at : Option ℕ) (id : ℕ) → Walks p xs name at → at ≡ Some id → IsAt p xs name id
walk_at p xs name at id w is = at_rest p xs name id w.before w.rest w.whole (sym is ∙ w.here) w.missed

append_more : (xs : List ℕ) (x : ℕ) (ys : List ℕ) → xs ++ x ∷ ys ≡ (xs ++ x ∷ []) ++ ys
append_more [] x ys = refl
append_more (z ∷ xs) x ys = ap (λ l. z ∷ l) (append_more xs x ys)

at_last : (p : VariablePool) (name : List ℕ) (id i : ℕ) (f : Variable) → ((g : Variable) → variable_at p id ≡ Some g → g.name ≡ name → ⊥) → IsIn i (id ∷ []) → variable_at p i ≡ Some f → f.name ≡ name → ⊥
at_last p name id i f other (inl e) is same = other f (ap (variable_at p) (sym e) ∙ is) same
at_last p name id i f other (inr none) is same = none

pub walk_on : (p : VariablePool) (xs name : List ℕ) (id : ℕ) (next : Option ℕ) (a : IsAt p xs name id) → ((f : Variable) → variable_at p id ≡ Some f → f.name ≡ name → ⊥) → next ≡ first_or a.after None → Walks p xs name next
walk_on p xs name id next a other here = record {
  before = a.before ++ id ∷ [];
  rest = a.after;
  whole = a.whole ∙ append_more a.before id a.after;
  here = here;
  missed = λ i f there is same. elim (in_either a.before (id ∷ []) i there) [
    | inl before ↦ a.missed i f before is same
    | inr last ↦ at_last p name id i f other last is same
  ];
}

rest_ends : (rest : List ℕ) → None ≡ first_or rest None → rest ≡ []
rest_ends [] here = refl
rest_ends (x ∷ rest) here = absurd (cc)

pub walk_ends : (p : VariablePool) (xs name : List ℕ) (at : Option ℕ) → Walks p xs name at → at ≡ None → IsFound p xs name None
walk_ends p xs name at w is =
    let none = rest_ends w.rest (sym is ∙ w.here) in
    let all : xs ≡ w.before = w.whole ∙ ap (λ ys. w.before ++ ys) none ∙ append-nil w.before in
    λ i f there. w.missed i f (subst (IsIn i) all there)

pub lies_at : (p : VariablePool) (c : Chain) (xs name : List ℕ) (id : ℕ) → LiesIn variable_links p c xs → (a : IsAt p xs name id) → LiesIn variable_links p c (a.before ++ id ∷ a.after)
lies_at p c xs name id lies a = subst (LiesIn variable_links p c) a.whole lies

pub at_in : (p : VariablePool) (xs name : List ℕ) (id : ℕ) → IsAt p xs name id → IsIn id xs
at_in p xs name id a = subst (IsIn id) (sym a.whole) (in_right a.before (id ∷ a.after) id (inl refl))

pub at_live : (p : VariablePool) (c : Chain) (xs name : List ℕ) (id : ℕ) → LiesIn variable_links p c xs → IsAt p xs name id → IsLive p id
at_live p c xs name id lies a = lies_live variable_links p c xs id lies (at_in p xs name id a)

-- ---- what stands in a slot of the chain

some_variable : (x y : Variable) → Some x ≡ Some y → x ≡ y
some_variable x y e = cc

variable_of_linked : (o : Option StoredVariable) (l : Links) → option_map variable_links o ≡ Some l → (f : Variable) × (option_map variable_of o ≡ Some f)
variable_of_linked None l e = cc
variable_of_linked (Some v) l e = (variable_of v, refl)

pub lies_has : (p : VariablePool) (c : Chain) (xs : List ℕ) (i : ℕ) → LiesIn variable_links p c xs → IsIn i xs → (f : Variable) × (variable_at p i ≡ Some f)
lies_has p c xs i lies there =
    let has = linked_has (links_at variable_links p) None None xs i lies.linked there in
    variable_of_linked (get p i) has.0 has.1

pub stored_at : (o : Option StoredVariable) (f : Variable) → option_map variable_of o ≡ Some f → (v : StoredVariable) × (o ≡ Some v)
stored_at None f e = cc
stored_at (Some v) f e = (v, refl)

-- ---- what a test of the name says of a slot

variable_there : (p : VariablePool) (id : ℕ) (v : StoredVariable) (f : Variable) → get p id ≡ Some v → variable_at p id ≡ Some f → v.name ≡ f.name
variable_there p id v f is has =
    let same : variable_of v ≡ f = some_variable (variable_of v) f (sym (ap (option_map variable_of) is) ∙ has) in
    ap (λ (g : Variable). g.name) same

pub name_differs : (p : VariablePool) (id : ℕ) (name : List ℕ) (answer : Bool) → ((v : StoredVariable) → get p id ≡ Some v → answer ≡ bytes_eq v.name name) → answer ≡ false → (f : Variable) → variable_at p id ≡ Some f → f.name ≡ name → ⊥
name_differs p id name answer says miss f has same =
    let v = stored_at (get p id) f has in
    true≢false (sym ((bytes_eq-Decides v.0.name name).1 (variable_there p id v.0 f v.1 has ∙ same)) ∙ sym (says v.0 v.1) ∙ miss)

pub name_found : (p : VariablePool) (c : Chain) (xs name : List ℕ) (id : ℕ) (answer : Bool) → LiesIn variable_links p c xs → IsIn id xs → ((v : StoredVariable) → get p id ≡ Some v → answer ≡ bytes_eq v.name name) → answer ≡ true → IsFound p xs name (Some id)
name_found p c xs name id answer lies there says hit =
    let has = lies_has p c xs id lies there in
    let v = stored_at (get p id) has.0 has.1 in
    (there, has.0, has.1, sym (variable_there p id v.0 has.0 v.1 has.1) ∙ (bytes_eq-Decides v.0.name name).0 (sym (says v.0 v.1) ∙ hit))
