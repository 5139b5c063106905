-- What is done to one slot of an owner.
use Rattle.std.proofs.Common.{◌≡◌, inl, inr, ℕ, List, [], ◌∷◌, ◌++◌, Option, Some, None, IsSome, refl, ap, sym, subst, ◌∙◌}
use Rattle.std.proofs.lemmas.Bool.{cases_eq}
use Rattle.std.specs.FinMap as map
use Rattle.std.specs.Option.{option_map}
use Rattle.hx_pool.specs.declared.chain.Chain.{Chain}
use Rattle.hx_pool.specs.Pool.{get, IsLive, SameValues, Updates}
use Rattle.hx_pool.specs.Chain.{AreApart, IsIn, IsSameSlot, LiesIn, Relinked, first_or, links_at}
use Rattle.hx_pool.proofs.ChainLemmas.{in_left, in_right, lies_frame}
use Rattle.hx_pool.proofs.LyingLemmas.{distinct_off, free_off, lies_same, lies_updated}
use Rattle.hx_sample.specs.declared.sample.Value.{Value}
use Rattle.hx_sample.specs.declared.stored_variable.Owner.{Owner}
use Rattle.hx_sample.specs.declared.stored_variable.StoredVariable.{StoredVariable}
use Rattle.hx_sample.specs.Slots.{HasNoDoubles, Variable, HasNone, IsFound, HasUnder, IsSameVariable, Leads, LosesOnly, OwnerStep, ChangesSlot, VariablePool, variable_at, variable_of, key_in, variable_links, vars_in}
use Rattle.hx_sample.proofs.SlotLemmas.{got_nowhere, got_set, got_unset, loses_none, loses_on, none_some, same_key, same_name, same_owner, some_same}
use Rattle.hx_sample.proofs.StepLemmas.{same_step, step_on, turns_step}
use Rattle.hx_sample.proofs.WalkLemmas.{lies_has, stored_at}

-- ---- lists

-- the list around one of its numbers
pub record Around (id : ℕ) (xs : List ℕ) : Type 0 where
  pub before : List ℕ
  pub after : List ℕ
  pub is : xs ≡ before ++ id ∷ after

pub around : (id : ℕ) (xs : List ℕ) → IsIn id xs → Around id xs
around id [] there = absurd there
around id (x ∷ xs) (inl same) = record { before = []; after = xs; is = ap (λ y. y ∷ xs) (sym same) }
around id (x ∷ xs) (inr there) =
    let a = around id xs there in
    record { before = x ∷ a.before; after = a.after; is = ap (λ ys. x ∷ ys) a.is }

in_wider : (before : List ℕ) (id : ℕ) (after : List ℕ) (i : ℕ) → IsIn i (before ++ after) → IsIn i (before ++ id ∷ after)
in_wider [] id after i there = inr there
in_wider (x ∷ before) id after i (inl e) = inl e
in_wider (x ∷ before) id after i (inr there) = inr (in_wider before id after i there)

in_less : (before : List ℕ) (id : ℕ) (after : List ℕ) (i : ℕ) → (i ≡ id → ⊥) → IsIn i (before ++ id ∷ after) → IsIn i (before ++ after)
in_less [] id after i other (inl e) = absurd (other e)
in_less [] id after i other (inr there) = there
in_less (x ∷ before) id after i other (inl e) = inl e
in_less (x ∷ before) id after i other (inr there) = inr (in_less before id after i other there)

pushed_less : (xs : List ℕ) (id i : ℕ) → (i ≡ id → ⊥) → IsIn i (xs ++ id ∷ []) → IsIn i xs
pushed_less [] id i other (inl e) = absurd (other e)
pushed_less [] id i other (inr none) = none
pushed_less (x ∷ xs) id i other (inl e) = inl e
pushed_less (x ∷ xs) id i other (inr there) = inr (pushed_less xs id i other there)

apart_from : (zs : List ℕ) (id : ℕ) (xs : List ℕ) → AreApart zs xs → (IsIn id zs → ⊥) → AreApart zs (id ∷ xs)
apart_from zs id xs apart off k there (inl e) = off (subst (λ m. IsIn m zs) e there)
apart_from zs id xs apart off k there (inr other) = apart k there other

-- ---- links alone change

variable_same : (a b : Option StoredVariable) → IsSameSlot IsSameVariable a b → option_map variable_of b ≡ option_map variable_of a
variable_same None b s = ap (option_map variable_of) s
variable_same (Some v) b s = ap (option_map variable_of) s.1 ∙ ap Some (sym s.2)

relinked_variable : (p q : VariablePool) (i : ℕ) → Relinked IsSameVariable p q → variable_at q i ≡ variable_at p i
relinked_variable p q i r = variable_same (get p i) (get q i) (r.values i)

updated_variable : (p q : VariablePool) (id : ℕ) (o : Option StoredVariable) (i : ℕ) → Updates p q id o → (i ≡ id → ⊥) → variable_at q i ≡ variable_at p i
updated_variable p q id o i up other = ap (option_map variable_of) (up.others i other)

-- ---- another value

module _ (p q : VariablePool) (c : Chain) (owner : Owner) (xs name : List ℕ) (id : ℕ) (v : StoredVariable) (value : Value) (h : Leads p c owner xs) (there : IsIn id xs) (is : get p id ≡ Some v) (named : v.name ≡ name) (up : Updates p q id (Some (record v { value = value }))) where
  links_stay : (k : ℕ) → links_at variable_links q k ≡ links_at variable_links p k
  links_stay k = elim (cases_eq k id) [
    | inl e ↦ ap (links_at variable_links q) e ∙ ap (option_map variable_links) up.changed ∙ sym (ap (option_map variable_links) is) ∙ sym (ap (links_at variable_links p) e)
    | inr other ↦ ap (option_map variable_links) (up.others k other)
  ]

  abbrev now : Variable
  now = record { owner = v.owner; name = v.name; value = value }

  abbrev before : Variable
  before = variable_of v

  was_there : variable_at p id ≡ Some before
  was_there = ap (option_map variable_of) is

  in_owner : v.owner ≡ owner
  in_owner = h.own id before there was_there

  owner_now : (g : Variable) → Some now ≡ Some g → g.owner ≡ v.owner
  owner_now g e = sym (ap (λ (f : Variable). f.owner) (some_same now g e))

  name_now : (g : Variable) → Some now ≡ Some g → g.name ≡ v.name
  name_now g e = sym (ap (λ (f : Variable). f.name) (some_same now g e))

  value_turns : ChangesSlot p q c owner xs xs id (Some now)
  value_turns = record {
    changed = ap (option_map variable_of) up.changed;
    same = λ i other. updated_variable p q id (Some (record v { value = value })) i up other;
    lies = lies_frame (links_at variable_links p) (links_at variable_links q) c xs (λ k in_xs. links_stay k) h.lies;
    apart = λ e zs apart off lies. lies_frame (links_at variable_links p) (links_at variable_links q) e zs (λ k in_zs. links_stay k) lies;
    down = λ i other in_xs. in_xs;
    up = λ i other in_xs. in_xs;
    was = λ f e. h.own id f there e;
    here = λ f e. (there, owner_now f e ∙ in_owner);
  }

  value_sole : HasNoDoubles p → (f : Variable) → Some now ≡ Some f → (j : ℕ) (g : Variable) → variable_at p j ≡ Some g → g.owner ≡ f.owner → g.name ≡ f.name → j ≡ id
  value_sole alone f e j g js owners names =
      alone j id g before js was_there (owners ∙ owner_now f e) (names ∙ name_now f e)

  value_at : key_in v.owner v.name ≡ key_in owner name
  value_at = same_key v.owner owner v.name name in_owner named

  pub value_put : HasNoDoubles p → OwnerStep p q (Some c) owner × (vars_in q ≡ map.insert (vars_in p) (key_in owner name) value)
  value_put alone =
      let step = turns_step p q c c owner xs xs id (Some now) h value_turns value_sole in (
        step,
        got_set p q id now (key_in owner name) (step.alone alone) (ap (option_map variable_of) up.changed) (λ i other. updated_variable p q id (Some (record v { value = value })) i up other)
            (λ g e. ap (λ (f : Variable). key_in f.owner f.name) (some_same g before (sym e ∙ was_there)) ∙ value_at) value_at,
      )

-- ---- a new variable

pub turned_from : (p r q : VariablePool) (d : Chain) (owner : Owner) (xs ys : List ℕ) (id : ℕ) (o : Option Variable) → SameValues p r → ChangesSlot r q d owner xs ys id o → ChangesSlot p q d owner xs ys id o
turned_from p r q d owner xs ys id o same t = record {
  changed = t.changed;
  same = λ i other. t.same i other ∙ ap (option_map variable_of) (same i);
  lies = t.lies;
  apart = λ e zs apart off lies. t.apart e zs apart off (lies_same variable_links p r e zs lies same);
  down = t.down;
  up = t.up;
  was = λ f e. t.was f (ap (option_map variable_of) (same id) ∙ e);
  here = t.here;
}

pub set_live : (p : VariablePool) (id : ℕ) (v : StoredVariable) → get p id ≡ Some v → IsLive p id
set_live p id v e = subst IsSome (sym e) refl

pub put_off : (p : VariablePool) (c : Chain) (xs : List ℕ) (id : ℕ) → LiesIn variable_links p c xs → get p id ≡ None → IsIn id xs → ⊥
put_off p c xs id lies free = free_off variable_links p c xs id lies free

pub put_lies : (p r : VariablePool) (c : Chain) (xs : List ℕ) (id : ℕ) (v : StoredVariable) → LiesIn variable_links p c xs → get p id ≡ None → Updates p r id (Some v) → LiesIn variable_links r c xs
put_lies p r c xs id v lies free up =
    lies_updated variable_links p r c xs id (Some v) lies (put_off p c xs id lies free) up

pub put_turns : (p r q : VariablePool) (c d : Chain) (xs : List ℕ) (id : ℕ) (v : StoredVariable) → LiesIn variable_links p c xs → get p id ≡ None → Updates p r id (Some v) → Relinked IsSameVariable r q → LiesIn variable_links q d (xs ++ id ∷ []) → ((zs : List ℕ) (e : Chain) → AreApart zs (id ∷ xs) → LiesIn variable_links r e zs → LiesIn variable_links q e zs) → ChangesSlot p q d v.owner xs (xs ++ id ∷ []) id (Some (variable_of v))
put_turns p r q c d xs id v lies free up values now kept = record {
  changed = relinked_variable r q id values ∙ ap (option_map variable_of) up.changed;
  same = λ i other. relinked_variable r q i values ∙ updated_variable p r id (Some v) i up other;
  lies = now;
  apart = λ e zs apart off there. kept zs e (apart_from zs id xs apart off) (lies_updated variable_links p r e zs id (Some v) there off up);
  down = λ i other there. pushed_less xs id i other there;
  up = λ i other there. in_left xs (id ∷ []) i there;
  was = λ f e. absurd (none_some f (sym (ap (option_map variable_of) free) ∙ e));
  here = λ f e. (in_right xs (id ∷ []) id (inl refl), sym (ap (λ (g : Variable). g.owner) (some_same (variable_of v) f e)));
}

pub new_put : (p q : VariablePool) (c d : Chain) (owner : Owner) (xs ys name : List ℕ) (id : ℕ) (value : Value) → Leads p c owner xs → IsFound p xs name None → get p id ≡ None → ChangesSlot p q d owner xs ys id (Some (record { owner = owner; name = name; value = value })) → HasNoDoubles p → OwnerStep p q (Some d) owner × (vars_in q ≡ map.insert (vars_in p) (key_in owner name) value)
new_put p q c d owner xs ys name id value h none free t alone =
    let now : Variable = record { owner = owner; name = name; value = value } in
    let step = turns_step p q c d owner xs ys id (Some now) h t (λ alone f e j g js owners names.
    absurd (none j g (h.all j g js (owners ∙ sym (ap (λ (k : Variable). k.owner) (some_same now f e)))) js (names ∙ sym (ap (λ (k : Variable). k.name) (some_same now f e))))) in (
      step,
      got_set p q id now (key_in owner name) (step.alone alone) t.changed t.same (λ g e. absurd (none_some g (sym (ap (option_map variable_of) free) ∙ e))) refl,
    )

-- ---- a variable less

module _ (p r q : VariablePool) (c d : Chain) (owner : Owner) (xs : List ℕ) (id : ℕ) (a : Around id xs) (h : Leads p c owner xs) (values : Relinked IsSameVariable p r) (up : Updates r q id None) where
  about : LiesIn variable_links p c (a.before ++ id ∷ a.after)
  about = subst (LiesIn variable_links p c) a.is h.lies

  pub drop_turns : LiesIn variable_links r d (a.before ++ a.after) → ((zs : List ℕ) (e : Chain) → AreApart zs (a.before ++ id ∷ a.after) → LiesIn variable_links p e zs → LiesIn variable_links r e zs) → ChangesSlot p q d owner xs (a.before ++ a.after) id None
  drop_turns now kept = record {
    changed = ap (option_map variable_of) up.changed;
    same = λ i other. updated_variable r q id None i up other ∙ relinked_variable p r i values;
    lies = lies_updated variable_links r q d (a.before ++ a.after) id None now (distinct_off a.before id a.after about.distinct) up;
    apart = λ e zs apart off there. lies_updated variable_links r q e zs id None (kept zs e (subst (AreApart zs) a.is apart) there) off up;
    down = λ i other there. subst (IsIn i) (sym a.is) (in_wider a.before id a.after i there);
    up = λ i other there. in_less a.before id a.after i other (subst (IsIn i) a.is there);
    was = λ f e. h.own id f (subst (IsIn id) (sym a.is) (in_right a.before (id ∷ a.after) id (inl refl))) e;
    here = λ f e. absurd (none_some f e);
  }

module _ (p q : VariablePool) (c d : Chain) (owner : Owner) (xs ys : List ℕ) (id : ℕ) (h : Leads p c owner xs) (t : ChangesSlot p q d owner xs ys id None) where
  pub dropped_step : OwnerStep p q (Some d) owner
  dropped_step = turns_step p q c d owner xs ys id None h t (λ alone f e j g js owners names. absurd (none_some f e))

  pub dropped_unset : (name : List ℕ) → IsFound p xs name (Some id) → HasNoDoubles p → OwnerStep p q (Some d) owner × (vars_in q ≡ map.remove (vars_in p) (key_in owner name))
  dropped_unset name found alone = (
    dropped_step,
    got_unset p q id found.1 (key_in owner name) alone (dropped_step.alone alone) t.changed t.same found.2 (same_key found.1.owner owner found.1.name name (h.own id found.1 found.0 found.2) found.3),
  )

  pub dropped_loses : IsIn id xs → LosesOnly p q (λ other. other ≡ owner)
  dropped_loses there i = elim (cases_eq i id) [
    | inl e ↦
        let f = lies_has p c xs id h.lies there in
        inr (ap (variable_at q) e ∙ t.changed, f.0, ap (variable_at p) e ∙ f.1, h.own id f.0 there f.1)
    | inr other ↦ inl (t.same i other)
  ]

-- ---- what was found

pub found_some : (p : VariablePool) (xs name : List ℕ) (o : Option ℕ) (id : ℕ) → IsFound p xs name o → o ≡ Some id → IsFound p xs name (Some id)
found_some p xs name o id found is = subst (IsFound p xs name) is found

pub found_none : (p : VariablePool) (xs name : List ℕ) (o : Option ℕ) → IsFound p xs name o → o ≡ None → IsFound p xs name None
found_none p xs name o found is = subst (IsFound p xs name) is found

pub found_live : (p : VariablePool) (xs name : List ℕ) (id : ℕ) → IsFound p xs name (Some id) → IsLive p id
found_live p xs name id found =
    let v = stored_at (get p id) found.1 found.2 in
    set_live p id v.0 v.1

found_name : (p : VariablePool) (xs name : List ℕ) (id : ℕ) (v : StoredVariable) → IsFound p xs name (Some id) → get p id ≡ Some v → v.name ≡ name
found_name p xs name id v found is =
    ap (λ (f : Variable). f.name) (some_same (variable_of v) found.1 (sym (ap (option_map variable_of) is) ∙ found.2)) ∙ found.3

pub value_got : (p : VariablePool) (c : Chain) (owner : Owner) (xs name : List ℕ) (id : ℕ) (v : StoredVariable) → Leads p c owner xs → IsFound p xs name (Some id) → get p id ≡ Some v → HasUnder p (key_in owner name) (Some v.value)
value_got p c owner xs name id v h found is = (
  id,
  variable_of v,
  ap (option_map variable_of) is,
  same_key v.owner owner v.name name (h.own id (variable_of v) found.0 (ap (option_map variable_of) is)) (found_name p xs name id v found is),
  refl,
)

pub value_none : (p : VariablePool) (c : Chain) (owner : Owner) (xs name : List ℕ) → Leads p c owner xs → IsFound p xs name None → HasUnder p (key_in owner name) None
value_none p c owner xs name h none i f is here =
    none i f (h.all i f is (same_owner f.owner owner f.name name here)) is (same_name f.owner owner f.name name here)

-- another value for the variable that was found
pub found_set : (p q : VariablePool) (c : Chain) (owner : Owner) (xs name : List ℕ) (id : ℕ) (value : Value) → Leads p c owner xs → IsFound p xs name (Some id) → ((v : StoredVariable) → get p id ≡ Some v → Updates p q id (Some (record v { value = value }))) → HasNoDoubles p → OwnerStep p q (Some c) owner × (vars_in q ≡ map.insert (vars_in p) (key_in owner name) value)
found_set p q c owner xs name id value h found put alone =
    let v = stored_at (get p id) found.1 found.2 in
    value_put p q c owner xs name id v.0 value h found.0 v.1 (found_name p xs name id v.0 found v.1) (put v.0 v.1) alone

-- there is none to be unset
pub none_unset : (p : VariablePool) (c : Chain) (owner : Owner) (xs name : List ℕ) → Leads p c owner xs → IsFound p xs name None → HasNoDoubles p → OwnerStep p p (Some c) owner × (vars_in p ≡ map.remove (vars_in p) (key_in owner name))
none_unset p c owner xs name h none alone =
    (same_step p (Some c) owner (xs, h), got_nowhere p (key_in owner name) alone (value_none p c owner xs name h none))

-- ---- all variables of an owner

-- the owner after some of its variables were taken out
pub record Clears (p q : VariablePool) (d : Chain) (owner : Owner) : Type 0 where
  pub step : OwnerStep p q (Some d) owner
  pub loses : LosesOnly p q (λ other. other ≡ owner)

pub clears_begins : (p : VariablePool) (c : Chain) (owner : Owner) (xs : List ℕ) → Leads p c owner xs → Clears p p c owner
clears_begins p c owner xs h = record {
  step = same_step p (Some c) owner (xs, h);
  loses = loses_none p (λ other. other ≡ owner);
}

pub clears_on : (p q r : VariablePool) (d e : Chain) (owner : Owner) (ys : List ℕ) (id : ℕ) (k : Clears p q d owner) → IsIn id k.step.own.0 → ChangesSlot q r e owner k.step.own.0 ys id None → Clears p r e owner
clears_on p q r d e owner ys id k there t = record {
  step = step_on p q r (Some d) (Some e) owner k.step (dropped_step q r d e owner k.step.own.0 ys id k.step.own.1 t);
  loses = loses_on p q r (λ other. other ≡ owner) k.loses (dropped_loses q r d e owner k.step.own.0 ys id k.step.own.1 t there);
}

none_first : (xs : List ℕ) → None ≡ first_or xs None → xs ≡ []
none_first [] e = refl
none_first (x ∷ xs) e = absurd (cc)

pub cleared_none : (p q : VariablePool) (d : Chain) (owner : Owner) (k : Clears p q d owner) → None ≡ first_or k.step.own.0 None → HasNone q owner
cleared_none p q d owner k e i f is this =
    let none = none_first k.step.own.0 e in
    let there : IsIn i [] = subst (IsIn i) none (k.step.own.1.all i f is this) in
    there
