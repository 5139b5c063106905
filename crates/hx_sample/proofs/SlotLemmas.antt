-- Variables in slots, and the map that they are seen as.
use Rattle.std.proofs.Common.{◌≡◌, ◌⊎◌, inl, inr, ℕ, zero, suc, Bool, true, false, cond, List, [], ◌∷◌, Some, None, refl, ap, sym, subst, ◌∙◌}
use Rattle.std.proofs.lemmas.Bool.{cases_eq}
use Rattle.std.specs.Prelude.{Option, slice_index_or}
use Rattle.std.specs.declared.cmp.Ordering.{Ordering}
use Rattle.std.specs.declared.cmp.Ordering.TheVariants.{Less, Equal, Greater}
use Rattle.std.specs.Cmp.{tied_itself}
use Rattle.std.specs.FinMap as map
use Rattle.std.specs.FinMap.{find, get-from_entries, same_map}
use Rattle.std.specs.Option.{option_map}
use Rattle.std.specs.Ordering.{is_eq}
use Rattle.hx_text.specs.declared.names.Scope.{Scope}
use Rattle.hx_text.specs.declared.names.Scope.TheVariants.{Proc, Sess, Txn, Req, Res}
use Rattle.hx_sample.specs.declared.sample.Value.{Value}
use Rattle.hx_sample.specs.declared.stored_variable.Owner.{Owner}
use Rattle.hx_sample.specs.declared.stored_variable.Owner.TheVariants.{Process, Session, Transaction, Request, Response}
use Rattle.hx_sample.specs.declared.stored_variable.StoredVariable.{StoredVariable}
use Rattle.hx_sample.specs.Slots.{HasNoDoubles, Variable, HasUnder, LosesOnly, VariablePool, entries_in, variable_at, variable_of, key_in, vars_in}
use Rattle.hx_sample.specs.Vars.{Scopes, VarKey, key_cmp}
use Rattle.hx_sample.proofs.KeyLemmas.{exact_key, get-kept, key_total}
use Rattle.hx_sample.proofs.MapLemmas.{inserted_apart, inserted_tied, removed_apart, removed_tied, tied_or_apart}

-- ---- keys

owner_from : Option ℕ → Scope → Owner
owner_from (Some conn) scope = Session conn
owner_from None Proc = Process
owner_from None Sess = Process
owner_from None Txn = Transaction
owner_from None Req = Request
owner_from None Res = Response

owner_back : VarKey → Owner
owner_back key = owner_from key.0 key.1.scope

owner_is : (owner : Owner) (name : List ℕ) → owner_back (key_in owner name) ≡ owner
unfolding owner_back owner_from
owner_is Process name = refl
owner_is (Session conn) name = refl
owner_is Transaction name = refl
owner_is Request name = refl
owner_is Response name = refl

name_is : (owner : Owner) (name : List ℕ) → (key_in owner name).1.name ≡ name
name_is Process name = refl
name_is (Session conn) name = refl
name_is Transaction name = refl
name_is Request name = refl
name_is Response name = refl

pub same_owner : (r s : Owner) (m n : List ℕ) → key_in r m ≡ key_in s n → r ≡ s
same_owner r s m n same = sym (owner_is r m) ∙ ap owner_back same ∙ owner_is s n

pub same_name : (r s : Owner) (m n : List ℕ) → key_in r m ≡ key_in s n → m ≡ n
same_name r s m n same = sym (name_is r m) ∙ ap (λ (key : VarKey). key.1.name) same ∙ name_is s n

pub same_key : (r s : Owner) (m n : List ℕ) → r ≡ s → m ≡ n → key_in r m ≡ key_in s n
same_key r s m n owners names = ap (λ owner. key_in owner m) owners ∙ ap (key_in s) names

-- ---- what is got

pub some_same : {A : Type 0} (x y : A) → Some x ≡ Some y → x ≡ y
some_same x y e = cc

pub none_some : {A : Type 0} (x : A) → ◌≡◌ {A = Option A} None (Some x) → ⊥
none_some x e = cc

abbrev variable_in : List (Option StoredVariable) → ℕ → Option Variable
variable_in slots i = option_map variable_of (slice_index_or slots i None)

abbrev HasUnderIn : List (Option StoredVariable) → VarKey → Option Value → Type 0
HasUnderIn slots key None = (i : ℕ) (f : Variable) → variable_in slots i ≡ Some f → key_in f.owner f.name ≡ key → ⊥
HasUnderIn slots key (Some value) =
    (i : ℕ) × (f : Variable) × (variable_in slots i ≡ Some f) × (key_in f.owner f.name ≡ key) × (f.value ≡ value)

none_free : (slots : List (Option StoredVariable)) (key : VarKey) → HasUnderIn slots key None → (i : ℕ) (f : Variable) → variable_in (None ∷ slots) i ≡ Some f → key_in f.owner f.name ≡ key → ⊥
none_free slots key h zero f is same = none_some f is
none_free slots key h (suc i) f is same = h i f is same

got_free : (slots : List (Option StoredVariable)) (key : VarKey) (o : Option Value) → HasUnderIn slots key o → HasUnderIn (None ∷ slots) key o
got_free slots key None h = none_free slots key h
got_free slots key (Some value) h = (suc h.0, h.1, h.2, h.3, h.4)

not_it : (r : Ordering) (v : StoredVariable) (key : VarKey) (f : Variable) → key_cmp key (key_in v.owner v.name) ≡ r → ¬ (r ≡ Equal) → Some (variable_of v) ≡ Some f → key_in f.owner f.name ≡ key → ⊥
not_it r v key f is apart has same =
    let it : variable_of v ≡ f = some_same (variable_of v) f has in
    let here : key_in v.owner v.name ≡ key = ap (λ (g : Variable). key_in g.owner g.name) it ∙ same in
    apart (sym is ∙ ap (key_cmp key) here ∙ tied_itself key_total key)

none_past : (slots : List (Option StoredVariable)) (v : StoredVariable) (key : VarKey) (r : Ordering) → key_cmp key (key_in v.owner v.name) ≡ r → ¬ (r ≡ Equal) → HasUnderIn slots key None → (i : ℕ) (f : Variable) → variable_in (Some v ∷ slots) i ≡ Some f → key_in f.owner f.name ≡ key → ⊥
none_past slots v key r is apart h zero f has same = not_it r v key f is apart has same
none_past slots v key r is apart h (suc i) f has same = h i f has same

got_past : (slots : List (Option StoredVariable)) (v : StoredVariable) (key : VarKey) (r : Ordering) (o : Option Value) → key_cmp key (key_in v.owner v.name) ≡ r → ¬ (r ≡ Equal) → HasUnderIn slots key o → HasUnderIn (Some v ∷ slots) key o
got_past slots v key r None is apart h = none_past slots v key r is apart h
got_past slots v key r (Some value) is apart h = (suc h.0, h.1, h.2, h.3, h.4)

got_live : (slots : List (Option StoredVariable)) (v : StoredVariable) (key : VarKey) (r : Ordering) (o : Option Value) → key_cmp key (key_in v.owner v.name) ≡ r → HasUnderIn slots key o → HasUnderIn (Some v ∷ slots) key (cond (is_eq r) (Some v.value) o)
got_live slots v key Equal o is h = (0, variable_of v, refl, sym (exact_key key (key_in v.owner v.name) is), refl)
got_live slots v key Less o is h = got_past slots v key Less o is (λ (e : Less ≡ Equal). cc) h
got_live slots v key Greater o is h = got_past slots v key Greater o is (λ (e : Greater ≡ Equal). cc) h

got_in : (slots : List (Option StoredVariable)) (key : VarKey) → HasUnderIn slots key (find key_cmp key (entries_in slots))
got_in [] key = λ i f has same. none_some f has
got_in (None ∷ slots) key = got_free slots key (find key_cmp key (entries_in slots)) (got_in slots key)
got_in (Some v ∷ slots) key =
    got_live slots v key (key_cmp key (key_in v.owner v.name)) (find key_cmp key (entries_in slots)) refl (got_in slots key)

pub got : (p : VariablePool) (key : VarKey) → HasUnder p key (map.get (vars_in p) key)
got p key = subst (HasUnder p key) (sym (get-from_entries key_total (entries_in p.slots) key)) (all p key (find key_cmp key (entries_in p.slots)) (got_in p.slots key))
  where
    all : (p : VariablePool) (key : VarKey) (o : Option Value) → HasUnderIn p.slots key o → HasUnder p key o
    all p key None h = h
    all p key (Some value) h = h

pub got_one : (p : VariablePool) (key : VarKey) (a b : Option Value) → HasNoDoubles p → HasUnder p key a → HasUnder p key b → a ≡ b
got_one p key None None alone h k = refl
got_one p key None (Some y) alone h k = absurd (h k.0 k.1 k.2 k.3)
got_one p key (Some x) None alone h k = absurd (k h.0 h.1 h.2 h.3)
got_one p key (Some x) (Some y) alone h k =
    let keys = h.3 ∙ sym k.3 in
    let here : h.0 ≡ k.0 = alone h.0 k.0 h.1 k.1 h.2 k.2 (same_owner h.1.owner k.1.owner h.1.name k.1.name keys) (same_name h.1.owner k.1.owner h.1.name k.1.name keys) in
    let same : h.1 ≡ k.1 = some_same h.1 k.1 (sym h.2 ∙ ap (variable_at p) here ∙ k.2) in
    ap Some (sym h.4 ∙ ap (λ (f : Variable). f.value) same ∙ k.4)

-- the slots are seen as variables of which each slot has what is got
pub seen_as : (p : VariablePool) (vars : Scopes) → HasNoDoubles p → ((key : VarKey) → HasUnder p key (map.get vars key)) → vars_in p ≡ vars
seen_as p vars alone has =
    same_map key_total exact_key _ _ (λ key. got_one p key (map.get (vars_in p) key) (map.get vars key) alone (got p key) (has key))

-- ---- one slot changes

-- of another key as much is got as before
got_others : (p q : VariablePool) (id : ℕ) (has : Option Variable) (at key : VarKey) (o : Option Value) → variable_at q id ≡ has → ((i : ℕ) → (i ≡ id → ⊥) → variable_at q i ≡ variable_at p i) → ((f : Variable) → variable_at p id ≡ Some f → key_in f.owner f.name ≡ at) → ((f : Variable) → has ≡ Some f → key_in f.owner f.name ≡ at) → ¬ (key ≡ at) → HasUnder p key o → HasUnder q key o
got_others p q id has at key None changed same was here apart h = λ i f is this.
    elim (cases_eq i id) [
      | inl e ↦ apart (sym this ∙ here f (sym changed ∙ ap (variable_at q) (sym e) ∙ is))
      | inr other ↦ h i f (sym (same i other) ∙ is) this
    ]
got_others p q id has at key (Some value) changed same was here apart h =
    (h.0, h.1, same h.0 (λ e. apart (sym h.3 ∙ was h.1 (ap (variable_at p) (sym e) ∙ h.2))) ∙ h.2, h.3, h.4)

pub got_set : (p q : VariablePool) (id : ℕ) (f : Variable) (at : VarKey) → HasNoDoubles q → variable_at q id ≡ Some f → ((i : ℕ) → (i ≡ id → ⊥) → variable_at q i ≡ variable_at p i) → ((g : Variable) → variable_at p id ≡ Some g → key_in g.owner g.name ≡ at) → key_in f.owner f.name ≡ at → vars_in q ≡ map.insert (vars_in p) at f.value
got_set p q id f at alone changed same was this =
    seen_as q (map.insert (vars_in p) at f.value) alone (λ key.
    elim (tied_or_apart (key_cmp key at)) [
      | inl tied ↦
          subst (HasUnder q key) (sym (inserted_tied key_total (vars_in p) at f.value key tied)) (id, f, changed, this ∙ sym (exact_key key at tied), refl)
      | inr apart ↦
          subst (HasUnder q key) (sym (inserted_apart key_total (vars_in p) at f.value key apart))
          (got_others p q id (Some f) at key (map.get (vars_in p) key) changed same was (λ g e. ap (λ (h : Variable). key_in h.owner h.name) (sym (some_same f g e)) ∙ this)
          (λ e. apart (ap (λ k. key_cmp k at) e ∙ tied_itself key_total at)) (got p key))
    ])

pub got_unset : (p q : VariablePool) (id : ℕ) (f : Variable) (at : VarKey) → HasNoDoubles p → HasNoDoubles q → variable_at q id ≡ None → ((i : ℕ) → (i ≡ id → ⊥) → variable_at q i ≡ variable_at p i) → variable_at p id ≡ Some f → key_in f.owner f.name ≡ at → vars_in q ≡ map.remove (vars_in p) at
got_unset p q id f at before alone changed same was this =
    seen_as q (map.remove (vars_in p) at) alone (λ key.
    elim (tied_or_apart (key_cmp key at)) [
      | inl tied ↦
          subst (HasUnder q key) (sym (removed_tied key_total (vars_in p) at key tied)) (λ i g is here.
          elim (cases_eq i id) [
            | inl e ↦ none_some g (sym changed ∙ ap (variable_at q) (sym e) ∙ is)
            | inr other ↦
                let keys = here ∙ exact_key key at tied ∙ sym this in
                other (before i id g f (sym (same i other) ∙ is) was (same_owner g.owner f.owner g.name f.name keys) (same_name g.owner f.owner g.name f.name keys))
          ])
      | inr apart ↦
          subst (HasUnder q key) (sym (removed_apart key_total (vars_in p) at key apart))
          (got_others p q id None at key (map.get (vars_in p) key) changed same (λ g e. ap (λ (h : Variable). key_in h.owner h.name) (sym (some_same f g (sym was ∙ e))) ∙ this) (λ g e. absurd (none_some g e))
          (λ e. apart (ap (λ k. key_cmp k at) e ∙ tied_itself key_total at)) (got p key))
    ])

-- what isn't set is unset
pub got_nowhere : (p : VariablePool) (at : VarKey) → HasNoDoubles p → HasUnder p at None → vars_in p ≡ map.remove (vars_in p) at
got_nowhere p at alone none =
    seen_as p (map.remove (vars_in p) at) alone (λ key.
    elim (tied_or_apart (key_cmp key at)) [
      | inl tied ↦
          subst (HasUnder p key) (sym (removed_tied key_total (vars_in p) at key tied)) (λ i f is here. none i f is (here ∙ exact_key key at tied))
      | inr apart ↦ subst (HasUnder p key) (sym (removed_apart key_total (vars_in p) at key apart)) (got p key)
    ])

-- ---- some owners are emptied

kept_or_gone : (p q : VariablePool) (gone : Owner → Type 0) (keep : VarKey → Bool) (key : VarKey) (b : Bool) (o : Option Value) → ((owner : Owner) (name : List ℕ) → gone owner → keep (key_in owner name) ≡ false) → ((owner : Owner) (name : List ℕ) → (gone owner → ⊥) → keep (key_in owner name) ≡ true) → LosesOnly p q gone → ((i : ℕ) (f : Variable) → variable_at q i ≡ Some f → gone f.owner → ⊥) → keep key ≡ b → HasUnder p key o → HasUnder q key (cond b o None)
kept_or_gone p q gone keep key true None ends stays loses left is h = λ i f has here.
    elim (loses i) [
      | inl same ↦ h i f (sym same ∙ has) here
      | inr lost ↦ none_some f (sym lost.0 ∙ has)
    ]
kept_or_gone p q gone keep key true (Some value) ends stays loses left is h =
    elim (loses h.0) [
      | inl same ↦ (h.0, h.1, same ∙ h.2, h.3, h.4)
      | inr lost ↦
          let it : lost.1 ≡ h.1 = some_same lost.1 h.1 (sym lost.2 ∙ h.2) in
          let wrong : false ≡ true = sym (ends lost.1.owner lost.1.name lost.3) ∙ ap (λ (f : Variable). keep (key_in f.owner f.name)) it ∙ ap keep h.3 ∙ is in
          absurd (cc)
    ]
kept_or_gone p q gone keep key false o ends stays loses left is h = λ i f has here.
    let wrong : true ≡ false = sym (stays f.owner f.name (left i f has)) ∙ ap keep here ∙ is in
    absurd (cc)

pub got_kept : (p q : VariablePool) (gone : Owner → Type 0) (keep : VarKey → Bool) → ((owner : Owner) (name : List ℕ) → gone owner → keep (key_in owner name) ≡ false) → ((owner : Owner) (name : List ℕ) → (gone owner → ⊥) → keep (key_in owner name) ≡ true) → HasNoDoubles q → LosesOnly p q gone → ((i : ℕ) (f : Variable) → variable_at q i ≡ Some f → gone f.owner → ⊥) → vars_in q ≡ map.retain_keys (vars_in p) keep
got_kept p q gone keep ends stays alone loses left =
    seen_as q (map.retain_keys (vars_in p) keep) alone (λ key.
    subst (HasUnder q key) (sym (get-kept (vars_in p) keep key))
    (kept_or_gone p q gone keep key (keep key) (map.get (vars_in p) key) ends stays loses left refl (got p key)))

pub loses_more : (p q : VariablePool) (gone more : Owner → Type 0) → ((owner : Owner) → gone owner → more owner) → LosesOnly p q gone → LosesOnly p q more
loses_more p q gone more wider loses i =
    elim (loses i) [
      | inl same ↦ inl same
      | inr lost ↦ inr (lost.0, lost.1, lost.2, wider lost.1.owner lost.3)
    ]

loses_then : (p q r : VariablePool) (gone : Owner → Type 0) (i : ℕ) → (variable_at q i ≡ variable_at p i) ⊎ ((variable_at q i ≡ None) × (f : Variable) × (variable_at p i ≡ Some f) × gone f.owner) → (variable_at r i ≡ variable_at q i) ⊎ ((variable_at r i ≡ None) × (f : Variable) × (variable_at q i ≡ Some f) × gone f.owner) → (variable_at r i ≡ variable_at p i) ⊎ ((variable_at r i ≡ None) × (f : Variable) × (variable_at p i ≡ Some f) × gone f.owner)
loses_then p q r gone i (inl before) (inl same) = inl (same ∙ before)
loses_then p q r gone i (inl before) (inr lost) = inr (lost.0, lost.1, sym before ∙ lost.2, lost.3)
loses_then p q r gone i (inr none) (inl same) = inr (same ∙ none.0, none.1, none.2, none.3)
loses_then p q r gone i (inr none) (inr lost) = absurd (none_some lost.1 (sym none.0 ∙ lost.2))

pub loses_on : (p q r : VariablePool) (gone : Owner → Type 0) → LosesOnly p q gone → LosesOnly q r gone → LosesOnly p r gone
loses_on p q r gone before after i = loses_then p q r gone i (before i) (after i)

pub loses_none : (p : VariablePool) (gone : Owner → Type 0) → LosesOnly p p gone
loses_none p gone i = inl refl
