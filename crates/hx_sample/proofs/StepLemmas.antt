-- One owner changes, and what is kept of the others.
use Rattle.std.proofs.Common.{◌≡◌, ◌⊎◌, inl, inr, ℕ, true, false, not, List, [], Option, Some, None, refl, ap, sym, subst, ◌∙◌}
use Rattle.std.proofs.lemmas.Bool.{cases_eq}
use Rattle.std.proofs.lemmas.Map.Views.{exact_unsigned_eq}
use Rattle.std.specs.Prelude.{nat_eq}
use Rattle.std.specs.Cmp.{nat_eq_equiv, tied_itself}
use Rattle.std.specs.Option.{option_eq}
use Rattle.hx_pool.specs.declared.chain.Chain.{Chain}
use Rattle.hx_pool.specs.Chain.{IsIn}
use Rattle.hx_sample.specs.declared.stored_variable.Owner.{Owner}
use Rattle.hx_sample.specs.declared.stored_variable.Owner.TheVariants.{Process, Session, Transaction, Request, Response}
use Rattle.hx_sample.specs.Slots.{HasNoDoubles, AreKept, EndsWithRequest, Variable, HasNone, HasChain, Leads, LosesOnly, OwnerStep, ChangesSlot, VariablePool, variable_at, key_in, vars_in}
use Rattle.hx_sample.specs.Vars.{after_request, after_session, ends_with_request, key_cmp}
use Rattle.hx_sample.proofs.KeyLemmas.{exact_key, key_total, not_true}
use Rattle.hx_sample.proofs.MapLemmas.{tied_or_apart}
use Rattle.hx_sample.proofs.SlotLemmas.{got_kept, loses_more, loses_on, same_owner}
use Rattle.hx_sample.proofs.WalkLemmas.{lies_has}

-- ---- one slot changes

module _ (p q : VariablePool) (c d : Chain) (owner : Owner) (xs ys : List ℕ) (id : ℕ) (has : Option Variable) (h : Leads p c owner xs) (t : ChangesSlot p q d owner xs ys id has) where
  there_now : (i : ℕ) (f : Variable) → i ≡ id → variable_at q i ≡ Some f → has ≡ Some f
  there_now i f e is = sym t.changed ∙ ap (variable_at q) (sym e) ∙ is

  as_before : (i : ℕ) (f : Variable) → (i ≡ id → ⊥) → variable_at q i ≡ Some f → variable_at p i ≡ Some f
  as_before i f other is = sym (t.same i other) ∙ is

  pub turns_own : Leads q d owner ys
  turns_own = record {
    lies = t.lies;
    all = λ i f is this. elim (cases_eq i id) [
      | inl e ↦ subst (λ k. IsIn k ys) (sym e) (t.here f (there_now i f e is)).0
      | inr other ↦ t.up i other (h.all i f (as_before i f other is) this)
    ];
    own = λ i f there is. elim (cases_eq i id) [
      | inl e ↦ (t.here f (there_now i f e is)).1
      | inr other ↦ h.own i f (t.down i other there) (as_before i f other is)
    ];
  }

  -- a slot of another owner isn't the one that changes
  off : (other : Owner) (e : Chain) (zs : List ℕ) → (other ≡ owner → ⊥) → Leads p e other zs → IsIn id zs → ⊥
  off other e zs differ o there =
      let f = lies_has p e zs id o.lies there in
      differ (sym (o.own id f.0 there f.1) ∙ t.was f.0 f.1)

  pub turns_others : (other : Owner) (e : Chain) (zs : List ℕ) → (other ≡ owner → ⊥) → Leads p e other zs → Leads q e other zs
  turns_others other e zs differ o = record {
    lies = t.apart e zs (λ k in_zs in_xs. let f = lies_has p e zs k o.lies in_zs in differ (sym (o.own k f.0 in_zs f.1) ∙ h.own k f.0 in_xs f.1)) (off other e zs differ o) o.lies;
    all = λ i f is this. elim (cases_eq i id) [
      | inl same ↦ absurd (differ (sym this ∙ (t.here f (there_now i f same is)).1))
      | inr away ↦ o.all i f (as_before i f away is) this
    ];
    own = λ i f there is. elim (cases_eq i id) [
      | inl same ↦ absurd (off other e zs differ o (subst (λ k. IsIn k zs) same there))
      | inr away ↦ o.own i f there (as_before i f away is)
    ];
  }

  pub turns_none : (other : Owner) → (other ≡ owner → ⊥) → HasNone p other → HasNone q other
  turns_none other differ none i f is this = elim (cases_eq i id) [
    | inl same ↦ differ (sym this ∙ (t.here f (there_now i f same is)).1)
    | inr away ↦ none i f (as_before i f away is) this
  ]

  pub turns_alone : ((f : Variable) → has ≡ Some f → (j : ℕ) (g : Variable) → variable_at p j ≡ Some g → g.owner ≡ f.owner → g.name ≡ f.name → j ≡ id) → HasNoDoubles p → HasNoDoubles q
  turns_alone sole alone i j f g is js owners names = elim (cases_eq i id) [
    | inl a ↦ elim (cases_eq j id) [
      | inl b ↦ a ∙ sym b
      | inr b ↦ absurd (b (sole f (there_now i f a is) j g (as_before j g b js) (sym owners) (sym names)))
    ]
    | inr a ↦ elim (cases_eq j id) [
      | inl b ↦ absurd (a (sole g (there_now j g b js) i f (as_before i f a is) owners names))
      | inr b ↦ alone i j f g (as_before i f a is) (as_before j g b js) owners names
    ]
  ]

  pub turns_step : (HasNoDoubles p → (f : Variable) → has ≡ Some f → (j : ℕ) (g : Variable) → variable_at p j ≡ Some g → g.owner ≡ f.owner → g.name ≡ f.name → j ≡ id) → OwnerStep p q (Some d) owner
  turns_step sole = record {
    own = (ys, turns_own);
    others = turns_others;
    none = turns_none;
    alone = λ alone. turns_alone (sole alone) alone;
  }

-- ---- steps

pub same_step : (p : VariablePool) (o : Option Chain) (owner : Owner) → HasChain p owner o → OwnerStep p p o owner
same_step p o owner own = record {
  own = own;
  others = λ other c xs differ h. h;
  none = λ other differ h. h;
  alone = λ h. h;
}

pub step_on : (p q r : VariablePool) (d o : Option Chain) (owner : Owner) → OwnerStep p q d owner → OwnerStep q r o owner → OwnerStep p r o owner
step_on p q r d o owner before after = record {
  own = after.own;
  others = λ other c xs differ h. after.others other c xs differ (before.others other c xs differ h);
  none = λ other differ h. after.none other differ (before.none other differ h);
  alone = λ h. after.alone (before.alone h);
}

same_or_other : (r s : Owner) → (r ≡ s) ⊎ (r ≡ s → ⊥)
same_or_other r s =
    elim (tied_or_apart (key_cmp (key_in r []) (key_in s []))) as (λ _. (r ≡ s) ⊎ (r ≡ s → ⊥)) [
      | inl tied ↦ inl (same_owner r s [] [] (exact_key (key_in r []) (key_in s []) tied))
      | inr apart ↦ inr (λ e. apart (ap (λ owner. key_cmp (key_in owner []) (key_in s [])) e ∙ tied_itself key_total (key_in s [])))
    ]

moved : (p q : VariablePool) (owner other : Owner) (d o : Option Chain) → OwnerStep p q d owner → (other ≡ owner → ⊥) → HasChain p other o → HasChain q other o
moved p q owner other d None step differ h = step.none other differ h
moved p q owner other d (Some c) step differ h = (h.0, step.others other c h.0 differ h.1)

-- all chains after one owner changed
pub kept_step : (p q : VariablePool) (owner : Owner) (chains more : Owner → Option Chain) → AreKept p chains → OwnerStep p q (more owner) owner → ((other : Owner) → (other ≡ owner → ⊥) → more other ≡ chains other) → AreKept q more
kept_step p q owner chains more kept step same = record {
  owners = λ other. elim (same_or_other other owner) [
    | inl e ↦ subst (λ r. HasChain q r (more r)) (sym e) step.own
    | inr differ ↦ subst (HasChain q other) (sym (same other differ)) (moved p q owner other (more owner) (chains other) step differ (kept.owners other))
  ];
  alone = step.alone kept.alone;
}

-- ---- ends

no_more : (p : VariablePool) → HasNone p Transaction → HasNone p Request → HasNone p Response → (owner : Owner) (i : ℕ) (f : Variable) → variable_at p i ≡ Some f → f.owner ≡ owner → EndsWithRequest owner → ⊥
no_more p t q s Process i f is this ends = ends
no_more p t q s (Session conn) i f is this ends = ends
no_more p t q s Transaction i f is this ends = t i f is this
no_more p t q s Request i f is this ends = q i f is this
no_more p t q s Response i f is this ends = s i f is this

request_ends : (owner : Owner) (name : List ℕ) → EndsWithRequest owner → not (ends_with_request (key_in owner name).1.scope) ≡ false
request_ends Process name ends = absurd ends
request_ends (Session conn) name ends = absurd ends
request_ends Transaction name ends = refl
request_ends Request name ends = refl
request_ends Response name ends = refl

request_stays : (owner : Owner) (name : List ℕ) → (EndsWithRequest owner → ⊥) → not (ends_with_request (key_in owner name).1.scope) ≡ true
request_stays Process name stays = refl
request_stays (Session conn) name stays = refl
request_stays Transaction name stays = absurd (stays tt)
request_stays Request name stays = absurd (stays tt)
request_stays Response name stays = absurd (stays tt)

pub request_ended : (p q r s : VariablePool) (c d e : Chain) → HasNoDoubles p → OwnerStep p q (Some c) Transaction → OwnerStep q r (Some d) Request → OwnerStep r s (Some e) Response → HasNone q Transaction → HasNone r Request → HasNone s Response → LosesOnly p q (λ owner. owner ≡ Transaction) → LosesOnly q r (λ owner. owner ≡ Request) → LosesOnly r s (λ owner. owner ≡ Response) → vars_in s ≡ after_request (vars_in p)
request_ended p q r s c d e alone first second third no_transaction no_request no_response one two three =
    got_kept p s EndsWithRequest (λ key. not (ends_with_request key.1.scope)) request_ends request_stays
    (third.alone (second.alone (first.alone alone)))
    (loses_on p q s EndsWithRequest (loses_more p q (λ owner. owner ≡ Transaction) EndsWithRequest (λ owner is. subst EndsWithRequest (sym is) tt) one)
    (loses_on q r s EndsWithRequest (loses_more q r (λ owner. owner ≡ Request) EndsWithRequest (λ owner is. subst EndsWithRequest (sym is) tt) two)
    (loses_more r s (λ owner. owner ≡ Response) EndsWithRequest (λ owner is. subst EndsWithRequest (sym is) tt) three)))
    (λ i f is ends. no_more s (third.none Transaction (λ (wrong : Transaction ≡ Response). cc) (second.none Transaction (λ (wrong : Transaction ≡ Request). cc) no_transaction)) (third.none Request (λ (wrong : Request ≡ Response). cc) no_request) no_response f.owner i f is refl ends)

session_stays : (conn : ℕ) (owner : Owner) (name : List ℕ) → (owner ≡ Session conn → ⊥) → not (option_eq nat_eq (key_in owner name).0 (Some conn)) ≡ true
session_stays conn Process name stays = refl
session_stays conn (Session c) name stays =
    ap not (not_true (nat_eq c conn) (λ e. stays (ap Session (exact_unsigned_eq c conn e))))
session_stays conn Transaction name stays = refl
session_stays conn Request name stays = refl
session_stays conn Response name stays = refl

pub session_ended : (p q : VariablePool) (o : Option Chain) (conn : ℕ) → HasNoDoubles p → OwnerStep p q o (Session conn) → HasNone q (Session conn) → LosesOnly p q (λ owner. owner ≡ Session conn) → vars_in q ≡ after_session (vars_in p) conn
session_ended p q o conn alone step none loses =
    got_kept p q (λ owner. owner ≡ Session conn) (λ key. not (option_eq nat_eq key.0 (Some conn)))
    (λ owner name is. ap (λ r. not (option_eq nat_eq (key_in r name).0 (Some conn))) is ∙ ap not (nat_eq_equiv.refl conn))
    (session_stays conn) (step.alone alone) loses (λ i f is this. none i f is this)
