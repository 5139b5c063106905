-- The variables of all owners before and after a call on those of one.
use Rattle.std.proofs.Common.{◌≡◌, ℕ, List, [], Option, Some, None, refl, ap, sym, subst}
use Rattle.std.specs.Prelude.{Result, Ok, Err, OnOk, OnErr}
use Rattle.std.specs.BTreeMap as tree
use Rattle.std.specs.BTreeMap.{BTreeMap}
use Rattle.std.specs.Ordering.{nat_cmp}
use Rattle.hx_pool.specs.declared.links.Links.{Links}
use Rattle.hx_pool.specs.declared.chain.Chain.{Chain}
use Rattle.hx_pool.specs.Pool.{get}
use Rattle.hx_pool.specs.Chain.{LiesAt}
use Rattle.hx_sample.specs.declared.stored_variable.Owner.{Owner}
use Rattle.hx_sample.specs.declared.stored_variable.Owner.TheVariants.{Process, Session, Transaction, Request, Response}
use Rattle.hx_sample.specs.declared.vars.Vars.TheInside.{Inside}
use Rattle.hx_sample.specs.Chains.{chain_of}
use Rattle.hx_sample.specs.Slots.{AreKept, HasChain, HasNoDoubles, Leads, OwnerStep, VariablePool}
use Rattle.hx_sample.proofs.StepLemmas.{kept_step, same_step}
use Rattle.hx_sample.proofs.VarLemmas.{all_alone, empty_owner, no_sessions, none_at_all}

-- ---- no variables

module _ (vars : Inside) (none : (i : ℕ) → get vars.slots i ≡ None) (sessions : vars.sessions.entries ≡ []) (process : (f : ℕ → Option Links) → LiesAt f vars.process []) (transaction : (f : ℕ → Option Links) → LiesAt f vars.transaction []) (request : (f : ℕ → Option Links) → LiesAt f vars.request []) (response : (f : ℕ → Option Links) → LiesAt f vars.response []) where
  new_owners : (owner : Owner) → HasChain vars.slots owner (chain_of vars owner)
  new_owners Process = empty_owner vars.slots vars.process Process process (none_at_all vars.slots none Process)
  new_owners (Session conn) =
      subst (HasChain vars.slots (Session conn)) (sym (no_sessions vars.sessions conn sessions)) (none_at_all vars.slots none (Session conn))
  new_owners Transaction = empty_owner vars.slots vars.transaction Transaction transaction (none_at_all vars.slots none Transaction)
  new_owners Request = empty_owner vars.slots vars.request Request request (none_at_all vars.slots none Request)
  new_owners Response = empty_owner vars.slots vars.response Response response (none_at_all vars.slots none Response)

  pub new_kept : AreKept vars.slots (chain_of vars)
  new_kept = record { owners = new_owners; alone = all_alone vars.slots none }

-- ---- a step of one owner

module _ (vars : Inside) (q : VariablePool) where
  but_process : (new : Chain) (other : Owner) → (other ≡ Process → ⊥) → chain_of (record vars { slots = q; process = new }) other ≡ chain_of vars other
  but_process new Process differ = absurd (differ refl)
  but_process new (Session conn) differ = refl
  but_process new Transaction differ = refl
  but_process new Request differ = refl
  but_process new Response differ = refl

  pub process_step : (new : Chain) → AreKept vars.slots (chain_of vars) → OwnerStep vars.slots q (Some new) Process → AreKept q (chain_of (record vars { slots = q; process = new }))
  process_step new kept step =
      kept_step vars.slots q Process (chain_of vars) (chain_of (record vars { slots = q; process = new })) kept step (but_process new)

  but_session : (new : BTreeMap ℕ Chain) (conn : ℕ) → ((c : ℕ) → (c ≡ conn → ⊥) → tree.get nat_cmp new c ≡ tree.get nat_cmp vars.sessions c) → (other : Owner) → (other ≡ Session conn → ⊥) → chain_of (record vars { slots = q; sessions = new }) other ≡ chain_of vars other
  but_session new conn others Process differ = refl
  but_session new conn others (Session c) differ = others c (λ e. differ (ap Session e))
  but_session new conn others Transaction differ = refl
  but_session new conn others Request differ = refl
  but_session new conn others Response differ = refl

  pub session_step : (new : BTreeMap ℕ Chain) (conn : ℕ) → ((c : ℕ) → (c ≡ conn → ⊥) → tree.get nat_cmp new c ≡ tree.get nat_cmp vars.sessions c) → AreKept vars.slots (chain_of vars) → OwnerStep vars.slots q (tree.get nat_cmp new conn) (Session conn) → AreKept q (chain_of (record vars { slots = q; sessions = new }))
  session_step new conn others kept step =
      kept_step vars.slots q (Session conn) (chain_of vars) (chain_of (record vars { slots = q; sessions = new })) kept step (but_session new conn others)

  but_transaction : (new : Chain) (other : Owner) → (other ≡ Transaction → ⊥) → chain_of (record vars { slots = q; transaction = new }) other ≡ chain_of vars other
  but_transaction new Process differ = refl
  but_transaction new (Session conn) differ = refl
  but_transaction new Transaction differ = absurd (differ refl)
  but_transaction new Request differ = refl
  but_transaction new Response differ = refl

  pub transaction_step : (new : Chain) → AreKept vars.slots (chain_of vars) → OwnerStep vars.slots q (Some new) Transaction → AreKept q (chain_of (record vars { slots = q; transaction = new }))
  transaction_step new kept step =
      kept_step vars.slots q Transaction (chain_of vars) (chain_of (record vars { slots = q; transaction = new })) kept step (but_transaction new)

  but_request : (new : Chain) (other : Owner) → (other ≡ Request → ⊥) → chain_of (record vars { slots = q; request = new }) other ≡ chain_of vars other
  but_request new Process differ = refl
  but_request new (Session conn) differ = refl
  but_request new Transaction differ = refl
  but_request new Request differ = absurd (differ refl)
  but_request new Response differ = refl

  pub request_step : (new : Chain) → AreKept vars.slots (chain_of vars) → OwnerStep vars.slots q (Some new) Request → AreKept q (chain_of (record vars { slots = q; request = new }))
  request_step new kept step =
      kept_step vars.slots q Request (chain_of vars) (chain_of (record vars { slots = q; request = new })) kept step (but_request new)

  but_response : (new : Chain) (other : Owner) → (other ≡ Response → ⊥) → chain_of (record vars { slots = q; response = new }) other ≡ chain_of vars other
  but_response new Process differ = refl
  but_response new (Session conn) differ = refl
  but_response new Transaction differ = refl
  but_response new Request differ = refl
  but_response new Response differ = absurd (differ refl)

  pub response_step : (new : Chain) → AreKept vars.slots (chain_of vars) → OwnerStep vars.slots q (Some new) Response → AreKept q (chain_of (record vars { slots = q; response = new }))
  response_step new kept step =
      kept_step vars.slots q Response (chain_of vars) (chain_of (record vars { slots = q; response = new })) kept step (but_response new)

-- ---- a step that may find no memory

pub set_step : (p q : VariablePool) (owner : Owner) (c d : Chain) (xs : List ℕ) → Leads p c owner xs → HasNoDoubles p → (put : Type 0) {A E : Type 0} (r : Result A E) → OnOk r ((ys : List ℕ) → Leads p c owner ys → HasNoDoubles p → OwnerStep p q (Some d) owner × put) → OnErr r ((q ≡ p) × (d ≡ c)) → OwnerStep p q (Some d) owner
set_step p q owner c d xs h alone put (Ok _) done failed = (done xs h alone).0
set_step p q owner c d xs h alone put (Err _) done failed =
    subst (λ s. OwnerStep p s (Some d) owner) (sym failed.0) (same_step p (Some d) owner (xs, subst (λ e. Leads p e owner xs) (sym failed.1) h))

pub session_set_step : (p q : VariablePool) (owner : Owner) (o : Option Chain) → HasNoDoubles p → (put : Type 0) {A E : Type 0} (r : Result A E) → OnOk r (HasNoDoubles p → OwnerStep p q o owner × put) → OnErr r ((q ≡ p) × HasChain p owner o) → OwnerStep p q o owner
session_set_step p q owner o alone put (Ok _) done failed = (done alone).0
session_set_step p q owner o alone put (Err _) done failed =
    subst (λ s. OwnerStep p s o owner) (sym failed.0) (same_step p o owner failed.1)
