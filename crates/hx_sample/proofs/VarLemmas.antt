-- The variables of all owners, before and after a call.
use Rattle.std.proofs.Common.{◌≡◌, ℕ, false, cond, List, [], Option, Some, None, IsSome, refl, ap, sym, subst, ◌∙◌, true≢false}
use Rattle.std.proofs.lemmas.Map.Lookups.{exact_unsigned}
use Rattle.std.specs.Prelude.{is_some}
use Rattle.std.specs.BTreeMap as tree
use Rattle.std.specs.BTreeMap.{BTreeMap, WritesThrough, is_at}
use Rattle.std.specs.Cmp.{nat_cmp_total, tied_itself}
use Rattle.std.specs.FinMap as map
use Rattle.std.specs.FinMap.{get-empty}
use Rattle.std.specs.Map.{lookup}
use Rattle.std.specs.Option.{option_map}
use Rattle.std.specs.Ordering.{nat_cmp}
use Rattle.hx_pool.specs.declared.links.Links.{Links}
use Rattle.hx_pool.specs.declared.chain.Chain.{Chain}
use Rattle.hx_pool.specs.Pool.{get}
use Rattle.hx_pool.specs.Chain.{LiesAt, links_at}
use Rattle.hx_text.specs.declared.names.Scope.{Scope}
use Rattle.hx_text.specs.declared.names.Scope.TheVariants.{Proc, Sess, Txn, Req, Res}
use Rattle.hx_text.specs.declared.names.VarName.{VarName}
use Rattle.hx_sample.specs.declared.sample.Value.{Value}
use Rattle.hx_sample.specs.declared.stored_variable.Owner.{Owner}
use Rattle.hx_sample.specs.declared.stored_variable.Owner.TheVariants.{Process, Session, Transaction, Request, Response}
use Rattle.hx_sample.specs.Slots.{HasNoDoubles, AreKept, HasNone, HasUnder, HasChain, Leads, LosesOnly, OwnerStep, VariablePool, variable_at, variable_of, key_in, variable_links, vars_in}
use Rattle.hx_sample.specs.Vars.{Scopes, after_session, key_cmp, key_of, var_of, with_var, without_var}
use Rattle.hx_sample.proofs.MapLemmas.{chosen_where_tied, passed_where_apart}
use Rattle.hx_sample.proofs.SlotLemmas.{got, got_nowhere, got_one, none_some, same_owner, seen_as}
use Rattle.hx_sample.proofs.StepLemmas.{same_step, session_ended}

-- ---- no variables

no_variable : (p : VariablePool) → ((i : ℕ) → get p i ≡ None) → (i : ℕ) → variable_at p i ≡ None
no_variable p none i = ap (option_map variable_of) (none i)

pub empty_owner : (p : VariablePool) (c : Chain) (owner : Owner) → ((f : ℕ → Option Links) → LiesAt f c []) → HasNone p owner → HasChain p owner (Some c)
empty_owner p c owner lies none = (
  [],
  record {
    lies = lies (links_at variable_links p);
    all = λ i f is this. absurd (none i f is this);
    own = λ i f there is. absurd there;
  },
)

pub none_at_all : (p : VariablePool) → ((i : ℕ) → get p i ≡ None) → (owner : Owner) → HasNone p owner
none_at_all p none owner i f is this = none_some f (sym (no_variable p none i) ∙ is)

pub no_sessions : (sessions : BTreeMap ℕ Chain) (q : ℕ) → sessions.entries ≡ [] → tree.get nat_cmp sessions q ≡ None
no_sessions sessions q none = ap (lookup (is_at (nat_cmp q))) none

pub all_alone : (p : VariablePool) → ((i : ℕ) → get p i ≡ None) → HasNoDoubles p
all_alone p none i j f g is js owners names = absurd (none_some f (sym (no_variable p none i) ∙ is))

pub none_seen : (p : VariablePool) → ((i : ℕ) → get p i ≡ None) → vars_in p ≡ map.empty
none_seen p none =
    seen_as p map.empty (all_alone p none) (λ key.
    subst (HasUnder p key) (sym (get-empty key_cmp key)) (λ i f is here. none_some f (sym (no_variable p none i) ∙ is)))

-- ---- one variable

-- a scope's owner, and the key of a name in it
abbrev pub owner_in : ℕ → Scope → Owner
owner_in conn Proc = Process
owner_in conn Sess = Session conn
owner_in conn Txn = Transaction
owner_in conn Req = Request
owner_in conn Res = Response

named : (conn : ℕ) (scope : Scope) (name : List ℕ) → key_in (owner_in conn scope) name ≡ key_of conn (record { scope = scope; name = name })
named conn Proc name = refl
named conn Sess name = refl
named conn Txn name = refl
named conn Req name = refl
named conn Res name = refl

pub key_is : (conn : ℕ) (scope : Scope) (name : VarName) → name.scope ≡ scope → key_in (owner_in conn scope) name.name ≡ key_of conn name
key_is conn scope name is =
    named conn scope name.name ∙ ap (λ s. key_of conn (record { scope = s; name = name.name })) (sym is)

-- what is got is what the variables have
pub got_seen : (p : VariablePool) (chains : Owner → Option Chain) (vars : Scopes) (conn : ℕ) (scope : Scope) (name : VarName) (o : Option Value) → vars_in p ≡ vars → AreKept p chains → name.scope ≡ scope → HasUnder p (key_in (owner_in conn scope) name.name) o → o ≡ var_of vars conn name
got_seen p chains vars conn scope name o seen kept is has =
    got_one p (key_in (owner_in conn scope) name.name) o (map.get (vars_in p) (key_in (owner_in conn scope) name.name)) kept.alone has (got p (key_in (owner_in conn scope) name.name))
    ∙ ap (λ key. map.get (vars_in p) key) (key_is conn scope name is)
    ∙ ap (λ m. map.get m (key_of conn name)) seen

pub set_seen : (p q : VariablePool) (vars : Scopes) (conn : ℕ) (scope : Scope) (name : VarName) (value : Value) → vars_in p ≡ vars → name.scope ≡ scope → vars_in q ≡ map.insert (vars_in p) (key_in (owner_in conn scope) name.name) value → vars_in q ≡ with_var vars conn name value
set_seen p q vars conn scope name value seen is put =
    put ∙ ap (λ key. map.insert (vars_in p) key value) (key_is conn scope name is) ∙ ap (λ m. map.insert m (key_of conn name) value) seen

pub unset_seen : (p q : VariablePool) (vars : Scopes) (conn : ℕ) (scope : Scope) (name : VarName) → vars_in p ≡ vars → name.scope ≡ scope → vars_in q ≡ map.remove (vars_in p) (key_in (owner_in conn scope) name.name) → vars_in q ≡ without_var vars conn name
unset_seen p q vars conn scope name seen is gone =
    gone ∙ ap (λ key. map.remove (vars_in p) key) (key_is conn scope name is) ∙ ap (λ m. map.remove m (key_of conn name)) seen

-- ---- sessions

none_of : (p : VariablePool) (owner : Owner) (o : Option Chain) → false ≡ is_some o → HasChain p owner o → HasNone p owner
none_of p owner None absent h = h
none_of p owner (Some c) absent h = absurd (true≢false (sym absent))

-- a connection gets an empty chain
pub session_added : (p : VariablePool) (before after : Option Chain) (conn : ℕ) (c : Chain) → ((f : ℕ → Option Links) → LiesAt f c []) → false ≡ is_some before → after ≡ Some c → HasChain p (Session conn) before → HasChain p (Session conn) after
session_added p before after conn c lies absent there h =
    subst (HasChain p (Session conn)) (sym there) (empty_owner p c (Session conn) lies (none_of p (Session conn) before absent h))

-- the chain of a connection
pub session_leads : (p : VariablePool) (conn : ℕ) (o : Option Chain) (c : Chain) → HasChain p (Session conn) o → o ≡ Some c → (xs : List ℕ) × Leads p c (Session conn) xs
session_leads p conn o c h is =
    let there : HasChain p (Session conn) (Some c) = subst (HasChain p (Session conn)) is h in
    there

pub session_none : (p : VariablePool) (conn : ℕ) (o : Option Chain) → HasChain p (Session conn) o → o ≡ None → HasNone p (Session conn)
session_none p conn o h is =
    let there : HasChain p (Session conn) None = subst (HasChain p (Session conn)) is h in
    there

-- a connection without a chain has no variable
pub session_nowhere : (p : VariablePool) (conn : ℕ) (name : List ℕ) → HasNone p (Session conn) → HasUnder p (key_in (Session conn) name) None
session_nowhere p conn name none i f is here =
    none i f is (same_owner f.owner (Session conn) f.name name here)

pub session_unset : (p : VariablePool) (conn : ℕ) (name : List ℕ) → HasNone p (Session conn) → HasNoDoubles p → OwnerStep p p None (Session conn) × (vars_in p ≡ map.remove (vars_in p) (key_in (Session conn) name))
session_unset p conn name none alone =
    (same_step p None (Session conn) none, got_nowhere p (key_in (Session conn) name) alone (session_nowhere p conn name none))

-- what was written over the chain of a connection
pub chain_written : (m n : BTreeMap ℕ Chain) (conn : ℕ) (old w : Chain) → Some old ≡ tree.get nat_cmp m conn → WritesThrough nat_cmp (nat_cmp conn) m w n → tree.get nat_cmp n conn ≡ Some w
chain_written m n conn old w there written =
    (written.3 (subst IsSome there refl)).0 conn
    ∙ chosen_where_tied (nat_cmp conn conn) (Some w) (tree.get nat_cmp m conn) (tied_itself nat_cmp_total conn)

pub chain_else : (m n : BTreeMap ℕ Chain) (conn : ℕ) (old w : Chain) → Some old ≡ tree.get nat_cmp m conn → WritesThrough nat_cmp (nat_cmp conn) m w n → (q : ℕ) → (q ≡ conn → ⊥) → tree.get nat_cmp n q ≡ tree.get nat_cmp m q
chain_else m n conn old w there written q other =
    (written.3 (subst IsSome there refl)).0 q
    ∙ passed_where_apart (nat_cmp conn q) (Some w) (tree.get nat_cmp m q) (λ tied. other (sym (exact_unsigned conn q tied)))

-- a map that has this at a connection, and else what it had
pub chain_at : (m n : BTreeMap ℕ Chain) (conn : ℕ) (o : Option Chain) → ((q : ℕ) → tree.get nat_cmp n q ≡ cond (is_at (nat_cmp conn) q) o (tree.get nat_cmp m q)) → tree.get nat_cmp n conn ≡ o
chain_at m n conn o updated =
    updated conn ∙ chosen_where_tied (nat_cmp conn conn) o (tree.get nat_cmp m conn) (tied_itself nat_cmp_total conn)

pub chain_away : (m n : BTreeMap ℕ Chain) (conn : ℕ) (o : Option Chain) → ((q : ℕ) → tree.get nat_cmp n q ≡ cond (is_at (nat_cmp conn) q) o (tree.get nat_cmp m q)) → (q : ℕ) → (q ≡ conn → ⊥) → tree.get nat_cmp n q ≡ tree.get nat_cmp m q
chain_away m n conn o updated q other =
    updated q ∙ passed_where_apart (nat_cmp conn q) o (tree.get nat_cmp m q) (λ tied. other (sym (exact_unsigned conn q tied)))

-- the chain of a connection is cleared, and gone
pub session_cleared : (p q : VariablePool) (conn : ℕ) (d : Chain) (o : Option Chain) → o ≡ None → OwnerStep p q (Some d) (Session conn) → HasNone q (Session conn) → OwnerStep p q o (Session conn)
session_cleared p q conn d o gone step free = record {
  own = subst (HasChain q (Session conn)) (sym gone) free;
  others = step.others;
  none = step.none;
  alone = step.alone;
}

-- ---- ends

pub session_seen : (p q : VariablePool) (vars : Scopes) (conn : ℕ) (o : Option Chain) → vars_in p ≡ vars → HasNoDoubles p → OwnerStep p q o (Session conn) → o ≡ None → LosesOnly p q (λ owner. owner ≡ Session conn) → vars_in q ≡ after_session vars conn
session_seen p q vars conn o seen alone step gone loses =
    let none : HasChain q (Session conn) None = subst (HasChain q (Session conn)) gone step.own in
    session_ended p q o conn alone step none loses ∙ ap (λ m. after_session m conn) seen
