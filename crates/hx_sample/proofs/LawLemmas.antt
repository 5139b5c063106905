-- What is got of the variables after one of them changed, and after some ended.
use Rattle.std.proofs.Common.{◌≡◌, ℕ, Bool, true, false, cond, not, Some, None, refl, ap, sym, ◌∙◌}
use Rattle.std.proofs.lemmas.Map.Views.{exact_unsigned_eq}
use Rattle.std.specs.Prelude.{Option, if◌then◌else◌, nat_eq}
use Rattle.std.specs.declared.cmp.Ordering.TheVariants.{Equal}
use Rattle.std.specs.Cmp.{nat_eq_equiv, tied_itself}
use Rattle.std.specs.Option.{option_eq}
use Rattle.hx_text.specs.declared.names.VarName.{VarName}
use Rattle.hx_sample.specs.declared.sample.Value.{Value}
use Rattle.hx_sample.specs.Vars.{IsSameVar, Scopes, VarKey, after_request, after_session, ends_with_request, key_cmp, key_of, owner_of, var_of, with_var, without_var}
use Rattle.hx_sample.proofs.KeyLemmas.{exact_key, get-kept, key_total, not_true}
use Rattle.hx_sample.proofs.MapLemmas.{inserted_tied, inserted_apart, removed_tied, removed_apart}

key_tied : (key : VarKey) → key_cmp key key ≡ Equal
key_tied key = tied_itself key_total key

-- the keys of variables that differ don't tie
keys_apart : (conn : ℕ) (name : VarName) (c : ℕ) (n : VarName) → ¬ (IsSameVar conn name c n) → ¬ (key_cmp (key_of c n) (key_of conn name) ≡ Equal)
keys_apart conn name c n differ tied =
    let same = sym (exact_key (key_of c n) (key_of conn name) tied) in
    differ (ap (λ key. key.1.scope) same, ap (λ key. key.1.name) same, ap (λ key. key.0) same)

pub set_here : (vars : Scopes) (conn : ℕ) (name : VarName) (v : Value) → var_of (with_var vars conn name v) conn name ≡ Some v
set_here vars conn name v =
    inserted_tied key_total vars (key_of conn name) v (key_of conn name) (key_tied (key_of conn name))

pub set_elsewhere : (vars : Scopes) (conn : ℕ) (name : VarName) (v : Value) (c : ℕ) (n : VarName) → ¬ (IsSameVar conn name c n) → var_of (with_var vars conn name v) c n ≡ var_of vars c n
set_elsewhere vars conn name v c n differ =
    inserted_apart key_total vars (key_of conn name) v (key_of c n) (keys_apart conn name c n differ)

pub unset_here : (vars : Scopes) (conn : ℕ) (name : VarName) → var_of (without_var vars conn name) conn name ≡ None
unset_here vars conn name =
    removed_tied key_total vars (key_of conn name) (key_of conn name) (key_tied (key_of conn name))

pub unset_elsewhere : (vars : Scopes) (conn : ℕ) (name : VarName) (c : ℕ) (n : VarName) → ¬ (IsSameVar conn name c n) → var_of (without_var vars conn name) c n ≡ var_of vars c n
unset_elsewhere vars conn name c n differ =
    removed_apart key_total vars (key_of conn name) (key_of c n) (keys_apart conn name c n differ)

turned : {X : Type 0} (b : Bool) (x y : X) → cond (not b) x y ≡ cond b y x
turned true x y = refl
turned false x y = refl

pub request_ended : (vars : Scopes) (conn : ℕ) (name : VarName) → var_of (after_request vars) conn name ≡ (if ends_with_request name.scope then None else var_of vars conn name)
request_ended vars conn name =
    get-kept vars (λ key. not (ends_with_request key.1.scope)) (key_of conn name)
    ∙ turned (ends_with_request name.scope) (var_of vars conn name) None

-- what is got after a session ended, by what owns the variable
after : (vars : Scopes) (conn c : ℕ) (n : VarName) (ends : Bool) → option_eq nat_eq (owner_of c n.scope) (Some conn) ≡ ends → var_of (after_session vars conn) c n ≡ cond (not ends) (var_of vars c n) None
after vars conn c n ends is =
    get-kept vars (λ key. not (option_eq nat_eq key.0 (Some conn))) (key_of c n)
    ∙ ap (λ b. cond (not b) (var_of vars c n) None) is

pub session_ended : (vars : Scopes) (conn c : ℕ) (n : VarName) → owner_of c n.scope ≡ Some conn → var_of (after_session vars conn) c n ≡ None
session_ended vars conn c n owns =
    after vars conn c n true (ap (λ o. option_eq nat_eq o (Some conn)) owns ∙ nat_eq_equiv.refl conn)

other_owner : (o : Option ℕ) (conn : ℕ) → ¬ (o ≡ Some conn) → option_eq nat_eq o (Some conn) ≡ false
other_owner None conn other = refl
other_owner (Some c) conn other =
    not_true (nat_eq c conn) (λ e. other (ap Some (exact_unsigned_eq c conn e)))

pub other_session_stays : (vars : Scopes) (conn c : ℕ) (n : VarName) → ¬ (owner_of c n.scope ≡ Some conn) → var_of (after_session vars conn) c n ≡ var_of vars c n
other_session_stays vars conn c n other =
    after vars conn c n false (other_owner (owner_of c n.scope) conn other)
