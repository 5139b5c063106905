-- The order of the keys of variables: it is total, and only equal keys tie.
use Rattle.std.proofs.Common.{◌≡◌, ℕ, Bool, true, false, cond, Some, None, refl, ap, sym}
use Rattle.std.proofs.lemmas.Map.Lookups.{CmpEqualImpliesEq, exact_bytes, exact_unsigned}
use Rattle.std.specs.Prelude.{Option}
use Rattle.std.specs.declared.cmp.Ordering.{Ordering}
use Rattle.std.specs.declared.cmp.Ordering.TheVariants.{Less, Equal, Greater}
use Rattle.std.specs.Cmp.{IsTotalOrder, nat_cmp_total, on_total, then_total}
use Rattle.std.specs.Cmp.Lexicographic.{slice_cmp, options_total}
use Rattle.std.specs.FinMap as map
use Rattle.std.specs.FinMap.{get-retain_keys}
use Rattle.std.specs.Option.{option_cmp}
use Rattle.std.specs.Ordering.{nat_cmp, ordering_then}
use Rattle.hx_text.specs.contracts.names.ScopeOrd.TheImpl.{ghosts as scope_order}
use Rattle.hx_text.specs.contracts.names.VarNameOrd.TheImpl.{ghosts as name_order}
use Rattle.hx_text.specs.contracts.names.VarNameOrd.TheImpl.Laws as name_laws
use Rattle.hx_text.specs.declared.names.Scope.{Scope}
use Rattle.hx_text.specs.declared.names.Scope.TheVariants.{Proc, Sess, Txn, Req, Res}
use Rattle.hx_text.specs.declared.names.VarName.{VarName}
use Rattle.hx_sample.specs.Vars.{Scopes, VarKey, key_cmp}

pub both_tied : (r s : Ordering) → ordering_then r s ≡ Equal → (r ≡ Equal) × (s ≡ Equal)
both_tied Less s h = cc
both_tied Equal s h = (refl, h)
both_tied Greater s h = cc

pub key_total : IsTotalOrder key_cmp
key_total =
    then_total (on_total (λ (key : VarKey). key.0) (options_total nat_cmp_total)) (on_total (λ (key : VarKey). key.1) name_laws.total-law)

exact_scope : (a b : Scope) → scope_order.cmp a b ≡ Equal → a ≡ b
exact_scope Proc Proc e = refl
exact_scope Sess Sess e = refl
exact_scope Txn Txn e = refl
exact_scope Req Req e = refl
exact_scope Res Res e = refl
exact_scope _ _ e = cc

exact_name : (a b : VarName) → name_order.cmp a b ≡ Equal → a ≡ b
exact_name a b tied =
    let both = both_tied (scope_order.cmp a.scope b.scope) (slice_cmp nat_cmp a.name b.name) tied in
    let scopes = exact_scope a.scope b.scope both.0 in
    let names = exact_bytes a.name b.name both.1 in
    λ i. record { scope = scopes i; name = names i }

exact_owner : (a b : Option ℕ) → option_cmp nat_cmp a b ≡ Equal → a ≡ b
exact_owner None None e = refl
exact_owner None (Some d) e = cc
exact_owner (Some c) None e = cc
exact_owner (Some c) (Some d) e = ap Some (exact_unsigned c d e)

pub exact_key : CmpEqualImpliesEq key_cmp
exact_key a b tied =
    let both = both_tied (option_cmp nat_cmp a.0 b.0) (name_order.cmp a.1 b.1) tied in
    let owners = exact_owner a.0 b.0 both.0 in
    let names = exact_name a.1 b.1 both.1 in
    λ i. (owners i, names i)

-- what is got of variables of which some are kept
pub get-kept : (vars : Scopes) (keep : VarKey → Bool) (key : VarKey) → map.get (map.retain_keys vars keep) key ≡ cond (keep key) (map.get vars key) None
get-kept vars keep key =
    get-retain_keys vars keep key (λ x tied. ap keep (sym (exact_key key x tied)))

pub not_true : (b : Bool) → ¬ (b ≡ true) → b ≡ false
not_true true differs = absurd (differs refl)
not_true false differs = refl
