-- The variables, as one finite map, which has the value of each variable that is set. So two states
-- are equal where each variable has the same value in both (HAProxy configuration manual 2.4,
-- section 7.3.2, `var`).
use Rattle.std.specs.Prelude.{◌≡◌, ℕ, Bool, true, false, not, Option, Some, None, nat_eq}
use Rattle.std.specs.Coded.{Coded, coded_ℕ, coded_option, coded×}
use Rattle.std.specs.FinMap as map
use Rattle.std.specs.Option.{option_cmp, option_eq}
use Rattle.std.specs.Ordering.{nat_cmp, on, then_cmp}
use Rattle.std.specs.declared.cmp.Ordering.{Ordering}
use Rattle.hx_text.specs.contracts.names.VarName as name_contracts
use Rattle.hx_text.specs.contracts.names.VarNameOrd.TheImpl.{ghosts as name_order}
use Rattle.hx_text.specs.declared.names.Scope.{Scope}
use Rattle.hx_text.specs.declared.names.Scope.TheVariants.{Proc, Sess}
use Rattle.hx_text.specs.declared.names.VarName.{VarName}
use Rattle.hx_sample.specs.declared.sample.Value.{Value}
use Rattle.hx_sample.specs.contracts.sample.Value as value_contracts

-- what a variable is kept under: the connection that it belongs to, if any, and its name
abbrev pub VarKey : Type 0
VarKey = Option ℕ × VarName

-- by the connection, none first, and then by the name
abbrev pub key_cmp : VarKey → VarKey → Ordering
key_cmp = then_cmp (on (λ key. key.0) (option_cmp nat_cmp)) (on (λ key. key.1) name_order.cmp)

-- the values of the variables of every scope
abbrev pub Scopes : Type 0
Scopes = map.FinMap key_cmp Value

-- no variable is set
abbrev pub no_vars : Scopes
no_vars = map.empty

-- what a variable belongs to: a session's variable to its connection, any other to none
abbrev pub owner_of : ℕ → Scope → Option ℕ
owner_of conn Sess = Some conn
owner_of conn _ = None

-- what a variable is kept under, for a connection
abbrev pub key_of : ℕ → VarName → VarKey
key_of conn name = (owner_of conn name.scope, name)

-- the value of a variable, for a connection
abbrev pub var_of : Scopes → ℕ → VarName → Option Value
var_of vars conn name = map.get vars (key_of conn name)

-- a variable is set, for a connection, and nothing else changes
abbrev pub with_var : Scopes → ℕ → VarName → Value → Scopes
with_var vars conn name value = map.insert vars (key_of conn name) value

-- a variable is unset, for a connection, and nothing else changes
abbrev pub without_var : Scopes → ℕ → VarName → Scopes
without_var vars conn name = map.remove vars (key_of conn name)

-- whether the variables of a scope end with the request: those of the transaction, the request and
-- the response do
abbrev pub ends_with_request : Scope → Bool
ends_with_request Proc = false
ends_with_request Sess = false
ends_with_request _ = true

-- a request ends: the variables that end with it are unset, and all others stay
abbrev pub after_request : Scopes → Scopes
after_request vars = map.retain_keys vars (λ key. not (ends_with_request key.1.scope))

-- a connection ends: its session's variables end with it, and all others stay
abbrev pub after_session : Scopes → ℕ → Scopes
after_session vars conn = map.retain_keys vars (λ key. not (option_eq nat_eq key.0 (Some conn)))

-- they name one variable: in one scope, with the same bytes, and for a session's variable at the
-- same connection
abbrev pub IsSameVar : ℕ → VarName → ℕ → VarName → Type 0
IsSameVar conn name other_conn other =
    (name.scope ≡ other.scope) × (name.name ≡ other.name)
    × (owner_of conn name.scope ≡ owner_of other_conn other.scope)

-- the code of the variables, which tells two states apart
abbrev pub scopes_code : Coded Scopes
scopes_code =
    map.code (coded× (coded_option coded_ℕ) name_contracts.the_row.coded)
    value_contracts.the_row.coded
