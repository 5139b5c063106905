-- How the code keeps variables: each in a slot of memory, with its owner; and for each owner a
-- chain through the slots of its variables.
use Rattle.std.specs.Prelude.{◌≡◌, ℕ, List, [], ◌∷◌, Option, Some, None, ◌⊎◌}
use Rattle.std.specs.Option.{option_map}
use Rattle.std.specs.FinMap as map
use Rattle.hx_pool.specs.declared.links.Links.{Links}
use Rattle.hx_pool.specs.declared.chain.Chain.{Chain}
use Rattle.hx_pool.specs.Pool.{Pool, get}
use Rattle.hx_pool.specs.Chain.{AreApart, IsIn, LiesIn}
use Rattle.hx_text.specs.declared.names.Scope.TheVariants.{Proc, Sess, Txn, Req, Res}
use Rattle.hx_sample.specs.declared.sample.Value.{Value}
use Rattle.hx_sample.specs.declared.stored_variable.Owner.{Owner}
use Rattle.hx_sample.specs.declared.stored_variable.Owner.TheVariants.{Process, Session, Transaction, Request, Response}
use Rattle.hx_sample.specs.declared.stored_variable.StoredVariable.{StoredVariable}
use Rattle.hx_sample.specs.Vars.{Scopes, VarKey}

-- what a variable of an owner is kept under
abbrev pub key_in : Owner → List ℕ → VarKey
key_in Process name = (None, record { scope = Proc; name = name })
key_in (Session conn) name = (Some conn, record { scope = Sess; name = name })
key_in Transaction name = (None, record { scope = Txn; name = name })
key_in Request name = (None, record { scope = Req; name = name })
key_in Response name = (None, record { scope = Res; name = name })

-- ---- slots

-- a variable, without the links by which it stands in a chain
pub record Variable : Type 0 where
  pub owner : Owner
  pub name : List ℕ
  pub value : Value

abbrev pub variable_of : StoredVariable → Variable
variable_of v = record { owner = v.owner; name = v.name; value = v.value }

abbrev pub variable_links : StoredVariable → Links
variable_links v = v.links

-- two variables in slots that are equal but for their links
abbrev pub IsSameVariable : StoredVariable → StoredVariable → Type 0
IsSameVariable v w = variable_of v ≡ variable_of w

abbrev pub VariablePool : Type 0
VariablePool = Pool StoredVariable

-- the variable in a slot, or none where the slot is free
abbrev pub variable_at : VariablePool → ℕ → Option Variable
variable_at p i = option_map variable_of (get p i)

-- the values of the variables of all slots, each under its key
abbrev pub entries_in : List (Option StoredVariable) → List (VarKey × Value)
entries_in [] = []
entries_in (None ∷ slots) = entries_in slots
entries_in (Some v ∷ slots) = (key_in v.owner v.name, v.value) ∷ entries_in slots

abbrev pub vars_in : VariablePool → Scopes
vars_in p = map.from_entries (entries_in p.slots)

-- no two slots have variables of one owner with one name
abbrev pub HasNoDoubles : VariablePool → Type 0
HasNoDoubles p = (i j : ℕ) (v w : Variable) → variable_at p i ≡ Some v → variable_at p j ≡ Some w
    → v.owner ≡ w.owner → v.name ≡ w.name → i ≡ j

-- the slots have this value under a key, or no variable
abbrev pub HasUnder : VariablePool → VarKey → Option Value → Type 0
HasUnder p key None = (i : ℕ) (v : Variable) → variable_at p i ≡ Some v
    → key_in v.owner v.name ≡ key → ⊥
HasUnder p key (Some value) = (i : ℕ) × (v : Variable) × (variable_at p i ≡ Some v)
    × (key_in v.owner v.name ≡ key) × (v.value ≡ value)

-- which of the slots xs has a variable with the name, or that none has
abbrev pub IsFound : VariablePool → List ℕ → List ℕ → Option ℕ → Type 0
IsFound p xs name None = (i : ℕ) (v : Variable) → IsIn i xs → variable_at p i ≡ Some v
    → v.name ≡ name → ⊥
IsFound p xs name (Some i) = IsIn i xs × (v : Variable) × (variable_at p i ≡ Some v)
    × (v.name ≡ name)

-- ---- owners

-- the chain leads through the slots xs, which are those of the owner's variables
pub record Leads (p : VariablePool) (c : Chain) (owner : Owner) (xs : List ℕ) : Type 0 where
  pub lies : LiesIn variable_links p c xs
  pub all : (i : ℕ) (v : Variable) → variable_at p i ≡ Some v → v.owner ≡ owner → IsIn i xs
  pub own : (i : ℕ) (v : Variable) → IsIn i xs → variable_at p i ≡ Some v → v.owner ≡ owner

-- no slot has a variable of the owner
abbrev pub HasNone : VariablePool → Owner → Type 0
HasNone p owner = (i : ℕ) (v : Variable) → variable_at p i ≡ Some v → v.owner ≡ owner → ⊥

-- the owner has this chain through its slots, or no chain and no variable
abbrev pub HasChain : VariablePool → Owner → Option Chain → Type 0
HasChain p owner None = HasNone p owner
HasChain p owner (Some c) = (xs : List ℕ) × Leads p c owner xs

-- the slots have each variable once, and each owner's chain leads through its slots
pub record AreKept (p : VariablePool) (chains : Owner → Option Chain) : Type 0 where
  pub owners : (owner : Owner) → HasChain p owner (chains owner)
  pub alone : HasNoDoubles p

-- ---- changes

-- Variables of one owner change, in slots that were p and are q: the owner has this chain then, and
-- each other owner keeps its own.
pub record OwnerStep (p q : VariablePool) (chain : Option Chain) (owner : Owner) : Type 0 where
  pub own : HasChain q owner chain
  pub others : (other : Owner) (c : Chain) (xs : List ℕ) → (other ≡ owner → ⊥)
      → Leads p c other xs → Leads q c other xs
  pub none : (other : Owner) → (other ≡ owner → ⊥) → HasNone p other → HasNone q other
  pub alone : HasNoDoubles p → HasNoDoubles q

-- One slot of an owner changes, in slots that were p and are q: it has this variable then, or is
-- free, and the owner's chain d lies for ys where it lay for xs.
pub record ChangesSlot (p q : VariablePool) (d : Chain) (owner : Owner) (xs ys : List ℕ) (id : ℕ)
    (has : Option Variable) : Type 0 where
  pub changed : variable_at q id ≡ has
  pub same : (i : ℕ) → (i ≡ id → ⊥) → variable_at q i ≡ variable_at p i
  pub lies : LiesIn variable_links q d ys
  pub apart : (c : Chain) (zs : List ℕ) → AreApart zs xs → (IsIn id zs → ⊥)
      → LiesIn variable_links p c zs → LiesIn variable_links q c zs
  pub down : (i : ℕ) → (i ≡ id → ⊥) → IsIn i ys → IsIn i xs
  pub up : (i : ℕ) → (i ≡ id → ⊥) → IsIn i xs → IsIn i ys
  pub was : (v : Variable) → variable_at p id ≡ Some v → v.owner ≡ owner
  pub here : (v : Variable) → has ≡ Some v → IsIn id ys × (v.owner ≡ owner)

-- each slot has the variable that it had, or is free where it had one of such an owner
abbrev pub LosesOnly : VariablePool → VariablePool → (Owner → Type 0) → Type 0
LosesOnly p q gone = (i : ℕ) → (variable_at q i ≡ variable_at p i)
    ⊎ ((variable_at q i ≡ None) × (v : Variable) × (variable_at p i ≡ Some v) × gone v.owner)

-- which owners end with the request
abbrev pub EndsWithRequest : Owner → Type 0
EndsWithRequest Process = ⊥
EndsWithRequest (Session conn) = ⊥
EndsWithRequest Transaction = Unit {0}
EndsWithRequest Request = Unit {0}
EndsWithRequest Response = Unit {0}
