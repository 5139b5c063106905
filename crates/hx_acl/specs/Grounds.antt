-- Why a condition holds: the first of its conjunctions that does, and what each of its terms holds
-- by (HAProxy configuration manual 2.4, sections 7.1 and 7.2).
use Rattle.std.specs.Prelude.{ℕ, suc, List, [], ◌∷◌, Option, None, Some, option_and_then, option_map, if◌then◌else◌}
use Rattle.std.specs.Option.{option_or}
use Rattle.std.specs.Str.{bytes_eq}
use Rattle.hx_ast.specs.declared.statement.AclUse.{AclUse}
use Rattle.hx_ast.specs.declared.statement.AclUse.TheVariants.{Named, Own}
use Rattle.hx_ast.specs.declared.statement.Decl.{Decl}
use Rattle.hx_ast.specs.declared.statement.Term.{Term}
use Rattle.hx_expr.specs.Values.{expr_values}
use Rattle.hx_fetch.specs.World.{Context}
use Rattle.hx_sample.specs.Cast.{cast_of}
use Rattle.hx_sample.specs.Find.{Entry}
use Rattle.hx_sample.specs.Keys.{kind_by}
use Rattle.hx_sample.specs.Tables.{TableHead, found_at}
use Rattle.hx_sample.specs.declared.sample.Value.{Value}
use Rattle.hx_sample.specs.declared.sample.Value.TheVariants as value
use Rattle.hx_text.specs.declared.kinds.By.{By}
use Rattle.hx_text.specs.declared.kinds.By.TheVariants as method
use Rattle.hx_acl.specs.declared.explaining.Ground.{Ground}
use Rattle.hx_acl.specs.declared.explaining.Ground.TheVariants as by
use Rattle.hx_acl.specs.declared.explaining.Held.{Held}
use Rattle.hx_acl.specs.Holds.{Acls, acl_holds, is_declared}
use Rattle.hx_acl.specs.Predefined.{predefined_matches}

-- ---- lists

-- the first that is given for an item, in their order
abbrev pub first_given : {A B : Type 0} → (A → Option B) → List A → Option B
first_given given [] = None
first_given given (x ∷ xs) = option_or (given x) (first_given given xs)

-- what is given for each item, in their order, or none where nothing is given for one
abbrev pub all_given : {A B : Type 0} → (A → Option B) → List A → Option (List B)
all_given given [] = Some []
all_given given (x ∷ xs) =
    option_and_then (λ y. option_map (λ ys. y ∷ ys) (all_given given xs)) (given x)

-- ---- declarations

-- what a value that is found under a head gives: the head, and the number of the entry
abbrev pub head_ground : List TableHead → List (List Entry) → Value → ℕ → Option Ground
head_ground heads lists v position =
    option_map (λ entry. by.Entry position entry.number) (found_at heads lists position v)

-- the same of the first of the heads under which an entry is found
abbrev pub entry_ground : List TableHead → List (List Entry) → List ℕ → Value → Option Ground
entry_ground heads lists positions v = first_given (head_ground heads lists v) positions

-- What a value gives, of the type that the method looks at: with `found`, and with `bool` where it
-- is true, the sample alone, and with each other method the entry.
abbrev pub value_ground : By → (Value → Option Ground) → Value → Option Ground
value_ground method.Found entry v = Some by.Sample
value_ground method.Bool entry (value.Bool b) = if b then Some by.Sample else None
value_ground method.Bool entry v = None
value_ground _ entry v = entry v

-- what an occurrence gives that is there and has a cast to the type that the method looks at
abbrev pub occurrence_ground : By → (Value → Option Ground) → Option Value → Option Ground
occurrence_ground method entry occurrence =
    option_and_then (value_ground method entry)
    (option_and_then (λ v. cast_of v (kind_by method)) occurrence)

-- what a declaration matches by: what the first occurrence of its expression gives that matches
abbrev pub test_ground : Context → List TableHead → List (List Entry) → Decl → Option Ground
test_ground context heads lists decl =
    first_given (occurrence_ground decl.by (entry_ground heads lists decl.heads))
    (expr_values context heads lists decl.expr)

-- ---- names

-- what the first declaration of the ACL of this name gives that matches
abbrev pub declared_ground
    : Context → List TableHead → List (List Entry) → Acls → List ℕ → Option Ground
declared_ground context heads lists acls name =
    first_given
    (λ declared.
    if bytes_eq declared.0 name then test_ground context heads lists declared.1 else None) acls

-- a predefined ACL holds by the sample alone
abbrev pub predefined_ground : Context → List ℕ → Option Ground
predefined_ground context name =
    if predefined_matches context name then Some by.Sample else None

-- what the ACL of this name holds by
abbrev pub name_ground
    : Context → List TableHead → List (List Entry) → Acls → List ℕ → Option Ground
name_ground context heads lists acls name =
    if is_declared acls name then declared_ground context heads lists acls name
    else predefined_ground context name

-- ---- conditions

abbrev pub acl_ground
    : Context → List TableHead → List (List Entry) → Acls → AclUse → Option Ground
acl_ground context heads lists acls (Named name) = name_ground context heads lists acls name
acl_ground context heads lists acls (Own decl) = test_ground context heads lists decl

-- what a term holds by, or none where it doesn't hold
abbrev pub term_ground : Context → List TableHead → List (List Entry) → Acls → Term → Option Ground
term_ground context heads lists acls term =
    if term.negated
    then (if acl_holds context heads lists acls term.acl then None else Some by.Negated)
    else acl_ground context heads lists acls term.acl

-- what each term of a conjunction holds by, or none where one doesn't hold
abbrev pub conj_grounds
    : Context → List TableHead → List (List Entry) → Acls → List Term → Option (List Ground)
conj_grounds context heads lists acls conj = all_given (term_ground context heads lists acls) conj

-- the first of the conjunctions that holds, where they are counted from this number
abbrev pub held_from
    : Context → List TableHead → List (List Entry) → Acls → ℕ → List (List Term) → Option Held
held_from context heads lists acls number [] = None
held_from context heads lists acls number (conj ∷ cond) =
    option_or
    (option_map (λ grounds. record { conj = number; grounds = grounds })
    (conj_grounds context heads lists acls conj))
    (held_from context heads lists acls (suc number) cond)

-- Why a condition holds: the first of its conjunctions that does, counted from 1, and what each of
-- its terms holds by. None where the condition doesn't hold.
abbrev pub held_of
    : Context → List TableHead → List (List Entry) → Acls → List (List Term) → Option Held
held_of context heads lists acls cond = held_from context heads lists acls 1 cond
