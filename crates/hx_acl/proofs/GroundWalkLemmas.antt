-- What the ACL of a name holds by, over its declarations from the last one back to the first.
use Rattle.std.proofs.Common.{◌≡◌, ◌||◌, ◌+◌, ◌<◌, Bool, true, false, ℕ, zero, suc, List, [], ◌∷◌, Option, None, Some, refl, ap, sym, subst, ◌∙◌, length, take, drop, arith}
use Rattle.std.specs.Prelude.{slice_get, slice_index_or, if◌then◌else◌}
use Rattle.std.specs.Option.{option_map_or, option_or}
use Rattle.std.specs.Str.{bytes_eq}
use Rattle.std.proofs.lemmas.List.{length-map, length-take, take_all, take-take}
use Rattle.std.proofs.lemmas.Option.{same_Some, slice_get_read, slice_get_within}
use Rattle.hx_ast.specs.declared.statement.Decl.{Decl}
use Rattle.hx_acl.specs.declared.acl_set.Declared.{Declared}
use Rattle.hx_acl.specs.declared.explaining.Ground.{Ground}
use Rattle.hx_acl.specs.AclSetView.{AreIndexed, IsLast, declaration, declarations}
use Rattle.hx_acl.specs.Grounds.{declared_ground, first_given, name_ground, test_ground}
use Rattle.hx_acl.specs.Holds.{Acls, is_declared}
use Rattle.hx_acl.proofs.AclSetLemmas.{before_at, get_of_take, goes_back, is_declared_by_last, seen_at}
use Rattle.hx_acl.proofs.HoldsLemmas.{same_bytes}
use Rattle.hx_fetch.specs.World.{Context}
use Rattle.hx_sample.specs.Find.{Entry}
use Rattle.hx_sample.specs.Tables.{TableHead}

-- what is given for the first declaration of the ACL of a name for which something is
abbrev pub first_of : (Decl → Option Ground) → Acls → List ℕ → Option Ground
first_of given acls name =
    first_given (λ declared. if bytes_eq declared.0 name then given declared.1 else None) acls

-- ---- of a name that isn't declared nothing is given

none_more : (b r : Bool) (o p : Option Ground) → (b || r) ≡ false → (r ≡ false → p ≡ None) → option_or (if b then o else None) p ≡ None
none_more true r o p none rest = absurd (cc none)
none_more false r o p none rest = rest none

none_given : (given : Decl → Option Ground) (acls : Acls) (name : List ℕ) → is_declared acls name ≡ false → first_of given acls name ≡ None
none_given given [] name none = refl
none_given given (d ∷ acls) name none =
    none_more (bytes_eq d.0 name) (is_declared acls name) (given d.1) (first_of given acls name) none (none_given given acls name)

-- ---- the last declaration of a name, and those before it

or_none : (o : Option Ground) → option_or o None ≡ o
or_none None = refl
or_none (Some x) = refl

or_or : (o p q : Option Ground) → option_or o (option_or p q) ≡ option_or (option_or o p) q
or_or None p q = refl
or_or (Some x) p q = refl

last_alone : (given : Decl → Option Ground) (acls : Acls) (name : List ℕ) (decl : Decl) (d : List ℕ × Decl) → d ≡ (name, decl) → is_declared acls name ≡ false → first_of given (d ∷ acls) name ≡ given decl
last_alone given acls name decl d is none =
    ap (λ (x : List ℕ × Decl). option_or (if bytes_eq x.0 name then given x.1 else None) (first_of given acls name)) is
    ∙ ap (λ (b : Bool). option_or (if b then given decl else None) (first_of given acls name)) (same_bytes name)
    ∙ ap (λ (o : Option Ground). option_or (given decl) o) (none_given given acls name none)
    ∙ or_none (given decl)

last_given : (given : Decl → Option Ground) (acls : Acls) (name : List ℕ) (position : ℕ) (decl : Decl) → slice_get acls position ≡ Some (name, decl) → is_declared (drop (suc position) acls) name ≡ false → first_of given acls name ≡ option_or (first_of given (take position acls) name) (given decl)
last_given given [] name position decl at none = absurd (cc at)
last_given given (d ∷ acls) name zero decl at none =
    last_alone given acls name decl d (same_Some d (name, decl) at) none
last_given given (d ∷ acls) name (suc position) decl at none =
    ap (λ (o : Option Ground). option_or (if bytes_eq d.0 name then given d.1 else None) o) (last_given given acls name position decl at none)
    ∙ or_or (if bytes_eq d.0 name then given d.1 else None) (first_of given (take position acls) name) (given decl)

-- ---- the walk from the last declaration of a name to the first

-- Of the declarations of the ACL of a name, those among the first `count` are left to try, this is
-- the position of the last of them, and this was given for the first of the others.
pub record GroundsLeft (given : Decl → Option Ground) (acls : Acls) (name : List ℕ) (left : Option ℕ) (found : Option Ground) : Type 0 where
  pub count : ℕ
  pub last : IsLast (take count acls) name left
  pub first : option_or (first_of given (take count acls) name) found ≡ first_of given acls name

pub all_grounds_left : (given : Decl → Option Ground) (acls : Acls) (name : List ℕ) (left : Option ℕ) → IsLast acls name left → GroundsLeft given acls name left None
all_grounds_left given acls name left last =
    let whole : take (length acls) acls ≡ acls = take_all (length acls) acls (omega arith) in
    record {
      count = length acls;
      last = subst (λ (xs : Acls). IsLast xs name left) (sym whole) last;
      first = or_none (first_of given (take (length acls) acls) name) ∙ ap (λ (xs : Acls). first_of given xs name) whole;
    }

pub ground_within : (given : Decl → Option Ground) (acls : Acls) (name : List ℕ) (position : ℕ) (found : Option Ground) → GroundsLeft given acls name (Some position) found → position < length acls
ground_within given acls name position found left =
    slice_get_within acls position (name, left.last.decl) (get_of_take acls left.count position (name, left.last.decl) left.last.at)

ground_is : (given : Decl → Option Ground) (acls : Acls) (name : List ℕ) (position : ℕ) (found : Option Ground) (d : List ℕ × Decl) (left : GroundsLeft given acls name (Some position) found) → slice_get acls position ≡ Some d → d ≡ (name, left.last.decl)
ground_is given acls name position found d left at =
    same_Some d (name, left.last.decl)
    (sym at ∙ get_of_take acls left.count position (name, left.last.decl) left.last.at)

-- what is given for the declaration where the walk stands goes after those before it
ground_before : (given : Decl → Option Ground) (acls : Acls) (name : List ℕ) (position : ℕ) (found : Option Ground) (d : List ℕ × Decl) → GroundsLeft given acls name (Some position) found → slice_get acls position ≡ Some d → option_or (first_of given (take position acls) name) (option_or (given d.1) found) ≡ first_of given acls name
ground_before given acls name position found d left at =
    let known = left.last in
    let short : position < length (take left.count acls) =
    slice_get_within (take left.count acls) position (name, known.decl) known.at in
    let before : take position (take left.count acls) ≡ take position acls =
    take-take position left.count acls (omega (arith, length-take left.count acls, short)) in
    let parts : first_of given (take left.count acls) name ≡ option_or (first_of given (take position acls) name) (given d.1) =
    last_given given (take left.count acls) name position known.decl known.at known.last
    ∙ ap (λ (xs : Acls). option_or (first_of given xs name) (given known.decl)) before
    ∙ ap (λ (x : List ℕ × Decl). option_or (first_of given (take position acls) name) (given x.1)) (sym (ground_is given acls name position found d left at)) in
    or_or (first_of given (take position acls) name) (given d.1) found
    ∙ ap (λ (o : Option Ground). option_or o found) (sym parts)
    ∙ left.first

-- ---- the steps of a walk over the declarations as they are kept

kept_at : (given : Decl → Option Ground) (tests : List Declared) (acls : Acls) (name : List ℕ) (position : ℕ) (found : Option Ground) (declared : Declared) → declarations tests ≡ acls → GroundsLeft given acls name (Some position) found → declared ≡ slice_index_or tests position declared → slice_get tests position ≡ Some declared
kept_at given tests acls name position found declared view left is =
    let within : position < length acls = ground_within given acls name position found left in
    let short : position < length tests = omega (arith, within, ap length view, length-map tests declaration) in
    slice_get_read tests (length tests) position declared refl short is

pub ground_goes_on : (given : Decl → Option Ground) (tests : List Declared) (acls : Acls) (positions : List (List ℕ × ℕ)) (name : List ℕ) (position : ℕ) (found : Option Ground) (declared : Declared) → declarations tests ≡ acls → AreIndexed tests positions → GroundsLeft given acls name (Some position) found → declared ≡ slice_index_or tests position declared → (first next : Option Ground) → first ≡ given declared.test → next ≡ option_or first found → GroundsLeft given acls name declared.earlier next
ground_goes_on given tests acls positions name position found declared view indexed left is first next own same =
    let at : slice_get tests position ≡ Some declared = kept_at given tests acls name position found declared view left is in
    let seen : slice_get acls position ≡ Some (declared.name, declared.test) = seen_at tests acls position declared view at in
    record {
      count = position;
      last = subst (λ (x : List ℕ × Decl). IsLast (take position acls) x.0 declared.earlier)
          (ground_is given acls name position found (declared.name, declared.test) left seen)
          (before_at tests acls positions position declared view indexed at);
      first = ap (λ (o : Option Ground). option_or (first_of given (take position acls) name) o) (same ∙ ap (λ (o : Option Ground). option_or o found) own)
          ∙ ground_before given acls name position found (declared.name, declared.test) left seen;
    }

pub ground_goes_back : (given : Decl → Option Ground) (tests : List Declared) (acls : Acls) (positions : List (List ℕ × ℕ)) (name : List ℕ) (position : ℕ) (found : Option Ground) (declared : Declared) → declarations tests ≡ acls → AreIndexed tests positions → GroundsLeft given acls name (Some position) found → declared ≡ slice_index_or tests position declared → option_map_or (λ k. k + 1) declared.earlier 0 < position + 1
ground_goes_back given tests acls positions name position found declared view indexed left is =
    let at : slice_get tests position ≡ Some declared = kept_at given tests acls name position found declared view left is in
    goes_back acls declared.name position declared.earlier (before_at tests acls positions position declared view indexed at)

-- what was given at the end of the walk is what the ACL of the name holds by
pub ground_ends : (context : Context) (heads : List TableHead) (lists : List (List Entry)) (acls : Acls) (name : List ℕ) (last : ℕ) (found : Option Ground) → IsLast acls name (Some last) → GroundsLeft (test_ground context heads lists) acls name None found → found ≡ name_ground context heads lists acls name
ground_ends context heads lists acls name last found known left =
    let given : Decl → Option Ground = test_ground context heads lists in
    let declared : is_declared acls name ≡ true = is_declared_by_last acls name (Some last) known in
    let whole : found ≡ declared_ground context heads lists acls name =
    ap (λ (o : Option Ground). option_or o found) (sym (none_given given (take left.count acls) name left.last))
    ∙ left.first in
    rw declared whole
