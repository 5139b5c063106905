-- What a condition holds by is said exactly where it holds.
use Rattle.std.proofs.Common.{◌≡◌, ◌||◌, ◌&&◌, Bool, true, false, ℕ, suc, List, [], ◌∷◌, Option, None, Some, refl, ap, ◌∙◌, is_some}
use Rattle.std.specs.Prelude.{not, option_and_then, option_map, if◌then◌else◌}
use Rattle.std.specs.List.{list_all, list_any}
use Rattle.std.specs.Option.{option_map_or, option_or}
use Rattle.std.specs.Str.{bytes_eq}
use Rattle.hx_ast.specs.declared.statement.AclUse.{AclUse}
use Rattle.hx_ast.specs.declared.statement.AclUse.TheVariants.{Named, Own}
use Rattle.hx_ast.specs.declared.statement.Decl.{Decl}
use Rattle.hx_ast.specs.declared.statement.Term.{Term}
use Rattle.hx_expr.specs.Values.{expr_values}
use Rattle.hx_fetch.specs.World.{Context}
use Rattle.hx_sample.specs.Cast.{cast_of}
use Rattle.hx_sample.specs.Find.{Entry}
use Rattle.hx_sample.specs.Keys.{kind_by}
use Rattle.hx_sample.specs.Tables.{TableHead, found_at}
use Rattle.hx_sample.specs.declared.sample.Value.{Value}
use Rattle.hx_sample.specs.declared.sample.Value.TheVariants as value
use Rattle.hx_text.specs.declared.kinds.By.{By}
use Rattle.hx_text.specs.declared.kinds.By.TheVariants as method
use Rattle.hx_acl.specs.declared.explaining.Ground.{Ground}
use Rattle.hx_acl.specs.declared.explaining.Ground.TheVariants as by
use Rattle.hx_acl.specs.declared.explaining.Held.{Held}
use Rattle.hx_acl.specs.Grounds.{acl_ground, all_given, conj_grounds, declared_ground, entry_ground, first_given, head_ground, held_from, name_ground, occurrence_ground, predefined_ground, term_ground, test_ground, value_ground}
use Rattle.hx_acl.specs.Holds.{Acls, acl_holds, cond_holds, declared_matches, is_declared, name_holds, term_holds}
use Rattle.hx_acl.specs.Matching.{accepts, finds_entry, occurrence_matches, test_matches}
use Rattle.hx_acl.specs.Predefined.{predefined_matches}

-- ---- lists

or_some : {B : Type 0} (o p : Option B) → is_some (option_or o p) ≡ (is_some o || is_some p)
or_some None p = refl
or_some (Some x) p = refl

map_some : {A B : Type 0} (f : A → B) (o : Option A) → is_some (option_map f o) ≡ is_some o
map_some f None = refl
map_some f (Some x) = refl

-- something is given for an item exactly where one passes the test that says for which
some_first : {A B : Type 0} (given : A → Option B) (test : A → Bool) → ((x : A) → is_some (given x) ≡ test x) → (xs : List A) → is_some (first_given given xs) ≡ list_any test xs
some_first given test same [] = refl
some_first given test same (x ∷ xs) =
    or_some (given x) (first_given given xs)
    ∙ ap (λ (b : Bool). b || is_some (first_given given xs)) (same x)
    ∙ ap (λ (b : Bool). test x || b) (some_first given test same xs)

and_some : {B : Type 0} (o : Option B) (rest : Option (List B)) → is_some (option_and_then (λ y. option_map (λ ys. y ∷ ys) rest) o) ≡ (is_some o && is_some rest)
and_some None rest = refl
and_some (Some y) rest = map_some (λ ys. y ∷ ys) rest

some_all : {A B : Type 0} (given : A → Option B) (test : A → Bool) → ((x : A) → is_some (given x) ≡ test x) → (xs : List A) → is_some (all_given given xs) ≡ list_all test xs
some_all given test same [] = refl
some_all given test same (x ∷ xs) =
    and_some (given x) (all_given given xs)
    ∙ ap (λ (b : Bool). b && is_some (all_given given xs)) (same x)
    ∙ ap (λ (b : Bool). test x && b) (some_all given test same xs)

-- ---- choices

choose : {B : Type 0} (b : Bool) (x : B) → is_some (if b then Some x else None) ≡ b
choose true x = refl
choose false x = refl

choose_not : {B : Type 0} (b : Bool) (x : B) → is_some (if b then None else Some x) ≡ not b
choose_not true x = refl
choose_not false x = refl

only_if : {B : Type 0} (b t : Bool) (o : Option B) → is_some o ≡ t → is_some (if b then o else None) ≡ (b && t)
only_if true t o same = same
only_if false t o same = refl

either_way : {B : Type 0} (b s t : Bool) (o p : Option B) → is_some o ≡ s → is_some p ≡ t → is_some (if b then o else p) ≡ (if b then s else t)
either_way true s t o p first second = first
either_way false s t o p first second = second

-- ---- declarations

some_value : (by : By) (entry : Value → Option Ground) (is_hit : Value → Bool) (v : Value) → is_some (entry v) ≡ is_hit v → is_some (value_ground by entry v) ≡ accepts by is_hit v
some_value method.Found entry is_hit v same = refl
some_value method.Bool entry is_hit (value.Bool b) same = choose b by.Sample
some_value method.Bool entry is_hit (value.Int n) same = refl
some_value method.Bool entry is_hit (value.Ip ip) same = refl
some_value method.Bool entry is_hit (value.Str text) same = refl
some_value method.Bool entry is_hit (value.Bin bytes) same = refl
some_value method.Bool entry is_hit (value.Method name) same = refl
some_value method.Int entry is_hit v same = same
some_value method.Ip entry is_hit v same = same
some_value method.Bin entry is_hit v same = same
some_value method.Len entry is_hit v same = same
some_value method.Str entry is_hit v same = same
some_value method.Beg entry is_hit v same = same
some_value method.End entry is_hit v same = same
some_value method.Sub entry is_hit v same = same
some_value method.Dir entry is_hit v same = same
some_value method.Dom entry is_hit v same = same
some_value method.Reg entry is_hit v same = same

some_cast : (by : By) (entry : Value → Option Ground) (is_hit : Value → Bool) → ((v : Value) → is_some (entry v) ≡ is_hit v) → (o : Option Value) → is_some (option_and_then (value_ground by entry) o) ≡ option_map_or (accepts by is_hit) o false
some_cast by entry is_hit same None = refl
some_cast by entry is_hit same (Some v) = some_value by entry is_hit v (same v)

some_test : (context : Context) (heads : List TableHead) (lists : List (List Entry)) (decl : Decl) → is_some (test_ground context heads lists decl) ≡ test_matches context heads lists decl
some_test context heads lists decl =
    let same : (v : Value) → is_some (entry_ground heads lists decl.heads v) ≡ finds_entry heads lists decl.heads v =
    λ v. some_first (head_ground heads lists v) (λ position. is_some (found_at heads lists position v))
    (λ position. map_some (λ (entry : Entry). by.Entry position entry.number) (found_at heads lists position v)) decl.heads in
    some_first (occurrence_ground decl.by (entry_ground heads lists decl.heads)) (occurrence_matches decl.by (finds_entry heads lists decl.heads))
    (λ occurrence. some_cast decl.by (entry_ground heads lists decl.heads) (finds_entry heads lists decl.heads) same
    (option_and_then (λ v. cast_of v (kind_by decl.by)) occurrence))
    (expr_values context heads lists decl.expr)

-- ---- names and terms

module _ (context : Context) (heads : List TableHead) (lists : List (List Entry)) (acls : Acls) where
  some_name : (name : List ℕ) → is_some (name_ground context heads lists acls name) ≡ name_holds context heads lists acls name
  some_name name =
      either_way (is_declared acls name) (declared_matches context heads lists acls name) (predefined_matches context name)
      (declared_ground context heads lists acls name) (predefined_ground context name)
      (some_first (λ declared. if bytes_eq declared.0 name then test_ground context heads lists declared.1 else None)
      (λ declared. bytes_eq declared.0 name && test_matches context heads lists declared.1)
      (λ declared. only_if (bytes_eq declared.0 name) (test_matches context heads lists declared.1) (test_ground context heads lists declared.1) (some_test context heads lists declared.1))
      acls)
      (choose (predefined_matches context name) by.Sample)

  some_acl : (acl : AclUse) → is_some (acl_ground context heads lists acls acl) ≡ acl_holds context heads lists acls acl
  some_acl (Named name) = some_name name
  some_acl (Own decl) = some_test context heads lists decl

  some_term : (term : Term) → is_some (term_ground context heads lists acls term) ≡ term_holds context heads lists acls term
  some_term term =
      either_way term.negated (not (acl_holds context heads lists acls term.acl)) (acl_holds context heads lists acls term.acl)
      (if acl_holds context heads lists acls term.acl then None else Some by.Negated) (acl_ground context heads lists acls term.acl)
      (choose_not (acl_holds context heads lists acls term.acl) by.Negated)
      (some_acl term.acl)

  -- ---- conditions

  pub some_conj : (conj : List Term) → is_some (conj_grounds context heads lists acls conj) ≡ list_all (term_holds context heads lists acls) conj
  some_conj conj =
      some_all (term_ground context heads lists acls) (term_holds context heads lists acls) some_term conj

  pub some_held : (number : ℕ) (cond : List (List Term)) → is_some (held_from context heads lists acls number cond) ≡ cond_holds context heads lists acls cond
  some_held number [] = refl
  some_held number (conj ∷ cond) =
      let grounds = conj_grounds context heads lists acls conj in
      let first : Option Held = option_map (λ (given : List Ground). record { conj = number; grounds = given }) grounds in
      or_some first (held_from context heads lists acls (suc number) cond)
      ∙ ap (λ (b : Bool). b || is_some (held_from context heads lists acls (suc number) cond)) (map_some (λ (given : List Ground). record { conj = number; grounds = given }) grounds ∙ some_conj conj)
      ∙ ap (λ (b : Bool). list_all (term_holds context heads lists acls) conj || b) (some_held (suc number) cond)
