-- Samples that are missing, and names that are declared once more.
use Rattle.std.proofs.Common.{◌≡◌, ◌||◌, ◌&&◌, Bool, true, false, ℕ, List, [], ◌∷◌, ◌++◌, Option, None, Some, refl, ap, ◌∙◌, is_some, rules}
use Rattle.std.specs.List.{list_any}
use Rattle.std.specs.Str.{bytes_eq}
use Rattle.std.proofs.lemmas.List.Folds.{list_any-append}
use Rattle.hx_ast.specs.declared.statement.Decl.{Decl}
use Rattle.hx_fetch.specs.World.{Context}
use Rattle.hx_sample.specs.Find.{Entry}
use Rattle.hx_sample.specs.Tables.{TableHead}
use Rattle.hx_sample.specs.declared.sample.Value.{Value}
use Rattle.hx_text.specs.declared.kinds.By.{By}
use Rattle.hx_acl.specs.Holds.{declared_matches, is_declared, name_holds}
use Rattle.hx_acl.specs.Matching.{occurrence_matches, test_matches}

-- a declaration of the ACL of this name
abbrev is_of : List ℕ → List ℕ × Decl → Bool
is_of name declared = bytes_eq declared.0 name

-- no occurrence that is missing matches
pub none_match : (by : By) (is_hit : Value → Bool) (values : List (Option Value)) → list_any is_some values ≡ false → list_any (occurrence_matches by is_hit) values ≡ false
none_match by is_hit [] none = refl
none_match by is_hit (None ∷ values) none = none_match by is_hit values none
none_match by is_hit (Some v ∷ values) none = absurd (cc none)

last_or : (a b : Bool) → (a || (b || false)) ≡ (a || b)
last_or true b = refl
last_or false true = refl
last_or false false = refl

or_true : (a : Bool) → (a || (true || false)) ≡ true
or_true true = refl
or_true false = refl

pub same_bytes : (name : List ℕ) → bytes_eq name name ≡ true
same_bytes name = search rules

-- a further declaration of a name
pub declared_more : (context : Context) (heads : List TableHead) (lists : List (List Entry)) (acls : List (List ℕ × Decl)) (name : List ℕ) (decl : Decl) → name_holds context heads lists (acls ++ (name, decl) ∷ []) name ≡ (declared_matches context heads lists acls name || test_matches context heads lists decl)
declared_more context heads lists acls name decl =
    let known : is_declared (acls ++ (name, decl) ∷ []) name ≡ true =
    list_any-append (is_of name) acls ((name, decl) ∷ [])
    ∙ ap (λ (b : Bool). list_any (is_of name) acls || (b || false)) (same_bytes name)
    ∙ or_true (list_any (is_of name) acls) in
    let joined : declared_matches context heads lists (acls ++ (name, decl) ∷ []) name ≡ (declared_matches context heads lists acls name || test_matches context heads lists decl) =
    list_any-append (λ declared. is_of name declared && test_matches context heads lists declared.1) acls ((name, decl) ∷ [])
    ∙ ap (λ (b : Bool). declared_matches context heads lists acls name || ((b && test_matches context heads lists decl) || false)) (same_bytes name)
    ∙ last_or (declared_matches context heads lists acls name) (test_matches context heads lists decl) in
    rw known joined
