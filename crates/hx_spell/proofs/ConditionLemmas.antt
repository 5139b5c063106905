-- A condition is read as it is spelled, and what is read is one.
use Rattle.std.proofs.Common.{◌≡◌, ℕ, Bool, true, false, List, [], ◌∷◌, ◌++◌, None, Some, Ok, Err, inl, inr, refl}
use Rattle.std.specs.Prelude.{◌↔◌, ◌&&◌, Option, Result, codes, if◌then◌else◌, nat_lt, not}
use Rattle.std.specs.List.{All}
use Rattle.std.specs.Str.{bytes_eq}
use Rattle.std.proofs.lemmas.Bool.{cases_Bool}
use Rattle.std.proofs.lemmas.List.Elements.{All-append, All-cons, All-nil}
use Rattle.hx_ast.specs.Acls.{IsAclUse, IsCond, IsDecl}
use Rattle.hx_ast.specs.declared.AclUse.{AclUse}
use Rattle.hx_ast.specs.declared.AclUse.TheVariants.{Named, Own}
use Rattle.hx_ast.specs.declared.Decl.{Decl}
use Rattle.hx_ast.specs.declared.Term.{Term}
use Rattle.hx_calls.specs.declared.fault.SpellFault.{SpellFault}
use Rattle.hx_base.specs.Results.{◌>>=◌}
use Rattle.hx_calls.specs.Codes.{bad_condition}
use Rattle.hx_spell.specs.Conditions.{Terms, after_marks, after_marks_word, cond_end, cond_from, cond_of, cond_reading, is_acl_name, is_or, marks_of, named_term, next_word, no_marks, no_terms, own_decl, own_term, with_conj, with_marks, with_term, word_inside, word_outside}
use Rattle.hx_spell.specs.Declarations.{decl_of}
use Rattle.hx_calls.specs.Known.{Known, Reading, is_known_acl}
use Rattle.hx_spell.specs.ConditionRelation.{SpellCond}
use Rattle.hx_spell.proofs.ConditionReadLemmas.{cond_read}
use Rattle.hx_spell.proofs.ConditionSpellLemmas.{cond_spells}
use Rattle.hx_spell.proofs.ConditionWordLemmas.{name_is}
use Rattle.hx_spell.proofs.DeclarationLemmas.{decl_coded, decl_is_decl}
use Rattle.hx_calls.proofs.ResultLemmas.{Gives, IsCoded, then_gives}
use Rattle.hx_calls.specs.declared.fault.SpellFault.TheVariants as spell

pub cond_law : (line : ℕ) (words : List (List ℕ)) (before : Known)
    (read : Reading (List (List Term)))
    → (cond_of line words before ≡ Ok read) ↔ SpellCond line before words read
unfolding cond_of
cond_law line words before read = (
  λ is. cond_spells line words before read is,
  λ spelled. cond_read line before words read [] spelled,
)

-- ---- what is read is a condition

abbrev AreTerms : List Term → Type 0
AreTerms terms = All (λ term. IsAclUse term.acl) terms

-- the terms up to a place are such
record AreSuch (terms : Terms) : Type 0 where
  before : IsCond terms.before
  conj : AreTerms terms.conj

abbrev GivesTerms : Result (Reading Terms) SpellFault → Type 0
GivesTerms r = Gives (λ (read : Reading Terms). AreSuch read.value) r

abbrev GivesCond : Result (Reading (List (List Term))) SpellFault → Type 0
GivesCond r = Gives (λ (read : Reading (List (List Term))). IsCond read.value) r

conj_gives : (before : List (List Term)) (conj : List Term) → IsCond before → AreTerms conj
    → Gives IsCond (with_conj before conj)
conj_gives before [] such terms = tt
conj_gives before (t ∷ ts) such terms =
    All-append (All (λ (term : Term). IsAclUse term.acl)) before ((t ∷ ts) ∷ []) such
    (All-cons (All (λ (term : Term). IsAclUse term.acl)) (t ∷ ts) [] terms
    (All-nil (All (λ (term : Term). IsAclUse term.acl))))

with_such : (acl : AclUse) (terms : Terms) → AreSuch terms → IsAclUse acl → AreSuch (with_term acl terms)
with_such acl terms such use' = record {
  before = such.before;
  conj = All-append (λ (term : Term). IsAclUse term.acl) terms.conj
      (record { negated = terms.marks.negated; acl = acl } ∷ []) such.conj
      (All-cons (λ (term : Term). IsAclUse term.acl)
      (record { negated = terms.marks.negated; acl = acl }) [] use'
      (All-nil (λ (term : Term). IsAclUse term.acl)));
}

gives_by : {A : Type 0} (P : A → Type 0) (r : Result A SpellFault) → IsCoded r
    → ((x : A) → r ≡ Ok x → P x) → Gives P r
gives_by P (Ok x) coded such = such x refl
gives_by P (Err (spell.Code n)) coded such = coded
gives_by P (Err spell.NoMemory) coded such = coded

pub decl_gives : (line : ℕ) (text : List ℕ) (words : List (List ℕ)) (known : Known)
    → Gives (λ (read : Reading Decl). IsDecl read.value) (decl_of line text words known)
decl_gives line text words known =
    gives_by (λ (read : Reading Decl). IsDecl read.value) (decl_of line text words known)
    (decl_coded line text words known) (λ read is. decl_is_decl line text words known read is)

own_gives : (line : ℕ) (words : List (List ℕ)) (known : Known)
    → Gives (λ (read : Reading Decl). IsDecl read.value) (own_decl line words known)
own_gives line [] known = tt
own_gives line (text ∷ words) known = decl_gives line text words known

inside_gives : (line : ℕ) (inside : List (List ℕ)) (word : List ℕ) (terms : Terms) (known : Known)
    → AreSuch terms → GivesTerms (word_inside line inside word terms known)
inside_gives line inside word terms known such =
    by_end (bytes_eq word (codes "}"))
  where
    by_end : (ends : Bool) → GivesTerms (if ends
        then own_decl line inside known >>= (λ decl. Ok (own_term terms decl))
        else Ok (record {
          value = record terms { inside = Some (inside ++ word ∷ []) };
          known = known;
        }))
    by_end true =
        then_gives (λ (read : Reading Decl). IsDecl read.value)
        (λ (read : Reading Terms). AreSuch read.value) (own_decl line inside known)
        (λ decl. Ok (own_term terms decl)) (own_gives line inside known)
        (λ decl is. with_such (Own decl.value) terms such is)
    by_end false = record { before = such.before; conj = such.conj }

name_gives : (name : List ℕ) (terms : Terms) (known : Known) → AreSuch terms
    → GivesTerms (named_term name terms known)
name_gives name terms known such =
    elim (cases_Bool (is_acl_name name)) [
      | inl named ↦ elim (cases_Bool (is_known_acl known name)) [
        | inl is_known ↦ rw (named, is_known) (with_such (Named name) terms such (name_is name named))
        | inr unknown ↦ rw (named, unknown) tt
      ]
      | inr other ↦ rw other tt
    ]

after_gives : (n : ℕ) (after : List ℕ) (terms : Terms) (known : Known) → AreSuch terms
    → GivesTerms (after_marks_word n after terms known)
after_gives n [] terms known such = by_marks (nat_lt 0 n)
  where
    by_marks : (some : Bool)
        → GivesTerms (if some then Ok (record { value = terms; known = known }) else Err bad_condition)
    by_marks true = such
    by_marks false = tt
after_gives n (b ∷ bs) terms known such =
    elim (cases_Bool (bytes_eq (b ∷ bs) (codes "{"))) [
      | inl brace ↦ rw brace (record { before = such.before; conj = such.conj })
      | inr other ↦ rw other (name_gives (b ∷ bs) terms known such)
    ]

outside_gives : (line : ℕ) (word : List ℕ) (terms : Terms) (known : Known) → AreSuch terms
    → GivesTerms (word_outside line word terms known)
outside_gives line word terms known such =
    elim (cases_Bool (is_or word && not terms.marks.some)) [
      | inl or ↦ rw or (then_gives IsCond (λ (read : Reading Terms). AreSuch read.value)
          (with_conj terms.before terms.conj)
          (λ before. Ok (record {
            value = record { before = before; conj = []; marks = no_marks; inside = None };
            known = known;
          })) (conj_gives terms.before terms.conj such.before such.conj)
          (λ before is. record { before = is; conj = All-nil (λ (term : Term). IsAclUse term.acl) }))
      | inr other ↦ rw other (after_gives (marks_of word) (after_marks word)
          (record terms { marks = with_marks (marks_of word) terms.marks }) known
          (record { before = such.before; conj = such.conj }))
    ]

word_gives : (line : ℕ) (inside : Option (List (List ℕ))) (word : List ℕ) (terms : Terms)
    (known : Known) → AreSuch terms → GivesTerms (next_word line inside word terms known)
word_gives line (Some inside) word terms known such =
    inside_gives line inside word terms known such
word_gives line None word terms known such = outside_gives line word terms known such

end_gives : (line : ℕ) (inside : Option (List (List ℕ))) (terms : Terms) (known : Known)
    → AreSuch terms → GivesCond (cond_end line inside terms known)
end_gives line (Some inside) terms known such =
    then_gives (λ (read : Reading Decl). IsDecl read.value)
    (λ (read : Reading (List (List Term))). IsCond read.value) (own_decl line inside known)
    (λ decl. Err bad_condition) (own_gives line inside known) (λ decl is. tt)
end_gives line None terms known such = by_marks terms.marks.some
  where
    by_marks : (some : Bool) → GivesCond (if some then Err bad_condition
        else with_conj terms.before terms.conj >>= (λ cond. Ok (cond_reading known cond)))
    by_marks true = tt
    by_marks false =
        then_gives IsCond (λ (read : Reading (List (List Term))). IsCond read.value)
        (with_conj terms.before terms.conj) (λ cond. Ok (cond_reading known cond))
        (conj_gives terms.before terms.conj such.before such.conj) (λ cond is. is)

from_gives : (line : ℕ) (words : List (List ℕ)) (terms : Terms) (known : Known) → AreSuch terms
    → GivesCond (cond_from line words terms known)
from_gives line [] terms known such = end_gives line terms.inside terms known such
from_gives line (word ∷ words) terms known such =
    then_gives (λ (read : Reading Terms). AreSuch read.value)
    (λ (read : Reading (List (List Term))). IsCond read.value)
    (next_word line terms.inside word terms known) (λ r. cond_from line words r.value r.known)
    (word_gives line terms.inside word terms known such)
    (λ r is. from_gives line words r.value r.known is)

-- words are read as a condition, or refused by a code
pub cond_gives : (line : ℕ) (words : List (List ℕ)) (known : Known)
    → Gives (λ (read : Reading (List (List Term))). IsCond read.value) (cond_of line words known)
unfolding cond_of
cond_gives line words known =
    from_gives line words no_terms known (record {
      before = All-nil (All (λ (term : Term). IsAclUse term.acl));
      conj = All-nil (λ (term : Term). IsAclUse term.acl);
    })
