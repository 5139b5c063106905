-- Words that are read as a condition spell it.
use Rattle.std.proofs.Common.{◌≡◌, ℕ, ◌<◌, Bool, true, false, List, [], ◌∷◌, ◌++◌, map, None, Ok, Err, refl, sym, ◌∙◌, ap, subst, inl, inr, append_assoc, append-nil}
use Rattle.std.specs.Prelude.{◌⊎◌, ◌+◌, ◌&&◌, Result, codes, if◌then◌else◌, nat_lt, not, sum}
use Rattle.std.specs.List.{list_any}
use Rattle.std.specs.Str.{bytes_eq}
use Rattle.std.proofs.lemmas.Bool.{cases_Bool, ltb-true}
use Rattle.std.proofs.lemmas.List.{map-append}
use Rattle.std.proofs.lemmas.List.Elements.{All-append, All-cons, All-nil}
use Rattle.std.proofs.lemmas.List.Folds.{list_any-append}
use Rattle.hx_ast.specs.declared.AclUse.TheVariants.{Named, Own}
use Rattle.hx_ast.specs.declared.Decl.{Decl}
use Rattle.hx_ast.specs.declared.Term.{Term}
use Rattle.hx_calls.specs.declared.fault.SpellFault.{SpellFault}
use Rattle.hx_base.specs.Results.{◌>>=◌}
use Rattle.hx_calls.specs.Codes.{bad_condition, unknown_acl}
use Rattle.hx_spell.specs.ConditionView.{is_closing, marked}
use Rattle.hx_spell.specs.Conditions.{Marks, Terms, after_marks, after_marks_word, cond_end, cond_from, is_acl_name, is_odd, is_or, marks_of, named_term, next_conj, no_marks, own_decl, with_marks, with_term}
use Rattle.hx_calls.specs.Known.{Known, Reading, is_known_acl}
use Rattle.hx_spell.specs.ConditionRelation.{IsOr, SpellCond, SpellConj, SpellTerm, marks}
use Rattle.hx_spell.specs.ConditionRelation.SpellCond.{LastConj, NextConj}
use Rattle.hx_spell.specs.ConditionRelation.SpellConj.{LastTerm, NextTerm}
use Rattle.hx_spell.specs.ConditionRelation.SpellUse.{NamedUse, OwnUse}
use Rattle.hx_spell.proofs.ConditionReadLemmas.{negated_whole, outside}
use Rattle.hx_spell.proofs.ConditionStepLemmas.{own_then, with_inside}
use Rattle.hx_spell.proofs.ConditionWordLemmas.{AreMarks, counted, counted_last, equal_bytes, marks_split, name_is, none_counted, not_true, or_is, other_bytes, same_bytes}
use Rattle.hx_spell.proofs.DeclarationLemmas.{decl_law}
use Rattle.hx_calls.proofs.ResultLemmas.{and_then_ok, both}

-- ---- what follows a place

-- further terms of a conjunction, or none
abbrev MoreTerms : ℕ → Known → List (List ℕ) → Reading (List Term) → Type 0
MoreTerms line known words read =
    ((words ≡ []) × (read ≡ record { value = []; known = known })) ⊎ SpellConj line known words read

record OrThen (line : ℕ) (known : Known) (words : List (List ℕ))
    (read : Reading (List (List Term))) : Type 0 where
  between : List ℕ
  rest : List (List ℕ)
  words_are : words ≡ between ∷ rest
  is_or : IsOr between
  spelled : SpellCond line known rest read

-- further conjunctions, or none
abbrev MoreConjs : ℕ → Known → List (List ℕ) → Reading (List (List Term)) → Type 0
MoreConjs line known words read =
    ((words ≡ []) × (read ≡ record { value = []; known = known })) ⊎ OrThen line known words read

abbrev IsSome : List Term → Type 0
IsSome terms = (t : Term) × (ts : List Term) × (terms ≡ t ∷ ts)

-- words complete a condition, after these conjunctions and terms
record Completes (line : ℕ) (before : List (List Term)) (conj : List Term) (known : Known)
    (words : List (List ℕ)) (read : Reading (List (List Term))) : Type 0 where
  term_words : List (List ℕ)
  other_words : List (List ℕ)
  words_are : words ≡ term_words ++ other_words
  terms : Reading (List Term)
  with_terms : MoreTerms line known term_words terms
  some : IsSome (conj ++ terms.value)
  others : Reading (List (List Term))
  with_others : MoreConjs line terms.known other_words others
  is : read ≡ record {
    value = before ++ (conj ++ terms.value) ∷ others.value;
    known = others.known;
  }

-- ---- how it is completed

ends : (line : ℕ) (before : List (List Term)) (conj : List Term) (known : Known)
    (read : Reading (List (List Term)))
    → cond_end line None (outside before conj no_marks) known ≡ Ok read
    → Completes line before conj known [] read
ends line before [] known read is = absurd (let no : ⊥ = cc in no)
ends line before (t ∷ ts) known read is =
    let same : record { value = before ++ (t ∷ ts) ∷ []; known = known } ≡ read = cc in
    record {
      term_words = [];
      other_words = [];
      words_are = refl;
      terms = record { value = []; known = known };
      with_terms = inl (refl, refl);
      some = (t, ts, append-nil (t ∷ ts));
      others = record { value = []; known = known };
      with_others = inl (refl, refl);
      is = sym same ∙ ap (λ l. record { value = before ++ l ∷ []; known = known })
          (sym (append-nil (t ∷ ts)));
    }

more_terms : (line : ℕ) (known : Known) (first rest : List (List ℕ)) (t : Reading Term)
    (terms : Reading (List Term)) → SpellTerm line known first t
    → MoreTerms line t.known rest terms
    → SpellConj line known (first ++ rest)
    (record { value = t.value ∷ terms.value; known = terms.known })
more_terms line known first rest t terms spelled (inl (none, is)) =
    rw (none, is, append-nil first) (LastTerm known first t spelled)
more_terms line known first rest t terms spelled (inr more) =
    NextTerm known first rest t terms spelled more

term_completes : (line : ℕ) (before : List (List Term)) (conj : List Term) (known : Known)
    (first words : List (List ℕ)) (t : Reading Term) (read : Reading (List (List Term)))
    → SpellTerm line known first t
    → Completes line before (conj ++ t.value ∷ []) t.known words read
    → Completes line before conj known (first ++ words) read
term_completes line before conj known first words t read spelled c =
    let joined : (conj ++ t.value ∷ []) ++ c.terms.value ≡ conj ++ t.value ∷ c.terms.value =
    append_assoc conj (t.value ∷ []) c.terms.value in
    record {
      term_words = first ++ c.term_words;
      other_words = c.other_words;
      words_are = ap (λ w. first ++ w) c.words_are
          ∙ sym (append_assoc first c.term_words c.other_words);
      terms = record { value = t.value ∷ c.terms.value; known = c.terms.known };
      with_terms = inr
          (more_terms line known first c.term_words t c.terms spelled c.with_terms);
      some = (c.some.0, c.some.1, sym joined ∙ c.some.2);
      others = c.others;
      with_others = c.with_others;
      is = c.is ∙ ap (λ l. record { value = before ++ l ∷ c.others.value; known = c.others.known })
          joined;
    }

no_some : (xs ts : List Term) (t : Term) → xs ≡ [] → xs ≡ t ∷ ts → ⊥
no_some xs ts t none some = let bad : [] ≡ t ∷ ts = sym none ∙ some in cc

conj_then : (line : ℕ) (known : Known) (words rest : List (List ℕ)) (conj : Reading (List Term))
    (others : Reading (List (List Term))) → SpellConj line known words conj
    → MoreConjs line conj.known rest others
    → SpellCond line known (words ++ rest)
    (record { value = conj.value ∷ others.value; known = others.known })
conj_then line known words rest conj others spelled (inl (none, is)) =
    rw (none, is, append-nil words) (LastConj known words conj spelled)
conj_then line known words rest conj others spelled (inr o) =
    rw o.words_are (NextConj known words o.rest o.between conj others spelled o.is_or o.spelled)

terms_then : (line : ℕ) (known : Known) (words rest : List (List ℕ)) (terms : Reading (List Term))
    (others : Reading (List (List Term))) → MoreTerms line known words terms
    → IsSome terms.value → MoreConjs line terms.known rest others
    → SpellCond line known (words ++ rest)
    (record { value = terms.value ∷ others.value; known = others.known })
terms_then line known words rest terms others (inl (none, is)) (t, ts, some) more =
    absurd (no_some terms.value ts t (ap (λ (r : Reading (List Term)). r.value) is) some)
terms_then line known words rest terms others (inr conj) some more =
    conj_then line known words rest terms others conj more

completed : (line : ℕ) (before : List (List Term)) (known : Known) (words : List (List ℕ))
    (read : Reading (List (List Term))) (c : Completes line before [] known words read)
    → SpellCond line known words
    (record { value = c.terms.value ∷ c.others.value; known = c.others.known })
completed line before known words read c =
    rw c.words_are (terms_then line known c.term_words c.other_words c.terms c.others
    c.with_terms c.some c.with_others)

or_completes : (line : ℕ) (before : List (List Term)) (t : Term) (ts : List Term) (known : Known)
    (word : List ℕ) (words : List (List ℕ)) (read : Reading (List (List Term))) → IsOr word
    → Completes line (before ++ (t ∷ ts) ∷ []) [] known words read
    → Completes line before (t ∷ ts) known (word ∷ words) read
or_completes line before t ts known word words read is c =
    let others : List (List Term) = c.terms.value ∷ c.others.value in
    let joined : (before ++ (t ∷ ts) ∷ []) ++ others ≡ before ++ (t ∷ ts) ∷ others =
    append_assoc before ((t ∷ ts) ∷ []) others in
    record {
      term_words = [];
      other_words = word ∷ words;
      words_are = refl;
      terms = record { value = []; known = known };
      with_terms = inl (refl, refl);
      some = (t, ts, append-nil (t ∷ ts));
      others = record { value = others; known = c.others.known };
      with_others = inr (record {
        between = word;
        rest = words;
        words_are = refl;
        is_or = is;
        spelled = completed line (before ++ (t ∷ ts) ∷ []) known words read c;
      });
      is = c.is ∙ (ap (λ l. record { value = l; known = c.others.known }) joined
          ∙ ap (λ l. record { value = before ++ l ∷ others; known = c.others.known })
          (sym (append-nil (t ∷ ts))));
    }

-- ---- what is read completes it

-- after words of so many marks
abbrev Outside : ℕ → List (List ℕ) → Type 0
Outside line words =
    (before : List (List Term)) (conj : List Term) (counts : List ℕ) (known : Known)
    (read : Reading (List (List Term))) → AreMarks counts
    → cond_from line words (outside before conj (counted no_marks counts)) known ≡ Ok read
    → Completes line before conj known (map marks counts ++ words) read

-- after these words of an open brace
abbrev Inside : ℕ → List (List ℕ) → Type 0
Inside line words =
    (inside : List (List ℕ)) (before : List (List Term)) (conj : List Term) (counts : List ℕ)
    (last : ℕ) (known : Known) (read : Reading (List (List Term))) → AreMarks counts
    → list_any (bytes_eq (codes "}")) inside ≡ false
    → cond_from line words
    (with_inside inside (outside before conj (with_marks last (counted no_marks counts)))) known
    ≡ Ok read
    → Completes line before conj known
    (map marks counts ++ (marks last ++ codes "{") ∷ (inside ++ words)) read

no_marks_none : AreMarks []
no_marks_none = All-nil (λ n. 0 < n)

outside_end : (line : ℕ) → Outside line []
outside_end line before conj counts known read each is =
    elim (cases_Bool (counted no_marks counts).some) [
      | inl some ↦ absurd (let bad : Err bad_condition ≡ Ok read = rw some at is in cc)
      | inr none ↦
          let empty : counts ≡ [] = none_counted counts each none in
          rw empty (ends line before conj known read (rw empty at is))
    ]

never_ok : {A B : Type 0} (r : Result A SpellFault) (read : B)
    → (r >>= (λ x. Err bad_condition)) ≡ Ok read → ⊥
never_ok (Ok x) read is = cc
never_ok (Err fault) read is = cc

inside_end : (line : ℕ) → Inside line []
inside_end line inside before conj counts last known read each unbroken is =
    absurd (never_ok (own_decl line inside known) read is)

same_words : (line : ℕ) (before : List (List Term)) (conj : List Term) (known : Known)
    (words others : List (List ℕ)) (read : Reading (List (List Term))) → words ≡ others
    → Completes line before conj known words read → Completes line before conj known others read
same_words line before conj known words others read is c =
    subst (λ (w : List (List ℕ)). Completes line before conj known w read) is c

from_or : (line : ℕ) (word : List ℕ) (words : List (List ℕ)) → Outside line words
    → (before : List (List Term)) (conj : List Term) (m : Marks) (known : Known)
    (read : Reading (List (List Term))) → IsOr word
    → (next_conj (outside before conj m) known >>= (λ r. cond_from line words r.value r.known))
    ≡ Ok read
    → Completes line before conj known (word ∷ words) read
from_or line word words out before [] m known read or is = absurd (let bad : ⊥ = cc in bad)
from_or line word words out before (t ∷ ts) m known read or is =
    or_completes line before t ts known word words read or
    (out (before ++ (t ∷ ts) ∷ []) [] [] known read no_marks_none is)

if_ok : (b : Bool) (x : Reading Terms)
    (f : Reading Terms → Result (Reading (List (List Term))) SpellFault)
    (read : Reading (List (List Term))) → ((if b then Ok x else Err bad_condition) >>= f) ≡ Ok read
    → f x ≡ Ok read
if_ok true x f read is = is
if_ok false x f read is = absurd (let bad : Err bad_condition ≡ Ok read = is in cc)

-- a word of marks alone
from_marks : (line : ℕ) (word : List ℕ) (words : List (List ℕ)) → Outside line words
    → (before : List (List Term)) (conj : List Term) (counts : List ℕ) (n : ℕ) (known : Known)
    (read : Reading (List (List Term))) (some : Bool) → AreMarks counts → marks n ++ [] ≡ word
    → nat_lt 0 n ≡ some
    → (after_marks_word n [] (marked n (outside before conj (counted no_marks counts))) known
    >>= (λ r. cond_from line words r.value r.known)) ≡ Ok read
    → Completes line before conj known (map marks counts ++ word ∷ words) read
from_marks line word words out before conj counts n known read true each split some is =
    let all : AreMarks (counts ++ n ∷ []) =
    All-append (λ m. 0 < m) counts (n ∷ []) each
    (All-cons (λ m. 0 < m) n [] (ltb-true 0 n some) no_marks_none) in
    let spelled : map marks (counts ++ n ∷ []) ++ words ≡ map marks counts ++ word ∷ words =
    ap (λ l. l ++ words) (map-append marks counts (n ∷ []))
    ∙ (append_assoc (map marks counts) (marks n ∷ []) words
    ∙ ap (λ w. map marks counts ++ w ∷ words) (sym (append-nil (marks n)) ∙ split)) in
    let counted_is : cond_from line words
    (outside before conj (counted no_marks (counts ++ n ∷ []))) known ≡ Ok read =
    ap (λ m. cond_from line words (outside before conj m) known) (counted_last no_marks counts n)
    ∙ if_ok (nat_lt 0 n) (record {
      value = outside before conj (with_marks n (counted no_marks counts));
      known = known;
    }) (λ r. cond_from line words r.value r.known) read is in
    same_words line before conj known (map marks (counts ++ n ∷ []) ++ words)
    (map marks counts ++ word ∷ words) read spelled
    (out before conj (counts ++ n ∷ []) known read all counted_is)
from_marks line word words out before conj counts n known read false each split some is =
    absurd (let bad : Err bad_condition ≡ Ok read = rw some at is in cc)

-- a name after marks
from_known : (line : ℕ) (word : List ℕ) (words : List (List ℕ)) → Outside line words
    → (before : List (List Term)) (conj : List Term) (counts : List ℕ) (n : ℕ) (name : List ℕ)
    (known : Known) (read : Reading (List (List Term))) → AreMarks counts
    → marks n ++ name ≡ word → is_acl_name name ≡ true → is_known_acl known name ≡ true
    → cond_from line words (with_term (Named name)
    (outside before conj (with_marks n (counted no_marks counts)))) known ≡ Ok read
    → Completes line before conj known (map marks counts ++ word ∷ words) read
from_known line word words out before conj counts n name known read each split named is_known is =
    let term : Term = record { negated = is_odd (sum counts + n); acl = Named name } in
    let spelled : SpellTerm line known (map marks counts ++ (marks n ++ name) ∷ [])
    (record { value = term; known = known }) =
    record {
      counts = counts;
      each = each;
      last = n;
      first = name;
      others = [];
      words_are = refl;
      acl = record { value = Named name; known = known };
      spelled = NamedUse name (name_is name named) is_known;
      is = refl;
    } in
    let joined : (map marks counts ++ (marks n ++ name) ∷ []) ++ words
    ≡ map marks counts ++ word ∷ words =
    append_assoc (map marks counts) ((marks n ++ name) ∷ []) words
    ∙ ap (λ w. map marks counts ++ w ∷ words) split in
    let after : cond_from line words (outside before (conj ++ term ∷ []) no_marks) known ≡ Ok read =
    subst (λ (b : Bool). cond_from line words
    (outside before (conj ++ record { negated = b; acl = Named name } ∷ []) no_marks) known
    ≡ Ok read) (negated_whole counts n) is in
    same_words line before conj known ((map marks counts ++ (marks n ++ name) ∷ []) ++ words)
    (map marks counts ++ word ∷ words) read joined
    (term_completes line before conj known (map marks counts ++ (marks n ++ name) ∷ []) words
    (record { value = term; known = known }) read spelled
    (out before (conj ++ term ∷ []) [] known read no_marks_none after))

from_name : (line : ℕ) (word : List ℕ) (words : List (List ℕ)) → Outside line words
    → (before : List (List Term)) (conj : List Term) (counts : List ℕ) (n : ℕ) (name : List ℕ)
    (known : Known) (read : Reading (List (List Term))) → AreMarks counts
    → marks n ++ name ≡ word
    → (named_term name (outside before conj (with_marks n (counted no_marks counts))) known
    >>= (λ r. cond_from line words r.value r.known)) ≡ Ok read
    → Completes line before conj known (map marks counts ++ word ∷ words) read
from_name line word words out before conj counts n name known read each split is =
    elim (cases_Bool (is_acl_name name)) [
      | inl named ↦ elim (cases_Bool (is_known_acl known name)) [
        | inl is_known ↦ from_known line word words out before conj counts n name known read
            each split named is_known (rw (named, is_known) at is)
        | inr unknown ↦ absurd (let bad : Err unknown_acl ≡ Ok read = rw (named, unknown) at is in cc)
      ]
      | inr other ↦ absurd (let bad : Err bad_condition ≡ Ok read = rw other at is in cc)
    ]

-- what follows marks
from_after : (line : ℕ) (word : List ℕ) (words : List (List ℕ)) → Outside line words
    → Inside line words
    → (before : List (List Term)) (conj : List Term) (counts : List ℕ) (n : ℕ) (after : List ℕ)
    (known : Known) (read : Reading (List (List Term))) → AreMarks counts
    → marks n ++ after ≡ word
    → (after_marks_word n after (marked n (outside before conj (counted no_marks counts))) known
    >>= (λ r. cond_from line words r.value r.known)) ≡ Ok read
    → Completes line before conj known (map marks counts ++ word ∷ words) read
from_after line word words out ins before conj counts n [] known read each split is =
    from_marks line word words out before conj counts n known read (nat_lt 0 n) each split refl is
from_after line word words out ins before conj counts n (b ∷ bs) known read each split is =
    elim (cases_Bool (bytes_eq (b ∷ bs) (codes "{"))) [
      | inl brace ↦
          let same : marks n ++ codes "{" ≡ word =
          ap (λ a. marks n ++ a) (sym (same_bytes (b ∷ bs) (codes "{") brace)) ∙ split in
          same_words line before conj known
          (map marks counts ++ (marks n ++ codes "{") ∷ ([] ++ words))
          (map marks counts ++ word ∷ words) read
          (ap (λ w. map marks counts ++ w ∷ words) same)
          (ins [] before conj counts n known read each refl (rw brace at is))
      | inr other ↦ from_name line word words out before conj counts n (b ∷ bs) known read
          each split (rw other at is)
    ]

outside_step : (line : ℕ) (word : List ℕ) (words : List (List ℕ)) → Outside line words
    → Inside line words → Outside line (word ∷ words)
outside_step line word words out ins before conj counts known read each is =
    let m = counted no_marks counts in
    elim (cases_Bool (is_or word && not m.some)) [
      | inl or ↦
          let (between, none) = both (is_or word) (not m.some) or in
          let empty : counts ≡ [] = none_counted counts each (not_true m.some none) in
          let whole : map marks counts ++ word ∷ words ≡ word ∷ words =
          ap (λ c. map marks c ++ word ∷ words) empty in
          same_words line before conj known (word ∷ words) (map marks counts ++ word ∷ words) read
          (sym whole)
          (from_or line word words out before conj m known read (or_is word between) (rw or at is))
      | inr other ↦ from_after line word words out ins before conj counts (marks_of word)
          (after_marks word) known read each (marks_split word) (rw other at is)
    ]

-- ---- braces

from_own : (line : ℕ) (words : List (List ℕ)) → Outside line words
    → (inside : List (List ℕ)) (before : List (List Term)) (conj : List Term) (counts : List ℕ)
    (last : ℕ) (known : Known) (read : Reading (List (List Term))) (decl : Reading Decl)
    → AreMarks counts → list_any (bytes_eq (codes "}")) inside ≡ false
    → own_decl line inside known ≡ Ok decl
    → cond_from line words (with_term (Own decl.value)
    (outside before conj (with_marks last (counted no_marks counts)))) decl.known ≡ Ok read
    → Completes line before conj known
    (map marks counts ++ (marks last ++ codes "{") ∷ (inside ++ codes "}" ∷ words)) read
from_own line words out [] before conj counts last known read decl each unbroken own is =
    absurd (let bad : ⊥ = cc in bad)
from_own line words out (text ∷ inside) before conj counts last known read decl each unbroken own is =
    let term : Term = record { negated = is_odd (sum counts + last); acl = Own decl.value } in
    let brace = marks last ++ codes "{" in
    let first = map marks counts ++ brace ∷ ((text ∷ inside) ++ codes "}" ∷ []) in
    let spelled : SpellTerm line known first (record { value = term; known = decl.known }) =
    record {
      counts = counts;
      each = each;
      last = last;
      first = codes "{";
      others = (text ∷ inside) ++ codes "}" ∷ [];
      words_are = refl;
      acl = record { value = Own decl.value; known = decl.known };
      spelled = OwnUse text inside decl unbroken ((decl_law line text inside known decl).0 own);
      is = refl;
    } in
    let joined : first ++ words
    ≡ map marks counts ++ brace ∷ ((text ∷ inside) ++ codes "}" ∷ words) =
    append_assoc (map marks counts) (brace ∷ ((text ∷ inside) ++ codes "}" ∷ [])) words
    ∙ ap (λ w. map marks counts ++ brace ∷ w) (append_assoc (text ∷ inside) (codes "}" ∷ []) words) in
    let after : cond_from line words (outside before (conj ++ term ∷ []) no_marks) decl.known
    ≡ Ok read =
    subst (λ (b : Bool). cond_from line words
    (outside before (conj ++ record { negated = b; acl = Own decl.value } ∷ []) no_marks) decl.known
    ≡ Ok read) (negated_whole counts last) is in
    same_words line before conj known (first ++ words)
    (map marks counts ++ brace ∷ ((text ∷ inside) ++ codes "}" ∷ words)) read joined
    (term_completes line before conj known first words
    (record { value = term; known = decl.known }) read spelled
    (out before (conj ++ term ∷ []) [] decl.known read no_marks_none after))

closing_other : (word : List ℕ) → is_closing word ≡ false → bytes_eq (codes "}") word ≡ false
closing_other word other = other_bytes (codes "}") word (λ is.
    let bad : true ≡ false = sym (equal_bytes word (codes "}") (sym is)) ∙ other in cc)

inside_step : (line : ℕ) (word : List ℕ) (words : List (List ℕ)) → Outside line words
    → Inside line words → Inside line (word ∷ words)
inside_step line word words out ins inside before conj counts last known read each unbroken is =
    let terms = outside before conj (with_marks last (counted no_marks counts)) in
    let brace = marks last ++ codes "{" in
    elim (cases_Bool (is_closing word)) [
      | inl closes ↦
          let whole : (own_decl line inside known >>= (λ d. cond_from line words
          (with_term (Own d.value) (with_inside inside terms)) d.known)) ≡ Ok read =
          sym (own_then line words (with_inside inside terms) (own_decl line inside known))
          ∙ rw closes at is in
          let (decl, own, after) = and_then_ok (own_decl line inside known)
          (λ d. cond_from line words (with_term (Own d.value) (with_inside inside terms)) d.known)
          read whole in
          same_words line before conj known
          (map marks counts ++ brace ∷ (inside ++ codes "}" ∷ words))
          (map marks counts ++ brace ∷ (inside ++ word ∷ words)) read
          (ap (λ w. map marks counts ++ brace ∷ (inside ++ w ∷ words))
          (sym (same_bytes word (codes "}") closes)))
          (from_own line words out inside before conj counts last known read decl each unbroken own
          after)
      | inr other ↦
          let longer : list_any (bytes_eq (codes "}")) (inside ++ word ∷ []) ≡ false =
          list_any-append (bytes_eq (codes "}")) inside (word ∷ [])
          ∙ rw (unbroken, closing_other word other) refl in
          same_words line before conj known
          (map marks counts ++ brace ∷ ((inside ++ word ∷ []) ++ words))
          (map marks counts ++ brace ∷ (inside ++ word ∷ words)) read
          (ap (λ w. map marks counts ++ brace ∷ w) (append_assoc inside (word ∷ []) words))
          (ins (inside ++ word ∷ []) before conj counts last known read each longer (rw other at is))
    ]

reads : (line : ℕ) (words : List (List ℕ)) → Outside line words × Inside line words
reads line [] = (outside_end line, inside_end line)
reads line (word ∷ words) =
    let (out, ins) = reads line words in
    (outside_step line word words out ins, inside_step line word words out ins)

pub cond_spells : (line : ℕ) (words : List (List ℕ)) (known : Known)
    (read : Reading (List (List Term)))
    → cond_from line words (outside [] [] no_marks) known ≡ Ok read
    → SpellCond line known words read
cond_spells line words known read is =
    let c = (reads line words).0 [] [] [] known read no_marks_none is in
    subst (λ (r : Reading (List (List Term))). SpellCond line known words r) (sym c.is)
    (completed line [] known words read c)
