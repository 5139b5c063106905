-- The steps of the code through the words of a condition.
use Rattle.std.proofs.Common.{◌≡◌, ℕ, suc, ◌+◌, Bool, true, false, List, [], ◌∷◌, ◌++◌, length, take, drop, position, Option, None, Some, Ok, Err, refl, sym, ◌∙◌, ap, inl, inr, cond, append_assoc, append-nil, add-one, arith}
use Rattle.std.specs.Bool.{beq}
use Rattle.std.proofs.lemmas.Bool.{cases_lt, le-ltb, lt-ltb}
use Rattle.std.proofs.Math.Dec.{ltb}
use Rattle.std.proofs.Math.Numerals.{one-add}
use Rattle.std.specs.List.{list_all, prefix_len}
use Rattle.hx_ast.specs.Acls.{is_name_byte}
use Rattle.std.specs.Prelude.{◌==◌, ◌||◌, nat_lt, not, option_map, Result}
use Rattle.hx_ast.specs.declared.AclUse.TheVariants.{Own}
use Rattle.hx_ast.specs.declared.Decl.{Decl}
use Rattle.hx_ast.specs.declared.Term.{Term}
use Rattle.hx_calls.specs.declared.fault.SpellFault.{SpellFault}
use Rattle.hx_base.specs.Results.{◌>>=◌}
use Rattle.hx_spell.specs.ConditionView.{RefusedAs, is_closing, marked, opened, unclosed}
use Rattle.hx_spell.specs.Conditions.{Terms, cond_from, is_name, is_odd, own_decl, own_term, turned, with_term}
use Rattle.hx_calls.specs.Known.{Known, Reading}

abbrev CondReading : Type 0
CondReading = Result (Reading (List (List Term))) SpellFault

-- with these words in an open brace
abbrev pub with_inside : List (List ℕ) → Terms → Terms
with_inside inside terms = record terms { inside = Some inside }

-- the condition after the ACL of these words in braces
abbrev pub after_braces : ℕ → List (List ℕ) → List (List ℕ) → Terms → Known → CondReading
after_braces line inside words terms known =
    own_decl line inside known
    >>= (λ decl. cond_from line words (with_term (Own decl.value) terms) decl.known)

-- the same by where the first brace closes
abbrev pub closed_at : ℕ → List (List ℕ) → List (List ℕ) → Terms → Known → Option ℕ → CondReading
closed_at line inside words terms known (Some i) =
    after_braces line (inside ++ take i words) (drop (suc i) words) terms known
closed_at line inside words terms known None = unclosed line (inside ++ words) known

-- one word more in braces
longer_inside : (line : ℕ) (inside : List (List ℕ)) (word : List ℕ) (words : List (List ℕ))
    (terms : Terms) (known : Known) (at : Option ℕ)
    → closed_at line (inside ++ word ∷ []) words terms known at
    ≡ closed_at line inside (word ∷ words) terms known (option_map suc at)
longer_inside line inside word words terms known None =
    ap (λ l. unclosed line l known) (append_assoc inside (word ∷ []) words)
longer_inside line inside word words terms known (Some i) =
    ap (λ l. after_braces line l (drop (suc i) words) terms known)
    (append_assoc inside (word ∷ []) (take i words))

position_cond : (n m : ℕ)
    → cond (ltb (1 + n) (suc m)) (Some (1 + n)) None
    ≡ option_map (λ i. suc i) (cond (ltb n m) (Some n) None)
position_cond n m = elim (cases_lt n m) [
  | inl lt ↦ let one : 1 + n ≡ suc n = one-add n in
      rw (lt-ltb n m lt, lt-ltb (1 + n) (suc m) (omega (arith, lt)), one) refl
  | inr ge ↦ rw (le-ltb n m ge, le-ltb (1 + n) (suc m) (omega (arith, ge))) refl
]

-- a first item that passes is found
pub position_first : {A : Type 0} (p : A → Bool) (x : A) (xs : List A) → p x ≡ true
    → position p (x ∷ xs) ≡ Some 0
position_first p x xs is =
    rw (is, lt-ltb 0 (suc (length xs)) (omega arith)) refl

-- a first item that doesn't pass is passed over
pub position_later : {A : Type 0} (p : A → Bool) (x : A) (xs : List A) → p x ≡ false
    → position p (x ∷ xs) ≡ option_map (λ i. suc i) (position p xs)
position_later p x xs is = rw is (position_cond (prefix_len (λ y. not (p y)) xs) (length xs))

pub own_then : (line : ℕ) (words : List (List ℕ)) (terms : Terms)
    (decl : Result (Reading Decl) SpellFault)
    → (decl >>= (λ d. Ok (own_term terms d))
    >>= (λ r. cond_from line words r.value r.known))
    ≡ (decl >>= (λ d. cond_from line words (with_term (Own d.value) terms) d.known))
own_then line words terms (Ok decl) = refl
own_then line words terms (Err fault) = refl

by_word : (line : ℕ) (inside : List (List ℕ)) (word : List ℕ) (words : List (List ℕ))
    (terms : Terms) (known : Known) (closes : Bool) → is_closing word ≡ closes
    → cond_from line words (with_inside (inside ++ word ∷ []) terms) known
    ≡ closed_at line (inside ++ word ∷ []) words terms known (position is_closing words)
    → cond_from line (word ∷ words) (with_inside inside terms) known
    ≡ closed_at line inside (word ∷ words) terms known (position is_closing (word ∷ words))
by_word line inside word words terms known true is later =
    rw (position_first is_closing word words is, is) (own_then line words (with_inside inside terms) (own_decl line inside known)
    ∙ ap (λ l. after_braces line l words terms known) (sym (append-nil inside)))
by_word line inside word words terms known false is later =
    rw (position_later is_closing word words is, is)
    (later ∙ longer_inside line inside word words terms known (position is_closing words))

-- where the first brace closes
pub in_braces : (line : ℕ) (inside words : List (List ℕ)) (terms : Terms) (known : Known)
    → cond_from line words (with_inside inside terms) known
    ≡ closed_at line inside words terms known (position is_closing words)
in_braces line inside [] terms known = ap (λ l. unclosed line l known) (sym (append-nil inside))
in_braces line inside (word ∷ words) terms known =
    by_word line inside word words terms known (is_closing word) refl
    (in_braces line (inside ++ word ∷ []) words terms known)

turned_is : (a b : Bool) → turned b a ≡ not (beq a b)
turned_is true true = refl
turned_is true false = refl
turned_is false true = refl
turned_is false false = refl

-- ---- marks

-- so many marks more
pub marks_more : (before : List (List Term)) (conj : List Term) (some negated : Bool) (n : ℕ)
    → record {
      before = before;
      conj = conj;
      marks = record { some = some || nat_lt 0 n; negated = not (beq negated (is_odd n)) };
      inside = None;
    }
    ≡ marked n (record {
      before = before;
      conj = conj;
      marks = record { some = some; negated = negated };
      inside = None;
    })
marks_more before conj some negated n = ap (λ (b : Bool). record {
  before = before;
  conj = conj;
  marks = record { some = some || nat_lt 0 n; negated = b };
  inside = None;
}) (sym (turned_is negated (is_odd n)))

-- ---- names

-- a word that isn't empty is a name where each of its bytes may stand in one
pub name_of_some : (word : List ℕ) (all : Bool) → (length word == 0) ≡ false
    → all ≡ list_all is_name_byte word → all ≡ is_name word
name_of_some [] all some is = absurd (let no : ⊥ = cc in no)
name_of_some (b ∷ bs) all some is = is ∙ rw (lt-ltb 0 (length (b ∷ bs)) (omega arith)) refl

-- ---- braces in the code

-- why an open brace is refused
pub open_refused : (line : ℕ) (words : List (List ℕ)) (terms : Terms) (known : Known)
    (fault : SpellFault) → position is_closing words ≡ None
    → RefusedAs fault (unclosed line words known)
    → RefusedAs fault (cond_from line words (opened terms) known)
open_refused line words terms known fault at refused memory =
    in_braces line [] words terms known
    ∙ (ap (λ o. closed_at line [] words terms known o) at ∙ refused memory)

-- the ACL in braces is read, or refused
pub closed_read : (line i : ℕ) (words : List (List ℕ)) (terms : Terms) (known after : Known)
    (decl : Decl) → position is_closing words ≡ Some i
    → own_decl line (take i words) known ≡ Ok (record { value = decl; known = after })
    → cond_from line words (opened terms) known
    ≡ cond_from line (drop (i + 1) words) (with_term (Own decl) terms) after
closed_read line i words terms known after decl at read =
    in_braces line [] words terms known
    ∙ (ap (λ o. closed_at line [] words terms known o) at
    ∙ (ap (λ d. d >>= (λ d. cond_from line (drop (suc i) words)
    (with_term (Own d.value) terms) d.known)) read
    ∙ ap (λ n. cond_from line (drop n words) (with_term (Own decl) terms) after) (sym (add-one i))))

pub closed_refused : (line i : ℕ) (words : List (List ℕ)) (terms : Terms) (known : Known)
    (fault : SpellFault) → position is_closing words ≡ Some i
    → own_decl line (take i words) known ≡ Err fault
    → cond_from line words (opened terms) known ≡ Err fault
closed_refused line i words terms known fault at refused =
    in_braces line [] words terms known
    ∙ (ap (λ o. closed_at line [] words terms known o) at
    ∙ ap (λ d. d >>= (λ d. cond_from line (drop (suc i) words)
    (with_term (Own d.value) terms) d.known)) refused)
