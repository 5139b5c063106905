-- Words that spell a condition are read as it.
use Rattle.std.proofs.Common.{◌≡◌, ◌≢◌, ℕ, zero, suc, ◌+◌, ◌<◌, Bool, true, false, List, [], ◌∷◌, ◌++◌, length, drop, map, position, None, Some, Ok, refl, sym, ◌∙◌, ap, subst, append_assoc, append-nil, arith}
use Rattle.std.specs.Prelude.{◌||◌, codes, option_map, sum}
use Rattle.std.specs.List.{list_any}
use Rattle.std.specs.Str.{bytes_eq}
use Rattle.std.proofs.Math.Seq.{take-append_seam}
use Rattle.std.proofs.lemmas.Bool.{lt-ltb}
use Rattle.std.proofs.lemmas.List.Elements.{All-head, All-tail}
use Rattle.hx_ast.specs.Acls.{IsAclName, is_name_byte}
use Rattle.hx_ast.specs.declared.AclUse.{AclUse}
use Rattle.hx_ast.specs.declared.AclUse.TheVariants.{Named, Own}
use Rattle.hx_ast.specs.declared.Term.{Term}
use Rattle.hx_base.specs.Results.{◌>>=◌}
use Rattle.hx_spell.specs.ConditionView.{is_closing, marked, opened}
use Rattle.hx_spell.specs.Conditions.{Marks, Terms, after_marks_word, cond_from, is_odd, is_or, no_marks, turned, with_marks, with_term, word_outside}
use Rattle.hx_calls.specs.Known.{Known, Reading, is_known_acl}
use Rattle.hx_spell.specs.ConditionRelation.{SpellCond, SpellConj, SpellTerm, SpellUse, marks}
use Rattle.hx_spell.specs.ConditionRelation.SpellCond.{LastConj, NextConj}
use Rattle.hx_spell.specs.ConditionRelation.SpellConj.{LastTerm, NextTerm}
use Rattle.hx_spell.specs.ConditionRelation.SpellUse.{NamedUse, OwnUse}
use Rattle.hx_spell.proofs.ConditionStepLemmas.{after_braces, in_braces, position_first, position_later}
use Rattle.hx_spell.proofs.ConditionWordLemmas.{AreMarks, BeginsUnmarked, after_written, counted, equal_bytes, is_or_of, marks_written, name_reads, name_unmarked, negated_by, odd_sum, other_bytes}
use Rattle.hx_spell.proofs.DeclarationLemmas.{decl_law}

-- ---- the terms outside braces

abbrev pub outside : List (List Term) → List Term → Marks → Terms
outside before conj marks = record { before = before; conj = conj; marks = marks; inside = None }

-- marks, and what doesn't begin with one
word_read : (line n : ℕ) (rest : List ℕ) (terms : Terms) (known : Known) → BeginsUnmarked rest
    → is_or (marks n ++ rest) ≡ false
    → word_outside line (marks n ++ rest) terms known
    ≡ after_marks_word n rest (marked n terms) known
word_read line n rest terms known unmarked other =
    rw (other, marks_written n rest unmarked, after_written n rest) refl

-- words of marks alone
one_read : (line n : ℕ) (words : List (List ℕ)) (before : List (List Term)) (conj : List Term)
    (m : Marks) (known : Known)
    → cond_from line (marks (suc n) ∷ words) (outside before conj m) known
    ≡ cond_from line words (outside before conj (with_marks (suc n) m)) known
one_read line n words before conj m known =
    let alone : word_outside line (marks (suc n)) (outside before conj m) known
    ≡ after_marks_word (suc n) [] (marked (suc n) (outside before conj m)) known =
    subst (λ (w : List ℕ). word_outside line w (outside before conj m) known
    ≡ after_marks_word (suc n) [] (marked (suc n) (outside before conj m)) known)
    (append-nil (marks (suc n)))
    (word_read line (suc n) [] (outside before conj m) known tt refl) in
    ap (λ r. r >>= (λ r. cond_from line words r.value r.known)) alone
    ∙ rw (lt-ltb 0 (suc n) (omega arith)) refl

marks_read : (line : ℕ) (counts : List ℕ) (words : List (List ℕ)) (before : List (List Term))
    (conj : List Term) (m : Marks) (known : Known) → AreMarks counts
    → cond_from line (map marks counts ++ words) (outside before conj m) known
    ≡ cond_from line words (outside before conj (counted m counts)) known
marks_read line [] words before conj m known each = refl
marks_read line (zero ∷ ns) words before conj m known each =
    absurd (omega (arith, All-head (λ n. 0 < n) zero ns each))
marks_read line (suc n ∷ ns) words before conj m known each =
    one_read line n (map marks ns ++ words) before conj m known
    ∙ marks_read line ns words before conj (with_marks (suc n) m) known
    (All-tail (λ n. 0 < n) (suc n) ns each)

-- ---- names

no_such_byte : (b : ℕ) (bs name : List ℕ) → is_name_byte b ≡ false → IsAclName name
    → name ≢ b ∷ bs
no_such_byte b bs name other named is =
    let all : IsAclName (b ∷ bs) = subst (λ (n : List ℕ). IsAclName n) is named in
    let yes' : is_name_byte b ≡ true = All-head (λ c. is_name_byte c ≡ true) b bs all.bytes in
    let bad : true ≡ false = sym yes' ∙ other in cc

name_no_or : (n : ℕ) (name : List ℕ) → IsAclName name → is_or (marks n ++ name) ≡ false
name_no_or zero name named =
    rw (
      other_bytes name (codes "or") named.other,
      other_bytes name (codes "||") (no_such_byte 124 (124 ∷ []) name refl named),
    ) refl
name_no_or (suc n) name named = refl

name_read : (n : ℕ) (name : List ℕ) (terms : Terms) (known : Known) → IsAclName name
    → is_known_acl known name ≡ true
    → after_marks_word n name terms known
    ≡ Ok (record { value = with_term (Named name) terms; known = known })
name_read n [] terms known named is_known = absurd (omega (arith, named.some))
name_read n (b ∷ bs) terms known named is_known =
    rw (
      other_bytes (b ∷ bs) (codes "{") (no_such_byte 123 [] (b ∷ bs) refl named),
      name_reads (b ∷ bs) named,
      is_known,
    ) refl

-- ---- braces

brace_no_or : (n : ℕ) → is_or (marks n ++ codes "{") ≡ false
brace_no_or zero = refl
brace_no_or (suc n) = refl

open_read : (line n : ℕ) (terms : Terms) (known : Known)
    → word_outside line (marks n ++ codes "{") terms known
    ≡ Ok (record { value = opened (marked n terms); known = known })
open_read line n terms known =
    word_read line n (codes "{") terms known refl (brace_no_or n)

no_closing : (word : List ℕ) → bytes_eq (codes "}") word ≡ false → is_closing word ≡ false
no_closing word other = other_bytes word (codes "}") (λ is.
    let no : true ≡ false = sym (equal_bytes (codes "}") word (sym is)) ∙ other in cc)

neither : (a b : Bool) → (a || b) ≡ false → (a ≡ false) × (b ≡ false)
neither true b is = absurd (let no : ⊥ = cc in no)
neither false b is = (refl, is)

closing_at : (inside words : List (List ℕ)) → list_any (bytes_eq (codes "}")) inside ≡ false
    → position is_closing (inside ++ codes "}" ∷ words) ≡ Some (length inside)
closing_at [] words unbroken = position_first is_closing (codes "}") words refl
closing_at (word ∷ inside) words unbroken =
    let (first, others) = neither (bytes_eq (codes "}") word)
    (list_any (bytes_eq (codes "}")) inside) (list_any_cons word inside ∙ unbroken) in
    position_later is_closing word (inside ++ codes "}" ∷ words) (no_closing word first)
    ∙ ap (λ at. option_map (λ i. suc i) at) (closing_at inside words others)
  where
    list_any_cons : (word : List ℕ) (words : List (List ℕ))
        → (bytes_eq (codes "}") word || list_any (bytes_eq (codes "}")) words)
        ≡ list_any (bytes_eq (codes "}")) (word ∷ words)
    list_any_cons word words = refl

drop_seam : {A : Type 0} (xs : List A) (y : A) (ys : List A)
    → drop (suc (length xs)) (xs ++ y ∷ ys) ≡ ys
drop_seam [] y ys = refl
drop_seam (x ∷ xs) y ys = drop_seam xs y ys

inside_read : (line : ℕ) (inside words : List (List ℕ)) (terms : Terms) (known : Known)
    → list_any (bytes_eq (codes "}")) inside ≡ false
    → cond_from line (inside ++ codes "}" ∷ words) (opened terms) known
    ≡ after_braces line inside words terms known
inside_read line inside words terms known unbroken =
    in_braces line [] (inside ++ codes "}" ∷ words) terms known
    ∙ rw (
      closing_at inside words unbroken,
      take-append_seam inside (codes "}" ∷ words),
      drop_seam inside (codes "}") words,
    ) refl

-- ---- terms

turned_round : (a b : Bool) → turned a (turned b false) ≡ turned b a
turned_round true true = refl
turned_round true false = refl
turned_round false true = refl
turned_round false false = refl

pub negated_whole : (counts : List ℕ) (last : ℕ)
    → (with_marks last (counted no_marks counts)).negated ≡ is_odd (sum counts + last)
negated_whole counts last =
    ap (turned (is_odd last)) (negated_by no_marks counts)
    ∙ (turned_round (is_odd last) (is_odd (sum counts)) ∙ sym (odd_sum (sum counts) last))

abbrev term_by : Bool → AclUse → Term
term_by negated acl = record { negated = negated; acl = acl }

-- words of marks, and a word of marks and of the first of an ACL
use_read : (line : ℕ) (known : Known) (counts : List ℕ) (last : ℕ) (first : List ℕ)
    (others words : List (List ℕ)) (acl : Reading AclUse) (before : List (List Term))
    (conj : List Term) → AreMarks counts → SpellUse line known first others acl
    → cond_from line (map marks counts ++ (marks last ++ first) ∷ (others ++ words))
    (outside before conj no_marks) known
    ≡ cond_from line words
    (outside before (conj ++ term_by (is_odd (sum counts + last)) acl.value ∷ []) no_marks) acl.known
use_read line known counts last _ _ words _ before conj each (NamedUse name named is_known) =
    let m = counted no_marks counts in
    marks_read line counts ((marks last ++ name) ∷ words) before conj no_marks known each
    ∙ (ap (λ r. r >>= (λ r. cond_from line words r.value r.known))
    (word_read line last name (outside before conj m) known (name_unmarked name named)
    (name_no_or last name named)
    ∙ name_read last name (marked last (outside before conj m)) known named is_known)
    ∙ ap (λ b. cond_from line words
    (outside before (conj ++ term_by b (Named name) ∷ []) no_marks) known)
    (negated_whole counts last))
use_read line known counts last _ _ words _ before conj each (OwnUse text others decl unbroken spelled) =
    let m = counted no_marks counts in
    let brace = marks last ++ codes "{" in
    let inside = text ∷ others in
    rw (append_assoc inside (codes "}" ∷ []) words)
    (marks_read line counts (brace ∷ (inside ++ codes "}" ∷ words)) before conj no_marks known each
    ∙ (ap (λ r. r >>= (λ r. cond_from line (inside ++ codes "}" ∷ words) r.value r.known))
    (open_read line last (outside before conj m) known)
    ∙ (inside_read line inside words (marked last (outside before conj m)) known unbroken
    ∙ (ap (λ d. d >>= (λ d. cond_from line words
    (with_term (Own d.value) (marked last (outside before conj m))) d.known))
    ((decl_law line text others known decl).1 spelled)
    ∙ ap (λ b. cond_from line words
    (outside before (conj ++ term_by b (Own decl.value) ∷ []) no_marks) decl.known)
    (negated_whole counts last)))))

term_read : (line : ℕ) (known : Known) (tw words : List (List ℕ)) (t : Reading Term)
    (before : List (List Term)) (conj : List Term) → SpellTerm line known tw t
    → cond_from line (tw ++ words) (outside before conj no_marks) known
    ≡ cond_from line words (outside before (conj ++ t.value ∷ []) no_marks) t.known
term_read line known tw words t before conj s =
    rw (
      s.words_are,
      s.is,
      append_assoc (map marks s.counts) ((marks s.last ++ s.first) ∷ s.others) words,
    )
    (use_read line known s.counts s.last s.first s.others words s.acl before conj s.each s.spelled)

-- ---- conjunctions

conj_read : (line : ℕ) (known : Known) (tw words : List (List ℕ)) (c : Reading (List Term))
    (before : List (List Term)) (conj : List Term) → SpellConj line known tw c
    → cond_from line (tw ++ words) (outside before conj no_marks) known
    ≡ cond_from line words (outside before (conj ++ c.value) no_marks) c.known
conj_read line known tw words c before conj (LastTerm _ _ t spelled) =
    term_read line known tw words t before conj spelled
conj_read line known tw words c before conj (NextTerm _ first rest t others spelled more) =
    rw (append_assoc first rest words)
    (term_read line known first (rest ++ words) t before conj spelled
    ∙ (conj_read line t.known rest words others before (conj ++ t.value ∷ []) more
    ∙ ap (λ l. cond_from line words (outside before l no_marks) others.known)
    (append_assoc conj (t.value ∷ []) others.value)))

conj_some : (line : ℕ) (known : Known) (tw : List (List ℕ)) (c : Reading (List Term))
    → SpellConj line known tw c → (t : Term) × (ts : List Term) × (c.value ≡ t ∷ ts)
conj_some line known tw c (LastTerm _ _ t spelled) = (t.value, [], refl)
conj_some line known tw c (NextTerm _ first rest t others spelled more) =
    (t.value, others.value, refl)

last_read : (line : ℕ) (known : Known) (before : List (List Term)) (conj ts : List Term) (t : Term)
    → conj ≡ t ∷ ts
    → cond_from line [] (outside before conj no_marks) known
    ≡ Ok (record { value = before ++ conj ∷ []; known = known })
last_read line known before conj ts t is = rw is refl

or_read : (line : ℕ) (known : Known) (before : List (List Term)) (conj ts : List Term) (t : Term)
    (word : List ℕ) (words : List (List ℕ)) → conj ≡ t ∷ ts → is_or word ≡ true
    → cond_from line (word ∷ words) (outside before conj no_marks) known
    ≡ cond_from line words (outside (before ++ conj ∷ []) [] no_marks) known
or_read line known before conj ts t word words is or = rw (is, or) refl

pub cond_read : (line : ℕ) (known : Known) (words : List (List ℕ))
    (read : Reading (List (List Term))) (before : List (List Term)) → SpellCond line known words read
    → cond_from line words (outside before [] no_marks) known
    ≡ Ok (record { value = before ++ read.value; known = read.known })
cond_read line known words read before (LastConj _ _ conj spelled) =
    let (t, ts, some) = conj_some line known words conj spelled in
    subst (λ (w : List (List ℕ)). cond_from line w (outside before [] no_marks) known
    ≡ Ok (record { value = before ++ conj.value ∷ []; known = conj.known })) (append-nil words)
    (conj_read line known words [] conj before [] spelled
    ∙ last_read line conj.known before conj.value ts t some)
cond_read line known words read before (NextConj _ first rest between conj others spelled or more) =
    let (t, ts, some) = conj_some line known first conj spelled in
    conj_read line known first (between ∷ rest) conj before [] spelled
    ∙ (or_read line conj.known before conj.value ts t between rest some (is_or_of between or)
    ∙ (cond_read line conj.known rest others (before ++ conj.value ∷ []) more
    ∙ ap (λ l. Ok (record { value = l; known = others.known }))
    (append_assoc before (conj.value ∷ []) others.value)))
