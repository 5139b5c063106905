-- Conditions: conjunctions with `or` or `||` between them; a conjunction is one term or more, each
-- with any number of `!` before it (HAProxy configuration manual 2.4, section 7.2).
use Rattle.std.specs.Prelude.{ℕ, ◌%◌, ◌==◌, ◌&&◌, ◌||◌, Bool, true, false, not, List, [], ◌∷◌, ◌++◌, length, drop, codes, nat_lt, Option, Some, None, Result, Ok, Err, if◌then◌else◌}
use Rattle.std.specs.List.{list_all, prefix_len}
use Rattle.std.specs.Str.{bytes_eq}
use Rattle.hx_base.specs.Bytes.{ascii}
use Rattle.hx_ast.specs.declared.AclUse.{AclUse}
use Rattle.hx_ast.specs.declared.AclUse.TheVariants.{Named, Own}
use Rattle.hx_ast.specs.declared.Decl.{Decl}
use Rattle.hx_ast.specs.declared.Term.{Term}
use Rattle.hx_ast.specs.Acls.{is_name_byte}
use Rattle.hx_calls.specs.declared.fault.SpellFault.{SpellFault}
use Rattle.hx_calls.specs.Codes.{bad_condition, unknown_acl}
use Rattle.hx_base.specs.Results.{◌>>=◌}
use Rattle.hx_spell.specs.Declarations.{decl_of}
use Rattle.hx_calls.specs.Known.{Known, Reading, is_known_acl, reading}

-- ---- names

-- a name of an ACL, a frontend or a backend
abbrev pub is_name : List ℕ → Bool
is_name name = nat_lt 0 (length name) && list_all is_name_byte name

-- a name of an ACL, which isn't `or`
abbrev pub is_acl_name : List ℕ → Bool
is_acl_name name = is_name name && not (bytes_eq name (codes "or"))

-- ---- words

-- how many `!` a word begins with
abbrev pub marks_of : List ℕ → ℕ
marks_of word = prefix_len (λ b. b == ascii "!") word

-- what follows them
abbrev pub after_marks : List ℕ → List ℕ
after_marks word = drop (marks_of word) word

-- `or`, or `||`: it stands between conjunctions
abbrev pub is_or : List ℕ → Bool
is_or word = bytes_eq word (codes "or") || bytes_eq word (codes "||")

abbrev pub is_odd : ℕ → Bool
is_odd n = n % 2 == 1

-- ---- terms

-- The marks before a term: whether there are some, and whether they negate it, as an odd number
-- does.
pub record Marks : Type 0 where
  pub some : Bool
  pub negated : Bool

abbrev pub no_marks : Marks
no_marks = record { some = false; negated = false }

-- turned round, or as it is
abbrev pub turned : Bool → Bool → Bool
turned true b = not b
turned false b = b

abbrev pub with_marks : ℕ → Marks → Marks
with_marks n marks = record {
  some = marks.some || nat_lt 0 n;
  negated = turned (is_odd n) marks.negated;
}

abbrev pub term : Marks → AclUse → Term
term marks acl = record { negated = marks.negated; acl = acl }

-- ---- conditions in order

-- The terms of a condition up to a place: the conjunctions before the one under way, the terms of
-- that one, the marks before the next term, and the words of an open brace, if there is one.
pub record Terms : Type 0 where
  pub before : List (List Term)
  pub conj : List Term
  pub marks : Marks
  pub inside : Option (List (List ℕ))

-- before the first word of a condition
abbrev pub no_terms : Terms
no_terms = record { before = []; conj = []; marks = no_marks; inside = None }

abbrev pub with_term : AclUse → Terms → Terms
with_term acl terms = record {
  before = terms.before;
  conj = terms.conj ++ term terms.marks acl ∷ [];
  marks = no_marks;
  inside = None;
}

-- the conjunction under way ends, which has one term at least
abbrev pub with_conj : List (List Term) → List Term → Result (List (List Term)) SpellFault
with_conj before [] = Err bad_condition
with_conj before (t ∷ ts) = Ok (before ++ (t ∷ ts) ∷ [])

-- the ACL of the words in braces: a criterion, and what follows it
abbrev pub own_decl : ℕ → List (List ℕ) → Known → Result (Reading Decl) SpellFault
own_decl line [] known = Err bad_condition
own_decl line (text ∷ words) known = decl_of line text words known

abbrev pub own_term : Terms → Reading Decl → Reading Terms
own_term terms decl = reading (with_term (Own decl.value) terms) decl.known

-- a word in braces; `}` ends them
abbrev pub word_inside :
    ℕ → List (List ℕ) → List ℕ → Terms → Known → Result (Reading Terms) SpellFault
word_inside line inside word terms known =
    if bytes_eq word (codes "}")
    then own_decl line inside known >>= (λ decl. Ok (own_term terms decl))
    else Ok (reading (record terms { inside = Some (inside ++ word ∷ []) }) known)

-- the name of an ACL
abbrev pub named_term : List ℕ → Terms → Known → Result (Reading Terms) SpellFault
named_term name terms known =
    if is_acl_name name
    then (if is_known_acl known name
    then Ok (reading (with_term (Named name) terms) known)
    else Err unknown_acl)
    else Err bad_condition

-- what follows the marks of a word: nothing, an open brace, or a name
abbrev pub after_marks_word : ℕ → List ℕ → Terms → Known → Result (Reading Terms) SpellFault
after_marks_word n [] terms known =
    if nat_lt 0 n then Ok (reading terms known) else Err bad_condition
after_marks_word n (b ∷ bs) terms known =
    if bytes_eq (b ∷ bs) (codes "{")
    then Ok (reading (record terms { inside = Some [] }) known)
    else named_term (b ∷ bs) terms known

abbrev pub next_conj : Terms → Known → Result (Reading Terms) SpellFault
next_conj terms known =
    with_conj terms.before terms.conj
    >>= (λ before. Ok
    (reading (record { before = before; conj = []; marks = no_marks; inside = None }) known))

-- a word outside braces
abbrev pub word_outside : ℕ → List ℕ → Terms → Known → Result (Reading Terms) SpellFault
word_outside line word terms known =
    if is_or word && not terms.marks.some then next_conj terms known
    else after_marks_word (marks_of word) (after_marks word)
    (record terms { marks = with_marks (marks_of word) terms.marks }) known

abbrev pub next_word :
    ℕ → Option (List (List ℕ)) → List ℕ → Terms → Known → Result (Reading Terms) SpellFault
next_word line (Some inside) word terms known = word_inside line inside word terms known
next_word line None word terms known = word_outside line word terms known

abbrev pub cond_reading : Known → List (List Term) → Reading (List (List Term))
cond_reading known cond = reading cond known

-- at the last word: an open brace has first the faults of its own words
abbrev pub cond_end : ℕ → Option (List (List ℕ)) → Terms → Known
    → Result (Reading (List (List Term))) SpellFault
cond_end line (Some inside) terms known =
    own_decl line inside known >>= (λ decl. Err bad_condition)
cond_end line None terms known =
    if terms.marks.some then Err bad_condition
    else with_conj terms.before terms.conj >>= (λ cond. Ok (cond_reading known cond))

-- the condition of these words, after those that are read
abbrev pub cond_from : ℕ → List (List ℕ) → Terms → Known
    → Result (Reading (List (List Term))) SpellFault
cond_from line [] terms known = cond_end line terms.inside terms known
cond_from line (word ∷ words) terms known =
    next_word line terms.inside word terms known
    >>= (λ r. cond_from line words r.value r.known)

-- the condition of words, or the code of its first fault
unfoldable pub cond_of : ℕ → List (List ℕ) → Known → Result (Reading (List (List Term))) SpellFault
cond_of line words known = cond_from line words no_terms known
