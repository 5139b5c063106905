-- Lemmas on lines that are read one after the other.
use Rattle.std.proofs.Common.{◌≡◌, ◌≢◌, ◌<◌, ◌-◌, ◌+◌, ℕ, zero, suc, true, false, List, [], ◌∷◌, ◌++◌, take, slice_get, Result, Ok, Err, IfOk, refl, sym, ap, ◌∙◌, subst, arith}
use Rattle.hx_ast.specs.declared.statement.Statement.{Statement}
use Rattle.hx_words.specs.Variable.{Env}
use Rattle.hx_words.specs.Words.{words_of}
use Rattle.hx_words.specs.declared.fault.WordFault.{WordFault}
use Rattle.hx_words.specs.declared.fault.WordFault.TheVariants as words
use Rattle.hx_text.specs.declared.fault.NoMemory.{NoMemory}
use Rattle.hx_calls.specs.declared.fault.SpellFault.{SpellFault}
use Rattle.hx_calls.specs.Known.{Known, Reading, nothing_known, reading}
use Rattle.hx_spell.specs.Lines.{line_of}
use Rattle.hx_lint.specs.Judging.{code_read, go_on, judged, judged_as, judged_from, judged_split, known_after, known_by, known_read, right_words, unread, with_line, word_shown}
use Rattle.hx_lint.specs.declared.judging.JudgedLine.{JudgedLine}
use Rattle.hx_lint.specs.declared.judging.Judgement.{Judgement}

pub kept_where_refused : (known : Known) (read : Result (Reading Statement) SpellFault) → code_read read ≢ 0 → known_read known read ≡ known
kept_where_refused known (Ok r) unlike = absurd (unlike refl)
kept_where_refused known (Err fault) unlike = refl

-- ---- one line more

known_after_more : (lines : List JudgedLine) (line : JudgedLine) (known : Known)
    → known_after (lines ++ line ∷ []) known ≡ known_by line.number line.judgement (known_after lines known)
known_after_more [] line known = refl
known_after_more (first ∷ lines) line known = known_after_more lines line (known_by first.number first.judgement known)

words_known : (number : ℕ) (words : List (List ℕ)) (known new : Known) (j : Judgement) (read : Result (Reading Statement) SpellFault)
    → line_of number words known ≡ read → reading j new ≡ judged_as number words known read → known_by number j known ≡ new
words_known number words known new j (Ok r) from is =
    ap (λ (x : Judgement). known_by number x known) (ap (λ (q : Reading Judgement). q.value) is)
    ∙ ap (λ (x : Result (Reading Statement) SpellFault). known_read known x) from
    ∙ sym (ap (λ (q : Reading Judgement). q.known) is)
words_known number words known new j (Err fault) from is =
    ap (λ (x : Judgement). known_by number x known) (ap (λ (q : Reading Judgement). q.value) is)
    ∙ sym (ap (λ (q : Reading Judgement). q.known) is)

split_known : (number : ℕ) (known new : Known) (j : Judgement) (split : Result (List (List ℕ)) WordFault)
    → reading j new ≡ judged_split number known split → known_by number j known ≡ new
split_known number known new j (Ok words) is = words_known number words known new j (line_of number words known) refl is
split_known number known new j (Err fault) is =
    ap (λ (x : Judgement). known_by number x known) (ap (λ (q : Reading Judgement). q.value) is)
    ∙ sym (ap (λ (q : Reading Judgement). q.known) is)

-- what is known after one line more is what the lines bring
pub known_kept : (env : Env) (number : ℕ) (text : List ℕ) (lines : List JudgedLine) (known new : Known) (j : Judgement)
    → known ≡ known_after lines nothing_known → reading j new ≡ judged env number text known
    → new ≡ known_after (lines ++ record { number = number; judgement = j } ∷ []) nothing_known
unfolding judged
known_kept env number text lines known new j kept is =
    sym (known_after_more lines (record { number = number; judgement = j }) nothing_known
    ∙ ap (λ (k : Known). known_by number j k) (sym kept)
    ∙ split_known number known new j (words_of env text) is)

pub lines_kept : (env : Env) (number : ℕ) (text : List ℕ) (texts : List (List ℕ)) (before lines : List JudgedLine) (known new : Known) (j : Judgement) (all : Reading (List JudgedLine))
    → judged_from env number (text ∷ texts) (reading before known) ≡ all → reading j new ≡ judged env number text known
    → lines ≡ before ++ record { number = number; judgement = j } ∷ []
    → judged_from env (number + 1) texts (reading lines new) ≡ all
lines_kept env number text texts before lines known new j all whole is pushed =
    ap (λ (x : List JudgedLine). judged_from env (number + 1) texts (reading x new)) pushed
    ∙ ap (λ (r : Reading Judgement). judged_from env (number + 1) texts (with_line number before r)) is
    ∙ whole

-- a line whose words can't be read
pub unread_is : (env : Env) (number : ℕ) (text : List ℕ) (known : Known) (fault : WordFault) (r : Result Judgement NoMemory)
    → (fault ≢ words.NoMemory → words_of env text ≡ Err fault)
    → IfOk r (λ j. (fault ≢ words.NoMemory) × (j ≡ unread fault)) → IfOk r (λ j. reading j known ≡ judged env number text known)
unfolding judged
unread_is env number text known fault (Ok j) split (unlike, is) =
    ap (λ (x : Judgement). reading x known) is
    ∙ ap (λ (w : Result (List (List ℕ)) WordFault). judged_split number known w) (sym (split unlike))
unread_is env number text known fault (Err e) split is = tt

-- ---- words that go on

pub right_here : (number code : ℕ) (words : List (List ℕ)) (known : Known) (n : ℕ) → 0 < n
    → go_on number code (take n words) known ≡ true → right_words number code words known n ≡ n
right_here number code words known zero some goes = absurd (omega (arith, some))
right_here number code words known (suc n) some goes = rw goes refl

pub right_below : (number code : ℕ) (words : List (List ℕ)) (known : Known) (n : ℕ) → 0 < n
    → go_on number code (take n words) known ≡ false
    → right_words number code words known (n - 1) ≡ right_words number code words known n
right_below number code words known zero some goes = absurd (omega (arith, some))
right_below number code words known (suc n) some goes =
    let before : suc n - 1 ≡ n = omega arith in rw before (sym (rw goes refl))

pub shown_at : (r : Result (List ℕ) NoMemory) (words : List (List ℕ)) (n m : ℕ)
    → IfOk r (λ w. w ≡ word_shown (slice_get words n)) → m ≡ n → IfOk r (λ w. w ≡ word_shown (slice_get words m))
shown_at r words n m is same = subst (λ k. IfOk r (λ w. w ≡ word_shown (slice_get words k))) (sym same) is
