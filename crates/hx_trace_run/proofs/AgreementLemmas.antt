-- Lemmas on a trace beside a text that grows.
use Rattle.std.proofs.Common.{◌≡◌, ℕ, suc, ◌+◌, Bool, true, false, not, ◌||◌, List, [], ◌∷◌, ◌++◌, cond, drop, length, nat_eq, nat_lt, refl, ap, sym, inl, inr, ◌∙◌, add-one, arith}
use Rattle.std.specs.Str.{bytes_eq}
use Rattle.std.proofs.lemmas.Bool.{cases_lt, le-ltb, lt-ltb}
use Rattle.hx_trace_run.specs.Comparing.{common_length, finding_of, line_of_difference}
use Rattle.hx_trace_run.specs.AgreementView.{Agreement, agreement_after, agreement_of, finding_at}
use Rattle.hx_trace_run.specs.declared.agreement.Finding.{Finding}
use Rattle.hx_trace_run.specs.declared.agreement.Finding.TheVariants.{Same, Differs}

-- ---- a text that goes on

-- a byte before a trace and a text that has it too
longer : ℕ → Agreement → Agreement
longer b c = record { trace = b ∷ c.trace; agreed = c.agreed + 1; differs = c.differs }

drop_one : (b n : ℕ) (xs : List ℕ) → drop (n + 1) (b ∷ xs) ≡ drop n xs
drop_one b n xs = rw add-one refl

less_one : (m n : ℕ) → nat_lt (m + 1) (suc n) ≡ nat_lt m n
less_one m n = elim (cases_lt m n) [
  | inl less ↦ lt-ltb (m + 1) (suc n) (omega arith) ∙ sym (lt-ltb m n less)
  | inr more ↦ le-ltb (m + 1) (suc n) (omega arith) ∙ sym (le-ltb m n more)
]

less_suc : (n : ℕ) → nat_lt 0 (suc n) ≡ true
less_suc n = lt-ltb 0 (suc n) (omega arith)

same_sum : (m n : ℕ) → m + 1 + n ≡ m + n + 1
same_sum m n = omega arith

longer_after : (b : ℕ) (c : Agreement) (answer : List ℕ) (differs : Bool) → c.differs ≡ differs
    → agreement_after (longer b c) answer ≡ longer b (agreement_after c answer)
unfolding longer
longer_after b c answer true is = rw is refl
longer_after b c answer false is =
    rw (is, drop_one b c.agreed c.trace)
    (ap (λ (n : ℕ). record { trace = b ∷ c.trace; agreed = n; differs = nat_lt (common_length (drop c.agreed c.trace) answer) (length answer) })
    (same_sum c.agreed (common_length (drop c.agreed c.trace) answer)))

with_same : (b c : ℕ) (trace text : List ℕ) → nat_eq b c ≡ true → agreement_of (b ∷ trace) (c ∷ text) ≡ longer b (agreement_of trace text)
unfolding longer
with_same b c trace text same =
    rw same (ap (λ (more : Bool). record { trace = b ∷ trace; agreed = common_length trace text + 1; differs = more }) (less_one (common_length trace text) (length text)))

with_other : (b c : ℕ) (trace text : List ℕ) → nat_eq b c ≡ false
    → agreement_of (b ∷ trace) (c ∷ text) ≡ record { trace = b ∷ trace; agreed = 0; differs = true }
with_other b c trace text other =
    rw other (ap (λ (more : Bool). record { trace = b ∷ trace; agreed = 0; differs = more }) (less_suc (length text)))

goes_on_by : (b c : ℕ) (trace text answer : List ℕ) (same : Bool) → nat_eq b c ≡ same
    → agreement_after (agreement_of trace text) answer ≡ agreement_of trace (text ++ answer)
    → agreement_after (agreement_of (b ∷ trace) (c ∷ text)) answer ≡ agreement_of (b ∷ trace) (c ∷ (text ++ answer))
goes_on_by b c trace text answer true is so =
    ap (λ (k : Agreement). agreement_after k answer) (with_same b c trace text is)
    ∙ longer_after b (agreement_of trace text) answer (agreement_of trace text).differs refl
    ∙ ap (λ (k : Agreement). longer b k) so ∙ sym (with_same b c trace (text ++ answer) is)
goes_on_by b c trace text answer false is so =
    ap (λ (k : Agreement). agreement_after k answer) (with_other b c trace text is)
    ∙ sym (with_other b c trace (text ++ answer) is)

ends_before : (c : ℕ) (text : List ℕ) → agreement_of [] (c ∷ text) ≡ record { trace = []; agreed = 0; differs = true }
ends_before c text = ap (λ (more : Bool). record { trace = []; agreed = 0; differs = more }) (less_suc (length text))

zero_sum : (n : ℕ) → 0 + n ≡ n
zero_sum n = omega arith

-- a agreement with a text goes on to one with the longer text
pub goes_on : (trace text answer : List ℕ) → agreement_after (agreement_of trace text) answer ≡ agreement_of trace (text ++ answer)
goes_on [] [] answer = refl
goes_on (b ∷ trace) [] answer =
    ap (λ (n : ℕ). record { trace = b ∷ trace; agreed = n; differs = nat_lt (common_length (b ∷ trace) answer) (length answer) })
    (zero_sum (common_length (b ∷ trace) answer))
goes_on [] (c ∷ text) answer =
    ap (λ (k : Agreement). agreement_after k answer) (ends_before c text) ∙ sym (ends_before c (text ++ answer))
goes_on (b ∷ trace) (c ∷ text) answer = goes_on_by b c trace text answer (nat_eq b c) refl (goes_on trace text answer)

-- ---- what is found

both_or : {p q r s : Bool} → p ≡ q → r ≡ s → (p || r) ≡ (q || s)
both_or same others = rw (same, others) refl

differ_or_not : (b c : ℕ) (trace text : List ℕ) (same : Bool) → nat_eq b c ≡ same
    → (nat_lt (common_length trace text) (length text) || nat_lt (common_length trace text) (length trace)) ≡ not (bytes_eq trace text)
    → (nat_lt (common_length (b ∷ trace) (c ∷ text)) (length (c ∷ text)) || nat_lt (common_length (b ∷ trace) (c ∷ text)) (length (b ∷ trace)))
    ≡ not (bytes_eq (b ∷ trace) (c ∷ text))
differ_or_not b c trace text true is so =
    rw is (both_or (less_one (common_length trace text) (length text)) (less_one (common_length trace text) (length trace)) ∙ so)
differ_or_not b c trace text false is so = rw is (both_or (less_suc (length text)) (less_suc (length trace)))

-- there is more of one of the two behind what they have in common exactly where they differ
more_where_other : (trace text : List ℕ)
    → (nat_lt (common_length trace text) (length text) || nat_lt (common_length trace text) (length trace)) ≡ not (bytes_eq trace text)
more_where_other [] [] = refl
more_where_other [] (c ∷ text) = both_or (less_suc (length text)) refl
more_where_other (b ∷ trace) [] = less_suc (length trace)
more_where_other (b ∷ trace) (c ∷ text) = differ_or_not b c trace text (nat_eq b c) refl (more_where_other trace text)

chosen : (differs same : Bool) (found : Finding) → differs ≡ not same → cond differs found Same ≡ cond same Same found
chosen differs true found is = rw is refl
chosen differs false found is = rw is refl

-- what is found of a trace beside a text
pub finding_is : (trace text : List ℕ) → finding_at (agreement_of trace text) ≡ finding_of trace text
finding_is trace text = chosen _ (bytes_eq trace text) (Differs (line_of_difference trace text)) (more_where_other trace text)
