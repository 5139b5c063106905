-- How many events a record has.
use Rattle.std.proofs.Common.{◌≡◌, ℕ, zero, suc, ◌+◌, ◌*◌, ◌/◌, ◌%◌, ◌≤◌, ◌<◌, ◌==◌, ◌&&◌, Bool, true, false, nat_lt, nat_le, List, [], ◌∷◌, ◌++◌, length, cond, refl, sym, ap, ◌∙◌, subst, arith, length-append, add-one}
use Rattle.std.specs.List.{range_with_len}
use Rattle.std.proofs.lemmas.Bool.Decides.{nat_tests}
use Rattle.std.proofs.lemmas.List.Concat.{flat_map_single}
use Rattle.std.proofs.lemmas.List.FromFn.{length-map-range_with_len}
use Rattle.hx_gen.specs.Numbers.{for_each_to}
use Rattle.hx_gen.specs.Record.{commitment, new_entry, new_version, preparation, record_events, replacement, step_events, visit}
use Rattle.hx_gen.proofs.NumberLemmas.{one_more}

length_if : {A : Type 0} (b : Bool) (xs : List A) → length (cond b xs []) ≡ cond b (length xs) 0
length_if true xs = refl
length_if false xs = refl

entry_count : (n m : ℕ) → length (for_each_to m (λ j. new_entry n j ∷ [])) ≡ m
entry_count n m =
    ap length (flat_map_single (new_entry n) (range_with_len 1 m))
    ∙ length-map-range_with_len (new_entry n) 1 m

version_count : (n : ℕ)
    → length (preparation ++ (for_each_to n (λ j. new_entry n j ∷ []) ++ commitment)) ≡ n + 4
unfolding preparation commitment
version_count n =
    let entries = for_each_to n (λ j. new_entry n j ∷ []) in
    let whole : length (entries ++ commitment) ≡ length entries + 2 = length-append entries commitment in
    let count : length entries ≡ n = entry_count n n in
    omega (arith, whole, count)

-- how many events there are from one request up to the next
step_count : (n k : ℕ)
    → length (step_events n k) ≡ 3 + (cond (k % 100 == 0) 2 0 + cond (k == n / 2) (n + 4) 0)
unfolding step_events
step_count n k =
    let both : length (replacement n k ++ new_version n k)
    ≡ length (replacement n k) + length (new_version n k)
    = length-append (replacement n k) (new_version n k) in
    let commands : length (replacement n k) ≡ cond (k % 100 == 0) 2 0 = length_if (k % 100 == 0) _ in
    let version : length (new_version n k) ≡ cond (k == n / 2) (n + 4) 0
    = length_if (k == n / 2) _ ∙ ap (λ v. cond (k == n / 2) v 0) (version_count n) in
    let all : length (step_events n k) ≡ 3 + length (replacement n k ++ new_version n k)
    = length-append (visit n k) (replacement n k ++ new_version n k) in
    all ∙ ap (λ v. 3 + v) (both ∙ rw (commands, version) refl)

-- how many there are up to a request
abbrev counted : ℕ → ℕ → ℕ
counted n k = 3 * k + 2 * (k / 100) + cond (nat_lt 0 (n / 2) && nat_le (n / 2) k) (n + 4) 0

hundreds : (k : ℕ) (b : Bool) → ((k + 1) % 100 == 0) ≡ b
    → 2 * ((k + 1) / 100) ≡ 2 * (k / 100) + cond b 2 0
hundreds k b is = grind (arith, nat_tests, is)

middle : (m k v : ℕ)
    → cond (nat_lt 0 m && nat_le m (k + 1)) v 0
    ≡ cond (nat_lt 0 m && nat_le m k) v 0 + cond (k + 1 == m) v 0
middle m k v = grind (arith, nat_tests)

counted_more : (n k : ℕ)
    → counted n (k + 1)
    ≡ counted n k + (3 + (cond ((k + 1) % 100 == 0) 2 0 + cond (k + 1 == n / 2) (n + 4) 0))
counted_more n k =
    let of_hundreds : 2 * ((k + 1) / 100) ≡ 2 * (k / 100) + cond ((k + 1) % 100 == 0) 2 0
    = hundreds k ((k + 1) % 100 == 0) refl in
    let of_middle : cond (nat_lt 0 (n / 2) && nat_le (n / 2) (k + 1)) (n + 4) 0
    ≡ cond (nat_lt 0 (n / 2) && nat_le (n / 2) k) (n + 4) 0 + cond (k + 1 == n / 2) (n + 4) 0
    = middle (n / 2) k (n + 4) in
    omega (arith, of_hundreds, of_middle)

counted_first : (n : ℕ) → counted n 0 ≡ 0
counted_first n = grind (arith, nat_tests)

counted_after : (n k : ℕ) → length (for_each_to k (step_events n)) ≡ counted n k
    → length (for_each_to (k + 1) (step_events n)) ≡ counted n (k + 1)
counted_after n k is =
    ap length (one_more (step_events n) k)
    ∙ (length-append (for_each_to k (step_events n)) (step_events n (k + 1))
    ∙ (rw (is, step_count n (k + 1)) (sym (counted_more n k))))

event_counted : (n k : ℕ) → length (for_each_to k (step_events n)) ≡ counted n k
event_counted n zero = sym (counted_first n)
event_counted n (suc k) =
    subst (λ (j : ℕ). length (for_each_to j (step_events n)) ≡ counted n j) (add-one k)
    (counted_after n k (event_counted n k))

pub events_of_one : (n : ℕ) → n < 2 → 3 * n + 2 * (n / 100) ≡ length (record_events n)
events_of_one n one =
    let none : counted n n ≡ 3 * n + 2 * (n / 100) = grind (arith, nat_tests) in
    sym (event_counted n n ∙ none)

pub events_of_more : (n : ℕ) → 2 ≤ n
    → (3 * n + 2 * (n / 100)) + (n + 4) ≡ length (record_events n)
events_of_more n more =
    let some : counted n n ≡ (3 * n + 2 * (n / 100)) + (n + 4) = grind (arith, nat_tests) in
    sym (event_counted n n ∙ some)
