-- Conditions with one more test, for rules that HAProxy passes over where that doesn't hold.
use Rattle.std.specs.Prelude.{ℕ, Bool, true, false, not, ◌&&◌, ◌||◌, List, [], ◌∷◌, ◌++◌, codes, map, if◌then◌else◌}
use Rattle.std.specs.Str.{bytes_eq}
use Rattle.hx_config.specs.Conditions.{TestState, Outside, state_after}
use Rattle.hx_config.specs.declared.guards.TheConstants.{NOT_EMPTY}

-- the words of a test that this criterion has a value
abbrev pub found_in : (criterion : List ℕ) → List (List ℕ)
found_in criterion = criterion ∷ codes "-m" ∷ codes "found" ∷ []

-- the words of a test that the value of this criterion isn't empty: `-m len ge 1`
abbrev pub not_empty_in : (criterion : List ℕ) → List (List ℕ)
not_empty_in criterion = criterion ∷ map (λ text. text.now) NOT_EMPTY

-- the test of these words holds, or doesn't
abbrev pub guard_test : (test : List (List ℕ)) → (holds : Bool) → List (List ℕ)
guard_test test holds =
    (if holds then codes "{" else codes "!{") ∷ test ++ codes "}" ∷ []

-- the word stands between two conjunctions
abbrev pub is_or : TestState → List ℕ → Bool
is_or Outside word = bytes_eq word (codes "or") || bytes_eq word (codes "||")
is_or _ word = false

-- a word, after these others where it is the first of a conjunction
abbrev pub after_test : (test : List (List ℕ)) → (is_first : Bool) → TestState → List ℕ
    → List (List ℕ)
after_test test is_first state word =
    if is_first && not (is_or state word) then test ++ word ∷ [] else word ∷ []

-- The terms of a condition with the test before each conjunction. A conjunction that has no term
-- gets none, so a condition that is malformed stays so.
abbrev pub tested : (test : List (List ℕ)) → (is_first : Bool) → TestState → List (List ℕ)
    → List (List ℕ)
tested test is_first state [] = []
tested test is_first state (word ∷ words) =
    after_test test is_first state word
    ++ tested test (is_or state word) (state_after state word) words

-- the condition that holds where this one does and the test of these words holds, or doesn't
abbrev pub with_guard : (test : List (List ℕ)) → (holds : Bool) → List (List ℕ)
    → List (List ℕ)
with_guard test holds [] = codes "if" ∷ guard_test test holds
with_guard test holds (word ∷ words) =
    if bytes_eq word (codes "if")
    then word ∷ tested (guard_test test holds) true Outside words
    else (if bytes_eq word (codes "unless")
    then word ∷ words ++ codes "or" ∷ guard_test test (not holds)
    else word ∷ words)
