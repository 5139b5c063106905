-- What of the tests of a condition is said otherwise: the expression that is a criterion, tests of
-- who may come in, and `-m bool` without the words that HAProxy ignores after it (HAProxy
-- configuration manual 2.6, sections 7.1 and 7.2).
use Rattle.std.specs.Prelude.{ℕ, ◌==◌, Bool, false, List, [], ◌∷◌, ◌++◌, codes, Option, is_some, unwrap_or, if◌then◌else◌}
use Rattle.std.specs.Str.{bytes_eq}
use Rattle.hx_base.specs.Bytes.{ascii}
use Rattle.hx_config.specs.Accounts.{account_test}
pub use Rattle.hx_config.specs.Accounts.{closes}
use Rattle.hx_config.specs.Formats.{Known, expression_said}

-- the port at which TLS comes in, as digits, where it is given
abbrev pub Tls : Type 0
Tls = Option (List ℕ)

-- where a word stands: outside braces; as the criterion of a test; right after that; after `-m`;
-- where what follows is ignored, as HAProxy does after `-m bool`; or further on in the test
pub data TestState : Type 0 where
  Outside Criterion AfterCriterion AfterMethod Ignored Inside : TestState

-- `{`, with any number of `!` before it
abbrev pub opens : List ℕ → Bool
opens [] = false
opens (b ∷ bytes) =
    if b == ascii "!" then opens bytes else bytes_eq (b ∷ bytes) (codes "{")

-- where the word after this one stands
abbrev pub state_after : TestState → List ℕ → TestState
state_after Outside word = if opens word then Criterion else Outside
state_after Criterion word = AfterCriterion
state_after AfterCriterion word =
    if closes word then Outside else (if bytes_eq word (codes "-m") then AfterMethod else Inside)
state_after AfterMethod word =
    if closes word then Outside else (if bytes_eq word (codes "bool") then Ignored else Inside)
state_after Ignored word = if closes word then Outside else Ignored
state_after Inside word = if closes word then Outside else Inside

-- What stands for a criterion with these words after it: the expression, said; or a test of who may
-- come in, which stands for all words of the test.
abbrev pub criterion_said : Known → List ℕ → (after : List (List ℕ)) → List (List ℕ)
criterion_said known word after =
    unwrap_or (account_test known.lines word after) (expression_said known word ∷ [])

-- what stands for a word that stands there with these words after it: an ignored word goes
abbrev pub word_said : Known → TestState → List ℕ → (after : List (List ℕ)) → List (List ℕ)
word_said known Criterion word after = criterion_said known word after
word_said known Ignored word after = if closes word then word ∷ [] else []
word_said known _ word after = word ∷ []

-- where the next word stands: of a test of who may come in, the words after the criterion go
abbrev pub state_said : Known → TestState → List ℕ → (after : List (List ℕ)) → TestState
state_said known Criterion word after =
    if is_some (account_test known.lines word after) then Ignored else AfterCriterion
state_said known state word after = state_after state word

abbrev pub words_said : Known → TestState → List (List ℕ) → List (List ℕ)
words_said known state [] = []
words_said known state (word ∷ words) =
    word_said known state word words ++ words_said known (state_said known state word words) words

-- where the third word of a line with this keyword stands: of an ACL it is a criterion
abbrev pub first_state : List ℕ → TestState
first_state keyword = if bytes_eq keyword (codes "acl") then Criterion else Outside

-- the words of a line with their tests said otherwise
abbrev pub tests_said : Known → List (List ℕ) → List (List ℕ)
tests_said known (keyword ∷ name ∷ words) =
    keyword ∷ name ∷ words_said known (first_state keyword) words
tests_said known words = words
