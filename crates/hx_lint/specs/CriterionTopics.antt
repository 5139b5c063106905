-- The topics that show in the words of an ACL: each is what makes HAProxy read it otherwise, by a
-- row of docs/manual/haproxy.md.
use Rattle.std.specs.Prelude.{ℕ, ◌==◌, ◌&&◌, ◌||◌, Bool, false, not, List, [], ◌∷◌, codes, drop, None, is_some, if◌then◌else◌}
use Rattle.std.specs.List.{list_any}
use Rattle.std.specs.Option.{option_map_or}
use Rattle.std.specs.Str.{bytes_eq}
use Rattle.hx_base.specs.Bytes.{ascii}
use Rattle.hx_text.specs.Cut.{cut_of}
use Rattle.hx_text.specs.Number.{int_of}
use Rattle.hx_words.specs.Calls.{Step, step_of}
use Rattle.hx_words.specs.Calls.Step.{Last, More, Faulty}
use Rattle.hx_lint.specs.declared.criterion_topics.CriterionTopic.{CriterionTopic}
use Rattle.hx_lint.specs.declared.criterion_topics.CriterionTopic.TheVariants as topic
use Rattle.hx_lint.specs.declared.criterion_topics.TheConstants.{CONVERTERS, DERIVED, KEYWORDS, METHODS}

-- ---- words

-- a number below 0
abbrev pub is_negative_text : List ℕ → Bool
is_negative_text [] = false
is_negative_text (b ∷ bytes) = b == ascii "-" && is_some (int_of (b ∷ bytes))

abbrev pub first_is_negative : List (List ℕ) → Bool
first_is_negative [] = false
first_is_negative (word ∷ words) = is_negative_text word

-- the name of a converter of HAProxy (HAProxy configuration manual 2.6, section 7.3.1)
abbrev pub is_converter : List ℕ → Bool
is_converter word = list_any (λ name. bytes_eq word name.now) CONVERTERS

abbrev pub first_is_converter : List (List ℕ) → Bool
first_is_converter [] = false
first_is_converter (word ∷ words) = is_converter word

-- `-m` stands among the words up to `}`
abbrev pub has_method_flag : List (List ℕ) → Bool
has_method_flag [] = false
has_method_flag (word ∷ words) =
    if bytes_eq word (codes "}") then false
    else bytes_eq word (codes "-m") || has_method_flag words

-- ---- the name of a criterion

-- a name of a fetch with a match method in it, as `path_beg`
abbrev pub is_derived : List ℕ → Bool
is_derived name =
    option_map_or (λ cut. list_any (λ fetch. bytes_eq cut.0 fetch.now) DERIVED
    && list_any (λ method. bytes_eq cut.1 method.now) METHODS) (cut_of (ascii "_") name) false

-- a name that HAProxy has for ACLs alone, and reads no converter behind (HAProxy configuration
-- manual 2.6, section 7.1)
abbrev pub is_keyword : List ℕ → Bool
is_keyword name = list_any (λ keyword. bytes_eq name keyword.now) KEYWORDS || is_derived name

abbrev pub step_is_keyword : Step → Bool
step_is_keyword (Last call rest) = is_keyword call.name
step_is_keyword (More call rest) = is_keyword call.name
step_is_keyword (Faulty name fault) = is_keyword name

-- a converter follows a fetch with a match method in its name
abbrev pub step_has_method : Step → Bool
step_has_method (Last call rest) = false
step_has_method (More call rest) = is_derived call.name
step_has_method (Faulty name fault) = false

-- ---- an ACL

-- the words of an ACL, a criterion and what follows it, show a topic
abbrev pub criterion_has : CriterionTopic → List ℕ → List (List ℕ) → Bool
criterion_has topic.MethodInName criterion words = step_has_method (step_of None criterion)
criterion_has topic.ConverterAsPattern criterion words =
    first_is_converter words && not (step_is_keyword (step_of None criterion))
criterion_has topic.MethodCase criterion words =
    bytes_eq criterion (codes "method") && not (has_method_flag words)
criterion_has topic.NumberFirst criterion words = first_is_negative words

abbrev pub words_have : CriterionTopic → List (List ℕ) → Bool
words_have topic [] = false
words_have topic (criterion ∷ words) = criterion_has topic criterion words

-- ---- the ACLs of a line

-- `{`, with any number of `!` before it
abbrev pub is_opening : List ℕ → Bool
is_opening [] = false
is_opening (b ∷ bytes) =
    if b == ascii "!" then is_opening bytes else bytes_eq (b ∷ bytes) (codes "{")

-- the words of an ACL in braces show a topic
abbrev pub braces_have : CriterionTopic → List (List ℕ) → Bool
braces_have topic [] = false
braces_have topic (word ∷ words) =
    is_opening word && words_have topic words || braces_have topic words

-- the same of the one that `acl NAME` declares, or of those in braces on another line
abbrev pub line_words_have : CriterionTopic → List (List ℕ) → Bool
line_words_have topic [] = false
line_words_have topic (word ∷ words) =
    if bytes_eq word (codes "acl") then words_have topic (drop 1 words)
    else braces_have topic words
