-- A line that words are written as is read as these words.
use Rattle.std.proofs.Common.{◌≡◌, ℕ, ◌+◌, ◌≤◌, ◌==◌, ◌||◌, Bool, true, false, cond, List, [], ◌∷◌, ◌++◌, codes, flat_map, length, unwrap_or, Option, None, Some, Ok, refl, sym, ap, ◌∙◌, subst, append_assoc, append-nil, length-append, arith}
use Rattle.std.proofs.lemmas.Bool.{eqb-true}
use Rattle.hx_base.specs.Bytes.{ascii}
use Rattle.hx_words.specs.Quoting.{escape_of}
use Rattle.hx_words.specs.TextItems.QuoteState.{Outside, Double}
use Rattle.hx_words.specs.TextItems.TextItem.{Gap, Part}
use Rattle.hx_words.specs.Variable.{Env}
use Rattle.hx_words.specs.Words.{word_item, words_of}
use Rattle.hx_words.proofs.WordLemmas.{KeepsWords, ends_well, words_gap, words_part, words_start}
use Rattle.hx_lint.specs.Spelling.{byte_text, line_text, word_text, words_after}

-- ---- items

feed_item : (env : Env) (rest : List ℕ)
    → Part 1 (ascii "\n" ∷ []) Outside ≡ word_item env Outside (ascii "\\") (ascii "n" ∷ rest)
unfolding word_item escape_of
feed_item env rest = refl

return_item : (env : Env) (rest : List ℕ)
    → Part 1 (ascii "\r" ∷ []) Outside ≡ word_item env Outside (ascii "\\") (ascii "r" ∷ rest)
unfolding word_item escape_of
return_item env rest = refl

tab_item : (env : Env) (rest : List ℕ)
    → Part 1 (ascii "\t" ∷ []) Outside ≡ word_item env Outside (ascii "\\") (ascii "t" ∷ rest)
unfolding word_item escape_of
tab_item env rest = refl

abbrev is_special : ℕ → Bool
is_special b =
    b == ascii " " || b == ascii "#" || b == ascii "\\" || b == ascii "'" || b == ascii "\""

special_item : (env : Env) (b : ℕ) (rest : List ℕ) → is_special b ≡ true
    → Part 1 (b ∷ []) Outside ≡ word_item env Outside (ascii "\\") (b ∷ rest)
unfolding word_item escape_of
special_item env b rest is = rw is refl

plain_by : (env : Env) (b : ℕ) (rest : List ℕ) → (b == ascii " ") ≡ false
    → (b == ascii "\t") ≡ false → (b == ascii "#") ≡ false
    → (b == ascii "\\") ≡ false → (b == ascii "'") ≡ false → (b == ascii "\"") ≡ false
    → Part 0 (b ∷ []) Outside ≡ word_item env Outside b rest
unfolding word_item
plain_by env b rest blank tab number backslash single double =
    rw (blank, tab, number, double, single, backslash) refl

neither : (x y : Bool) → (x || y) ≡ false → (x ≡ false) × (y ≡ false)
neither true y is = cc
neither false y is = (refl, is)

plain_item : (env : Env) (b : ℕ) (rest : List ℕ) → (b == ascii "\t") ≡ false → is_special b ≡ false
    → Part 0 (b ∷ []) Outside ≡ word_item env Outside b rest
plain_item env b rest tab is =
    let four = neither (b == ascii " " || b == ascii "#" || b == ascii "\\" || b == ascii "'")
    (b == ascii "\"") is in
    let three = neither (b == ascii " " || b == ascii "#" || b == ascii "\\") (b == ascii "'")
    four.0 in
    let two = neither (b == ascii " " || b == ascii "#") (b == ascii "\\") three.0 in
    let one = neither (b == ascii " ") (b == ascii "#") two.0 in
    plain_by env b rest one.0 tab one.1 two.1 three.1 four.1

opening_item : (env : Env) (rest : List ℕ)
    → Part 0 [] Double ≡ word_item env Outside (ascii "\"") rest
unfolding word_item
opening_item env rest = refl

closing_item : (env : Env) (rest : List ℕ)
    → Part 0 [] Outside ≡ word_item env Double (ascii "\"") rest
unfolding word_item
closing_item env rest = refl

gap_item : (env : Env) (rest : List ℕ) → Gap 0 ≡ word_item env Outside (ascii " ") rest
unfolding word_item
gap_item env rest = refl

-- ---- a byte

-- there is room for the word that begins
abbrev Room : List (List ℕ) → Option (List ℕ) → Type 0
Room done word = (word ≡ None) × (256 ≤ length done) → ⊥

abbrev longer : Option (List ℕ) → ℕ → Option (List ℕ)
longer word b = Some (unwrap_or word [] ++ b ∷ [])

byte_by : (env : Env) (line rest : List ℕ) (done : List (List ℕ)) (word : Option (List ℕ)) (b : ℕ)
    (n r t s : Bool)
    → (b == ascii "\n") ≡ n → (b == ascii "\r") ≡ r → (b == ascii "\t") ≡ t → is_special b ≡ s
    → Room done word
    → KeepsWords env line (cond n (codes "\\n") (cond r (codes "\\r")
    (cond t (codes "\\t") (cond s (ascii "\\" ∷ b ∷ []) (b ∷ [])))) ++ rest) Outside done word
    → KeepsWords env line rest Outside done (longer word b)
byte_by env line rest done word b true r t s is_n is_r is_t is_s room keeps =
    subst (λ x. KeepsWords env line rest Outside done (longer word x))
    (sym (eqb-true b (ascii "\n") is_n))
    (words_part env line _ Outside done word (ascii "\\") (ascii "n" ∷ rest) 1 (ascii "\n" ∷ [])
    Outside keeps refl (feed_item env rest) room)
byte_by env line rest done word b false true t s is_n is_r is_t is_s room keeps =
    subst (λ x. KeepsWords env line rest Outside done (longer word x))
    (sym (eqb-true b (ascii "\r") is_r))
    (words_part env line _ Outside done word (ascii "\\") (ascii "r" ∷ rest) 1 (ascii "\r" ∷ [])
    Outside keeps refl (return_item env rest) room)
byte_by env line rest done word b false false true s is_n is_r is_t is_s room keeps =
    subst (λ x. KeepsWords env line rest Outside done (longer word x))
    (sym (eqb-true b (ascii "\t") is_t))
    (words_part env line _ Outside done word (ascii "\\") (ascii "t" ∷ rest) 1 (ascii "\t" ∷ [])
    Outside keeps refl (tab_item env rest) room)
byte_by env line rest done word b false false false true is_n is_r is_t is_s room keeps =
    words_part env line _ Outside done word (ascii "\\") (b ∷ rest) 1 (b ∷ []) Outside keeps refl
    (special_item env b rest is_s) room
byte_by env line rest done word b false false false false is_n is_r is_t is_s room keeps =
    words_part env line _ Outside done word b rest 0 (b ∷ []) Outside keeps refl
    (plain_item env b rest is_t is_s) room

byte_read : (env : Env) (line rest : List ℕ) (done : List (List ℕ)) (word : Option (List ℕ)) (b : ℕ)
    → Room done word
    → KeepsWords env line (byte_text b ++ rest) Outside done word
    → KeepsWords env line rest Outside done (longer word b)
byte_read env line rest done word b room keeps =
    byte_by env line rest done word b (b == ascii "\n") (b == ascii "\r") (b == ascii "\t")
    (is_special b) refl refl refl refl room keeps

-- ---- a word

bytes_read : (env : Env) (line rest : List ℕ) (done : List (List ℕ)) (word bytes : List ℕ)
    → KeepsWords env line (flat_map byte_text bytes ++ rest) Outside done (Some word)
    → KeepsWords env line rest Outside done (Some (word ++ bytes))
bytes_read env line rest done word [] keeps =
    subst (λ (w : List ℕ). KeepsWords env line rest Outside done (Some w)) (sym (append-nil word))
    keeps
bytes_read env line rest done word (b ∷ bytes) keeps =
    subst (λ (w : List ℕ). KeepsWords env line rest Outside done (Some w))
    (append_assoc word (b ∷ []) bytes)
    (bytes_read env line rest done (word ++ b ∷ []) bytes
    (byte_read env line (flat_map byte_text bytes ++ rest) done (Some word) b (λ both. cc)
    (subst (λ (t : List ℕ). KeepsWords env line t Outside done (Some word))
    (append_assoc (byte_text b) (flat_map byte_text bytes) rest) keeps)))

word_read : (env : Env) (line rest : List ℕ) (done : List (List ℕ)) (word : List ℕ) → Room done None
    → KeepsWords env line (word_text word ++ rest) Outside done None
    → KeepsWords env line rest Outside done (Some word)
word_read env line rest done [] room keeps =
    words_part env line (ascii "\"" ∷ rest) Double done (Some []) (ascii "\"") rest 0 [] Outside
    (words_part env line _ Outside done None (ascii "\"") (ascii "\"" ∷ rest) 0 [] Double keeps refl
    (opening_item env (ascii "\"" ∷ rest)) room)
    refl (closing_item env rest) (λ both. cc)
word_read env line rest done (b ∷ bytes) room keeps =
    bytes_read env line rest done (b ∷ []) bytes
    (byte_read env line (flat_map byte_text bytes ++ rest) done None b room
    (subst (λ (t : List ℕ). KeepsWords env line t Outside done None)
    (append_assoc (byte_text b) (flat_map byte_text bytes) rest) keeps))

-- ---- a line

longer_by_one : (done : List (List ℕ)) (word : List ℕ)
    → length (done ++ word ∷ []) ≡ length done + 1
longer_by_one done word = length-append done (word ∷ [])

after_read : (env : Env) (line : List ℕ) (done : List (List ℕ)) (word : List ℕ)
    (words : List (List ℕ)) → length done + 1 + length words ≤ 256
    → KeepsWords env line (words_after words) Outside done (Some word)
    → words_of env line ≡ Ok ((done ++ word ∷ []) ++ words)
after_read env line done word [] room keeps =
    ends_well env line [] Outside done (Some word) keeps refl refl
    ∙ ap Ok (sym (append-nil (done ++ word ∷ [])))
after_read env line done word (next ∷ words) room keeps =
    let one = longer_by_one done word in
    let begun = word_read env line (words_after words) (done ++ word ∷ []) next
    (λ both. omega (arith, one, room, both.1))
    (words_gap env line _ Outside done (Some word) (ascii " ") (word_text next ++ words_after words)
    0 keeps refl (gap_item env (word_text next ++ words_after words))) in
    after_read env line (done ++ word ∷ []) next words (omega (arith, one, room)) begun
    ∙ ap Ok (append_assoc (done ++ word ∷ []) (next ∷ []) words)

pub line_reads_back : (env : Env) (words : List (List ℕ)) → length words ≤ 256
    → words_of env (line_text words) ≡ Ok words
line_reads_back env [] room = ends_well env [] [] Outside [] None (words_start env []) refl refl
line_reads_back env (word ∷ words) room =
    after_read env (line_text (word ∷ words)) [] word words (omega (arith, room))
    (word_read env (line_text (word ∷ words)) (words_after words) [] word
    (λ both. omega (arith, both.1)) (words_start env (line_text (word ∷ words))))
