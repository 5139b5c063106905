-- The function gives the one head that the relation allows.
use Rattle.std.proofs.Common.{◌≡◌, ℕ, nat_le, Bool, true, ◌&&◌, if◌then◌else◌, List, [], ◌∷◌, ◌++◌, length, take, drop, refl, sym, ap, ◌∙◌, subst, arith}
use Rattle.std.proofs.lemmas.Bool.{and_parts, and_from, cond_both, false≢true, lt-ltb, ltb-true, le-leb, leb-true, leb-false}
use Rattle.std.proofs.lemmas.List.{take_at, take-append-drop}
use Rattle.std.proofs.lemmas.List.Elements.{All-head, All-tail, All-cons, All-nil}
use Rattle.std.proofs.lemmas.List.Sums.{AllPass-from_list_all, list_all-from_AllPass}
use Rattle.std.proofs.lemmas.Slice.Eq.{bytes_eq-Decides}
use Rattle.std.proofs.lemmas.Str.{IsUtf8-from_is_utf8, is_utf8-from_IsUtf8}
use Rattle.std.specs.List.{All, list_all}
use Rattle.std.specs.Str.{bytes_eq}
use Rattle.httparse.specs.Grammar.{Field, IsField, IsToken, is_token, is_token_byte, is_uri_byte, is_value_byte, RequestHead, IsRequestHead, ReadsRequest, print_request}
use Rattle.httparse.proofs.GrammarLemmas.{request_unique}
use Rattle.hx_http.specs.Parts.{parts}
use Rattle.hx_http.specs.Lines.{possible_head}
use Rattle.hx_http.specs.Head.{Head, message, many, none, header_limit, IsHead, is_request_head, head_of, GivesHeads, GivesOnlyHeads}
use Rattle.hx_http.proofs.ReadBackLemmas.{read_back}

-- ---- the tests say what the grammar says

token_passes : (bytes : List ℕ) → IsToken bytes → is_token bytes ≡ true
token_passes bytes ok =
    and_from _ _ (lt-ltb _ _ ok.0) (list_all-from_AllPass is_token_byte bytes ok.1)

token_is : (bytes : List ℕ) → is_token bytes ≡ true → IsToken bytes
token_is bytes passes =
    let both = and_parts _ _ passes in
    (ltb-true 0 (length bytes) both.0, AllPass-from_list_all is_token_byte bytes both.1)

-- the test of one header line
abbrev is_field : Field → Bool
is_field f = is_token f.name && list_all is_value_byte f.raw

fields_pass : (fs : List Field) → All IsField fs → list_all is_field fs ≡ true
fields_pass [] ok = refl
fields_pass (f ∷ fs) ok =
    let here = All-head IsField f fs ok in
    and_from (is_field f) (list_all is_field fs)
    (and_from (is_token f.name) (list_all is_value_byte f.raw) (token_passes f.name here.name)
    (list_all-from_AllPass is_value_byte f.raw here.raw))
    (fields_pass fs (All-tail IsField f fs ok))

fields_are : (fs : List Field) → list_all is_field fs ≡ true → All IsField fs
fields_are [] passes = All-nil IsField
fields_are (f ∷ fs) passes =
    let both = and_parts (is_field f) (list_all is_field fs) passes in
    let here = and_parts (is_token f.name) (list_all is_value_byte f.raw) both.0 in
    All-cons IsField f fs
    (record { name = token_is f.name here.0; raw = AllPass-from_list_all is_value_byte f.raw here.1 })
    (fields_are fs both.1)

head_passes : (h : RequestHead) → IsRequestHead h → is_request_head h ≡ true
head_passes h ok =
    and_from _ (list_all is_field h.fields)
    (and_from _ _
    (and_from (is_token h.method) _ (token_passes h.method ok.method)
    (and_from _ _ (and_from _ _ (lt-ltb _ _ ok.target.0) (list_all-from_AllPass is_uri_byte h.target ok.target.1)) (is_utf8-from_IsUtf8 h.target ok.target_text)))
    (le-leb _ _ ok.minor))
    (fields_pass h.fields ok.fields)

head_is_one : (h : RequestHead) → is_request_head h ≡ true → IsRequestHead h
head_is_one h passes =
    let with_fields = and_parts _ (list_all is_field h.fields) passes in
    let with_minor = and_parts _ _ with_fields.0 in
    let start = and_parts (is_token h.method) _ with_minor.0 in
    let target = and_parts _ _ start.1 in
    let bytes = and_parts _ _ target.0 in
    record {
      method = token_is h.method start.0;
      target = (ltb-true 0 (length h.target) bytes.0, AllPass-from_list_all is_uri_byte h.target bytes.1);
      target_text = IsUtf8-from_is_utf8 h.target target.1;
      minor = leb-true h.minor 1 with_minor.1;
      fields = fields_are h.fields with_fields.1;
    }

-- the two parts of the definition, by the head that could begin the bytes
abbrev begins_with_head : List ℕ → RequestHead → Bool
begins_with_head bytes h =
    is_request_head h && bytes_eq (take (length (print_request h)) bytes) (print_request h)

abbrev head_by_parts : List ℕ → RequestHead → Head
head_by_parts bytes h =
    if begins_with_head bytes h
    then (if nat_le (length h.fields) header_limit
    then message (parts h) (length (print_request h)) else many)
    else none

begins_where_reads : (bytes : List ℕ) (h : RequestHead) (rest : List ℕ) → ReadsRequest bytes h rest
    → begins_with_head bytes h ≡ true
begins_where_reads bytes h rest reads =
    let n = length (print_request h) in
    let prefix = ap (λ (xs : List ℕ). take n xs) reads.1 ∙ take_at (print_request h) rest n refl in
    and_from (is_request_head h) _ (head_passes h reads.0) ((bytes_eq-Decides (take n bytes)
    (print_request h)).1 prefix)

reads_where_begins : (bytes : List ℕ) (h : RequestHead) → begins_with_head bytes h ≡ true
    → ReadsRequest bytes h (drop (length (print_request h)) bytes)
reads_where_begins bytes h starts =
    let n = length (print_request h) in
    let both = and_parts (is_request_head h) _ starts in
    let prefix = (bytes_eq-Decides (take n bytes) (print_request h)).0 both.1 in (
      head_is_one h both.0,
      sym (take-append-drop n bytes) ∙ ap
          (λ (xs : List ℕ). xs ++ drop n bytes) prefix,
    )

-- ---- the laws

head_by_parts_is : (bytes : List ℕ) (h : RequestHead)
    → ((k : RequestHead) (rest : List ℕ) → ReadsRequest bytes k rest → h ≡ k)
    → IsHead bytes (head_by_parts bytes h)
head_by_parts_is bytes h only =
    cond_both (begins_with_head bytes h) _ none (IsHead bytes)
    (λ starts.
    let reads = reads_where_begins bytes h starts in
    cond_both _ (message (parts h) (length (print_request h))) many (IsHead bytes)
    (λ few. (h, reads, refl, leb-true (length h.fields) header_limit few, refl))
    (λ over. (h, _, reads, leb-false (length h.fields) header_limit over)))
    (λ no k rest reads.
    false≢true (sym no ∙ subst (λ g. begins_with_head bytes g ≡ true) (sym (only k rest reads))
    (begins_where_reads bytes k rest reads)))

pub head_is : GivesHeads head_of
unfolding head_of
head_is bytes =
    head_by_parts_is bytes (possible_head bytes)
    (λ k rest reads. ap possible_head reads.1 ∙ read_back k rest reads.0)

one_head : (bytes : List ℕ) (a b : Head) → IsHead bytes a → IsHead bytes b → a ≡ b
one_head bytes (message m n) (message l k) x y =
    let same = request_unique bytes x.0 y.0 _ _ x.1 y.1 in
    let long : n ≡ k = x.2 ∙ ap (λ h. length (print_request h)) same.0 ∙ sym y.2 in
    let seen : m ≡ l = x.4 ∙ ap parts same.0 ∙ sym y.4 in
    cc
one_head bytes (message m n) many x y =
    let same = request_unique bytes x.0 y.0 _ _ x.1 y.2 in
    absurd (omega (arith, x.3, y.3, ap (λ h. length h.fields) same.0))
one_head bytes (message m n) none x y = absurd (y _ _ x.1)
one_head bytes many (message m n) x y =
    let same = request_unique bytes x.0 y.0 _ _ x.2 y.1 in
    absurd (omega (arith, x.3, y.3, ap (λ h. length h.fields) same.0))
one_head bytes many many x y = refl
one_head bytes many none x y = absurd (y _ _ x.2)
one_head bytes none (message m n) x y = absurd (x _ _ y.1)
one_head bytes none many x y = absurd (x _ _ y.2)
one_head bytes none none x y = refl

pub only_head_is : GivesOnlyHeads head_of
only_head_is bytes head is = one_head bytes (head_of bytes) head (head_is bytes) is
