-- A head that is printed is read back, whatever follows.
use Rattle.std.proofs.Common.{◌≡◌, ℕ, suc, zero, ◌+◌, ◌-◌, ◌≤◌, Bool, true, false, not, ◌==◌, nat_lt, List, [], ◌∷◌, ◌++◌, Option, Some, length, get_or, take, drop, map, refl, sym, ap, ◌∙◌, subst, arith, append_assoc, length-append, lt-ltb}
use Rattle.std.specs.Prelude.{find, if◌then◌else◌, slice_index, take_while}
use Rattle.std.specs.Io.BufRead.{ends_with_byte}
use Rattle.std.specs.Option.{option_map_or}
use Rattle.std.proofs.lemmas.Bool.{or_parts, or_from, and_from, and_right, cond-true, cond-false, eq-eqb, false≢true, ne_eqb, not_from_true, not_from_false, not-true}
use Rattle.std.proofs.lemmas.List.{take_at, drop_at, drop-drop, get_or_push, length_push}
use Rattle.std.proofs.lemmas.List.Elements.{All-head, All-tail, All-append, All-cons, All-nil, All-weaker}
use Rattle.std.proofs.lemmas.List.Splits.{slice_split_at}
use Rattle.std.proofs.lemmas.List.Sums.{AllPass-from_list_all}
use Rattle.std.specs.List.{All, flat_map, list_all, position_or_len, prefix_len, before_first, after_first, slice_split}
use Rattle.std.specs.Str.{bytes_eq}
use Rattle.memchr.specs.Find.{is_byte}
use Rattle.httparse.specs.Grammar.{LineEnd, crlf, lf, print_end, print_blank, print_version, Field, print_field, IsField, print_section, RequestHead, IsRequestHead, print_request, is_token_byte, is_uri_byte, is_value_byte}
use Rattle.httparse.specs.Pieces.{is_newline}
use Rattle.httparse.proofs.PieceLemmas.{token_is_no_newline, space_ends_token, colon_ends_token}
use Rattle.httparse.proofs.GrammarLemmas.{print_request-append, cons-append}
use Rattle.hx_http.specs.Lines.{text_of, end_of, is_empty, field_of, possible_head}

-- ---- bytes

-- a byte that passes a test is no byte that fails it
other_byte : (test : ℕ → Bool) (stop : ℕ) → test stop ≡ false → (b : ℕ) → test b ≡ true
    → (b == stop) ≡ false
other_byte test stop fails b passes =
    ne_eqb b stop (λ e. false≢true (sym fails ∙ subst (λ (v : ℕ). test v ≡ true) e passes))

no_newline : (test : ℕ → Bool) → test 13 ≡ false → test 10 ≡ false → (b : ℕ) → test b ≡ true
    → is_newline b ≡ false
no_newline test cr nl b passes =
    or_from (b == 13) (b == 10) (other_byte test 13 cr b passes) (other_byte test 10 nl b passes)

-- ---- lines

-- no line ends in the text
abbrev IsPlain : List ℕ → Type 0
IsPlain text = All (λ b. is_newline b ≡ false) text

plain_by_test : (text : List ℕ) → list_all (λ b. not (is_newline b)) text ≡ true → IsPlain text
plain_by_test text passes =
    All-weaker (λ b. not (is_newline b) ≡ true) (λ b. is_newline b ≡ false)
    (λ b. not-true (is_newline b)) text
    (AllPass-from_list_all (λ b. not (is_newline b)) text passes)

no_text : IsPlain []
no_text = All-nil (λ b. is_newline b ≡ false)

-- the lines of the bytes
abbrev lines_in : List ℕ → List (List ℕ)
lines_in bytes = slice_split (is_byte 10) bytes

-- a text as a line that ends so, without the line feed
abbrev line_of : List ℕ → LineEnd → List ℕ
line_of text crlf = text ++ 13 ∷ []
line_of text lf = text

no_feed : (text : List ℕ) → IsPlain text → All (λ b. is_byte 10 b ≡ false) text
no_feed text plain =
    All-weaker (λ b. is_newline b ≡ false) (λ b. is_byte 10 b ≡ false)
    (λ b none. (or_parts (b == 13) (b == 10) none).1) text plain

-- a text and the end of its line are the first line
line_read : (text : List ℕ) (e : LineEnd) (rest : List ℕ) → IsPlain text
    → lines_in (text ++ (print_end e ++ rest)) ≡ line_of text e ∷ lines_in rest
line_read text lf rest plain = slice_split_at (is_byte 10) text 10 rest (no_feed text plain) refl
line_read text crlf rest plain =
    ap lines_in (sym (append_assoc text (13 ∷ []) (10 ∷ rest)))
    ∙ slice_split_at (is_byte 10) (text ++ 13 ∷ []) 10 rest
    (All-append (λ b. is_byte 10 b ≡ false) text (13 ∷ []) (no_feed text plain)
    (All-cons (λ b. is_byte 10 b ≡ false) 13 [] refl (All-nil (λ b. is_byte 10 b ≡ false))))
    refl

no_cr_ends : (text : List ℕ) → IsPlain text → ends_with_byte 13 text ≡ false
no_cr_ends [] plain = refl
no_cr_ends (b ∷ text) plain =
    let end = length (b ∷ text) - 1 in
    let last = slice_index (b ∷ text) end in
    and_right (nat_lt 0 (length (b ∷ text))) (last == 13)
    (or_parts (last == 13) (last == 10) (plain end 0 (omega arith))).0

cr_ends : (text : List ℕ) → ends_with_byte 13 (text ++ 13 ∷ []) ≡ true
cr_ends text =
    let line = text ++ 13 ∷ [] in
    let size = length_push text 13 in
    and_from (nat_lt 0 (length line)) (slice_index line (length line - 1) == 13)
    (lt-ltb 0 (length line) (omega (arith, size)))
    (eq-eqb (slice_index line (length line - 1)) 13
    (get_or_push text 13 0 (length line - 1) (omega (arith, size))))

-- the line gives back its text and its end
text_back : (text : List ℕ) (e : LineEnd) → IsPlain text → text_of (line_of text e) ≡ text
text_back text lf plain =
    cond-false (ends_with_byte 13 text) (take (length text - 1) text) text (no_cr_ends text plain)
text_back text crlf plain =
    let line = text ++ 13 ∷ [] in
    let size : length line - 1 ≡ length text = omega (arith, length_push text 13) in
    cond-true (ends_with_byte 13 line) (take (length line - 1) line) line (cr_ends text)
    ∙ ap (λ n. take n line) size
    ∙ take_at text (13 ∷ []) (length text) refl

end_back : (text : List ℕ) (e : LineEnd) → IsPlain text → end_of (line_of text e) ≡ e
end_back text lf plain = cond-false (ends_with_byte 13 text) crlf lf (no_cr_ends text plain)
end_back text crlf plain = cond-true (ends_with_byte 13 (text ++ 13 ∷ [])) crlf lf (cr_ends text)

nothing_there : (e : LineEnd) → is_empty (line_of [] e) ≡ true
nothing_there crlf = refl
nothing_there lf = refl

-- a line with a stop in it is not empty
something_there : (word : List ℕ) (stop : ℕ) (rest : List ℕ) (e : LineEnd)
    → IsPlain (word ++ stop ∷ rest)
    → is_empty (line_of (word ++ stop ∷ rest) e) ≡ false
something_there word stop rest e plain =
    ap (λ (text : List ℕ). length text == 0) (text_back (word ++ stop ∷ rest) e plain)
    ∙ ne_eqb (length (word ++ stop ∷ rest)) 0 (λ e. omega (arith, e, length-append word (stop ∷ rest)))

-- ---- cutting at an item

passing_front : {X : Type 0} (p : X → Bool) (xs : List X) (y : X) (ys : List X)
    → All (λ x. p x ≡ true) xs → p y ≡ false
    → prefix_len p (xs ++ y ∷ ys) ≡ length xs
passing_front p [] y ys all here = cond-false (p y) _ 0 here
passing_front p (x ∷ xs) y ys all here =
    let first = All-head (λ z. p z ≡ true) x xs all in
    let more = passing_front p xs y ys (All-tail (λ z. p z ≡ true) x xs all) here in
    cond-true (p x) _ 0 first ∙ omega (arith, more)

cut_position : {X : Type 0} (p : X → Bool) (xs : List X) (stop : X) (rest : List X)
    → All (λ x. p x ≡ false) xs → p stop ≡ true
    → position_or_len p (xs ++ stop ∷ rest) ≡ length xs
cut_position p xs stop rest none here =
    passing_front (λ x. not (p x)) xs stop rest
    (All-weaker (λ x. p x ≡ false) (λ x. not (p x) ≡ true) (λ x. not_from_false (p x)) xs none)
    (not_from_true (p stop) here)

before_cut : {X : Type 0} (p : X → Bool) (xs : List X) (stop : X) (rest : List X)
    → All (λ x. p x ≡ false) xs → p stop ≡ true
    → before_first p (xs ++ stop ∷ rest) ≡ xs
before_cut p xs stop rest none here =
    ap (λ n. take n (xs ++ stop ∷ rest)) (cut_position p xs stop rest none here)
    ∙ take_at xs (stop ∷ rest) (length xs) refl

after_cut : (p : ℕ → Bool) (xs : List ℕ) (stop : ℕ) (rest : List ℕ) → All (λ x. p x ≡ false) xs
    → p stop ≡ true
    → after_first p (xs ++ stop ∷ rest) ≡ rest
after_cut p xs stop rest none here =
    ap (λ n. drop (n + 1) (xs ++ stop ∷ rest)) (cut_position p xs stop rest none here)
    ∙ sym (drop-drop 1 (length xs) (xs ++ stop ∷ rest))
    ∙ ap (λ (ys : List ℕ). drop 1 ys) (drop_at xs (stop ∷ rest) (length xs) refl)

find_cut : {X : Type 0} (p : X → Bool) (xs : List X) (stop : X) (rest : List X)
    → All (λ x. p x ≡ false) xs → p stop ≡ true
    → find p (xs ++ stop ∷ rest) ≡ Some stop
find_cut p [] stop rest none here = cond-true (p stop) _ _ here
find_cut p (x ∷ xs) stop rest none here =
    cond-false (p x) _ _ (All-head (λ z. p z ≡ false) x xs none)
    ∙ find_cut p xs stop rest (All-tail (λ z. p z ≡ false) x xs none) here

-- ---- header lines

abbrev field_text : Field → List ℕ
field_text f = f.name ++ 58 ∷ f.raw

abbrev field_line : Field → List ℕ
field_line f = line_of (field_text f) f.end

field_plain : (f : Field) → IsField f → IsPlain (field_text f)
field_plain f ok =
    All-append (λ b. is_newline b ≡ false) f.name (58 ∷ f.raw)
    (All-weaker (λ b. is_token_byte b ≡ true) (λ b. is_newline b ≡ false) token_is_no_newline f.name ok.name.1)
    (All-cons (λ b. is_newline b ≡ false) 58 f.raw refl
    (All-weaker (λ b. is_value_byte b ≡ true) (λ b. is_newline b ≡ false)
    (no_newline is_value_byte refl refl) f.raw ok.raw))

field_read : (f : Field) → IsField f → field_of (field_line f) ≡ f
field_read f ok =
    let no_colon = All-weaker (λ b. is_token_byte b ≡ true) (λ b. is_byte 58 b ≡ false)
    (other_byte is_token_byte 58 colon_ends_token) f.name ok.name.1 in
    let text = text_back (field_text f) f.end (field_plain f ok) in
    let name = ap (before_first (is_byte 58)) text ∙ before_cut (is_byte 58) f.name 58 f.raw no_colon refl in
    let raw = ap (after_first (is_byte 58)) text ∙ after_cut (is_byte 58) f.name 58 f.raw no_colon refl in
    let end = end_back (field_text f) f.end (field_plain f ok) in
    λ i. record { name = name i; raw = raw i; end = end i }

fields_read : (fs : List Field) → All IsField fs → map field_of (map field_line fs) ≡ fs
fields_read [] ok = refl
fields_read (f ∷ fs) ok =
    let here = field_read f (All-head IsField f fs ok) in
    let more = fields_read fs (All-tail IsField f fs ok) in
    λ i. here i ∷ more i

fields_there : (fs : List Field) → All IsField fs
    → All (λ line. is_empty line ≡ false) (map field_line fs)
fields_there [] ok = All-nil (λ line. is_empty line ≡ false)
fields_there (f ∷ fs) ok =
    All-cons (λ line. is_empty line ≡ false) (field_line f) (map field_line fs)
    (something_there f.name 58 f.raw f.end (field_plain f (All-head IsField f fs ok)))
    (fields_there fs (All-tail IsField f fs ok))

section_cons : (t e fs last rest : List ℕ)
    → (((t ++ e) ++ fs) ++ last) ++ rest ≡ t ++ (e ++ ((fs ++ last) ++ rest))
section_cons t e fs last rest = simp append_assoc

section_lines : (fs : List Field) (last : LineEnd) (rest : List ℕ) → All IsField fs
    → lines_in (print_section fs last ++ rest)
    ≡ map field_line fs ++ line_of [] last ∷ lines_in rest
section_lines [] last rest ok = line_read [] last rest no_text
section_lines (f ∷ fs) last rest ok =
    let here = All-head IsField f fs ok in
    let more = section_lines fs last rest (All-tail IsField f fs ok) in
    ap lines_in (section_cons (field_text f) (print_end f.end) (flat_map print_field fs)
    (print_end last) rest)
    ∙ line_read (field_text f) f.end (print_section fs last ++ rest) (field_plain f here)
    ∙ ap (λ (lines : List (List ℕ)). field_line f ∷ lines) more

section_read : (fs : List Field) (last : LineEnd) (rest : List ℕ) → All IsField fs
    → (map field_of (before_first is_empty (lines_in (print_section fs last ++ rest))) ≡ fs)
    × (option_map_or end_of (find is_empty (lines_in (print_section fs last ++ rest))) lf ≡ last)
section_read fs last rest ok =
    let lines = section_lines fs last rest ok in
    let there = fields_there fs ok in
    let before = before_cut is_empty (map field_line fs) (line_of [] last) (lines_in rest) there
    (nothing_there last) in
    let found = find_cut is_empty (map field_line fs) (line_of [] last) (lines_in rest) there
    (nothing_there last) in (
      ap (λ (ls : List (List ℕ)). map field_of (before_first is_empty ls)) lines
          ∙ ap (λ (ls : List (List ℕ)). map field_of ls) before
          ∙ fields_read fs ok,
      ap (λ (ls : List (List ℕ)). option_map_or end_of (find is_empty ls) lf) lines
          ∙ ap (λ (line : Option (List ℕ)). option_map_or end_of line lf) found
          ∙ end_back [] last no_text,
    )

-- ---- the request line

abbrev start_text : RequestHead → List ℕ
start_text h = h.method ++ 32 ∷ (h.target ++ 32 ∷ print_version h.minor)

version_plain : (minor : ℕ) → minor ≤ 1 → IsPlain (print_version minor)
version_plain zero known = plain_by_test (print_version 0) refl
version_plain (suc zero) known = plain_by_test (print_version 1) refl
version_plain (suc (suc minor)) known = absurd (omega arith)

start_plain : (h : RequestHead) → IsRequestHead h → IsPlain (start_text h)
start_plain h ok =
    All-append (λ b. is_newline b ≡ false) h.method (32 ∷ (h.target ++ 32 ∷ print_version h.minor))
    (All-weaker (λ b. is_token_byte b ≡ true) (λ b. is_newline b ≡ false) token_is_no_newline h.method ok.method.1)
    (All-cons (λ b. is_newline b ≡ false) 32 _ refl
    (All-append (λ b. is_newline b ≡ false) h.target (32 ∷ print_version h.minor)
    (All-weaker (λ b. is_uri_byte b ≡ true) (λ b. is_newline b ≡ false)
    (no_newline is_uri_byte refl refl) h.target ok.target.1)
    (All-cons (λ b. is_newline b ≡ false) 32 (print_version h.minor) refl
    (version_plain h.minor ok.minor))))

version_word : (minor : ℕ) → minor ≤ 1
    → slice_split (is_byte 32) (print_version minor) ≡ print_version minor ∷ []
version_word zero known = refl
version_word (suc zero) known = refl
version_word (suc (suc minor)) known = absurd (omega arith)

abbrev minor_of : List ℕ → ℕ
minor_of version = if bytes_eq version (print_version 0) then 0 else 1

minor_read : (minor : ℕ) → minor ≤ 1 → minor_of (print_version minor) ≡ minor
minor_read zero known = refl
minor_read (suc zero) known = refl
minor_read (suc (suc minor)) known = absurd (omega arith)

-- the three words of the line
start_words : (h : RequestHead) → IsRequestHead h
    → slice_split (is_byte 32) (text_of (line_of (start_text h) h.line_end))
    ≡ h.method ∷ h.target ∷ print_version h.minor ∷ []
start_words h ok =
    let no_space = All-weaker (λ b. is_token_byte b ≡ true) (λ b. is_byte 32 b ≡ false)
    (other_byte is_token_byte 32 space_ends_token) h.method ok.method.1 in
    let none_there = All-weaker (λ b. is_uri_byte b ≡ true) (λ b. is_byte 32 b ≡ false)
    (other_byte is_uri_byte 32 refl) h.target ok.target.1 in
    let target = slice_split_at (is_byte 32) h.target 32 (print_version h.minor) none_there refl in
    let version = version_word h.minor ok.minor in
    ap (λ (text : List ℕ). slice_split (is_byte 32) text) (text_back (start_text h) h.line_end (start_plain h ok))
    ∙ slice_split_at (is_byte 32) h.method 32 (h.target ++ 32 ∷ print_version h.minor) no_space refl
    ∙ ap (λ (words : List (List ℕ)). h.method ∷ words) target
    ∙ ap (λ (words : List (List ℕ)). h.method ∷ h.target ∷ words) version

-- ---- the whole head

blank_lines : (ends : List LineEnd) (text : List ℕ)
    → lines_in (print_blank ends ++ text) ≡ map (line_of []) ends ++ lines_in text
blank_lines [] text = refl
blank_lines (e ∷ ends) text =
    ap lines_in (append_assoc (print_end e) (print_blank ends) text)
    ∙ line_read [] e (print_blank ends ++ text) no_text
    ∙ ap (λ (lines : List (List ℕ)). line_of [] e ∷ lines) (blank_lines ends text)

blanks_empty : (ends : List LineEnd)
    → All (λ line. is_empty line ≡ true) (map (line_of []) ends)
blanks_empty [] = All-nil (λ line. is_empty line ≡ true)
blanks_empty (e ∷ ends) =
    All-cons (λ line. is_empty line ≡ true) (line_of [] e) (map (line_of []) ends)
    (nothing_there e) (blanks_empty ends)

ends_back : (ends : List LineEnd) → map end_of (map (line_of []) ends) ≡ ends
ends_back [] = refl
ends_back (e ∷ ends) = λ i. end_back [] e no_text i ∷ ends_back ends i

start_cons : (method target version rest : List ℕ)
    → method ++ 32 ∷ (target ++ 32 ∷ (version ++ rest))
    ≡ (method ++ 32 ∷ (target ++ 32 ∷ version)) ++ rest
start_cons method target version rest = simp (append_assoc, cons-append)

pub read_back : (h : RequestHead) (rest : List ℕ) → IsRequestHead h
    → possible_head (print_request h ++ rest) ≡ h
read_back h rest ok =
    let section = print_section h.fields h.last ++ rest in
    let after_start = print_end h.line_end ++ section in
    let plain = start_plain h ok in
    let first = line_of (start_text h) h.line_end in
    let blanks = map (line_of []) h.blank in
    let lines = blanks ++ first ∷ lines_in section in
    let all : lines_in (print_request h ++ rest) ≡ lines
    = ap lines_in (print_request-append h rest
    ∙ ap (λ (t : List ℕ). print_blank h.blank ++ t) (start_cons h.method h.target
    (print_version h.minor) after_start))
    ∙ blank_lines h.blank (start_text h ++ after_start)
    ∙ ap (λ (ls : List (List ℕ)). blanks ++ ls) (line_read (start_text h) h.line_end section plain) in
    let front = passing_front is_empty blanks first (lines_in section) (blanks_empty h.blank)
    (something_there h.method 32 (h.target ++ 32 ∷ print_version h.minor) h.line_end plain) in
    let blank : map end_of (take_while is_empty (lines_in (print_request h ++ rest))) ≡ h.blank
    = ap (λ (ls : List (List ℕ)). map end_of (take_while is_empty ls)) all
    ∙ ap (λ n. map end_of (take n lines)) front
    ∙ ap (λ (ls : List (List ℕ)). map end_of ls) (take_at blanks (first ∷ lines_in section) (length blanks) refl)
    ∙ ends_back h.blank in
    let request = ap (λ (ls : List (List ℕ)). drop (prefix_len is_empty ls) ls) all
    ∙ ap (λ n. drop n lines) front
    ∙ drop_at blanks (first ∷ lines_in section) (length blanks) refl in
    let words = ap (λ (ls : List (List ℕ)). slice_split (is_byte 32) (text_of (get_or ls 0 []))) request
    ∙ start_words h ok in
    let fields = section_read h.fields h.last rest ok.fields in
    let method = ap (λ (ws : List (List ℕ)). get_or ws 0 []) words in
    let target = ap (λ (ws : List (List ℕ)). get_or ws 1 []) words in
    let minor = ap (λ (ws : List (List ℕ)). minor_of (get_or ws 2 [])) words ∙ minor_read h.minor ok.minor in
    let line_end = ap (λ (ls : List (List ℕ)). end_of (get_or ls 0 [])) request
    ∙ end_back (start_text h) h.line_end plain in
    let after = ap (λ (ls : List (List ℕ)). drop 1 ls) request in
    let header = ap (λ (ls : List (List ℕ)). map field_of (before_first is_empty ls)) after ∙ fields.0 in
    let last = ap (λ (ls : List (List ℕ)). option_map_or end_of (find is_empty ls) lf) after ∙ fields.1 in
    λ i. record {
      blank = blank i;
      method = method i;
      target = target i;
      minor = minor i;
      line_end = line_end i;
      fields = header i;
      last = last i;
    }
