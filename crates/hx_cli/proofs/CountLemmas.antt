-- The lines of references without their counts of entries.
use Rattle.std.proofs.Common.{◌≡◌, ℕ, zero, suc, ◌+◌, ◌-◌, ◌/◌, ◌%◌, ◌<◌, ◌==◌, Bool, true, false, List, [], ◌∷◌, ◌++◌, codes, length, take, get_or, map, not, refl, ap, sym, ◌∙◌, arith, inl, inr, append_assoc}
use Rattle.std.specs.Prelude.{Option, None, Some, IfSome, slice_get, sum, unwrap_or, if◌then◌else◌}
use Rattle.std.specs.Cmp.{nat_cmp_total}
use Rattle.std.specs.FinMap as finite
use Rattle.std.specs.FinMap.{entries-insert, len-empty, len-entries, put}
use Rattle.std.specs.FinMap.Entries.{by_order}
use Rattle.std.specs.Fmt.{decimal, digit_glyph, digits, digits_onto}
use Rattle.std.specs.List.{before_last, filter, starts_with, suffix_len}
use Rattle.std.specs.Option.{option_map_or}
use Rattle.std.specs.Ordering.{nat_cmp}
use Rattle.std.specs.declared.cmp.Ordering.{Ordering}
use Rattle.std.specs.declared.cmp.Ordering.TheVariants.{Less, Equal, Greater}
use Rattle.std.proofs.lemmas.Bool.{cases_Bool, lt-ltb, ne_eqb}
use Rattle.std.proofs.lemmas.Bool.Decides.{Decides-eqb}
use Rattle.std.proofs.lemmas.List.{get_or-append_right, get_or_append_left, get_or_push, length-append, take_at}
use Rattle.std.proofs.lemmas.List.Sums.{suffix_len_is}
use Rattle.std.proofs.lemmas.Option.{slice_get_cases}
use Rattle.std.proofs.lemmas.Slice.Eq.{starts_is}
use Rattle.hx_base.specs.Bytes.{ascii}
use Rattle.hx_refs.specs.Numbers.{number_at}
use Rattle.hx_refs.specs.References.{changed_at, Reference, References, Version}
use Rattle.hx_cli.specs.Effects.{told_references}
use Rattle.hx_cli.specs.Replies.{reference_line}
use Rattle.hx_cli.specs.Unseen.{with_empty_version, without_additions, without_count}
use Rattle.hx_cli.proofs.PositionLemmas.{none_changed, taken_stay, tested}

-- ---- digits

abbrev HoldsDigits : List ℕ → Type 0
HoldsDigits [] = Unit {0}
HoldsDigits (b ∷ bs) = (b < 58) × HoldsDigits bs

glyph_is : (n : ℕ) → digit_glyph false (n % 10) < 58
glyph_is n =
    let small : n % 10 < 10 = omega arith in
    rw (lt-ltb (n % 10) 10 small) (omega (arith, small))

onto_digits : (k n : ℕ) (bs : List ℕ) → HoldsDigits bs → HoldsDigits (digits_onto k 10 false n bs)
onto_digits zero n bs all = all
onto_digits (suc k) n bs all = elim (cases_Bool (n / 10 == 0)) [
  | inl last ↦ rw last (glyph_is n, all)
  | inr more ↦ rw more (onto_digits k (n / 10) (digit_glyph false (n % 10) ∷ bs) (glyph_is n, all))
]

decimal_digits : (n : ℕ) → HoldsDigits (decimal n)
unfolding digits
decimal_digits n = onto_digits 64 n [] tt

digit_at : (bs : List ℕ) (k d : ℕ) → HoldsDigits bs → k < length bs → get_or bs k d < 58
digit_at [] k d all within = absurd (omega arith)
digit_at (b ∷ bs) zero d all within = all.0
digit_at (b ∷ bs) (suc k) d all within = digit_at bs k d all.1 (omega arith)

-- ---- what stands before the last `=` of a text

abbrev isnt_equals : ℕ → Bool
isnt_equals b = not (b == ascii "=")

isnt_below : (b : ℕ) → b < 58 → isnt_equals b ≡ true
isnt_below b below = rw (ne_eqb b 61 (λ same. omega arith)) refl

count_left_out : (text : List ℕ) (count : ℕ)
    → before_last (λ b. b == ascii "=") ((text ++ ascii "=" ∷ []) ++ decimal count) ≡ text
count_left_out text count =
    let before = text ++ ascii "=" ∷ [] in
    let whole = before ++ decimal count in
    let long : length before ≡ length text + 1 = length-append text (ascii "=" ∷ []) in
    let both : length whole ≡ length before + length (decimal count) = length-append before (decimal count) in
    let rest : suffix_len isnt_equals whole ≡ length whole - length before =
    suffix_len_is isnt_equals whole (length before) 0 (omega arith)
    (λ k from within.
    rw (get_or-append_right before (decimal count) (length before) k 0 refl from)
    (isnt_below (get_or (decimal count) (k - length before) 0) (digit_at (decimal count) (k - length before) 0 (decimal_digits count) (omega arith))))
    (λ some.
    rw (get_or_append_left before (decimal count) 0 (length before - 1) (omega arith), get_or_push text (ascii "=") 0 (length before - 1) (omega arith))
    refl) in
    let at : length whole - suffix_len isnt_equals whole - 1 ≡ length text = omega arith in
    ap (λ n. take n whole) at ∙ ap (λ t. take (length text) t) (append_assoc text (ascii "=" ∷ []) (decimal count))
    ∙ take_at text ((ascii "=" ∷ []) ++ decimal count) (length text) refl

-- ---- the line of a reference

grouped : (p a b c d e g h : List ℕ)
    → p ++ a ++ b ++ c ++ d ++ e ++ g ++ h ≡ p ++ (a ++ (b ++ (c ++ (d ++ (e ++ (g ++ h))))))
grouped p a b c d e g h = simp append_assoc

cut_by : (number : ℕ) (line : List ℕ) → starts_with ◌==◌ line (decimal number ++ codes " (") ≡ true
    → without_count number line ≡ before_last (λ b. b == ascii "=") line
cut_by number line starts = rw starts refl

-- a line that begins with the number and a space and a parenthesis
line_cut : (number : ℕ) (a b c d e : List ℕ) (count : ℕ)
    → without_count number (decimal number ++ codes " (" ++ a ++ b ++ c ++ d ++ e ++ codes " entry_cnt=" ++ decimal count)
    ≡ decimal number ++ codes " (" ++ a ++ b ++ c ++ d ++ e ++ codes " entry_cnt"
line_cut number a b c d e count =
    let p = decimal number ++ codes " (" in
    let head = p ++ a ++ b ++ c ++ d ++ e in
    let line = head ++ codes " entry_cnt=" ++ decimal count in
    let starts : starts_with ◌==◌ line p ≡ true =
    (starts_is Decides-eqb line p _ refl).1 (a ++ (b ++ (c ++ (d ++ (e ++ (codes " entry_cnt=" ++ decimal count))))))
    (grouped p a b c d e (codes " entry_cnt=") (decimal count)) in
    cut_by number line starts
    ∙ ap (λ (t : List ℕ). before_last (λ b. b == ascii "=") (t ++ decimal count))
    (sym (append_assoc head (codes " entry_cnt") (ascii "=" ∷ [])))
    ∙ count_left_out (head ++ codes " entry_cnt") count

line_hidden : (number curr next count other : ℕ) (file : Option (List ℕ))
    → without_count number (reference_line number curr next count file) ≡ without_count number (reference_line number curr next other file)
unfolding reference_line
line_hidden number curr next count other file =
    line_cut number (unwrap_or file []) (codes ") curr_ver=") (decimal curr) (codes " next_ver=") (decimal next) count
    ∙ sym (line_cut number (unwrap_or file []) (codes ") curr_ver=") (decimal curr) (codes " next_ver=") (decimal next) other)

-- ---- the lines by their numbers

abbrev with_text : (List ℕ → List ℕ) → ℕ × List ℕ → ℕ × List ℕ
with_text f entry = (entry.0, f entry.1)

abbrev with_texts : (List ℕ → List ℕ) → List (ℕ × List ℕ) → List (ℕ × List ℕ)
with_texts f entries = map (with_text f) entries

texts_put : (f : List ℕ → List ℕ) (k : ℕ) (text : List ℕ) (entries : List (ℕ × List ℕ))
    → with_texts f (put nat_cmp k text entries) ≡ put nat_cmp k (f text) (with_texts f entries)
texts_put f k text [] = refl
texts_put f k text (e ∷ entries) = go (nat_cmp k e.0) (texts_put f k text entries)
  where
    go : (order : Ordering) → with_texts f (put nat_cmp k text entries) ≡ put nat_cmp k (f text) (with_texts f entries)
        → with_texts f (by_order order ((k, text) ∷ e ∷ entries) ((e.0, text) ∷ entries) (e ∷ put nat_cmp k text entries))
        ≡ by_order order ((k, f text) ∷ with_text f e ∷ with_texts f entries) ((e.0, f text) ∷ with_texts f entries) (with_text f e ∷ put nat_cmp k (f text) (with_texts f entries))
    go Less rest = refl
    go Equal rest = refl
    go Greater rest = ap (λ (es : List (ℕ × List ℕ)). with_text f e ∷ es) rest

nothing_left : {A : Type 0} (xs : List A) → length xs ≡ 0 → xs ≡ []
nothing_left [] none = refl
nothing_left (x ∷ xs) none = absurd (omega (arith, none))

abbrev mapped_from : List (ℕ × List ℕ) → List (ℕ × List ℕ)
mapped_from entries = finite.entries (finite.from_entries {R = nat_cmp} entries)

none_mapped : mapped_from [] ≡ []
none_mapped =
    nothing_left (mapped_from []) (sym (len-entries (finite.from_entries {R = nat_cmp} [])) ∙ len-empty nat_cmp (List ℕ))

texts_mapped : (f : List ℕ → List ℕ) (entries : List (ℕ × List ℕ))
    → with_texts f (mapped_from entries) ≡ mapped_from (with_texts f entries)
texts_mapped f [] = ap (with_texts f) none_mapped ∙ sym none_mapped
texts_mapped f (e ∷ entries) =
    ap (with_texts f) (entries-insert nat_cmp_total (finite.from_entries entries) e.0 e.1)
    ∙ texts_put f e.0 e.1 (mapped_from entries)
    ∙ ap (put nat_cmp e.0 (f e.1)) (texts_mapped f entries)
    ∙ sym (entries-insert nat_cmp_total (finite.from_entries (with_texts f entries)) e.0 (f e.1))

twice_mapped : {A B C : Type 0} (f : B → C) (g : A → B) (xs : List A) → map f (map g xs) ≡ map (λ x. f (g x)) xs
twice_mapped f g [] = refl
twice_mapped f g (x ∷ xs) = ap (λ ys. f (g x) ∷ ys) (twice_mapped f g xs)

abbrev text_of : ℕ × List ℕ → List ℕ
text_of entry = entry.1

texts_of_map : (f : List ℕ → List ℕ) (entries : List (ℕ × List ℕ))
    → map f (map text_of (mapped_from entries)) ≡ map text_of (mapped_from (with_texts f entries))
texts_of_map f entries =
    twice_mapped f text_of (mapped_from entries) ∙ sym (twice_mapped text_of (with_text f) (mapped_from entries))
    ∙ ap (map text_of) (texts_mapped f entries)

-- ---- what is told of references

abbrev is_told : Bool → Reference → Bool
is_told is_map ref = if is_map then ref.two_column else ref.acl

-- how many entries the versions have
abbrev total : List Version → ℕ
total versions = sum (map (λ version. length version.entries) versions)

abbrev counted_line : Reference → ℕ × List ℕ
counted_line ref = (ref.id, reference_line ref.id ref.curr ref.next (total ref.versions) ref.file)

abbrev lines_told : Bool → List Reference → List (List ℕ)
lines_told is_map references = map text_of (mapped_from (map counted_line (filter (is_told is_map) references)))

uncounted_lines : (is_map : Bool) (r v number : ℕ) (references : List Reference)
    → IfSome (slice_get references r) (λ x. x.id ≡ number)
    → map (without_count number) (lines_told is_map (changed_at r (without_additions v) references))
    ≡ map (without_count number) (lines_told is_map references)
uncounted_lines is_map r v number references is =
    let f = without_count number in
    let changed = changed_at r (without_additions v) references in
    texts_of_map f (map counted_line (filter (is_told is_map) changed))
    ∙ ap (λ (entries : List (ℕ × List ℕ)). map text_of (mapped_from entries))
    (twice_mapped (with_text f) counted_line (filter (is_told is_map) changed)
    ∙ taken_stay (is_told is_map) (λ x. with_text f (counted_line x)) r (without_additions v) references (each (slice_get references r) is)
    ∙ sym (twice_mapped (with_text f) counted_line (filter (is_told is_map) references)))
    ∙ sym (texts_of_map f (map counted_line (filter (is_told is_map) references)))
  where
    one : (x : Reference) → x.id ≡ number
        → tested (is_told is_map) (λ x. with_text (without_count number) (counted_line x)) (without_additions v x)
        ≡ tested (is_told is_map) (λ x. with_text (without_count number) (counted_line x)) x
    one x is =
        ap (λ (t : List ℕ). tested (is_told is_map) (λ (y : Reference). (x.id, t)) x)
        (rw (← is) (line_hidden x.id x.curr x.next (total (without_additions v x).versions) (total x.versions) x.file))

    each : (found : Option Reference) → IfSome found (λ x. x.id ≡ number)
        → IfSome found (λ x. tested (is_told is_map) (λ x. with_text (without_count number) (counted_line x)) (without_additions v x)
        ≡ tested (is_told is_map) (λ x. with_text (without_count number) (counted_line x)) x)
    each None is = tt
    each (Some x) is = one x is

-- the lines that tell of references, where the entries of the one at a position aren't counted
abbrev pub told_uncounted : Bool → References → ℕ → List (List ℕ)
told_uncounted is_map refs r =
    option_map_or (λ number. map (without_count number) (told_references is_map refs))
    (number_at refs.references r) (told_references is_map refs)

pub told_alike : (is_map : Bool) (refs : References) (r v : ℕ)
    → number_at (with_empty_version r v refs).references r ≡ number_at refs.references r
    → told_uncounted is_map (with_empty_version r v refs) r ≡ told_uncounted is_map refs r
unfolding told_references
told_alike is_map refs r v same = elim (slice_get_cases refs.references r).1 [
  | inl w ↦
      let number : number_at refs.references r ≡ Some w.0.id = rw w.2 refl in
      rw (same, number)
      (ap (λ (lines : List (List ℕ)). without_count w.0.id (codes "# id (file)") ∷ lines)
      (uncounted_lines is_map r v w.0.id refs.references (rw w.2 refl)))
  | inr past ↦
      ap (λ (references : List Reference). told_uncounted is_map (record refs { references = references }) r)
      (none_changed r (without_additions v) refs.references past.1)
]
