-- A loop over the bytes of a format, which may bring references.
use Rattle.std.proofs.Common.{◌≡◌, ◌≢◌, ℕ, zero, suc, ◌≤◌, ◌<◌, ◌==◌, Bool, true, false, List, [], ◌∷◌, ◌++◌, ◌-◌, length, take, drop, get_or, Option, Some, Ok, Err, refl, sym, ap, ◌∙◌, append_assoc, arith}
use Rattle.std.proofs.Math.Seq.{take-length}
use Rattle.std.proofs.lemmas.Bool.{ne_eqb}
use Rattle.std.specs.Prelude.{Result, if◌then◌else◌}
use Rattle.hx_words.specs.Calls.{Step, step_of, steps_of, steps_within, further_steps}
use Rattle.hx_words.specs.Calls.Step.{Last, More, Faulty}
use Rattle.hx_words.proofs.StepLemmas.{IsProperStep, step-proper}
use Rattle.hx_ast.specs.declared.Expr.{Expr}
use Rattle.hx_ast.specs.declared.Part.{Part}
use Rattle.hx_ast.specs.declared.Part.TheVariants.{Value}
use Rattle.hx_calls.specs.declared.fault.SpellFault.{SpellFault}
use Rattle.hx_base.specs.Results.{◌>>=◌}
use Rattle.hx_calls.specs.Criteria.{expr_of}
use Rattle.hx_calls.specs.FormatView.{bytes_before, text_part, with_read}
use Rattle.hx_base.specs.Bytes.{ascii}
use Rattle.hx_calls.specs.Formats.{FormatReader, after_percent, byte_before, format_of, format_within, rest_after, value_part, with_byte, with_value}
use Rattle.hx_calls.specs.Known.{Known, Reading}
use Rattle.hx_calls.proofs.KnownLemmas.{extends_refl, extends_trans}

-- ---- what follows an expression is no longer than the text

one_within : (n : ℕ) (step : Step) → IsProperStep n step → length (rest_after (step ∷ [])) ≤ n
one_within n (Last call rest) h = h
one_within n (More call rest) h = omega arith
one_within n (Faulty name fault) h = omega arith

more_within : (n : ℕ) (f : List ℕ → List Step) (step : Step) → IsProperStep n step
    → ((rest : List ℕ) → length (rest_after (f rest)) ≤ length rest)
    → length (rest_after (step ∷ further_steps f step)) ≤ n
more_within n f (Last call rest) h within = h
more_within n f (More call rest) h within = omega (arith, h, within rest)
more_within n f (Faulty name fault) h within = omega arith

rest_within : (m : ℕ) (stop : Option ℕ) (text : List ℕ)
    → length (rest_after (steps_within m stop text)) ≤ length text
unfolding steps_within
rest_within zero stop text = one_within (length text) (step_of stop text) (step-proper stop text)
rest_within (suc m) stop text =
    more_within (length text) (λ rest. steps_within m stop rest) (step_of stop text)
    (step-proper stop text) (λ rest. rest_within m stop rest)

pub rest_shorter : (stop : Option ℕ) (text : List ℕ)
    → length (rest_after (steps_of stop text)) ≤ length text
unfolding steps_of
rest_shorter stop text = rest_within (length text) stop text

-- what a call leaves, as its clause has it
pub left_shorter : (stop : Option ℕ) (text rest : List ℕ) → rest ≡ rest_after (steps_of stop text)
    → length rest ≤ length text
left_shorter stop text rest is = rw is (rest_shorter stop text)

-- ---- a format in a text that is longer than it needs to be

-- two readers that read texts of at most so many bytes alike
abbrev Alike : ℕ → FormatReader → FormatReader → Type 0
Alike n one other =
    (text : List ℕ) (known : Known) → length text ≤ n → one text known ≡ other text known

then_alike : (one other : FormatReader) (line : ℕ) (text : List ℕ)
    (expr : Result (Reading Expr) SpellFault) → Alike (length text) one other
    → (expr >>= (λ e. one (rest_after (steps_of (Some (ascii "]")) text)) e.known
    >>= (λ others. Ok (with_value e.value others))))
    ≡ (expr >>= (λ e. other (rest_after (steps_of (Some (ascii "]")) text)) e.known
    >>= (λ others. Ok (with_value e.value others))))
then_alike one other line text (Err fault) same = refl
then_alike one other line text (Ok e) same =
    ap (λ (others : Result (Reading (List Part)) SpellFault).
    others >>= (λ others. Ok (with_value e.value others)))
    (same (rest_after (steps_of (Some (ascii "]")) text)) e.known
    (rest_shorter (Some (ascii "]")) text))

value_alike : (one other : FormatReader) (line : ℕ) (text : List ℕ) (known : Known)
    → Alike (length text) one other
    → value_part one line text known ≡ value_part other line text known
value_alike one other line text known same =
    then_alike one other line text (expr_of (Some (ascii "]")) line text known) same

either : {A : Type 0} (b : Bool) (x y other_x other_y : A) → x ≡ other_x → y ≡ other_y
    → (if b then x else y) ≡ (if b then other_x else other_y)
either true x y other_x other_y first second = first
either false x y other_x other_y first second = second

byte_alike : (b : ℕ) (one other : Result (Reading (List Part)) SpellFault) → one ≡ other
    → (one >>= (λ others. Ok (with_byte b others)))
    ≡ (other >>= (λ others. Ok (with_byte b others)))
byte_alike b one other same =
    ap (λ (found : Result (Reading (List Part)) SpellFault).
    found >>= (λ others. Ok (with_byte b others))) same

percent_alike : (one other : FormatReader) (line : ℕ) (text : List ℕ) (known : Known)
    → Alike (length text) one other
    → after_percent one line text known ≡ after_percent other line text known
percent_alike one other line [] known same = refl
percent_alike one other line (b ∷ text) known same =
    let less : length text ≤ length (b ∷ text) = omega arith in
    either (b == ascii "%") _ _ _ _
    (byte_alike (ascii "%") (one text known) (other text known) (same text known less))
    (either (b == ascii "[") _ _ _ _
    (value_alike one other line text known (λ rest after h. same rest after (omega (arith, h))))
    refl)

within_same : (m n line : ℕ) (text : List ℕ) (known : Known) → length text ≤ m → length text ≤ n
    → format_within m line text known ≡ format_within n line text known
within_same zero zero line [] known h k = refl
within_same zero (suc n) line [] known h k = refl
within_same (suc m) zero line [] known h k = refl
within_same (suc m) (suc n) line [] known h k = refl
within_same zero n line (b ∷ text) known h k = absurd (omega arith)
within_same (suc m) zero line (b ∷ text) known h k = absurd (omega arith)
within_same (suc m) (suc n) line (b ∷ text) known h k =
    either (b == ascii "%") _ _ _ _
    (percent_alike (format_within m line) (format_within n line) line text known
    (λ rest after less. within_same m n line rest after (omega arith) (omega arith)))
    (byte_alike b (format_within m line text known) (format_within n line text known)
    (within_same m n line text known (omega arith) (omega arith)))

-- ---- one step of the loop

end_of_format : (line : ℕ) (known : Known)
    → format_of line [] known ≡ Ok (record { value = []; known = known })
unfolding format_of
end_of_format line known = refl

format_by_byte : (line b : ℕ) (text : List ℕ) (known : Known)
    → format_of line (b ∷ text) known
    ≡ (if b == ascii "%" then after_percent (format_of line) line text known
    else (format_of line text known >>= (λ others. Ok (with_byte b others))))
unfolding format_of
format_by_byte line b text known =
    either (b == ascii "%") _ _ _ _
    (percent_alike (format_within (length text) line) (format_of line) line text known
    (λ rest after less.
    within_same (length text) (length rest) line rest after less (omega arith)))
    refl

-- ---- bytes that stand for themselves

bytes_then : (bytes : List ℕ) (b : ℕ) (parts : List Part)
    → bytes_before bytes (byte_before b parts) ≡ bytes_before (bytes ++ b ∷ []) parts
bytes_then [] b parts = refl
bytes_then (first ∷ bytes) b parts = ap (byte_before first) (bytes_then bytes b parts)

bytes_last : (bytes : List ℕ) → bytes_before bytes [] ≡ text_part bytes
bytes_last [] = refl
bytes_last (b ∷ []) = refl
bytes_last (b ∷ c ∷ bytes) = ap (byte_before b) (bytes_last (c ∷ bytes))

bytes_value : (bytes : List ℕ) (expr : Expr) (parts : List Part)
    → bytes_before bytes (Value expr ∷ parts) ≡ text_part bytes ++ Value expr ∷ parts
bytes_value [] expr parts = refl
bytes_value (b ∷ []) expr parts = refl
bytes_value (b ∷ c ∷ bytes) expr parts = ap (byte_before b) (bytes_value (c ∷ bytes) expr parts)

-- ---- what is read, and what the rest says

pub read_nothing : (read : Result (Reading (List Part)) SpellFault) → with_read [] [] read ≡ read
read_nothing (Ok others) = refl
read_nothing (Err fault) = refl

byte_read : (parts : List Part) (bytes : List ℕ) (b : ℕ)
    (read : Result (Reading (List Part)) SpellFault)
    → with_read parts bytes (read >>= (λ others. Ok (with_byte b others)))
    ≡ with_read parts (bytes ++ b ∷ []) read
byte_read parts bytes b (Ok others) =
    ap (λ more. Ok (record { value = parts ++ more; known = others.known }))
    (bytes_then bytes b others.value)
byte_read parts bytes b (Err fault) = refl

value_read : (parts : List Part) (bytes : List ℕ) (expr : Expr)
    (read : Result (Reading (List Part)) SpellFault)
    → with_read parts bytes (read >>= (λ others. Ok (with_value expr others)))
    ≡ with_read (parts ++ text_part bytes ++ Value expr ∷ []) [] read
value_read parts bytes expr (Ok others) =
    let more = Value expr ∷ others.value in
    ap (λ whole. Ok (record { value = whole; known = others.known }))
    (ap (λ after. parts ++ after) (bytes_value bytes expr others.value)
    ∙ (sym (append_assoc parts (text_part bytes) more)
    ∙ sym (append_assoc (parts ++ text_part bytes) (Value expr ∷ []) others.value)))
value_read parts bytes expr (Err fault) = refl

pub percent_read : (parts : List Part) (bytes : List ℕ) (next : FormatReader) (line : ℕ)
    (text : List ℕ) (known : Known)
    → with_read parts bytes (after_percent next line (ascii "%" ∷ text) known)
    ≡ with_read parts (bytes ++ ascii "%" ∷ []) (next text known)
percent_read parts bytes next line text known = byte_read parts bytes (ascii "%") (next text known)

pub expr_read : (parts : List Part) (bytes : List ℕ) (next : FormatReader) (line : ℕ)
    (text rest : List ℕ) (known after : Known) (expr : Expr)
    → expr_of (Some (ascii "]")) line text known ≡ Ok (record { value = expr; known = after })
    → rest ≡ rest_after (steps_of (Some (ascii "]")) text)
    → with_read parts bytes (value_part next line text known)
    ≡ with_read (parts ++ text_part bytes ++ Value expr ∷ []) [] (next rest after)
expr_read parts bytes next line text rest known after expr is left =
    rw (is, left)
    (value_read parts bytes expr (next (rest_after (steps_of (Some (ascii "]")) text)) after))

pub byte_next : (parts : List Part) (bytes : List ℕ) (line b : ℕ) (text : List ℕ) (known : Known)
    → (b == ascii "%") ≡ false
    → with_read parts bytes (format_of line (b ∷ text) known)
    ≡ with_read parts (bytes ++ b ∷ []) (format_of line text known)
byte_next parts bytes line b text known other =
    rw (format_by_byte line b text known, other)
    (byte_read parts bytes b (format_of line text known))

percent_next : (parts : List Part) (bytes : List ℕ) (line b : ℕ) (text : List ℕ)
    (known : Known)
    → b ≡ ascii "%"
    → with_read parts bytes (format_of line (b ∷ text) known)
    ≡ with_read parts bytes (after_percent (format_of line) line text known)
percent_next parts bytes line b text known is =
    rw (format_by_byte line b text known, is) refl

-- the same where what follows the `%` is read on from other parts and bytes, or is refused
pub percent_step : (parts : List Part) (bytes : List ℕ) (new_parts : List Part)
    (new_bytes : List ℕ) (line b : ℕ) (text rest : List ℕ) (known after : Known)
    → b ≡ ascii "%"
    → ((next : FormatReader)
    → with_read parts bytes (after_percent next line text known)
    ≡ with_read new_parts new_bytes (next rest after))
    → with_read parts bytes (format_of line (b ∷ text) known)
    ≡ with_read new_parts new_bytes (format_of line rest after)
percent_step parts bytes new_parts new_bytes line b text rest known after is on =
    percent_next parts bytes line b text known is ∙ on (format_of line)

pub percent_refused : (parts : List Part) (bytes : List ℕ) (line b : ℕ) (text : List ℕ)
    (known : Known) (fault : SpellFault)
    → b ≡ ascii "%" → ((next : FormatReader) → after_percent next line text known ≡ Err fault)
    → with_read parts bytes (format_of line (b ∷ text) known) ≡ Err fault
percent_refused parts bytes line b text known fault is wrong =
    percent_next parts bytes line b text known is
    ∙ ap (λ read. with_read parts bytes read) (wrong (format_of line))

pub no_more : (parts : List Part) (bytes : List ℕ) (line : ℕ) (known : Known)
    → with_read parts bytes (format_of line [] known)
    ≡ Ok (record { value = parts ++ text_part bytes; known = known })
no_more parts bytes line known =
    rw (end_of_format line known)
    (ap (λ more. Ok (record { value = parts ++ more; known = known })) (bytes_last bytes))

-- ---- a text as the code has it, by its first byte and what follows that

by_first : (text : List ℕ) (b : ℕ) → 1 ≤ length text → get_or text 0 0 ≡ b
    → text ≡ b ∷ take (length text - 1) (drop 1 text)
by_first [] b some is = absurd (let no : ⊥ = omega arith in no)
by_first (first ∷ text) b some is =
    let less : length (first ∷ text) - 1 ≡ length text = omega arith in
    rw (is, less, take-length text) refl

-- a `%` that follows another
pub sign_on : (parts : List Part) (bytes : List ℕ) (next : FormatReader) (line : ℕ)
    (text : List ℕ) (known : Known) → 1 ≤ length text → get_or text 0 0 ≡ ascii "%"
    → with_read parts bytes (after_percent next line text known)
    ≡ with_read parts (bytes ++ ascii "%" ∷ []) (next (take (length text - 1) (drop 1 text)) known)
sign_on parts bytes next line text known some is =
    ap (λ (t : List ℕ). with_read parts bytes (after_percent next line t known))
    (by_first text (ascii "%") some is)
    ∙ percent_read parts bytes next line (take (length text - 1) (drop 1 text)) known

pub byte_on : (parts : List Part) (bytes : List ℕ) (line : ℕ) (text : List ℕ) (known : Known)
    → 1 ≤ length text → get_or text 0 0 ≢ ascii "%"
    → with_read parts bytes (format_of line text known)
    ≡ with_read parts (bytes ++ get_or text 0 0 ∷ [])
    (format_of line (take (length text - 1) (drop 1 text)) known)
byte_on parts bytes line text known some other =
    let b = get_or text 0 0 in
    ap (λ (t : List ℕ). with_read parts bytes (format_of line t known)) (by_first text b some refl)
    ∙ byte_next parts bytes line b (take (length text - 1) (drop 1 text)) known
    (ne_eqb b (ascii "%") other)

pub percent_on : (parts : List Part) (bytes : List ℕ) (new_parts : List Part)
    (new_bytes : List ℕ) (line : ℕ) (text rest : List ℕ) (known after : Known)
    → 1 ≤ length text → get_or text 0 0 ≡ ascii "%"
    → ((next : FormatReader) → with_read parts bytes
    (after_percent next line (take (length text - 1) (drop 1 text)) known)
    ≡ with_read new_parts new_bytes (next rest after))
    → with_read parts bytes (format_of line text known)
    ≡ with_read new_parts new_bytes (format_of line rest after)
percent_on parts bytes new_parts new_bytes line text rest known after some is on =
    let b = get_or text 0 0 in
    ap (λ (t : List ℕ). with_read parts bytes (format_of line t known)) (by_first text b some refl)
    ∙ percent_step parts bytes new_parts new_bytes line b (take (length text - 1) (drop 1 text))
    rest known after is on

pub refused_on : (parts : List Part) (bytes : List ℕ) (line : ℕ) (text : List ℕ) (known : Known)
    (fault : SpellFault) → 1 ≤ length text → get_or text 0 0 ≡ ascii "%"
    → ((next : FormatReader)
    → after_percent next line (take (length text - 1) (drop 1 text)) known ≡ Err fault)
    → with_read parts bytes (format_of line text known) ≡ Err fault
refused_on parts bytes line text known fault some is wrong =
    let b = get_or text 0 0 in
    ap (λ (t : List ℕ). with_read parts bytes (format_of line t known)) (by_first text b some refl)
    ∙ percent_refused parts bytes line b (take (length text - 1) (drop 1 text)) known fault is wrong

pub ended : (parts : List Part) (bytes : List ℕ) (line : ℕ) (text : List ℕ) (known : Known)
    → length text < 1
    → with_read parts bytes (format_of line text known)
    ≡ Ok (record { value = parts ++ text_part bytes; known = known })
ended parts bytes line [] known none = no_more parts bytes line known
ended parts bytes line (b ∷ text) known none = absurd (let no : ⊥ = omega arith in no)

pub ruleset value_of_text = (expr_read, left_shorter)

-- what a loop over the bytes of a format rests on
pub ruleset parts_of_text =
    (read_nothing, byte_next, percent_step, percent_refused, no_more, extends_refl, extends_trans)
