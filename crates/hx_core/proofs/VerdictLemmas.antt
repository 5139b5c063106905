-- Laws of the lines that answer a request.
use Rattle.std.proofs.Common.{◌≡◌, ℕ, Bool, true, false, ◌&&◌, ◌==◌, List, [], ◌∷◌, ◌++◌, refl, sym, ◌∙◌, ap, append_assoc}
use Rattle.std.specs.Fmt.{decimal}
use Rattle.std.specs.Str.{bytes_eq}
use Rattle.std.proofs.lemmas.Bool.{and_from, and_parts, false≢true}
use Rattle.std.proofs.lemmas.Bool.Decides.{Decides-eqb}
use Rattle.std.proofs.lemmas.Slice.Eq.{bytes_eq-Decides}
use Rattle.hx_http.specs.Parts.{Parts}
use Rattle.hx_rules.specs.declared.Verdict.{Verdict}
use Rattle.hx_rules.specs.declared.Verdict.TheVariants.{Deny, Error, Pass, Redirect}
use Rattle.hx_core.specs.Answers.{are_same_lines, changed_text, head_text, is_same_head, verdict_text}
use Rattle.hx_core.specs.AnswerView.{verdict_without_head}

abbrev pair : List ℕ → List ℕ → List ℕ × List ℕ
pair name value = (name, value)

lines_are : (lines others : List (List ℕ × List ℕ)) → are_same_lines lines others ≡ true → lines ≡ others
lines_are [] [] same = refl
lines_are [] (other ∷ others) same = absurd (false≢true same)
lines_are (line ∷ lines) [] same = absurd (false≢true same)
lines_are (line ∷ lines) (other ∷ others) same =
    let rest = and_parts (bytes_eq line.0 other.0 && bytes_eq line.1 other.1) (are_same_lines lines others) same in
    let first = and_parts (bytes_eq line.0 other.0) (bytes_eq line.1 other.1) rest.0 in
    let name = (bytes_eq-Decides line.0 other.0).0 first.0 in
    let value = (bytes_eq-Decides line.1 other.1).0 first.1 in
    ap (λ t. pair t line.1 ∷ lines) name ∙ ap (λ t. pair other.0 t ∷ lines) value
    ∙ ap (λ (ls : List (List ℕ × List ℕ)). other ∷ ls) (lines_are lines others rest.1)

same_lines : (lines : List (List ℕ × List ℕ)) → are_same_lines lines lines ≡ true
same_lines [] = refl
same_lines (line ∷ lines) =
    and_from (bytes_eq line.0 line.0 && bytes_eq line.1 line.1) (are_same_lines lines lines)
    (and_from (bytes_eq line.0 line.0) (bytes_eq line.1 line.1) ((bytes_eq-Decides line.0 line.0).1 refl)
    ((bytes_eq-Decides line.1 line.1).1 refl)) (same_lines lines)

abbrev parts_of : List ℕ → List ℕ → ℕ → List (List ℕ × List ℕ) → Parts
parts_of method target minor headers =
    record { method = method; target = target; minor = minor; headers = headers }

pub same_head_is : (head other : Parts) → is_same_head head other ≡ true → head ≡ other
same_head_is head other same =
    let lines = and_parts (bytes_eq head.method other.method && bytes_eq head.target other.target && (head.minor == other.minor))
    (are_same_lines head.headers other.headers) same in
    let minor = and_parts (bytes_eq head.method other.method && bytes_eq head.target other.target) (head.minor == other.minor) lines.0 in
    let texts = and_parts (bytes_eq head.method other.method) (bytes_eq head.target other.target) minor.0 in
    ap (λ t. parts_of t head.target head.minor head.headers) ((bytes_eq-Decides head.method other.method).0 texts.0)
    ∙ ap (λ t. parts_of other.method t head.minor head.headers) ((bytes_eq-Decides head.target other.target).0 texts.1)
    ∙ ap (λ n. parts_of other.method other.target n head.headers) ((Decides-eqb head.minor other.minor).0 minor.1)
    ∙ ap (λ ls. parts_of other.method other.target other.minor ls) (lines_are head.headers other.headers lines.1)

same_head : (head : Parts) → is_same_head head head ≡ true
same_head head =
    and_from (bytes_eq head.method head.method && bytes_eq head.target head.target && (head.minor == head.minor))
    (are_same_lines head.headers head.headers)
    (and_from (bytes_eq head.method head.method && bytes_eq head.target head.target) (head.minor == head.minor)
    (and_from (bytes_eq head.method head.method) (bytes_eq head.target head.target)
    ((bytes_eq-Decides head.method head.method).1 refl) ((bytes_eq-Decides head.target head.target).1 refl))
    ((Decides-eqb head.minor head.minor).1 refl)) (same_lines head.headers)

-- nothing follows where the head stays
pub unchanged_text : (read made : Parts) → read ≡ made → changed_text read made ≡ []
unchanged_text read made same = rw (sym same, same_head read) refl

-- and the new head where it changes
changed_by : (read made : Parts) (same : Bool) → is_same_head read made ≡ same → ¬ (read ≡ made)
    → changed_text read made ≡ head_text made
changed_by read made true is changed = absurd (changed (same_head_is read made is))
changed_by read made false is changed = rw is refl

pub new_text : (read made : Parts) → ¬ (read ≡ made) → changed_text read made ≡ head_text made
new_text read made changed = changed_by read made (is_same_head read made) refl changed

-- ---- verdicts

-- no head follows the verdict on a request whose head stays
text_of_same_head : (verdict : Verdict) (read made : Parts) → made ≡ read → verdict_without_head verdict ≡ verdict_text verdict read made
text_of_same_head (Pass backend) read made same = rw (unchanged_text read made (sym same)) refl
text_of_same_head (Deny code) read made same = refl
text_of_same_head (Redirect code location) read made same = refl
text_of_same_head Error read made same = refl

pub answer_of_same_head : (before after : List ℕ) (requests number : ℕ) (given verdict : Verdict) (read made : Parts) → before ≡ [] → requests ≡ number → given ≡ verdict → made ≡ read → after ≡ before ++ (decimal requests ++ verdict_without_head given) → after ≡ decimal number ++ verdict_text verdict read made
answer_of_same_head before after requests number given verdict read made none count is same text =
    text ∙ rw (none, count, is, text_of_same_head verdict read made same) refl

-- one that doesn't pass the request is followed by no head
abbrev pub passes : Verdict → Bool
passes (Pass backend) = true
passes _ = false

text_without_head : (verdict : Verdict) (read made : Parts) → passes verdict ≡ false → verdict_without_head verdict ≡ verdict_text verdict read made
text_without_head (Pass backend) read made is = absurd (false≢true (sym is))
text_without_head (Deny code) read made is = refl
text_without_head (Redirect code location) read made is = refl
text_without_head Error read made is = refl

pub answer_without_head : (before after number : List ℕ) (verdict : Verdict) (read made : Parts) → passes verdict ≡ false → after ≡ before ++ (number ++ verdict_without_head verdict) → after ≡ before ++ (number ++ verdict_text verdict read made)
answer_without_head before after number verdict read made is text =
    text ∙ ap (λ words. before ++ (number ++ words)) (text_without_head verdict read made is)

-- and one that passes it by the head, where it was changed
text_with_head : (verdict : Verdict) (read made : Parts) → passes verdict ≡ true → verdict_without_head verdict ++ changed_text read made ≡ verdict_text verdict read made
text_with_head (Pass backend) read made is = simp append_assoc
text_with_head (Deny code) read made is = absurd (false≢true is)
text_with_head (Redirect code location) read made is = absurd (false≢true is)
text_with_head Error read made is = absurd (false≢true is)

pub answer_with_head : (before between after number : List ℕ) (verdict : Verdict) (read made : Parts) → passes verdict ≡ true → between ≡ before ++ (number ++ verdict_without_head verdict) → after ≡ between ++ changed_text read made → after ≡ before ++ (number ++ verdict_text verdict read made)
answer_with_head before between after number verdict read made is text head =
    let words = verdict_without_head verdict in
    let changed = changed_text read made in
    head ∙ ap (λ t. t ++ changed) text ∙ append_assoc before (number ++ words) changed
    ∙ ap (λ t. before ++ t) (append_assoc number words changed ∙ ap (λ t. number ++ t) (text_with_head verdict read made is))
