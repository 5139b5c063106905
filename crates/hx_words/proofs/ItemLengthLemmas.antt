-- No item takes more bytes than there are.
use Rattle.std.proofs.Common.{◌≡◌, ℕ, suc, ◌+◌, ◌≤◌, Bool, true, false, not, ◌&&◌, ◌||◌, if◌then◌else◌, ◌==◌, List, [], ◌∷◌, length, take, drop, ap, Option, Some, None, refl, arith, length-drop}
use Rattle.std.proofs.lemmas.List.Sums.{prefix_len-le-length}
use Rattle.std.specs.Prelude.{eqb, option_map, unwrap_or}
use Rattle.hx_base.specs.Pairs.{value_at}
use Rattle.std.specs.List.{prefix_len, starts_with}
use Rattle.std.specs.Char.{is_ascii_digit}
use Rattle.hx_words.specs.declared.fault.ArgFault.TheVariants as arguments
use Rattle.hx_words.specs.declared.fault.WordFault.TheVariants.{BadEscape, BadVariable}
use Rattle.hx_words.specs.TextItems.{QuoteState}
use Rattle.hx_words.specs.TextItems.QuoteState.{Outside, Single, Double}
use Rattle.hx_words.specs.Quoting.{escape_of, hex_escape, part_at}
use Rattle.hx_words.specs.Variable.{Env, variable_of, variable_name, plain_name, braced_name, variable_name_length, is_name_byte}
use Rattle.hx_words.specs.TextItems.{TextItem, following_count, part_or}
use Rattle.hx_words.specs.TextItems.TextItem.{Gap, Part, NoItem}
use Rattle.hx_base.specs.Bytes.{is_blank}
use Rattle.hx_words.specs.Arguments.{argument_item}
use Rattle.hx_words.specs.Arguments.ArgumentsEnd.{AtParenthesis, AtFault}
use Rattle.hx_words.specs.Words.{word_item}
use Rattle.hx_words.specs.Words.LineEnd.{WrongItem}

either-item : {E : Type 0} (b : Bool) (x y : TextItem E) (m : ℕ) → following_count x ≤ m
    → following_count y ≤ m → following_count (if b then x else y) ≤ m
either-item true x y m p q = p
either-item false x y m p q = q

-- how many bytes a found part takes
found_len : Option (ℕ × List ℕ) → ℕ
found_len None = 0
found_len (Some found) = found.0

either-found : (b : Bool) (x y : Option (ℕ × List ℕ)) (m : ℕ) → found_len x ≤ m → found_len y ≤ m
    → found_len (if b then x else y) ≤ m
either-found true x y m p q = p
either-found false x y m p q = q

hex-within : (bs : List ℕ) → found_len (hex_escape bs) ≤ 1 + length bs
unfolding found_len
hex-within [] = omega arith
hex-within (high ∷ []) = omega arith
hex-within (high ∷ low ∷ rest) =
    either-found _ (Some (3, _)) None (1 + length (high ∷ low ∷ rest)) (omega arith) (omega arith)

escape-within : (bs : List ℕ) → found_len (escape_of bs) ≤ length bs
unfolding escape_of found_len
escape-within [] = omega arith
escape-within (c ∷ cs) =
    let hex : found_len (hex_escape cs) ≤ suc (length cs) = omega (arith, hex-within cs) in
    let one : 1 ≤ suc (length cs) = omega arith in
    search (either-found, hex, one) depth 9

part-within : {E : Type 0} (wrong : E) (state : QuoteState) (part : Option (ℕ × List ℕ)) (m : ℕ)
    → found_len part ≤ m → following_count (part_or wrong state part) ≤ m
unfolding found_len
part-within wrong state None m h = h
part-within wrong state (Some part) m h = h

either-number : (b : Bool) (x y m : ℕ) → x ≤ m → y ≤ m → (if b then x else y) ≤ m
either-number true x y m p q = p
either-number false x y m p q = q

name-within : (bs : List ℕ) → variable_name_length bs ≤ length bs
name-within [] = omega arith
name-within (c ∷ cs) = either-number (is_ascii_digit c) 0 (prefix_len is_name_byte (c ∷ cs))
    (length (c ∷ cs)) (omega arith) (prefix_len-le-length is_name_byte (c ∷ cs))

plain-within : (bs : List ℕ) → found_len (plain_name bs) ≤ length bs
unfolding found_len
plain-within bs =
    either-found (variable_name_length bs == 0) None
    (Some (variable_name_length bs, take (variable_name_length bs) bs)) (length bs) (omega arith)
    (name-within bs)

or-true : (b : Bool) → (b || true) ≡ true
or-true true = refl
or-true false = refl

braced-tail : (bs tail : List ℕ) → drop (variable_name_length bs) bs ≡ tail
    → found_len (if variable_name_length bs == 0 || not (starts_with eqb tail (125 ∷ [])) then None else Some
    (variable_name_length bs + 2, take (variable_name_length bs) bs)) ≤ 1 + length bs
unfolding found_len
braced-tail bs [] is = rw (or-true (variable_name_length bs == 0)) (omega arith)
braced-tail bs (c ∷ tail) is =
    let room : variable_name_length bs + 2 ≤ 1 + length bs =
    omega (arith, length-drop (variable_name_length bs) bs, ap length is, name-within bs) in
    either-found _ None (Some (variable_name_length bs + 2, take (variable_name_length bs) bs))
    (1 + length bs) (omega arith) room

braced-within : (bs : List ℕ) → found_len (braced_name bs) ≤ 1 + length bs
unfolding found_len
braced-within bs = braced-tail bs (drop (variable_name_length bs) bs) refl

variable_name-within : (bs : List ℕ) → found_len (variable_name bs) ≤ length bs
unfolding found_len
variable_name-within [] = omega arith
variable_name-within (c ∷ cs) =
    let braced : found_len (braced_name cs) ≤ length (c ∷ cs) = omega (arith, braced-within cs) in
    either-found (c == 123) (braced_name cs) (plain_name (c ∷ cs)) (length (c ∷ cs)) braced (plain-within (c ∷ cs))

mapped-within : (env : Env) (found : Option (ℕ × List ℕ)) (m : ℕ) → found_len found ≤ m
    → found_len (option_map (λ f. (f.0, unwrap_or (value_at env f.1) [])) found) ≤ m
unfolding found_len
mapped-within env None m h = h
mapped-within env (Some found) m h = h

variable-within : (env : Env) (bs : List ℕ) → found_len (variable_of env bs) ≤ length bs
unfolding variable_of
variable-within env bs = mapped-within env (variable_name bs) (length bs) (variable_name-within bs)

part_at-within : {E : Type 0} (wrong : E) (state : QuoteState) (b : ℕ) (bs : List ℕ)
    → following_count (part_at wrong state b bs) ≤ length bs
part_at-within wrong Outside b bs =
    let escape = part-within wrong Outside (escape_of bs) (length bs) (escape-within bs) in
    let none : 0 ≤ length bs = omega arith in
    search (either-item, escape, none) depth 9
part_at-within wrong Single b bs =
    let none : 0 ≤ length bs = omega arith in
    search (either-item, none)
part_at-within wrong Double b bs =
    let escape = part-within wrong Double (escape_of bs) (length bs) (escape-within bs) in
    let none : 0 ≤ length bs = omega arith in
    search (either-item, escape, none) depth 9

-- `\$` takes a byte, which is there
dollar-within : {E : Type 0} (a : Bool) (bs : List ℕ) (x : TextItem E)
    → following_count x ≤ length bs
    → following_count (if a && starts_with eqb bs (36 ∷ []) then Part 1 (36 ∷ []) Double else x)
    ≤ length bs
dollar-within false bs x h = h
dollar-within true [] x h = h
dollar-within true (b ∷ bs) x h =
    either-item (starts_with eqb (b ∷ bs) (36 ∷ [])) (Part 1 (36 ∷ []) Double) x (length (b ∷ bs))
    (omega arith) h

pub word-within : (env : Env) (state : QuoteState) (b : ℕ) (bs : List ℕ)
    → following_count (word_item env state b bs) ≤ length bs
unfolding word_item
word-within env Outside b bs =
    let part = part_at-within (WrongItem BadEscape) Outside b bs in
    let none : 0 ≤ length bs = omega arith in
    let all : length bs ≤ length bs = omega arith in
    either-item (is_blank b) (Gap 0) _ (length bs) none
    (either-item (b == 35) (Gap (length bs)) _ (length bs) all part)
word-within env Single b bs = part_at-within (WrongItem BadEscape) Single b bs
word-within env Double b bs =
    let variable = part-within (WrongItem BadVariable) Double (variable_of env bs) (length bs)
    (variable-within env bs) in
    either-item (b == 36) (part_or (WrongItem BadVariable) Double (variable_of env bs)) _
    (length bs) variable
    (dollar-within (b == 92) bs _ (part_at-within (WrongItem BadEscape) Double b bs))

pub argument-within : (state : QuoteState) (b : ℕ) (bs : List ℕ)
    → following_count (argument_item state b bs) ≤ length bs
unfolding argument_item
argument-within Outside b bs =
    let part = part_at-within (AtFault arguments.BadEscape) Outside b bs in
    let none : 0 ≤ length bs = omega arith in
    either-item (b == 41) (NoItem (AtParenthesis bs)) _ (length bs) none
    (either-item (b == 44) (Gap 0) _ (length bs) none part)
argument-within Single b bs = part_at-within (AtFault arguments.BadEscape) Single b bs
argument-within Double b bs = part_at-within (AtFault arguments.BadEscape) Double b bs
