-- What the table of arguments takes for a part, it takes for that part whatever follows, if only
-- something does.
use Rattle.std.proofs.Common.{◌≡◌, ℕ, suc, ◌≤◌, ◌==◌, ◌||◌, Bool, true, false, if◌then◌else◌, List, [], ◌∷◌, ◌++◌, length, Option, Some, None, refl, sym, ap, ◌∙◌, subst, arith}
use Rattle.hx_base.specs.Bytes.{ascii}
use Rattle.hx_words.specs.declared.fault.ArgFault.TheVariants.{BadEscape}
use Rattle.hx_words.specs.TextItems.{QuoteState, TextItem, part_or}
use Rattle.hx_words.specs.TextItems.QuoteState.{Outside, Single, Double}
use Rattle.hx_words.specs.TextItems.TextItem.{Gap, Part, NoItem}
use Rattle.hx_words.specs.Quoting.{hex_escape, escape_of}
use Rattle.hx_words.specs.Arguments.{ArgumentsEnd, argument_item}
use Rattle.hx_words.specs.Arguments.ArgumentsEnd.{AtFault}

abbrev Found : Type 0
Found = Option (ℕ × List ℕ)

either-same : {A : Type 0} (want : A) (b : Bool) (x y x' y' : A)
    → (x ≡ want → x' ≡ want) → (y ≡ want → y' ≡ want)
    → (if b then x else y) ≡ want → (if b then x' else y') ≡ want
either-same want true x y x' y' p q = p
either-same want false x y x' y' p q = q

-- an escape takes a byte at least, where one follows
abbrev TakesSome : Found → Type 0
TakesSome None = Unit {0}
TakesSome (Some found) = 1 ≤ found.0

either-takes : (b : Bool) (x y : Found) → TakesSome x → TakesSome y → TakesSome (if b then x else y)
either-takes true x y p q = p
either-takes false x y p q = q

hex-takes : (b : Bool) (value : List ℕ) → TakesSome (if b then Some (3, value) else None)
hex-takes true value = omega arith
hex-takes false value = tt

hex-escape-takes : (bs : List ℕ) → TakesSome (hex_escape bs)
hex-escape-takes [] = tt
hex-escape-takes (high ∷ []) = tt
hex-escape-takes (high ∷ low ∷ bs) = hex-takes _ _

escape-takes : (c : ℕ) (cs : List ℕ) → TakesSome (escape_of (c ∷ cs))
unfolding escape_of
escape-takes c cs =
    let hex = hex-escape-takes cs in
    let one : 1 ≤ 1 = omega arith in
    search (either-takes, hex, one) depth 9

-- `\x` takes three bytes
abbrev count_of : Found → ℕ
count_of None = 3
count_of (Some found) = found.0

hex-three : (b : Bool) (value : List ℕ) → count_of (if b then Some (3, value) else None) ≡ 3
hex-three true value = refl
hex-three false value = refl

hex-escape-three : (bs : List ℕ) → count_of (hex_escape bs) ≡ 3
hex-escape-three [] = refl
hex-escape-three (high ∷ []) = refl
hex-escape-three (high ∷ low ∷ bs) = hex-three _ _

hex-count : (bs : List ℕ) (n : ℕ) (value : List ℕ) → hex_escape bs ≡ Some (n, value) → n ≡ 3
hex-count bs n value is = sym (ap count_of is) ∙ hex-escape-three bs

hex-same : (bs rest other value : List ℕ)
    → hex_escape (bs ++ rest) ≡ Some (suc (length bs), value)
    → hex_escape (bs ++ other) ≡ Some (suc (length bs), value)
hex-same [] rest other value is = absurd (omega (arith, hex-count rest 1 value is))
hex-same (high ∷ []) rest other value is =
    absurd (omega (arith, hex-count (high ∷ rest) 2 value is))
hex-same (high ∷ low ∷ bs) rest other value is = is

escape-same-from : (c : ℕ) (bs rest other value : List ℕ)
    → escape_of (c ∷ (bs ++ rest)) ≡ Some (suc (length bs), value)
    → escape_of (c ∷ (bs ++ other)) ≡ Some (suc (length bs), value)
unfolding escape_of
escape-same-from c bs rest other value =
    let want : Found = Some (suc (length bs), value) in
    either-same want
    (c == ascii " " || c == ascii "#" || c == ascii "\\" || c == ascii "'" || c == ascii "\"")
    _ _ _ _ (λ e. e)
    (either-same want (c == ascii "n") _ _ _ _ (λ e. e)
    (either-same want (c == ascii "r") _ _ _ _ (λ e. e)
    (either-same want (c == ascii "t") _ _ _ _ (λ e. e)
    (either-same want (c == ascii "x") _ _ _ _ (hex-same bs rest other value) (λ e. e)))))

escape-same : (bs rest other value : List ℕ) → 1 ≤ length rest
    → escape_of (bs ++ rest) ≡ Some (length bs, value)
    → escape_of (bs ++ other) ≡ Some (length bs, value)
escape-same [] [] other value some is = absurd (omega (arith, some))
escape-same [] (c ∷ cs) other value some is =
    let P : Found → Type 0 = TakesSome in
    let one : 1 ≤ 0 = subst P is (escape-takes c cs) in
    absurd (omega (arith, one))
escape-same (c ∷ bs) rest other value some is = escape-same-from c bs rest other value is

-- what a part says of itself
abbrev part_of : TextItem ArgumentsEnd → Found
part_of (Gap count) = None
part_of (Part count value state) = Some (count, value)
part_of (NoItem ending) = None

abbrev state_after : TextItem ArgumentsEnd → QuoteState
state_after (Gap count) = Outside
state_after (Part count value state) = state
state_after (NoItem ending) = Outside

part-same : (wrong : ArgumentsEnd) (state after : QuoteState) (x y : Found) (n : ℕ)
    (value : List ℕ) → (x ≡ Some (n, value) → y ≡ Some (n, value))
    → part_or wrong state x ≡ Part n value after → part_or wrong state y ≡ Part n value after
part-same wrong state after None y n value same is = cc
part-same wrong state after (Some part) y n value same is =
    ap (part_or wrong state) (same (ap part_of is)) ∙ ap (Part n value) (ap state_after is)

pub part_stands : (state after : QuoteState) (b : ℕ) (bs rest other value : List ℕ)
    → 1 ≤ length rest
    → argument_item state b (bs ++ rest) ≡ Part (length bs) value after
    → argument_item state b (bs ++ other) ≡ Part (length bs) value after
unfolding argument_item
part_stands Outside after b bs rest other value some =
    let want : TextItem ArgumentsEnd = Part (length bs) value after in
    let wrong : ArgumentsEnd = AtFault BadEscape in
    either-same want (b == ascii ")") _ _ _ _ (λ e. cc)
    (either-same want (b == ascii ",") _ _ _ _ (λ e. e)
    (either-same want (b == ascii "\"") _ _ _ _ (λ e. e)
    (either-same want (b == ascii "'") _ _ _ _ (λ e. e)
    (either-same want (b == ascii "\\") _ _ _ _
    (part-same wrong Outside after (escape_of (bs ++ rest)) (escape_of (bs ++ other)) (length bs)
    value (escape-same bs rest other value some))
    (λ e. e)))))
part_stands Double after b bs rest other value some =
    let want : TextItem ArgumentsEnd = Part (length bs) value after in
    let wrong : ArgumentsEnd = AtFault BadEscape in
    either-same want (b == ascii "\"") _ _ _ _ (λ e. e)
    (either-same want (b == ascii "\\") _ _ _ _
    (part-same wrong Double after (escape_of (bs ++ rest)) (escape_of (bs ++ other)) (length bs)
    value (escape-same bs rest other value some))
    (λ e. e))
part_stands Single after b bs rest other value some = λ e. e
