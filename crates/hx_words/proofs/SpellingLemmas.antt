-- What is read as a call is spelled by it.
use Rattle.std.proofs.Common.{◌≡◌, ℕ, ◌≤◌, ◌==◌, Bool, true, false, if◌then◌else◌, List, [], ◌∷◌, ◌++◌, map, length, Option, Some, None, refl, sym, ap, ◌∙◌, subst, arith, append_assoc, length-append}
use Rattle.std.proofs.lemmas.Bool.{eqb-true}
use Rattle.std.specs.Prelude.{is_none}
use Rattle.std.specs.List.{slice_split, onto_first}
use Rattle.hx_base.specs.Bytes.{ascii}
use Rattle.hx_words.specs.declared.fault.ArgFault.TheVariants.{BadEscape}
use Rattle.hx_words.specs.TextItems.{QuoteState, TextItem, TextItems, part_or, AreTextItems}
use Rattle.hx_words.specs.TextItems.AreTextItems.{NoBytes, FirstGap, FirstPart, FirstNone}
use Rattle.hx_words.specs.TextItems.QuoteState.{Outside, Single, Double}
use Rattle.hx_words.specs.TextItems.TextItem.{Gap, Part, NoItem}
use Rattle.hx_words.specs.Quoting.{escape_of}
use Rattle.hx_words.specs.Words.{joint_value}
use Rattle.hx_words.specs.Arguments.{ArgumentsEnd, argument_item, arguments_end, arguments}
use Rattle.hx_words.specs.Arguments.ArgumentsEnd.{AtParenthesis, AtFault}
use Rattle.hx_words.specs.Spelling.{SpellsArguments, SpellsInside}
use Rattle.hx_words.specs.Spelling.SpellsArguments.{LastArgument, NextArgument, PartOfArgument}
use Rattle.hx_words.proofs.PartLemmas.{part_stands}

-- a choice has what both of its sides have, where each is taken
pub either : {A : Type 0} (P : A → Type 0) (b : Bool) (x y : A) → (b ≡ true → P x)
    → (b ≡ false → P y)
    → P (if b then x else y)
either P true x y p q = p refl
either P false x y p q = q refl

-- what a gap or the end of the arguments says of where it stands
abbrev Stands : QuoteState → ℕ → List ℕ → TextItem ArgumentsEnd → Type 0
Stands state b bs (Gap count) = (state ≡ Outside) × (b ≡ ascii ",") × (count ≡ 0)
Stands state b bs (Part count value after) = Unit {0}
Stands state b bs (NoItem (AtParenthesis rest)) =
    (state ≡ Outside) × (b ≡ ascii ")") × (bs ≡ rest)
Stands state b bs (NoItem (AtFault fault)) = Unit {0}

part-stands : (state : QuoteState) (b : ℕ) (bs : List ℕ) (part : Option (ℕ × List ℕ))
    → Stands state b bs (part_or (AtFault BadEscape) state part)
part-stands state b bs None = tt
part-stands state b bs (Some part) = tt

item-stands : (state : QuoteState) (b : ℕ) (bs : List ℕ)
    → Stands state b bs (argument_item state b bs)
unfolding argument_item
item-stands Outside b bs =
    let P : TextItem ArgumentsEnd → Type 0 = Stands Outside b bs in
    either P (b == ascii ")") _ _ (λ t. (refl, eqb-true b (ascii ")") t, refl)) (λ f.
    either P (b == ascii ",") _ _ (λ t. (refl, eqb-true b (ascii ",") t, refl)) (λ f.
    either P (b == ascii "\"") _ _ (λ t. tt) (λ f.
    either P (b == ascii "'") _ _ (λ t. tt) (λ f.
    either P (b == ascii "\\") _ _ (λ t. part-stands Outside b bs (escape_of bs)) (λ f. tt)))))
item-stands Double b bs =
    let P : TextItem ArgumentsEnd → Type 0 = Stands Double b bs in
    either P (b == ascii "\"") _ _ (λ t. tt) (λ f.
    either P (b == ascii "\\") _ _ (λ t. part-stands Double b bs (escape_of bs)) (λ f. tt))
item-stands Single b bs =
    let P : TextItem ArgumentsEnd → Type 0 = Stands Single b bs in
    either P (b == ascii "'") _ _ (λ t. tt) (λ f. tt)

stands-as : (state : QuoteState) (b : ℕ) (bs : List ℕ) (item : TextItem ArgumentsEnd)
    → argument_item state b bs ≡ item → Stands state b bs item
stands-as state b bs item is =
    let P : TextItem ArgumentsEnd → Type 0 = Stands state b bs in
    subst P is (item-stands state b bs)

no-parenthesis : (state : QuoteState) (rest : List ℕ) → arguments_end state ≡ AtParenthesis rest → ⊥
no-parenthesis Outside rest is = cc
no-parenthesis Single rest is = cc
no-parenthesis Double rest is = cc

-- there is an argument under way
abbrev IsNotEmpty : List (List ℕ) → Type 0
IsNotEmpty [] = ⊥
IsNotEmpty (arg ∷ args) = Unit {0}

one-under-way : (state : QuoteState) (args : List (List ℕ)) (text : List ℕ)
    → SpellsArguments state args text → IsNotEmpty args
one-under-way _ _ _ LastArgument = tt
one-under-way _ _ _ (NextArgument args text later) = tt
one-under-way _ _ _ (PartOfArgument state after b bs value arg args text is later) = tt

abbrev pub split_values : List (Option (List ℕ)) → List (List ℕ)
split_values items = map joint_value (slice_split is_none items)

-- these items are what stands between two parentheses, of which the second stands after `inside`
pub record Inside (state : QuoteState) (items : List (Option (List ℕ)))
    (bs rest : List ℕ) : Type 0 where
  pub inside : List ℕ
  pub whole : bs ≡ inside ++ ascii ")" ∷ rest
  pub spelled : SpellsArguments state (split_values items) inside
  pub called : SpellsInside state (arguments items) inside

inside-gap : (state : QuoteState) (b : ℕ) (bs after rest : List ℕ) (items : List (Option (List ℕ)))
    → state ≡ Outside → b ≡ ascii "," → bs ≡ [] → Inside state items after rest
    → Inside state (None ∷ items) (b ∷ (bs ++ after)) rest
inside-gap state b bs after rest items outside is none later =
    let from : SpellsArguments Outside (split_values items) later.inside =
    subst (λ (s : QuoteState). SpellsArguments s
    (split_values items) later.inside) outside later.spelled in
    let here : SpellsArguments Outside (split_values (None ∷ items)) (ascii "," ∷ later.inside) =
    NextArgument (split_values items) later.inside from in
    let spelled : SpellsArguments state (split_values (None ∷ items)) (ascii "," ∷ later.inside) =
    subst (λ (s : QuoteState). SpellsArguments s (split_values (None ∷ items))
    (ascii "," ∷ later.inside)) (sym outside) here in
    record {
      inside = ascii "," ∷ later.inside;
      whole = ap (λ (c : ℕ). c ∷ (bs ++ after)) is ∙ ap (λ (r : List ℕ). ascii "," ∷ (r ++ after)) none
          ∙ ap (λ (r : List ℕ). ascii "," ∷ r) later.whole;
      spelled = spelled;
      called = spelled;
    }

onto-first : (state next : QuoteState) (b : ℕ) (bs value text : List ℕ)
    (parts : List (List (Option (List ℕ))))
    → ((rest : List ℕ) → argument_item state b (bs ++ rest) ≡ Part (length bs) value next)
    → SpellsArguments next (map joint_value parts) text
    → SpellsArguments state (map joint_value (onto_first (Some value) parts)) (b ∷ (bs ++ text))
onto-first state next b bs value text [] is later = absurd (one-under-way next [] text later)
onto-first state next b bs value text (part ∷ parts) is later =
    PartOfArgument state next b bs value (joint_value part) (map joint_value parts) text is later

inside-part : (state next : QuoteState) (b : ℕ) (bs value after rest : List ℕ)
    (items : List (Option (List ℕ)))
    → argument_item state b (bs ++ after) ≡ Part (length bs) value next
    → Inside next items after rest
    → Inside state (Some value ∷ items) (b ∷ (bs ++ after)) rest
inside-part state next b bs value after rest items is later =
    let some : 1 ≤ length after =
    omega (arith, ap length later.whole ∙ length-append later.inside (ascii ")" ∷ rest)) in
    let part : (other : List ℕ) → argument_item state b (bs ++ other) ≡ Part (length bs) value next =
    λ other. part_stands state next b bs after other value some is in
    let spelled =
    onto-first state next b bs value later.inside
    (slice_split is_none items) part later.spelled in
    record {
      inside = b ∷ (bs ++ later.inside);
      whole = ap (λ (r : List ℕ). b ∷ (bs ++ r)) later.whole
          ∙ ap (λ (r : List ℕ). b ∷ r)
          (sym (append_assoc bs later.inside (ascii ")" ∷ rest)));
      spelled = spelled;
      called = spelled;
    }

inside-none : (state : QuoteState) (b : ℕ) (bs rest : List ℕ) → state ≡ Outside
    → b ≡ ascii ")" → bs ≡ rest → Inside state [] (b ∷ bs) rest
inside-none state b bs rest outside is same =
    record {
      inside = [];
      whole = ap (λ (c : ℕ). c ∷ bs) is ∙ ap (λ (r : List ℕ). ascii ")" ∷ r) same;
      spelled = subst (λ (s : QuoteState). SpellsArguments s ([] ∷ []) [])
          (sym outside) LastArgument;
      called = refl;
    }

no-length : (bs : List ℕ) → length bs ≡ 0 → bs ≡ []
no-length [] is = refl
no-length (b ∷ bs) is = absurd (omega (arith, is))

pub inside-of : (state : QuoteState) (bs rest : List ℕ) (list : TextItems ArgumentsEnd)
    → AreTextItems argument_item arguments_end state bs list
    → list.ending ≡ AtParenthesis rest → Inside state list.items bs rest
inside-of _ _ rest _ (NoBytes state) end = absurd (no-parenthesis state rest end)
inside-of _ _ rest _ (FirstGap state b bs after list is follows) end =
    let stands : Stands state b (bs ++ after) (Gap (length bs)) = stands-as state b (bs ++ after)
    (Gap (length bs)) is in
    inside-gap state b bs after rest list.items stands.0 stands.1 (no-length bs stands.2)
    (inside-of state after rest list follows end)
inside-of _ _ rest _ (FirstPart state next b bs after value list is follows) end =
    inside-part state next b bs value after rest list.items is
    (inside-of next after rest list follows end)
inside-of _ _ rest _ (FirstNone state b bs ending is) end =
    let stands : Stands state b bs (NoItem (AtParenthesis rest)) =
    stands-as state b bs (NoItem (AtParenthesis rest)) (is ∙ ap NoItem end) in
    inside-none state b bs rest stands.0 stands.1 stands.2
