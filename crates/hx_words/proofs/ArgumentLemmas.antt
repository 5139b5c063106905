-- The code's one pass over the arguments of a call: those so far, with those of what is left, are
-- all of them.
use Rattle.std.proofs.Common.{◌≡◌, ℕ, List, [], ◌∷◌, ◌++◌, map, drop, Option, Some, None, option_to_list, unwrap_or, refl, sym, ap, ◌∙◌, append_assoc, append-nil}
use Rattle.std.specs.List.{slice_split, onto_first}
use Rattle.std.specs.Prelude.{is_none}
use Rattle.hx_words.specs.TextItems.{QuoteState}
use Rattle.hx_words.specs.TextItems.QuoteState.{Outside}
use Rattle.hx_words.specs.TextItems.{TextItems, text_items, longer_items, no_items}
use Rattle.hx_words.specs.TextItems.TextItem.{Gap, Part, NoItem}
use Rattle.hx_words.specs.Words.{joint_value}
use Rattle.hx_words.specs.Arguments.{ArgumentsEnd, argument_item, arguments_end, arguments, argument_items}
use Rattle.hx_words.proofs.TextItemLemmas.{text_items-end, text_items-gap, text_items-part, text_items-no_items}

-- the arguments of items, where one may be under way
abbrev arguments_after : Option (List ℕ) → List (Option (List ℕ)) → List (List ℕ)
arguments_after word [] = option_to_list word
arguments_after word (None ∷ items) = unwrap_or word [] ∷ arguments_after (Some []) items
arguments_after word (Some value ∷ items) =
    arguments_after (Some (unwrap_or word [] ++ value)) items

-- the first of these parts belongs to the argument under way
abbrev heads : List ℕ → List (List (Option (List ℕ))) → List (List ℕ)
heads word [] = word ∷ []
heads word (part ∷ parts) = (word ++ joint_value part) ∷ map joint_value parts

abbrev parts_of : List (Option (List ℕ)) → List (List (Option (List ℕ)))
parts_of items = slice_split is_none items

heads-onto : (word value : List ℕ) (parts : List (List (Option (List ℕ))))
    → heads (word ++ value) parts ≡ heads word (onto_first (Some value) parts)
heads-onto word value [] = ap (λ (v : List ℕ). (word ++ v) ∷ []) (sym (append-nil value))
heads-onto word value (part ∷ parts) = ap (λ (w : List ℕ). w ∷ map joint_value parts)
    (append_assoc word value (joint_value part))

heads-empty-onto : (item : Option (List ℕ)) (parts : List (List (Option (List ℕ))))
    → heads [] (onto_first item parts) ≡ map joint_value (onto_first item parts)
heads-empty-onto item [] = refl
heads-empty-onto item (part ∷ parts) = refl

heads-empty : (items : List (Option (List ℕ)))
    → heads [] (parts_of items) ≡ map joint_value (parts_of items)
heads-empty [] = refl
heads-empty (None ∷ items) = refl
heads-empty (Some value ∷ items) = heads-empty-onto (Some value) (parts_of items)

under-way : (word : List ℕ) (items : List (Option (List ℕ)))
    → arguments_after (Some word) items ≡ heads word (parts_of items)
under-way word [] = ap (λ (w : List ℕ). w ∷ []) (sym (append-nil word))
under-way word (None ∷ items) = rw (append-nil word, under-way [] items, heads-empty items) refl
under-way word (Some value ∷ items) = under-way (word ++ value) items
    ∙ heads-onto word value (parts_of items)

from-start : (items : List (Option (List ℕ))) → arguments_after None items ≡ arguments items
from-start [] = refl
from-start (None ∷ items) = ap (λ (rest : List (List ℕ)). [] ∷ rest)
    (under-way [] items ∙ heads-empty items)
from-start (Some value ∷ items) = under-way value items ∙ heads-onto [] value (parts_of items)
    ∙ heads-empty-onto (Some value) (parts_of items)

-- the arguments and the end, where `done` and `word` are the arguments so far and `reading` is what
-- is left
unfoldable pub arguments_with : List (List ℕ) → Option (List ℕ) → TextItems ArgumentsEnd
    → List (List ℕ) × ArgumentsEnd
arguments_with done word reading = (done ++ arguments_after word reading.items, reading.ending)

arguments_with-gap : (done : List (List ℕ)) (word : Option (List ℕ))
    (reading : TextItems ArgumentsEnd)
    → arguments_with done word (longer_items None reading) ≡ arguments_with
    (done ++ unwrap_or word [] ∷ []) (Some []) reading
unfolding arguments_with
arguments_with-gap done word reading = rw append_assoc refl

arguments_with-part : (done : List (List ℕ)) (word : Option (List ℕ)) (value : List ℕ)
    (reading : TextItems ArgumentsEnd)
    → arguments_with done word (longer_items (Some value) reading) ≡ arguments_with done
    (Some (unwrap_or word [] ++ value)) reading
unfolding arguments_with
arguments_with-part done word value reading = refl

-- the arguments and the end of the whole text
abbrev pub all_of : List ℕ → List (List ℕ) × ArgumentsEnd
all_of text = (arguments (argument_items text).items, (argument_items text).ending)

abbrev at_stop : List (List ℕ) → Option (List ℕ) → ArgumentsEnd → List (List ℕ) × ArgumentsEnd
at_stop done word ending = (done ++ option_to_list word, ending)

-- what is known between two items: what is left gives the arguments and the end of the text
pub record KeepsArguments (text rest : List ℕ) (state : QuoteState) (done : List (List ℕ))
    (word : Option (List ℕ)) : Type 0 where
  pub same : arguments_with done word
      (text_items argument_item arguments_end rest state 0) ≡ all_of text

pub arguments_start : (text : List ℕ) → KeepsArguments text text Outside [] None
unfolding arguments_with
arguments_start text =
    record {
      same = ap (λ (args : List (List ℕ)). (args, (argument_items text).ending))
          (from-start (argument_items text).items);
    }

pub arguments_comma : (text rest : List ℕ) (state : QuoteState) (done : List (List ℕ))
    (word : Option (List ℕ)) (b : ℕ) (bs : List ℕ) → KeepsArguments text rest state done word
    → rest ≡ b ∷ bs → Gap 0 ≡ argument_item state b bs
    → KeepsArguments text bs state (done ++ unwrap_or word [] ∷ []) (Some [])
arguments_comma text rest state done word b bs keeps first item = record {
  same = sym (arguments_with-gap done word (text_items argument_item arguments_end bs state 0))
      ∙ ap (arguments_with done word)
      (sym (text_items-gap argument_item arguments_end b bs state 0 (sym item)))
      ∙ ap (λ (r : List ℕ). arguments_with done word
      (text_items argument_item arguments_end r state 0)) (sym first)
      ∙ keeps.same;
}

pub arguments_part : (text rest : List ℕ) (state : QuoteState) (done : List (List ℕ))
    (word : Option (List ℕ)) (b : ℕ) (bs : List ℕ) (n : ℕ) (value : List ℕ) (after : QuoteState)
    → KeepsArguments text rest state done word → rest ≡ b ∷ bs
    → Part n value after ≡ argument_item state b bs
    → KeepsArguments text (drop n bs) after done (Some (unwrap_or word [] ++ value))
arguments_part text rest state done word b bs n value after keeps first item = record {
  same =
      sym (arguments_with-part done word value
      (text_items argument_item arguments_end (drop n bs) after 0))
      ∙ ap (arguments_with done word)
      (sym (text_items-part argument_item arguments_end b bs state n value after (sym item)))
      ∙ ap (λ (r : List ℕ). arguments_with done word
      (text_items argument_item arguments_end r state 0)) (sym first)
      ∙ keeps.same;
}

stopped : (text rest : List ℕ) (state : QuoteState) (done : List (List ℕ)) (word : Option (List ℕ))
    (ending : ArgumentsEnd) → KeepsArguments text rest state done word
    → text_items argument_item arguments_end rest state 0 ≡ no_items ending
    → at_stop done word ending ≡ all_of text
unfolding arguments_with
stopped text rest state done word ending keeps end = ap (arguments_with done word) (sym end)
    ∙ keeps.same

stops-at : (rest : List ℕ) (state : QuoteState) (b : ℕ) (bs : List ℕ) (ending : ArgumentsEnd)
    → rest ≡ b ∷ bs → NoItem ending ≡ argument_item state b bs
    → text_items argument_item arguments_end rest state 0 ≡ no_items ending
stops-at rest state b bs ending first item =
    ap (λ (r : List ℕ). text_items argument_item arguments_end r state 0) first
    ∙ text_items-no_items argument_item arguments_end b bs state ending (sym item)

-- an item at which the reading ends
pub ends_args : (text rest : List ℕ) (state : QuoteState) (done : List (List ℕ))
    (word : Option (List ℕ)) (b : ℕ) (bs : List ℕ) (ending : ArgumentsEnd)
    → KeepsArguments text rest state done word → rest ≡ b ∷ bs
    → NoItem ending ≡ argument_item state b bs
    → arguments (argument_items text).items ≡ done ++ option_to_list word
ends_args text rest state done word b bs ending keeps first item =
    sym (ap (λ (p : List (List ℕ) × ArgumentsEnd). p.0)
    (stopped text rest state done word ending keeps (stops-at rest state b bs ending first item)))

pub ends_as : (text rest : List ℕ) (state : QuoteState) (done : List (List ℕ))
    (word : Option (List ℕ)) (b : ℕ) (bs : List ℕ) (ending : ArgumentsEnd)
    → KeepsArguments text rest state done word → rest ≡ b ∷ bs
    → NoItem ending ≡ argument_item state b bs → (argument_items text).ending ≡ ending
ends_as text rest state done word b bs ending keeps first item =
    sym (ap (λ (p : List (List ℕ) × ArgumentsEnd). p.1)
    (stopped text rest state done word ending keeps (stops-at rest state b bs ending first item)))

-- the text ends
pub ends_open : (text rest : List ℕ) (state : QuoteState) (done : List (List ℕ))
    (word : Option (List ℕ)) → KeepsArguments text rest state done word → rest ≡ []
    → (argument_items text).ending ≡ arguments_end state
ends_open text rest state done word keeps first =
    sym (ap (λ (p : List (List ℕ) × ArgumentsEnd). p.1)
    (stopped text rest state done word (arguments_end state) keeps
    (ap (λ (r : List ℕ). text_items argument_item arguments_end r state 0) first
    ∙ text_items-end argument_item arguments_end state)))
