-- How the entries of one reference are added in parts.
use Rattle.std.proofs.Common.{◌≡◌, ℕ, List, ◌∷◌, ◌++◌, length, Option, None, Some, Err, sym, ap, ◌∙◌, subst}
use Rattle.std.specs.Prelude.{Bool, IsSomeAnd, filter_map, option_to_list, slice_get}
use Rattle.std.specs.Option.{option_or}
use Rattle.hx_base.specs.Bytes.{ascii}
use Rattle.hx_outside.specs.Count.{Rose}
use Rattle.hx_outside.specs.Makers.{ExpressionText, MakerState}
use Rattle.hx_refs.specs.Additions.{AdditionAsksFor, Pair, addition_fault, after_addition, with_pairs}
use Rattle.hx_refs.specs.FileLines.{line_pair}
use Rattle.hx_refs.specs.References.{References}
use Rattle.hx_refs.specs.declared.RefFault.{RefFault}
use Rattle.hx_refs.proofs.LineLemmas.{line_moves}
use Rattle.hx_text.specs.Cut.{pieces}
use Rattle.hx_filling.specs.Adding.{AddsAs, AddsRest, IsUncounted}
use Rattle.hx_filling.specs.declared.load_fault.LoadFault.{LoadFault}
use Rattle.hx_filling.specs.declared.load_fault.LoadFault.TheVariants as load
use Rattle.hx_filling.proofs.AdditionLemmas.{addition_fault_of_both, after_both, first_of_both_ask, others_of_both_ask}
use Rattle.hx_filling.proofs.FillLemmas.{size_of_change}

-- ---- a part of an addition

-- the first of them were added
pub first_added : (r : ℕ) (xs ys : List Pair) (old new : References) → addition_fault old r None xs ≡ None → new ≡ after_addition old r None xs
    → AddsRest r (xs ++ ys) ys old new
first_added r xs ys old new none is = record {
  fault =
      addition_fault_of_both old r xs ys
      ∙ ap (λ (first : Option RefFault). option_or first (addition_fault (after_addition old r None xs) r None ys)) none
      ∙ ap (λ (refs : References). addition_fault refs r None ys) (sym is);
  after = sym (after_both old r xs ys) ∙ ap (λ (refs : References). after_addition refs r None ys) (sym is);
  asked = λ text asked. others_of_both_ask old r xs ys text none (subst (λ (refs : References). AdditionAsksFor refs r None ys text) is asked);
  size =
      ap (λ (refs : References). length refs.references) is
      ∙ size_of_change r (with_pairs None xs) old.references (slice_get old.references r);
}

-- more of them were added
pub more_added : (r : ℕ) (pairs left rest : List Pair) (old mid new : References) → AddsRest r pairs left old mid → AddsRest r left rest mid new
    → AddsRest r pairs rest old new
more_added r pairs left rest old mid new first second = record {
  fault = first.fault ∙ second.fault;
  after = first.after ∙ second.after;
  asked = λ text asked. first.asked text (second.asked text asked);
  size = second.size ∙ first.size;
}

-- what the first line of those that are left gives goes to the pairs before it
pub one_line : (r : ℕ) (two : Bool) (all before now : List Pair) (text line after : List ℕ) (old mid : References)
    → pieces (ascii "\n") text ≡ line ∷ pieces (ascii "\n") after → now ≡ before ++ option_to_list (line_pair two line)
    → AddsRest r all (before ++ filter_map (line_pair two) (pieces (ascii "\n") text)) old mid
    → AddsRest r all (now ++ filter_map (line_pair two) (pieces (ascii "\n") after)) old mid
one_line r two all before now text line after old mid cut pushed rest =
    let more = filter_map (line_pair two) (pieces (ascii "\n") after) in
    let same : before ++ filter_map (line_pair two) (pieces (ascii "\n") text) ≡ now ++ more =
    ap (λ (lines : List (List ℕ)). before ++ filter_map (line_pair two) lines) cut
    ∙ line_moves before (line_pair two line) more ∙ ap (λ (xs : List Pair). xs ++ more) (sym pushed) in
    subst (λ (left : List Pair). AddsRest r all left old mid) same rest

-- ---- a fault of a part

asked_wider : (large : Option ExpressionText) (A B : ExpressionText → Type 0) → ((text : ExpressionText) → A text → B text) → IsSomeAnd large A
    → IsSomeAnd large B
asked_wider None A B wider asked = asked
asked_wider (Some text) A B wider asked = wider text asked

-- the fault of the first of those that are left is that of all
pub first_left_as : (r line : ℕ) (pairs xs ys : List Pair) (old mid new : References) (before between now : MakerState) (fault : LoadFault)
    → AddsRest r pairs (xs ++ ys) old mid → IsUncounted before between → AddsAs r line xs mid new between now (Err fault)
    → AddsAs r line pairs old new before now (Err fault)
first_left_as r line pairs xs ys old mid new before between now (load.Refused l code) rest same adds =
    let (fault, own, line_is, code_is, counts) = adds in (
      fault,
      rest.fault ∙ addition_fault_of_both mid r xs ys
          ∙ ap (λ (first : Option RefFault). option_or first (addition_fault (after_addition mid r None xs) r None ys)) own,
      line_is,
      code_is,
      (counts.0 ∙ same.0, counts.1 ∙ same.1),
    )
first_left_as r line pairs xs ys old mid new before between now load.Failed rest same adds = adds
first_left_as r line pairs xs ys old mid new before between now load.TooLarge rest same adds = (
  subst (λ (count : ℕ). Rose count now.too_large) same.0 adds.0,
  asked_wider now.large (AdditionAsksFor mid r None xs) (AdditionAsksFor old r None pairs)
      (λ text asked. rest.asked text (first_of_both_ask mid r xs ys text asked)) adds.1,
)
first_left_as r line pairs xs ys old mid new before between now load.NoMemory rest same adds = (adds.0 ∙ same.0, adds.1 ∙ same.1)
