-- Texts of the first items of a list, one item further.
use Rattle.std.proofs.Common.{◌≡◌, ℕ, ◌+◌, ◌<◌, ◌≤◌, Bool, true, false, List, [], ◌∷◌, ◌++◌, length, take, get_or, nat_lt, slice_get, arith, sym, refl, ◌∙◌, ap, append_assoc, append-nil}
use Rattle.std.specs.List.{flat_map}
use Rattle.std.specs.Option.{option_map_or}
use Rattle.std.proofs.lemmas.Bool.{ltb-false, ltb-true}
use Rattle.std.proofs.lemmas.List.{take_all, take_more}
use Rattle.std.proofs.lemmas.Grind.{flat_map-append}
use Rattle.std.proofs.lemmas.Option.{slice_get-get_or, slice_get_past}

module _ {X : Type 0} (text : X → List ℕ) (none : X) where
  item_within : (items : List X) (at : ℕ) → at < length items
      → flat_map text (take (at + 1) items) ≡ flat_map text (take at items) ++ option_map_or text (slice_get items at) []
  item_within items at within =
      let item = get_or items at none in
      let found : option_map_or text (slice_get items at) [] ≡ text item =
      ap (λ f. option_map_or text f []) (slice_get-get_or items at none within) in
      ap (λ xs. flat_map text xs) (take_more items at none within)
      ∙ flat_map-append text (take at items) (item ∷ [])
      ∙ ap (λ t. flat_map text (take at items) ++ t) (append-nil (text item) ∙ sym found)

  item_past : (items : List X) (at : ℕ) → length items ≤ at
      → flat_map text (take (at + 1) items) ≡ flat_map text (take at items) ++ option_map_or text (slice_get items at) []
  item_past items at past =
      let missing : option_map_or text (slice_get items at) [] ≡ [] =
      ap (λ f. option_map_or text f []) (slice_get_past items at past) in
      ap (λ xs. flat_map text xs) (take_all (at + 1) items (omega (arith, past)) ∙ sym (take_all at items past))
      ∙ sym (append-nil (flat_map text (take at items)))
      ∙ ap (λ t. flat_map text (take at items) ++ t) (sym missing)

  item_by : (items : List X) (at : ℕ) (inside : Bool) → nat_lt at (length items) ≡ inside
      → flat_map text (take (at + 1) items) ≡ flat_map text (take at items) ++ option_map_or text (slice_get items at) []
  item_by items at true is = item_within items at (ltb-true at (length items) is)
  item_by items at false is = item_past items at (ltb-false at (length items) is)

  pub one_item_more : (old now : List ℕ) (items : List X) (at : ℕ) → now ≡ old ++ flat_map text (take at items)
      → now ++ option_map_or text (slice_get items at) [] ≡ old ++ flat_map text (take (at + 1) items)
  one_item_more old now items at so_far =
      let here = option_map_or text (slice_get items at) [] in
      ap (λ t. t ++ here) so_far ∙ append_assoc old (flat_map text (take at items)) here
      ∙ ap (λ t. old ++ t) (sym (item_by items at (nat_lt at (length items)) refl))
