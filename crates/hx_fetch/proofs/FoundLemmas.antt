-- Whether some text is a value.
use Rattle.std.proofs.Common.{◌≡◌, ◌≢◌, ℕ, ℤ, true, List, [], ◌∷◌, ◌++◌, ◌||◌, Some, is_some, refl, ap, sym, ◌∙◌}
use Rattle.std.specs.Prelude.{Option, slice_get}
use Rattle.std.specs.List.{flat_map, list_any}
use Rattle.std.specs.Option.{option_to_list}
use Rattle.hx_lists.specs.NamedValues.{cookies}
use Rattle.hx_lists.specs.HeaderValues.{hdr_pieces, hdr_values}
use Rattle.hx_lists.proofs.CommaLemmas.{IsCutAtCommas-hdr_pieces}
use Rattle.hx_text.specs.declared.kinds.Kind.{Kind}
use Rattle.hx_text.specs.declared.kinds.Kind.TheVariants as kind
use Rattle.hx_fetch.specs.Fetches.{text_occurrences}
use Rattle.hx_fetch.specs.Picks.{occurrence_at, selection}
use Rattle.hx_fetch.specs.Views.{values_under}
use Rattle.hx_fetch.proofs.ListLemmas.{values_under-append}
use Rattle.hx_fetch.proofs.LastLemmas.{map_some}
use Rattle.hx_fetch.proofs.OneLemmas.{found_alone}

-- of lists of which the first has an item
first_of_joined : (xs ys : List (List ℕ)) → xs ≢ [] → is_some (slice_get (xs ++ ys) 0) ≡ true
first_of_joined [] ys some = absurd (some refl)
first_of_joined (x ∷ xs) ys some = refl

-- there is a value exactly where there is a line
pub value_in_lines : (lines : List (List ℕ)) → is_some (slice_get lines 0) ≡ is_some (slice_get (flat_map hdr_values lines) 0)
value_in_lines [] = refl
value_in_lines (line ∷ lines) =
    sym (first_of_joined (hdr_values line) (flat_map hdr_values lines) (map_some (hdr_pieces line) (IsCutAtCommas-hdr_pieces line).some))

-- there is a cookie where its first line has one, and otherwise where the lines after that have one
first_or_rest : (xs ys : List (List ℕ)) → is_some (slice_get (xs ++ ys) 0) ≡ (is_some (slice_get xs 0) || is_some (slice_get ys 0))
first_or_rest [] ys = refl
first_or_rest (x ∷ xs) ys = refl

cookies_on : (name : Option (List ℕ)) (line : List ℕ) (lines : List (List ℕ)) → is_some (slice_get (values_under name (flat_map cookies (line ∷ lines))) 0) ≡ (is_some (slice_get (values_under name (cookies line)) 0) || is_some (slice_get (values_under name (flat_map cookies lines)) 0))
cookies_on name line lines =
    ap (λ texts. is_some (slice_get texts 0)) (values_under-append name (cookies line) (flat_map cookies lines))
    ∙ first_or_rest (values_under name (cookies line)) (values_under name (flat_map cookies lines))

pub cookie_found : (name : Option (List ℕ)) (line first : List ℕ) (lines left : List (List ℕ)) → values_under name (cookies line) ≡ first ∷ left → is_some (slice_get (values_under name (flat_map cookies (line ∷ lines))) 0) ≡ true
cookie_found name line first lines left is = cookies_on name line lines ∙ rw is refl

pub cookie_after : (name : Option (List ℕ)) (line : List ℕ) (lines : List (List ℕ)) → values_under name (cookies line) ≡ [] → is_some (slice_get (values_under name (flat_map cookies (line ∷ lines))) 0) ≡ is_some (slice_get (values_under name (flat_map cookies lines)) 0)
cookie_after name line lines is = cookies_on name line lines ∙ rw is refl

-- whether a line has a cookie of the name
pub ruleset cookie_in_lines = (cookie_found, cookie_after)

-- each text is a value of the type of texts
pub found_as_text : (k : Kind) (texts : List (List ℕ)) → k ≡ kind.Str → is_some (slice_get texts 0) ≡ list_any is_some (text_occurrences k texts)
found_as_text kind.Str [] is = refl
found_as_text kind.Str (text ∷ texts) is = refl
found_as_text _ texts is = cc

-- of the one that is selected
pub found_picked : (k : Kind) (at : ℤ) (texts : List (List ℕ)) (text : Option (List ℕ)) → text ≡ occurrence_at at texts
    → list_any is_some (text_occurrences k (option_to_list text)) ≡ list_any is_some (text_occurrences k (selection (Some at) texts))
found_picked k at texts text is = ap (λ o. list_any is_some (text_occurrences k (option_to_list o))) is

-- whether some occurrence is a value
pub ruleset found = (found_alone, found_picked)
