-- The replacement of the values of a head, as the code makes it: of the whole of a value or of each
-- between commas, and from one of the lines on.
use Rattle.std.specs.Prelude.{◌≡◌, ℕ, suc, zero, Bool, true, false, List, [], ◌∷◌, drop, map, Option, None, Some, slice_get, if◌then◌else◌}
use Rattle.std.specs.List.{list_any}
use Rattle.hx_conv_text.specs.Substitution.{expanded_of}
use Rattle.hx_http.specs.declared.fault.EditFault.TheVariants.{BadBytes}
use Rattle.hx_http.specs.Edits.{has_name}
use Rattle.hx_http.specs.Parts.{Parts}
use Rattle.hx_rules.specs.declared.replacing.Replacer.{Replacer}
use Rattle.hx_rules.specs.Rewrites.{each_replaced, Edit, edited, is_badly_replaced, line_after, Replacement}

-- what replaces the value of a line: each of its values between commas, or the whole of it
abbrev pub replacement_of : Bool → List ℕ → List ℕ → Replacement
replacement_of true pattern text = each_replaced (expanded_of false pattern text)
replacement_of false pattern text = expanded_of false pattern text

-- what replaces the value of a line, as the code keeps it
abbrev pub replacement_by : Replacer → Replacement
replacement_by replacer =
    replacement_of replacer.each replacer.pattern.now replacer.sub.now

-- the list with its items from a position on changed
abbrev pub map_from : {A : Type 0} → ℕ → (A → A) → List A → List A
map_from zero f xs = map f xs
map_from (suc n) f [] = []
map_from (suc n) f (x ∷ xs) = x ∷ map_from n f xs

-- the replacement of the values of the lines of a name, from the line at a position on
abbrev pub replacing_from : ℕ → List ℕ → Replacement → Parts → Edit
replacing_from at name replace head =
    edited
    (if list_any (is_badly_replaced name replace) (drop at head.headers) then Some BadBytes
    else None)
    (record head { headers = map_from at (line_after name replace) head.headers })

-- ---- what is replaced, and where

-- what the value of the line at a position becomes: none where the line hasn't the name, and where
-- its value stays
pub record IsNewValue (name : List ℕ) (replace : Replacement) (head : Parts) (at : ℕ)
    (new : Option (List ℕ)) : Type 0 where
  pub line : List ℕ × List ℕ
  pub is : slice_get head.headers at ≡ Some line
  pub value : new ≡ (if has_name name line then replace line.1 else None)

-- where the replacement of the values from a position on begins: none where all stay
abbrev pub BeginsAt : List ℕ → Replacement → Parts → ℕ → Option ℕ → Type 0
BeginsAt name replace head from None =
    replacing_from from name replace head ≡ record { fault = None; head = head }
BeginsAt name replace head from (Some at) =
    replacing_from at name replace head ≡ replacing_from from name replace head
