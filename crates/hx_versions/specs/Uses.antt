-- What a use of a reference is, and the order in which uses are told (HAProxy management guide 2.4,
-- section 9.3, `get acl`, `get map`).
use Rattle.std.specs.Prelude.{ℕ, ◌+◌, ◌*◌, ◌==◌, Bool, true, false, List, [], ◌∷◌, Option, if◌then◌else◌}
use Rattle.std.specs.List.{cons_option, filter, filter_map, flat_map}
use Rattle.hx_text.specs.declared.kinds.By.{By}
use Rattle.hx_text.specs.Methods.{method_number, pattern_methods}
use Rattle.hx_sample.specs.Find.{first_item}

-- a use of a reference: the match method, whether case is ignored, and the number of the head
pub record Use : Type 0 where
  pub by : By
  pub ci : Bool
  pub head : ℕ

-- the place of a use in the order in which uses are told: by one method, that with case comes
-- before that without
abbrev pub use_place : By → Bool → ℕ
use_place method ci = 2 * method_number method + (if ci then 1 else 0)

-- whether a use is by this method, with this case
abbrev pub is_use : By → Bool → Use → Bool
is_use method ci u = use_place u.by u.ci == use_place method ci

-- the use by a method and a case, if there is one
abbrev pub use_with : By → Bool → List Use → Option Use
use_with method ci uses = first_item (filter (is_use method ci) uses)

-- each method with its two cases, that which minds case first
abbrev pub with_cases : List By → List (By × Bool)
with_cases methods = flat_map (λ method. (method, false) ∷ (method, true) ∷ []) methods

-- the uses in the order in which they are told
abbrev pub uses_in_order : List Use → List Use
uses_in_order uses = filter_map (λ way. use_with way.0 way.1 uses) (with_cases pattern_methods)

-- the parts of a use
abbrev pub use_parts : Use → By × Bool × ℕ
use_parts u = (u.by, u.ci, u.head)

-- ---- steps towards these, for proofs

-- the list with one more item in front, if there is one
abbrev pub with_first : Option Use → List Use → List Use
with_first found uses = cons_option found uses

-- the uses by these methods and cases, in their order
abbrev pub uses_by : List (By × Bool) → List Use → List Use
uses_by ways uses = filter_map (λ way. use_with way.0 way.1 uses) ways
