-- What tables are to those who look values up in them: heads, each a list of entries with the way
-- in which it is searched.
use Rattle.std.specs.Prelude.{ℕ, Bool, false, List, [], ◌∷◌, Option, IfSome, slice_get, unwrap_or, option_and_then}
use Rattle.hx_text.specs.declared.kinds.By.{By}
use Rattle.hx_text.specs.declared.kinds.By.TheVariants as method
use Rattle.hx_sample.specs.declared.sample.Value.{Value}
use Rattle.hx_sample.specs.declared.tables.Hit.{Hit}
use Rattle.hx_sample.specs.Find.{Entry, found_entry}
use Rattle.hx_sample.specs.Keys.{kind_by, IsOfKind}

-- how a list is searched: the match method, whether case is ignored, and the position of the list
pub record TableHead : Type 0 where
  pub by : By
  pub ci : Bool
  pub list : ℕ

-- the entries of the list at a position
abbrev pub entries_at : List (List Entry) → ℕ → List Entry
entries_at lists position = unwrap_or (slice_get lists position) []

-- the entry that is found for a value in the list of a head
abbrev pub found_at : List TableHead → List (List Entry) → ℕ → Value → Option Entry
found_at heads lists head v =
    option_and_then (λ h. found_entry h.by h.ci (entries_at lists h.list) v) (slice_get heads head)

-- the head is one of these, and its method looks at values of this kind
abbrev pub TakesValue : List TableHead → ℕ → Value → Type 0
TakesValue heads head v = IfSome (slice_get heads head) (λ h. IsOfKind (kind_by h.by) v)

-- the entry that a hit lends
abbrev pub entry_of : Hit → Entry
entry_of hit = record { number = hit.number; key = hit.key.now; value = hit.value.now }

-- Tables in which nothing is found, for expressions that look nothing up: one head, whose list has
-- no entries.
abbrev pub empty_heads : List TableHead
empty_heads = record { by = method.Str; ci = false; list = 0 } ∷ []

abbrev pub empty_lists : List (List Entry)
empty_lists = [] ∷ []
