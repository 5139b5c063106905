-- What has to hold where a reference is declared (HAProxy management guide 2.4, section 9.3).
use Rattle.std.specs.Prelude.{◌≢◌, ◌<◌, ℕ, List, [], ◌∷◌, length, Some, IfSome, ⊤}
use Rattle.std.specs.List.{All}
use Rattle.hx_refs.specs.References.{References}
use Rattle.hx_calls.specs.declared.TableSpec.{TableSpec}
use Rattle.hx_calls.specs.Known.{most_references}
use Rattle.hx_filling.specs.References.{with_table}

-- no reference has the number or the file, and there is room for one more
pub record HasRoomFor (number : ℕ) (spec : TableSpec) (refs : References) : Type 0 where
  pub id : All (λ reference. reference.id ≢ number) refs.references
  pub file : IfSome spec.file
      (λ name. All (λ reference. reference.file ≢ Some name) refs.references)
  pub few : length refs.references < most_references

-- there is room for each, after those before it
abbrev pub HasRoomForAll : List ℕ → List TableSpec → References → Type 0
HasRoomForAll numbers [] refs = ⊤
HasRoomForAll [] (spec ∷ specs) refs = ⊥
HasRoomForAll (number ∷ numbers) (spec ∷ specs) refs =
    HasRoomFor number spec refs × HasRoomForAll numbers specs (with_table number spec refs)

-- no number stands twice
abbrev pub AreDistinct : List ℕ → Type 0
AreDistinct [] = ⊤
AreDistinct (n ∷ numbers) = All (λ m. n ≢ m) numbers × AreDistinct numbers
