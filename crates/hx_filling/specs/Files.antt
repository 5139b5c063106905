-- The files that are read when references are filled, in the order of these (HAProxy configuration
-- manual 2.4, sections 7.1 and 7.3.1, `map`).
use Rattle.std.specs.Prelude.{◌≡◌, ℕ, List, [], ◌∷◌, ◌++◌, Option, IsSomeAnd, filter_map}
use Rattle.hx_base.specs.Pairs.{NamedBytes}
use Rattle.hx_refs.specs.References.{References}
use Rattle.hx_calls.specs.declared.TableSpec.{TableSpec}
use Rattle.hx_filling.specs.References.{AreFilled}

-- the files of references, in their order; inline patterns have none
abbrev pub files_of : List TableSpec → List (List ℕ)
files_of specs = filter_map (λ spec. spec.file) specs

-- The files that are read when references are filled up to one of them, and no further: those of
-- the references before it, which have all their entries, and its own.
pub record FillsUpTo (files : NamedBytes) (specs : List TableSpec) (refs : References)
    (names : List (List ℕ)) : Type 0 where
  pub before : List TableSpec
  pub spec : TableSpec
  pub after : List TableSpec
  pub specs_are : specs ≡ before ++ spec ∷ after
  pub filled : References
  pub accepted : AreFilled files 0 before refs filled
  pub names_are : names ≡ files_of (before ++ spec ∷ [])

-- the last of the files that were read is this one
abbrev pub IsLastRead : Option (List ℕ) → List (List ℕ) → Type 0
IsLastRead last names =
    (earlier : List (List ℕ)) × IsSomeAnd last (λ name. names ≡ earlier ++ name ∷ [])
