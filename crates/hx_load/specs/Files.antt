-- The files that are read when a configuration is loaded, in their order: none before all of its
-- lines are judged, and then those of its references (HAProxy configuration manual 2.4, sections
-- 7.1 and 7.3.1, `map`).
use Rattle.std.specs.Prelude.{◌≡◌, ◌⊎◌, ℕ, List, [], ◌∷◌, ◌++◌}
use Rattle.hx_ast.specs.declared.Statement.{Statement}
use Rattle.hx_base.specs.Pairs.{NamedBytes}
use Rattle.hx_refs.specs.declared.Limits.{Limits}
use Rattle.hx_calls.specs.Known.{Reading}
use Rattle.hx_calls.specs.TableSpecs.{table_specs}
use Rattle.hx_words.specs.Variable.{Env}
use Rattle.hx_filling.specs.Refusals.{Refusal}
pub use Rattle.hx_filling.specs.Files.{FillsUpTo, IsLastRead, files_of}
use Rattle.hx_load.specs.Loads.{GivesReferences, HasEntryFault, IsRefusedByLines, declared}

-- the files of a configuration whose lines have no fault: each of them, in the order in which its
-- references first appear
abbrev pub ReadsAllFiles : Env → List ℕ → List (List ℕ) → Type 0
ReadsAllFiles env config names =
    (read : Reading (List Statement)) × GivesReferences env config read
    × (names ≡ files_of (table_specs read.known))

-- the first files of a configuration: none, or those up to a reference, and no entry before it is
-- refused
abbrev pub ReadsFirstFiles : Env → Limits → NamedBytes → List ℕ → List (List ℕ) → Type 0
ReadsFirstFiles env limits files config names =
    (names ≡ [])
    ⊎ ((read : Reading (List Statement)) × GivesReferences env config read
    × FillsUpTo files (table_specs read.known) (declared limits read.known) names)

-- the files of a configuration that is refused: none where its lines alone are refused, and else
-- those up to the reference whose entry is
abbrev pub ReadsUpToRefusal : Env → Limits → NamedBytes → List ℕ → Refusal → List (List ℕ)
    → Type 0
ReadsUpToRefusal env limits files config refusal names =
    (IsRefusedByLines env config refusal × (names ≡ []))
    ⊎ ((entry : HasEntryFault env limits files config refusal)
    × (names ≡ files_of (entry.refused.before ++ entry.refused.spec ∷ [])))
