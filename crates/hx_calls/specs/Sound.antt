-- What holds of what is known, whatever the lines were.
use Rattle.std.specs.Prelude.{◌≢◌, ℕ, ◌<◌, ◌≤◌, List, [], ◌∷◌, length, Some, IfSome, ⊤}
use Rattle.std.specs.List.{All}
use Rattle.hx_calls.specs.Known.{Known, ReferenceForm, most_references}
use Rattle.hx_calls.specs.TableSpecs.{HaveDistinctHeads, IsHeadOf}

-- the position of a reference that is known
abbrev pub IsReference : Known → ℕ → Type 0
IsReference known place = place < length known.references

-- no other reference has the file of one
abbrev pub HaveOwnFiles : List ReferenceForm → Type 0
HaveOwnFiles [] = ⊤
HaveOwnFiles (form ∷ forms) =
    IfSome form.file (λ name. All (λ other. other.file ≢ Some name) forms) × HaveOwnFiles forms

-- there are few references, each with a file of its own, and each head is one of a kind and
-- searches one of them
pub record IsSound (known : Known) : Type 0 where
  pub few : length known.references ≤ most_references
  pub files : HaveOwnFiles known.references
  pub heads : All (IsHeadOf (length known.references)) known.heads
  pub distinct : HaveDistinctHeads known.heads
