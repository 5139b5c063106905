-- The references and heads of a configuration are as their readers want them, where what is known
-- is sound.
use Rattle.std.proofs.Common.{◌≡◌, ◌≢◌, ℕ, ◌+◌, List, [], ◌∷◌, length, suc, Option, None, Some, refl, sym, ap, subst}
use Rattle.std.specs.Prelude.{IfSome}
use Rattle.std.specs.List.{All}
use Rattle.std.proofs.lemmas.List.Elements.{All-cons, All-head, All-nil, All-tail}
use Rattle.hx_calls.specs.declared.table_specs.TableSpec.{TableSpec}
use Rattle.hx_calls.specs.Known.{Known, ReferenceForm}
use Rattle.hx_calls.specs.Sound.{HaveOwnFiles, IsSound}
use Rattle.hx_calls.specs.TableSpecs.{AreSpecs, HaveDistinctFiles, IsHeadOf, ReferenceSpecs, reference_specs, table_spec, table_specs, table_specs_from}

specs-length : (known : Known) (r : ℕ) (forms : List ReferenceForm)
    → length (table_specs_from known r forms) ≡ length forms
specs-length known r [] = refl
specs-length known r (form ∷ forms) = ap suc (specs-length known (r + 1) forms)

other_files : (known : Known) (name : List ℕ) (r : ℕ) (forms : List ReferenceForm)
    → All (λ form. form.file ≢ Some name) forms
    → All (λ spec. spec.file ≢ Some name) (table_specs_from known r forms)
other_files known name r [] others = All-nil (λ (spec : TableSpec). spec.file ≢ Some name)
other_files known name r (form ∷ forms) others =
    All-cons (λ (spec : TableSpec). spec.file ≢ Some name) (table_spec known r form)
    (table_specs_from known (r + 1) forms)
    (All-head (λ (f : ReferenceForm). f.file ≢ Some name) form forms others)
    (other_files known name (r + 1) forms
    (All-tail (λ (f : ReferenceForm). f.file ≢ Some name) form forms others))

own_file : (known : Known) (file : Option (List ℕ)) (r : ℕ) (forms : List ReferenceForm)
    → IfSome file (λ name. All (λ other. other.file ≢ Some name) forms)
    → IfSome file (λ name. All (λ other. other.file ≢ Some name) (table_specs_from known r forms))
own_file known None r forms own = tt
own_file known (Some name) r forms own = other_files known name r forms own

distinct_files : (known : Known) (r : ℕ) (forms : List ReferenceForm) → HaveOwnFiles forms
    → HaveDistinctFiles (table_specs_from known r forms)
distinct_files known r [] own = tt
distinct_files known r (form ∷ forms) (own, others) =
    (own_file known form.file (r + 1) forms own, distinct_files known (r + 1) forms others)

pub sound_specs : (known : Known) → IsSound known → AreSpecs (reference_specs known)
sound_specs known sound =
    let count : length (table_specs known) ≡ length known.references =
    specs-length known 0 known.references in
    record {
      few = rw count sound.few;
      files = distinct_files known 0 known.references sound.files;
      heads = subst (λ (n : ℕ). All (IsHeadOf n) known.heads) (sym count) sound.heads;
      distinct = sound.distinct;
    }

pub sound_tables : (known : Known) (tables : ReferenceSpecs) → tables ≡ reference_specs known
    → IsSound known → AreSpecs tables
sound_tables known tables is sound = subst AreSpecs (sym is) (sound_specs known sound)
