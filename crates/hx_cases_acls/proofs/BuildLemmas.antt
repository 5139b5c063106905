-- References that are being built have had no entries.
use Rattle.std.proofs.Common.{◌≡◌, ◌≢◌, ℕ, zero, suc, ◌+◌, ◌<◌, Bool, List, [], ◌∷◌, ◌++◌, length, refl, arith, length-append}
use Rattle.std.specs.Prelude.{Option, IfSome, slice_get}
use Rattle.std.specs.List.{All}
use Rattle.std.proofs.lemmas.List.Elements.{All-head, All-nil, All-push, All-tail, All-weaker}
use Rattle.hx_text.specs.declared.kinds.By.{By}
use Rattle.hx_refs.specs.References.{AreEmpty, HasHadNone, Reference, References, new_reference, no_references, with_new}
use Rattle.hx_refs.specs.Uses.{after_use}
use Rattle.hx_refs.specs.declared.Limits.{Limits}
use Rattle.hx_cases_acls.specs.Uses.{HaveHadNone}

pub none_yet : (limits : Limits) → HaveHadNone (no_references limits)
none_yet limits = record {
  numbers = All-nil (λ (reference : Reference). reference.id < 0);
  empty = All-nil (λ (reference : Reference). AreEmpty reference.versions);
}

-- the next position is the number of no reference
pub next_number : (refs : References) → HaveHadNone refs
    → All (λ reference. reference.id ≢ length refs.references) refs.references
next_number refs none = λ k d within. λ same. absurd (omega (arith, none.numbers k d within, same))

pub none_in_more : (refs : References) (file : Option (List ℕ)) (two acl : Bool) → HaveHadNone refs
    → HaveHadNone (with_new refs (length refs.references) file two acl)
none_in_more refs file two acl none =
    let new : Reference = new_reference refs.first (length refs.references) file two acl in
    let more : length (refs.references ++ new ∷ []) ≡ length refs.references + 1 =
    length-append refs.references (new ∷ []) in
    let IsBelow : ℕ → Reference → Type 0 = λ n reference. reference.id < n in
    let below : All (IsBelow (length refs.references + 1)) (refs.references ++ new ∷ []) =
    All-push (IsBelow (length refs.references + 1)) refs.references new
    (All-weaker (IsBelow (length refs.references)) (IsBelow (length refs.references + 1))
    (λ x less. omega (arith, less)) refs.references none.numbers) (omega arith) in
    record {
      numbers = λ k d within. omega (arith, more, below k d within);
      empty = All-push (λ reference. AreEmpty reference.versions) refs.references new none.empty (refl, tt);
    }

pub none_after_use : (refs : References) (r : ℕ) (method : By) (ci : Bool) → HaveHadNone refs
    → HaveHadNone (after_use refs r method ci)
none_after_use refs r method ci none = record { numbers = none.numbers; empty = none.empty }

at_position : (P : Reference → Type 0) (xs : List Reference) (r : ℕ) → All P xs → IfSome (slice_get xs r) P
at_position P [] r all = tt
at_position P (x ∷ xs) zero all = All-head P x xs all
at_position P (x ∷ xs) (suc r) all = at_position P xs r (All-tail P x xs all)

pub none_at : (refs : References) (r : ℕ) → HaveHadNone refs → HasHadNone refs r
none_at refs r none =
    at_position (λ reference. AreEmpty reference.versions) refs.references r none.empty
