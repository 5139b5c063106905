-- What additions to a reference answer, and what they answer to the references.
use Rattle.std.proofs.Common.{◌≡◌, ℕ, zero, suc, Bool, List, [], ◌∷◌, ◌++◌, length, All, ap, sym, ◌∙◌, arith, refl}
use Rattle.std.specs.Prelude.{Option, Some, slice_get, Result, Ok, Err}
use Rattle.std.proofs.lemmas.List.Elements.{All-append}
use Rattle.std.proofs.lemmas.Option.{slice_get-map}
use Rattle.std.proofs.lemmas.List.{length-map}
use Rattle.hx_text.specs.declared.kinds.By.{By}
use Rattle.hx_match.specs.Patterns.{PatternText}
use Rattle.hx_sample.specs.Find.{Entry}
use Rattle.hx_outside.specs.Makers.{ExpressionText, MakerState}
use Rattle.hx_sample.specs.Tables.{TableHead}
use Rattle.hx_refs.specs.Additions.{addition_fault, AdditionAsksFor, AdditionCountsLarge, Pair, VersionAsksFor}
use Rattle.hx_refs.specs.Kept.{kept_demands, shown_references, version_fault, AreKept, Kept}
use Rattle.hx_versions.specs.NewEntries.{added_entry, prepared_patterns, AreReadyFor, IsReadyFor}
use Rattle.hx_versions.specs.declared.content.NewEntry.{NewEntry}
use Rattle.hx_refs.specs.References.{version_of, Reference}
use Rattle.hx_refs.specs.Uses.{uses_of}
use Rattle.hx_refs.specs.declared.fault.RefFault.{RefFault}
use Rattle.hx_refs.specs.declared.fault.RefFault.TheVariants.{UnknownRef, BadVersion, KeyNotFound, BadPattern, BadValue, NeedsMap, UsedAsMap, VersionFull, VersionWorn, NoMoreVersions, TooLarge, NoMemory}
use Rattle.hx_refs.specs.declared.limits.Limits.{Limits}

-- a text that was asked for in one way was asked for in a wider one
pub asked_wider : {T : Type 0} (r : Result T RefFault) (A B : ExpressionText → Type 0) (before now : MakerState)
    → ((text : ExpressionText) → A text → B text) → AdditionCountsLarge r A before now → AdditionCountsLarge r B before now
asked_wider (Ok x) A B before now wider counts = counts
asked_wider (Err TooLarge) A B before now wider counts = (
  counts.0,
  record {
    text = counts.1.text;
    is = counts.1.is;
    asked = wider counts.1.text counts.1.asked;
  },
)
asked_wider (Err UnknownRef) A B before now wider counts = counts
asked_wider (Err BadVersion) A B before now wider counts = counts
asked_wider (Err KeyNotFound) A B before now wider counts = counts
asked_wider (Err BadPattern) A B before now wider counts = counts
asked_wider (Err BadValue) A B before now wider counts = counts
asked_wider (Err NeedsMap) A B before now wider counts = counts
asked_wider (Err UsedAsMap) A B before now wider counts = counts
asked_wider (Err VersionFull) A B before now wider counts = counts
asked_wider (Err VersionWorn) A B before now wider counts = counts
asked_wider (Err NoMoreVersions) A B before now wider counts = counts
asked_wider (Err NoMemory) A B before now wider counts = counts

-- ---- the reference at a position

-- an addition is refused as the reference at the position refuses it
pub fault_at : (limits : Limits) (first : ℕ) (heads : List TableHead) (kept : List Kept) (r : ℕ) (k : Kept) (number : Option ℕ) (pairs : List Pair)
    → AreKept heads kept → slice_get kept r ≡ Some k
    → addition_fault (record { limits = limits; first = first; heads = heads; references = shown_references kept }) r number pairs
    ≡ version_fault (kept_demands k limits) (version_of k.shown number) pairs
fault_at limits first heads kept r k number pairs all found =
    let same : uses_of heads r ≡ k.uses = rw found at (all.uses r) in
    rw (slice_get-map {A = Kept} {B = Reference} (λ l. l.shown) kept r, found, same) refl

-- what the reference at the position asks for is asked for
pub asked_at : (limits : Limits) (first : ℕ) (heads : List TableHead) (kept : List Kept) (r : ℕ) (k : Kept) (number : Option ℕ) (pairs : List Pair)
    → AreKept heads kept → slice_get kept r ≡ Some k → (text : ExpressionText)
    → VersionAsksFor (kept_demands k limits) (version_of k.shown number) pairs text
    → AdditionAsksFor (record { limits = limits; first = first; heads = heads; references = shown_references kept }) r number pairs text
asked_at limits first heads kept r k number pairs all found text asked =
    let same : uses_of heads r ≡ k.uses = rw found at (all.uses r) in
    rw (slice_get-map {A = Kept} {B = Reference} (λ l. l.shown) kept r, found, same) asked

-- an entry that a pair becomes is ready
pub ready_entry : (ways : List (By × Bool)) (new : NewEntry) (number : ℕ) (key value : List ℕ) (prepared : List PatternText)
    → added_entry new ≡ record { number = number; key = key; value = value } → new.prepared.items ≡ prepared
    → length new.nodes ≡ length prepared → prepared ≡ prepared_patterns key ways → IsReadyFor ways new
ready_entry ways new number key value prepared entry same nodes patterns = record {
  keys = same ∙ patterns ∙ ap (λ k. prepared_patterns k ways) (sym (ap (λ (e : Entry). e.key) entry));
  numbers = nodes ∙ ap length patterns ∙ length-map ways (λ way. record { by = way.0; ci = way.1; text = key });
}

-- an entry is ready for one more than entries are
pub all_ready : (ways : List (By × Bool)) (xs : List NewEntry) (x : NewEntry) → AreReadyFor ways xs → IsReadyFor ways x
    → AreReadyFor ways (xs ++ x ∷ [])
all_ready ways xs x first last =
    All-append (IsReadyFor ways) xs (x ∷ []) first (All-one x last)
  where
    All-one : (x : NewEntry) → IsReadyFor ways x → All (IsReadyFor ways) (x ∷ [])
    All-one x is zero d within = is
    All-one x is (suc k) d within = absurd (omega (arith, within))
