-- How the code keeps references: each without its versions, which the store has in rows.
use Rattle.std.specs.Prelude.{◌≡◌, ◌≢◌, ℕ, ◌+◌, ◌-◌, ◌^◌, ◌≤◌, ◌<◌, nat_lt, Bool, List, [], ◌∷◌, ◌++◌, length, map, slice_get, Option, None, Some, IfSome, if◌then◌else◌, ⊤}
use Rattle.std.specs.List.{sum_by}
use Rattle.std.specs.Option.{option_map_or}
use Rattle.hx_text.specs.declared.kinds.By.{By}
use Rattle.hx_text.specs.declared.kinds.By.TheVariants as by
use Rattle.hx_text.specs.declared.kinds.Out.{Out}
use Rattle.hx_sample.specs.Find.{Entry}
use Rattle.hx_sample.specs.Tables.{TableHead}
use Rattle.hx_refs.specs.Additions.{new_entries, pairs_fault, Demands, Pair}
use Rattle.hx_refs.specs.declared.fault.RefFault.{RefFault}
use Rattle.hx_refs.specs.declared.fault.RefFault.TheVariants.{BadPattern, BadVersion}
use Rattle.hx_refs.specs.declared.limits.Limits.{Limits}
use Rattle.hx_versions.specs.declared.slots.Slots.{Slots}
use Rattle.hx_refs.specs.Numbers.{HasShortNumbers, HaveOwnNames}
use Rattle.hx_refs.specs.References.{changed_at, span, version_of, with_output, Reference, Version}
use Rattle.hx_refs.specs.VersionNumbers.{ahead, number_ahead}
use Rattle.hx_versions.specs.Rows.{row_at, use_ways, versions_between, AreCounted, AreNumbered, AreSearchedBy, ShownVersion, StoreView}
use Rattle.hx_refs.specs.Uses.{Use, uses_of}
use Rattle.hx_refs.specs.Versions.{AreRising}

-- a reference, and its uses
pub record Kept : Type 0 where
  pub shown : Reference
  pub uses : List Use

-- the methods of the uses have patterns
abbrev pub TakePatterns : List Use → Type 0
TakePatterns [] = ⊤
TakePatterns (u ∷ uses) = (u.by ≢ by.Found) × (u.by ≢ by.Bool) × TakePatterns uses

-- ---- references without their versions

-- A reference without its versions, and the number that the store has for the version that is
-- searched. The store has numbers of its own, which rise and never wrap.
pub record StoredReference : Type 0 where
  pub kept : Kept
  pub stored_first : ℕ

-- the store's number of a version
abbrev pub stored_number : StoredReference → ℕ → ℕ
stored_number stored number = stored.stored_first + ahead stored.kept.shown.curr number

-- that of the version that was prepared last
abbrev pub stored_last : StoredReference → ℕ
stored_last stored = stored_number stored stored.kept.shown.next

-- with one more output
abbrev pub with_out : Out → StoredReference → StoredReference
with_out out stored = record stored {
  kept = record stored.kept {
    shown = record stored.kept.shown { outputs = with_output out stored.kept.shown.outputs };
  };
}

-- with one more use
abbrev pub with_use : By → Bool → ℕ → StoredReference → StoredReference
with_use method ci head stored = record stored {
  kept = record stored.kept {
    uses = stored.kept.uses ++ record { by = method; ci = ci; head = head } ∷ [];
  };
}

-- how much lower the store's numbers have to be before one more is prepared
abbrev pub excess : StoredReference → ℕ
excess stored = if nat_lt (stored_last stored) (2 ^ 32 - 1) then 0 else stored.stored_first

-- with a version more
abbrev pub with_next : StoredReference → StoredReference
with_next stored = record {
  kept = record stored.kept {
    shown = record stored.kept.shown { next = number_ahead stored.kept.shown.next 1 };
  };
  stored_first = stored.stored_first - excess stored;
}

-- with the version of a number as that which is searched
abbrev pub with_curr : ℕ → StoredReference → StoredReference
with_curr number stored = record {
  kept = record stored.kept { shown = record stored.kept.shown { curr = number } };
  stored_first = stored_number stored number;
}

-- what holds of the parts of such a reference
pub record IsStoredReference (uses : List Use) (curr next first : ℕ) : Type 0 where
  pub patterns : TakePatterns uses
  pub short : (curr < 2 ^ 32) × (next < 2 ^ 32)
  pub room : first + ahead curr next < 2 ^ 32

-- ---- versions in rows

-- the reference with the versions of a row
abbrev pub filled : StoredReference → List ShownVersion → Kept
filled stored row = record stored.kept {
  shown = record stored.kept.shown {
    versions = versions_between stored.stored_first (stored_last stored) row;
  };
}

-- each reference with the versions of the row at its position, and with none where there is no row
abbrev pub all_filled : List StoredReference → List (List ShownVersion) → List Kept
all_filled [] rows = []
all_filled (stored ∷ others) [] = filled stored [] ∷ all_filled others []
all_filled (stored ∷ others) (row ∷ rows) = filled stored row ∷ all_filled others rows

-- what is seen of the references that are kept: each with its versions, and the slots
pub record KeptState : Type 0 where
  pub kept : List Kept
  pub slots : Slots

-- what holds of a reference and its row
pub record IsFilled (stored : StoredReference) (row : List ShownVersion) : Type 0 where
  pub short : HasShortNumbers stored.kept.shown
  pub numbers : AreNumbered stored.stored_first (stored_last stored) row
  pub searched : AreSearchedBy (use_ways stored.kept.uses) row
  pub counted : AreCounted row
  pub rising : AreRising stored.stored_first stored.kept.shown.curr (span stored.kept.shown) row

-- each reference has a row in the store
pub record AreFilled (kept : List StoredReference) (store : StoreView) : Type 0 where
  pub count : length store.rows ≡ length kept
  pub each : (r : ℕ) (k : StoredReference) → slice_get kept r ≡ Some k → IsFilled k (row_at store r)

-- ---- references

abbrev pub shown_references : List Kept → List Reference
shown_references kept = map (λ k. k.shown) kept

-- the uses that the reference at a position keeps
abbrev pub kept_uses : List Kept → ℕ → List Use
kept_uses kept r = option_map_or (λ k. k.uses) (slice_get kept r) []

-- a head, and where its use stands among those of its reference
pub record PlacedHead : Type 0 where
  pub head : TableHead
  pub place : ℕ

abbrev pub table_heads : List PlacedHead → List TableHead
table_heads heads = map (λ known. known.head) heads

-- the method and the case of a head are those of the use at its place
abbrev pub IsPlaced : List TableHead → PlacedHead → Type 0
IsPlaced heads known =
    slice_get (use_ways (uses_of heads known.head.list)) known.place
    ≡ Some (known.head.by, known.head.ci)

-- the references, with a change of the one at a position, which leaves its uses
abbrev pub with_kept : ℕ → (Reference → Reference) → List Kept → List Kept
with_kept r change kept = changed_at r (λ k. record k { shown = change k.shown }) kept

-- the fault of the reference at a position
abbrev pub kept_fault : List Kept → ℕ → (Reference → Option RefFault) → Option RefFault
kept_fault kept r fault = option_map_or (λ k. fault k.shown) (slice_get kept r) None

-- each reference keeps the uses that the heads give it, and has a number and a file of its own
pub record AreKept (heads : List TableHead) (kept : List Kept) : Type 0 where
  pub few : length kept ≤ 65536
  pub uses : (r : ℕ) → uses_of heads r ≡ kept_uses kept r
  pub names : HaveOwnNames (shown_references kept)

-- the same, and each head has the place of its use
pub record AreSearchable (heads : List PlacedHead) (kept : List Kept) : Type 0 where
  pub all : AreKept (table_heads heads) kept
  pub placed :
      (i : ℕ) (known : PlacedHead) → slice_get heads i ≡ Some known
      → IsPlaced (table_heads heads) known

-- ---- additions

-- the fault of a key that is refused
abbrev pub key_fault : Bool → Option RefFault
key_fault refused = if refused then Some BadPattern else None

abbrev pub kept_demands : Kept → Limits → Demands
kept_demands kept limits = record {
  uses = kept.uses;
  outputs = kept.shown.outputs;
  limits = limits;
}

-- why the pairs aren't added to a version, if there is one
abbrev pub version_fault : Demands → Option Version → List Pair → Option RefFault
version_fault demands version pairs =
    option_map_or (λ v. pairs_fault demands (length v.entries) v.serial pairs) version
    (Some BadVersion)

-- entries and a serial number are those that the pairs become in the version of a number
abbrev pub IsAdded : Kept → ℕ → List Pair → List Entry → ℕ → Type 0
IsAdded kept number pairs entries serial =
    IfSome (version_of kept.shown (Some number))
    (λ version. (entries ≡ new_entries number version.serial pairs)
    × (serial ≡ version.serial + length pairs))

-- ---- slots

-- the slots of all versions of the references, by those of a version
abbrev pub slots_in_kept : (ℕ → Version → ℕ) → List Kept → ℕ
slots_in_kept of_version kept =
    sum_by (λ (k : Kept). sum_by (of_version (length k.uses)) k.shown.versions) kept
