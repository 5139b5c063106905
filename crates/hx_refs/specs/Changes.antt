-- What removals, changes of values and the calls on versions make of the references, and why they
-- are refused (HAProxy management guide 2.4, section 9.3, `del map`, `set map`, `clear map`,
-- `prepare map`, `commit map`, and the same of `acl`).
use Rattle.std.specs.Prelude.{◌≡◌, ℕ, ◌&&◌, nat_lt, Bool, not, is_some, List, [], ◌∷◌, ◌++◌, map, drop, slice_get, Option, None, Some, Result, Ok, Err, if◌then◌else◌, ⊤}
use Rattle.std.specs.List.{list_any}
use Rattle.std.specs.Option.{option_map_or, option_or}
use Rattle.hx_sample.specs.Find.{Entry}
use Rattle.hx_sample.specs.Changes.{with_value, without_chosen}
use Rattle.hx_refs.specs.declared.fault.RefFault.{RefFault}
use Rattle.hx_refs.specs.declared.fault.RefFault.TheVariants.{BadVersion, KeyNotFound, BadValue, NoMoreVersions, NoMemory}
use Rattle.hx_refs.specs.declared.limits.Limits.{Limits}
use Rattle.hx_refs.specs.References.{changed_at, empty_version, is_open, refuses_value, span, version_entries, version_place, with_reference, Reference, References, Version}
use Rattle.hx_refs.specs.VersionNumbers.{ahead, number_ahead}
pub use Rattle.hx_versions.specs.Versions.{has_number}

-- ---- a reference

-- The reference, with a change of one of its versions: that of a number, or without one that which
-- is searched. A number of which it has no version changes nothing.
abbrev pub with_version : Option ℕ → (Version → Version) → Reference → Reference
with_version number change old =
    option_map_or (λ place. record old { versions = changed_at place change old.versions })
    (version_place old number) old

-- the same, with a change of the entries of the version; its serial number stays
abbrev pub with_entries : Option ℕ → (List Entry → List Entry) → Reference → Reference
with_entries number change reference =
    with_version number (λ version. record version { entries = change version.entries }) reference

-- the reference, with one version more, to which nothing was added
abbrev pub with_new_version : Reference → Reference
with_new_version old =
    record old {
      next = number_ahead old.next 1;
      versions = old.versions ++ empty_version ∷ [];
    }

-- the reference, with the version of a number as the one that is searched; those that are less far
-- ahead are dropped
abbrev pub with_current_version : ℕ → Reference → Reference
with_current_version number old =
    record old { curr = number; versions = drop (ahead old.curr number) old.versions }

-- ---- the references

-- without the entries that a test chooses in a version
abbrev pub after_deletion : References → ℕ → Option ℕ → (Entry → Bool) → References
after_deletion refs r number test =
    with_reference r (with_entries number (without_chosen test)) refs

-- with the value in the entries that a test chooses in a version
abbrev pub after_change_of_value :
    References → ℕ → Option ℕ → (Entry → Bool) → List ℕ → References
after_change_of_value refs r number test value =
    with_reference r (with_entries number (map (with_value test value))) refs

-- without the entries of a version
abbrev pub after_clearing : References → ℕ → Option ℕ → References
after_clearing refs r number = with_reference r (with_entries number (λ _. [])) refs

abbrev pub after_preparation : References → ℕ → References
after_preparation refs r = with_reference r with_new_version refs

abbrev pub after_commit : References → ℕ → ℕ → References
after_commit refs r number = with_reference r (with_current_version number) refs

-- ---- why a reference refuses them

-- the fault where a test fails
abbrev pub fault_unless : Bool → RefFault → Option RefFault
fault_unless fine fault = if fine then None else Some fault

-- a removal: there is no such version, or a test chooses no entry of it
abbrev pub deletion_fault : Option ℕ → (Entry → Bool) → Reference → Option RefFault
deletion_fault number test reference =
    option_or (fault_unless (is_some (version_place reference number)) BadVersion)
    (fault_unless (list_any test (version_entries reference number)) KeyNotFound)

-- a change of a value: the same, or else that an output can't read the value
abbrev pub value_fault : Option ℕ → (Entry → Bool) → List ℕ → Reference → Option RefFault
value_fault number test value reference =
    option_or (deletion_fault number test reference)
    (fault_unless (not (refuses_value reference.outputs value)) BadValue)

-- a preparation: as many versions are prepared as there may be beside that which is searched
abbrev pub preparation_fault : Limits → Reference → Option RefFault
preparation_fault limits reference =
    fault_unless (nat_lt (span reference) limits.versions) NoMoreVersions

-- that the version of a number is searched: it isn't one that was prepared after that which is
abbrev pub commit_fault : ℕ → Reference → Option RefFault
commit_fault number reference =
    fault_unless (is_open reference number && nat_lt 0 (ahead reference.curr number)) BadVersion

-- ---- what is answered

-- the fault of the reference at a position
abbrev pub fault_at : References → ℕ → (Reference → Option RefFault) → Option RefFault
fault_at refs r fault = option_map_or fault (slice_get refs.references r) None

-- the number of the version that a preparation makes
abbrev pub prepared_version : References → ℕ → ℕ
prepared_version refs r =
    option_map_or (λ old. number_ahead old.next 1) (slice_get refs.references r) 0

-- the fault, if there is one, and else the value
abbrev pub answer : {T : Type 0} → T → Option RefFault → Result T RefFault
answer value fault = option_map_or Err fault (Ok value)

-- Whether a fault may come where the change has this fault of its own, or none: its own, or out of
-- memory.
abbrev pub MayFail : Option RefFault → RefFault → Type 0
MayFail own NoMemory = ⊤
MayFail own fault = own ≡ Some fault
