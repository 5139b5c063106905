-- What the references of a configuration are: lists of patterns and maps, with their versions and
-- entries (HAProxy management guide 2.4, section 9.3, `add acl`, `add map`, `prepare acl`).
use Rattle.std.specs.Prelude.{◌≡◌, ℕ, ◌-◌, min, ◌&&◌, ◌||◌, Bool, true, false, List, [], ◌∷◌, ◌++◌, length, map, sum, slice_get, slice_set, Option, None, Some, is_none, is_some, IfSome, option_and_then, if◌then◌else◌, ⊤}
use Rattle.std.specs.Option.{option_map_or}
use Rattle.hx_text.specs.declared.kinds.Out.{Out}
use Rattle.hx_text.specs.declared.kinds.Out.TheVariants as out
use Rattle.hx_text.specs.Address.{ip_of}
use Rattle.hx_text.specs.Number.{int_of}
use Rattle.hx_sample.specs.Find.{Entry}
use Rattle.hx_sample.specs.Tables.{TableHead}
use Rattle.hx_refs.specs.declared.limits.Limits.{Limits}
use Rattle.hx_refs.specs.declared.info.RefInfo.{RefInfo}
use Rattle.hx_refs.specs.VersionNumbers.{ahead, is_from_to}
use Rattle.hx_versions.specs.declared.slots.Slots.{Slots}
pub use Rattle.hx_versions.specs.Versions.{empty_version, Version}

-- the types, beside strings, in which the values of a map are read; any value is a string
pub record Outputs : Type 0 where
  pub as_int : Bool
  pub as_ip : Bool

-- A reference: its number; its file, if it has one; whether its entries have values; whether an ACL
-- uses it; how its values are read; the number of the version that is searched, and that of the
-- last one that was prepared; and the versions from the one to the other. Numbers of versions wrap.
pub record Reference : Type 0 where
  pub id : ℕ
  pub file : Option (List ℕ)
  pub two_column : Bool
  pub acl : Bool
  pub outputs : Outputs
  pub curr : ℕ
  pub next : ℕ
  pub versions : List Version

-- the references in their order, with the heads through which they are searched, limits, and the
-- number of the version with which a reference begins
pub record References : Type 0 where
  pub limits : Limits
  pub first : ℕ
  pub heads : List TableHead
  pub references : List Reference

-- What callers see of references that are kept: what they hold, and the slots of memory in which
-- they hold it. No answer of a request or a command depends on the slots.
pub record RefsState : Type 0 where
  pub content : References
  pub slots : Slots

-- no slot is in use
abbrev pub no_slots : Slots
no_slots = record { used = 0; retired = 0 }

-- so many of the slots that wait are given back, or all where there are fewer
abbrev pub after_tidying : ℕ → Slots → Slots
after_tidying most slots = record {
  used = slots.used - min most slots.retired;
  retired = slots.retired - most;
}

-- ---- parts of a reference

-- nothing was added to any of the versions
abbrev pub AreEmpty : List Version → Type 0
AreEmpty [] = ⊤
AreEmpty (version ∷ versions) = (version ≡ empty_version) × AreEmpty versions

-- how far the version that was prepared last is ahead of that which is searched
abbrev pub span : Reference → ℕ
span reference = ahead reference.curr reference.next

-- the reference has a version of the number
abbrev pub is_open : Reference → ℕ → Bool
is_open reference number = is_from_to reference.curr reference.next number

-- where a version stands among those of a reference: that of a number, or without one that which is
-- searched; none for a number of which it has no version
abbrev pub version_place : Reference → Option ℕ → Option ℕ
version_place reference None = Some 0
version_place reference (Some number) =
    if is_open reference number then Some (ahead reference.curr number) else None

abbrev pub version_of : Reference → Option ℕ → Option Version
version_of reference number =
    option_and_then (slice_get reference.versions) (version_place reference number)

-- the entries of a version, and none where the reference has no such version
abbrev pub version_entries : Reference → Option ℕ → List Entry
version_entries reference number =
    option_map_or (λ version. version.entries) (version_of reference number) []

-- an output can't read the value
abbrev pub refuses_value : Outputs → List ℕ → Bool
refuses_value outputs value =
    outputs.as_int && is_none (int_of value) || outputs.as_ip && is_none (ip_of value)

-- what is told of a reference; its entries are counted in all versions
abbrev pub info_of : Reference → RefInfo
info_of reference = record {
  id = reference.id;
  two_column = reference.two_column;
  acl = reference.acl;
  curr = reference.curr;
  next = reference.next;
  count = sum (map (λ version. length version.entries) reference.versions);
}

-- ---- parts of the references

-- the entries that are searched, of each reference
abbrev pub searched_lists : References → List (List Entry)
searched_lists refs = map (λ reference. version_entries reference None) refs.references

-- the entries of a version of the reference at a position
abbrev pub entries_in : References → ℕ → Option ℕ → List Entry
entries_in refs r number =
    option_map_or (λ reference. version_entries reference number) (slice_get refs.references r) []

-- the reference at a position has a version
abbrev pub has_version : References → ℕ → Option ℕ → Bool
has_version refs r number =
    option_map_or (λ reference. is_some (version_place reference number))
    (slice_get refs.references r) false

-- the file of the reference at a position
abbrev pub file_of : References → ℕ → Option (List ℕ)
file_of refs r = option_and_then (λ reference. reference.file) (slice_get refs.references r)

-- nothing was added to the reference at a position
abbrev pub HasHadNone : References → ℕ → Type 0
HasHadNone refs r =
    IfSome (slice_get refs.references r) (λ reference. AreEmpty reference.versions)

-- ---- what additions make of them

-- no references; those that are added begin with the version of a number
abbrev pub references_from : Limits → ℕ → References
references_from limits first =
    record { limits = limits; first = first; heads = []; references = [] }

-- the same, where they begin with version 0
abbrev pub no_references : Limits → References
no_references limits = references_from limits 0

-- a reference without outputs and entries, which begins with the version of a number
abbrev pub new_reference : ℕ → ℕ → Option (List ℕ) → Bool → Bool → Reference
new_reference first id file two_column acl = record {
  id = id;
  file = file;
  two_column = two_column;
  acl = acl;
  outputs = record { as_int = false; as_ip = false };
  curr = first;
  next = first;
  versions = empty_version ∷ [];
}

-- the references with one more
abbrev pub with_new : References → ℕ → Option (List ℕ) → Bool → Bool → References
with_new refs id file two_column acl =
    let new = new_reference refs.first id file two_column acl in
    record refs { references = refs.references ++ new ∷ [] }

-- the list with its item at a position changed
abbrev pub changed_at : {A : Type 0} → ℕ → (A → A) → List A → List A
changed_at at change xs = option_map_or (λ x. slice_set xs at (change x)) (slice_get xs at) xs

-- the references, with a change of the one at a position
abbrev pub with_reference : ℕ → (Reference → Reference) → References → References
with_reference r change refs = record refs { references = changed_at r change refs.references }

-- the outputs with one more
abbrev pub with_output : Out → Outputs → Outputs
with_output out.Str outputs = outputs
with_output out.Int outputs = record outputs { as_int = true }
with_output out.Ip outputs = record outputs { as_ip = true }

-- the references, with one more output of the one at a position
abbrev pub after_output : References → ℕ → Out → References
after_output refs r out =
    with_reference r (λ old. record old { outputs = with_output out old.outputs }) refs
