-- Which entries may be added to a version of a reference, why others may not, and what an addition
-- makes of the references (HAProxy management guide 2.4, section 9.3, `add acl`, `add map`).
use Rattle.std.specs.Prelude.{◌≡◌, ℕ, ◌+◌, ◌*◌, ◌^◌, nat_le, Bool, true, false, List, [], ◌∷◌, ◌++◌, length, map, slice_get, Option, None, Some, is_some, IfSome, unwrap_or, Result, Err, if◌then◌else◌, ⊤, ◌⊎◌}
use Rattle.std.specs.List.{enumerate_from, list_any}
use Rattle.std.specs.Option.{option_map_or, option_or}
use Rattle.hx_outside.specs.Makers.{CountsLarge, ExpressionText, MakerState}
use Rattle.hx_text.specs.declared.kinds.By.TheVariants as by
use Rattle.hx_match.specs.Patterns.{text_fault}
use Rattle.hx_sample.specs.Find.{Entry}
use Rattle.hx_refs.specs.declared.fault.RefFault.{RefFault}
use Rattle.hx_refs.specs.declared.fault.RefFault.TheVariants.{BadVersion, BadPattern, BadValue, VersionFull, VersionWorn, TooLarge, NoMemory}
use Rattle.hx_refs.specs.declared.limits.Limits.{Limits}
use Rattle.hx_refs.specs.Changes.{fault_at, with_version}
use Rattle.hx_refs.specs.References.{refuses_value, version_of, with_reference, Outputs, Reference, References, Version}
use Rattle.hx_refs.specs.Uses.{uses_of, Use}

-- a key, and the value under it
pub record Pair : Type 0 where
  pub key : List ℕ
  pub value : List ℕ

-- what additions to a reference are judged by: its uses and its outputs, and the limits
pub record Demands : Type 0 where
  pub uses : List Use
  pub outputs : Outputs
  pub limits : Limits

-- ---- one entry

-- a use can't read the key as a pattern
abbrev pub refuses_key : List Use → List ℕ → Bool
refuses_key uses key = list_any (λ u. is_some (text_fault u.by u.ci key)) uses

-- Why the pair isn't added as the next entry of a version, and none where it is. The version has
-- so many entries, and the last that was added to it had this serial number.
abbrev pub pair_fault : Demands → ℕ → ℕ → Pair → Option RefFault
pair_fault demands count serial pair =
    if refuses_key demands.uses pair.key then Some BadPattern
    else if refuses_value demands.outputs pair.value then Some BadValue
    else if nat_le demands.limits.entries count then Some VersionFull
    else if nat_le demands.limits.adds serial then Some VersionWorn else None

-- the entry that a pair becomes in a version of a number, by its serial number there
abbrev pub new_entry : ℕ → ℕ × Pair → Entry
new_entry version (serial, pair) =
    record { number = version * 2 ^ 32 + serial; key = pair.key; value = pair.value }

-- ---- entries one after another

-- why the pairs aren't all added, each after those before it: the fault of the first that isn't
abbrev pub pairs_fault : Demands → ℕ → ℕ → List Pair → Option RefFault
pairs_fault demands count serial [] = None
pairs_fault demands count serial (pair ∷ pairs) =
    option_or (pair_fault demands count serial pair)
    (pairs_fault demands (count + 1) (serial + 1) pairs)

-- the entries of a version that the pairs become after that of a serial number
abbrev pub new_entries : ℕ → ℕ → List Pair → List Entry
new_entries version serial pairs = map (new_entry version) (enumerate_from (serial + 1) pairs)

-- ---- the references

abbrev pub demands_on : References → ℕ → Reference → Demands
demands_on refs r reference =
    record { uses = uses_of refs.heads r; outputs = reference.outputs; limits = refs.limits }

-- Why the pairs aren't added to a version of the reference at a position, and none where they are:
-- there is no such version, or else the fault of the first pair that isn't added.
abbrev pub addition_fault : References → ℕ → Option ℕ → List Pair → Option RefFault
addition_fault refs r number pairs =
    fault_at refs r (λ reference.
    let demands = demands_on refs r reference in
    option_map_or (λ version. pairs_fault demands (length version.entries) version.serial pairs)
    (version_of reference number) (Some BadVersion))

-- the reference, with the pairs as the last entries of a version
abbrev pub with_pairs : Option ℕ → List Pair → Reference → Reference
with_pairs number pairs reference =
    with_version number (λ old. record {
      serial = old.serial + length pairs;
      entries = old.entries ++ new_entries (unwrap_or number reference.curr) old.serial pairs;
    }) reference

-- the references, with the pairs as the last entries of a version of the one at a position
abbrev pub after_addition : References → ℕ → Option ℕ → List Pair → References
after_addition refs r number pairs = with_reference r (with_pairs number pairs) refs

-- ---- what an addition answers

-- a key is read by a use as this expression
abbrev pub IsReadAs : List Use → List ℕ → ExpressionText → Type 0
IsReadAs [] key text = ⊥
IsReadAs (u ∷ uses) key text =
    ((u.by ≡ by.Reg) × (text ≡ record { text = key; ci = u.ci })) ⊎ IsReadAs uses key text

-- the key of one of the pairs is read as this expression, and the pairs before it have no fault
abbrev pub PairsAskFor : Demands → ℕ → ℕ → List Pair → ExpressionText → Type 0
PairsAskFor demands count serial [] text = ⊥
PairsAskFor demands count serial (pair ∷ pairs) text =
    IsReadAs demands.uses pair.key text
    ⊎ ((pair_fault demands count serial pair ≡ None)
    × PairsAskFor demands (count + 1) (serial + 1) pairs text)

abbrev pub VersionAsksFor : Demands → Option Version → List Pair → ExpressionText → Type 0
VersionAsksFor demands None pairs text = ⊥
VersionAsksFor demands (Some version) pairs text =
    PairsAskFor demands (length version.entries) version.serial pairs text

-- an addition to a version of the reference at a position reads a key as this expression
abbrev pub AdditionAsksFor : References → ℕ → Option ℕ → List Pair → ExpressionText → Type 0
AdditionAsksFor refs r number pairs text =
    IfSome (slice_get refs.references r)
    (λ reference. VersionAsksFor (demands_on refs r reference) (version_of reference number) pairs
    text)

-- Whether a fault may come where the pairs have this fault of their own, or none: their own; that
-- an expression is too large; out of memory.
abbrev pub MayRefuse : Option RefFault → RefFault → Type 0
MayRefuse own TooLarge = ⊤
MayRefuse own NoMemory = ⊤
MayRefuse own fault = own ≡ Some fault

-- what a maker of regular expressions knows before and after a call that asks for such texts
abbrev pub AdditionCountsLarge :
    {T : Type 0} → Result T RefFault → (ExpressionText → Type 0) → MakerState → MakerState → Type 0
AdditionCountsLarge (Err TooLarge) Asked before now = CountsLarge true Asked before now
AdditionCountsLarge _ Asked before now = CountsLarge false Asked before now
