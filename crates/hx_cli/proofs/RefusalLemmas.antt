-- No reference refuses with a fault that says nothing of the command.
use Rattle.std.proofs.Common.{◌≡◌, ℕ, ◌+◌, ◌<◌, Bool, true, false, List, [], ◌∷◌, arith, length}
use Rattle.std.specs.Prelude.{◌==◌, ◌&&◌, Option, None, Some, IfSome, IfErr, not, nat_le, nat_lt, is_some, slice_get, if◌then◌else◌}
use Rattle.std.specs.List.{list_any, position_or_len}
use Rattle.std.specs.Option.{option_map_or, option_or}
use Rattle.hx_sample.specs.Find.{Entry}
use Rattle.hx_refs.specs.Additions.{addition_fault, demands_on, pair_fault, pairs_fault, refuses_key, Demands, Pair}
use Rattle.hx_refs.specs.Changes.{answer, commit_fault, deletion_fault, fault_at, fault_unless, preparation_fault, value_fault}
use Rattle.hx_refs.specs.Naming.{is_named, named_number, resolution, side_fault}
use Rattle.hx_refs.specs.References.{is_open, refuses_value, span, version_entries, version_of, version_place, Reference, References, Version}
use Rattle.hx_refs.specs.VersionNumbers.{ahead}
use Rattle.hx_refs.specs.declared.fault.RefFault.{RefFault}
use Rattle.hx_refs.specs.declared.fault.RefFault.TheVariants as fault
use Rattle.hx_refs.specs.declared.limits.Limits.{Limits}
use Rattle.hx_refs.specs.declared.side.Side.{Side}
use Rattle.hx_refs.specs.declared.side.Side.TheVariants as side
use Rattle.hx_cli.specs.Effects.{HasCode}

unless_coded : (fine : Bool) (refusal : RefFault) → HasCode refusal → IfSome (fault_unless fine refusal) HasCode
unless_coded true refusal coded = tt
unless_coded false refusal coded = coded

or_coded : (first second : Option RefFault) → IfSome first HasCode → IfSome second HasCode → IfSome (option_or first second) HasCode
or_coded None second one two = two
or_coded (Some refusal) second one two = one

if_coded : (test : Bool) (first second : Option RefFault) → IfSome first HasCode → IfSome second HasCode
    → IfSome (if test then first else second) HasCode
if_coded true first second one two = one
if_coded false first second one two = two

-- of what there may be, or else of the fault without it
map_coded : {X : Type 0} (fault_in : X → Option RefFault) (found : Option X) (other : Option RefFault)
    → ((x : X) → IfSome (fault_in x) HasCode) → IfSome other HasCode → IfSome (option_map_or fault_in found other) HasCode
map_coded fault_in None other coded coded_other = coded_other
map_coded fault_in (Some x) other coded coded_other = coded x

at_coded : (refs : References) (r : ℕ) (fault_in : Reference → Option RefFault) → ((x : Reference) → IfSome (fault_in x) HasCode)
    → IfSome (fault_at refs r fault_in) HasCode
at_coded refs r fault_in coded = map_coded fault_in (slice_get refs.references r) None coded tt

-- ---- names

side_coded : (wanted : Side) (reference : Reference) → IfSome (side_fault wanted reference) HasCode
side_coded side.Acl reference = unless_coded reference.acl fault.UnknownRef (omega arith)
side_coded side.AclWrite reference =
    if_coded reference.acl (fault_unless (not reference.two_column) fault.UsedAsMap) (Some fault.UnknownRef)
    (unless_coded (not reference.two_column) fault.UsedAsMap (omega arith)) (omega arith)
side_coded side.Map reference = unless_coded reference.two_column fault.NeedsMap (omega arith)

answer_coded : (r : ℕ) (refusal : Option RefFault) → IfSome refusal HasCode → IfErr (answer r refusal) HasCode
answer_coded r None coded = tt
answer_coded r (Some refusal) coded = coded

pub resolution_coded : (refs : References) (word : List ℕ) (wanted : Side) → IfErr (resolution refs word wanted) HasCode
resolution_coded refs word wanted =
    let r = position_or_len (is_named (named_number word) word) refs.references in
    answer_coded r (option_map_or (side_fault wanted) (slice_get refs.references r) (Some fault.UnknownRef))
    (map_coded (side_fault wanted) (slice_get refs.references r) (Some fault.UnknownRef) (side_coded wanted) (omega arith))

-- ---- changes

pair_coded : (demands : Demands) (count serial : ℕ) (pair : Pair) → IfSome (pair_fault demands count serial pair) HasCode
pair_coded demands count serial pair =
    let worn = if nat_le demands.limits.adds serial then Some fault.VersionWorn else None in
    let full = if nat_le demands.limits.entries count then Some fault.VersionFull else worn in
    let value = if refuses_value demands.outputs pair.value then Some fault.BadValue else full in
    if_coded (refuses_key demands.uses pair.key) (Some fault.BadPattern) value (omega arith)
    (if_coded (refuses_value demands.outputs pair.value) (Some fault.BadValue) full (omega arith)
    (if_coded (nat_le demands.limits.entries count) (Some fault.VersionFull) worn (omega arith)
    (if_coded (nat_le demands.limits.adds serial) (Some fault.VersionWorn) None (omega arith) tt)))

pairs_coded : (demands : Demands) (count serial : ℕ) (pairs : List Pair) → IfSome (pairs_fault demands count serial pairs) HasCode
pairs_coded demands count serial [] = tt
pairs_coded demands count serial (pair ∷ pairs) =
    or_coded (pair_fault demands count serial pair) (pairs_fault demands (count + 1) (serial + 1) pairs)
    (pair_coded demands count serial pair) (pairs_coded demands (count + 1) (serial + 1) pairs)

pub addition_coded : (refs : References) (r : ℕ) (ver : Option ℕ) (pairs : List Pair) → IfSome (addition_fault refs r ver pairs) HasCode
addition_coded refs r ver pairs =
    at_coded refs r
    (λ reference.
    option_map_or (λ version. pairs_fault (demands_on refs r reference) (length version.entries) version.serial pairs)
    (version_of reference ver) (Some fault.BadVersion))
    (λ reference.
    map_coded (λ version. pairs_fault (demands_on refs r reference) (length version.entries) version.serial pairs)
    (version_of reference ver) (Some fault.BadVersion)
    (λ version. pairs_coded (demands_on refs r reference) (length version.entries) version.serial pairs) (omega arith))

missing_coded : (ver : Option ℕ) (test : Entry → Bool) (reference : Reference) → IfSome (deletion_fault ver test reference) HasCode
missing_coded ver test reference =
    or_coded (fault_unless (is_some (version_place reference ver)) fault.BadVersion)
    (fault_unless (list_any test (version_entries reference ver)) fault.KeyNotFound)
    (unless_coded (is_some (version_place reference ver)) fault.BadVersion (omega arith))
    (unless_coded (list_any test (version_entries reference ver)) fault.KeyNotFound (omega arith))

pub deletion_coded : (refs : References) (r : ℕ) (ver : Option ℕ) (test : Entry → Bool)
    → IfSome (fault_at refs r (deletion_fault ver test)) HasCode
deletion_coded refs r ver test = at_coded refs r (deletion_fault ver test) (missing_coded ver test)

pub value_coded : (refs : References) (r : ℕ) (ver : Option ℕ) (test : Entry → Bool) (value : List ℕ)
    → IfSome (fault_at refs r (value_fault ver test value)) HasCode
value_coded refs r ver test value =
    at_coded refs r (value_fault ver test value) (λ reference.
    or_coded (deletion_fault ver test reference)
    (fault_unless (not (refuses_value reference.outputs value)) fault.BadValue)
    (missing_coded ver test reference)
    (unless_coded (not (refuses_value reference.outputs value)) fault.BadValue (omega arith)))

pub preparation_coded : (refs : References) (r : ℕ) (limits : Limits) → IfSome (fault_at refs r (preparation_fault limits)) HasCode
preparation_coded refs r limits =
    at_coded refs r (preparation_fault limits) (λ reference.
    unless_coded (nat_lt (span reference) limits.versions) fault.NoMoreVersions (omega arith))

pub commit_coded : (refs : References) (r ver : ℕ) → IfSome (fault_at refs r (commit_fault ver)) HasCode
commit_coded refs r ver =
    at_coded refs r (commit_fault ver) (λ reference.
    unless_coded (is_open reference ver && nat_lt 0 (ahead reference.curr ver)) fault.BadVersion (omega arith))
