-- Each reference that a configuration brings has the version to which its entries are added, so an
-- entry is refused by a fault that has a code.
use Rattle.std.proofs.Common.{◌≡◌, ℕ, zero, suc, ◌+◌, Bool, true, false, cond, List, [], ◌∷◌, ◌++◌, length, map, Option, None, Some, refl, subst, sym}
use Rattle.std.specs.Prelude.{drop, is_some, nat_le, slice_get, unwrap_or}
use Rattle.std.specs.Option.{option_map_or, option_or}
use Rattle.hx_base.specs.Pairs.{NamedBytes}
use Rattle.hx_calls.specs.declared.HeadSpec.{HeadSpec}
use Rattle.hx_calls.specs.declared.TableSpec.{TableSpec}
use Rattle.hx_filling.specs.References.{AreFilled, declared_references, numbers_of, with_table, with_tables}
use Rattle.hx_refs.specs.Additions.{Demands, Pair, addition_fault, after_addition, demands_on, pair_fault, pairs_fault, refuses_key, with_pairs}
use Rattle.hx_refs.specs.References.{Reference, References, Version, changed_at, new_reference, no_references, refuses_value}
use Rattle.hx_refs.specs.declared.Limits.{Limits}
use Rattle.hx_refs.specs.declared.RefFault.{RefFault}
use Rattle.hx_refs.specs.declared.RefFault.TheVariants as fault
use Rattle.hx_filling.proofs.DeclareLemmas.{heads_keep, map_changed, table_shown}

-- ---- faults with codes

abbrev pub HasEntryCode : RefFault → Type 0
HasEntryCode fault.BadPattern = Unit {0}
HasEntryCode fault.BadValue = Unit {0}
HasEntryCode fault.VersionFull = Unit {0}
HasEntryCode fault.VersionWorn = Unit {0}
HasEntryCode _ = ⊥

-- a fault, if there is one, has a code
abbrev pub IsCoded : Option RefFault → Type 0
IsCoded None = Unit {0}
IsCoded (Some fault) = HasEntryCode fault

either_coded : (b : Bool) (first other : Option RefFault) → IsCoded first → IsCoded other
    → IsCoded (cond b first other)
either_coded true first other is also = is
either_coded false first other is also = also

first_coded : (first other : Option RefFault) → IsCoded first → IsCoded other
    → IsCoded (option_or first other)
first_coded None other is also = also
first_coded (Some fault) other is also = is

pair_coded : (demands : Demands) (count serial : ℕ) (pair : Pair)
    → IsCoded (pair_fault demands count serial pair)
pair_coded demands count serial pair =
    either_coded (refuses_key demands.uses pair.key) (Some fault.BadPattern) _ tt
    (either_coded (refuses_value demands.outputs pair.value) (Some fault.BadValue) _ tt
    (either_coded (nat_le demands.limits.entries count) (Some fault.VersionFull) _ tt
    (either_coded (nat_le demands.limits.adds serial) (Some fault.VersionWorn) None tt tt)))

pairs_coded : (demands : Demands) (count serial : ℕ) (pairs : List Pair)
    → IsCoded (pairs_fault demands count serial pairs)
pairs_coded demands count serial [] = tt
pairs_coded demands count serial (pair ∷ pairs) =
    first_coded (pair_fault demands count serial pair) _ (pair_coded demands count serial pair)
    (pairs_coded demands (count + 1) (serial + 1) pairs)

-- ---- the version that is searched

abbrev has_version : Reference → Bool
has_version reference = is_some (slice_get reference.versions 0)

abbrev AllTrue : List Bool → Type 0
AllTrue [] = Unit {0}
AllTrue (b ∷ bs) = (b ≡ true) × AllTrue bs

abbrev HaveVersions : References → Type 0
HaveVersions refs = AllTrue (map has_version refs.references)

all_more : (bs : List Bool) (b : Bool) → AllTrue bs → b ≡ true → AllTrue (bs ++ b ∷ [])
all_more [] b all is = (is, tt)
all_more (c ∷ bs) b all is = (all.0, all_more bs b all.1 is)

table_has : (number : ℕ) (spec : TableSpec) (refs : References) → HaveVersions refs
    → HaveVersions (with_table number spec refs)
table_has number spec refs have =
    subst AllTrue (sym (table_shown has_version (λ o x. refl) number spec refs))
    (all_more (map has_version refs.references)
    (has_version (new_reference refs.first number spec.file spec.two_column spec.acl)) have refl)

tables_have : (numbers : List ℕ) (specs : List TableSpec) (refs : References) → HaveVersions refs
    → HaveVersions (with_tables numbers specs refs)
tables_have numbers [] refs have = have
tables_have numbers (spec ∷ specs) refs have =
    let number = unwrap_or (slice_get numbers 0) 0 in
    tables_have (drop 1 numbers) specs (with_table number spec refs)
    (table_has number spec refs have)

declared_have : (limits : Limits) (specs : List TableSpec) (heads : List HeadSpec)
    → HaveVersions (declared_references limits specs heads)
declared_have limits specs heads =
    let tables : References = with_tables (numbers_of specs) specs (no_references limits) in
    subst (λ (references : List Reference). AllTrue (map has_version references))
    (sym (heads_keep heads tables)) (tables_have (numbers_of specs) specs (no_references limits) tt)

version_stays : (change : Version → Version) (versions : List Version)
    → is_some (slice_get (changed_at 0 change versions) 0) ≡ is_some (slice_get versions 0)
version_stays change [] = refl
version_stays change (version ∷ versions) = refl

added_have : (refs : References) (r : ℕ) (pairs : List Pair) → HaveVersions refs
    → HaveVersions (after_addition refs r None pairs)
added_have refs r pairs have =
    subst AllTrue (sym (map_changed has_version (with_pairs None pairs)
    (λ x. version_stays _ x.versions) r refs.references)) have

filled_have : (files : NamedBytes) (r : ℕ) (specs : List TableSpec) (refs filled : References)
    → HaveVersions refs → AreFilled files r specs refs filled → HaveVersions filled
filled_have files r [] refs filled have is = subst HaveVersions (sym is) have
filled_have files r (spec ∷ specs) refs filled have (pairs, there, none, more) =
    filled_have files (r + 1) specs (after_addition refs r None pairs) filled
    (added_have refs r pairs have) more

-- ---- an addition

version_coded : (demands : Demands) (versions : List Version) (pairs : List Pair)
    → is_some (slice_get versions 0) ≡ true
    → IsCoded (option_map_or
    (λ version. pairs_fault demands (length version.entries) version.serial pairs)
    (slice_get versions 0) (Some fault.BadVersion))
version_coded demands [] pairs is = absurd (let no : ⊥ = cc in no)
version_coded demands (version ∷ versions) pairs is =
    pairs_coded demands (length version.entries) version.serial pairs

at_coded : (references : List Reference) (r : ℕ) (fault : Reference → Option RefFault)
    → AllTrue (map has_version references)
    → ((reference : Reference) → has_version reference ≡ true → IsCoded (fault reference))
    → IsCoded (option_map_or fault (slice_get references r) None)
at_coded [] zero fault have coded = tt
at_coded [] (suc r) fault have coded = tt
at_coded (reference ∷ references) zero fault have coded = coded reference have.0
at_coded (reference ∷ references) (suc r) fault have coded =
    at_coded references r fault have.1 coded

-- the fault of an entry of a reference that a configuration brings, after the entries of those
-- before it
pub entry_coded : (limits : Limits) (specs : List TableSpec) (heads : List HeadSpec)
    (files : NamedBytes) (before : List TableSpec) (filled : References)
    → AreFilled files 0 before (declared_references limits specs heads) filled
    → (r : ℕ) (pairs : List Pair) → IsCoded (addition_fault filled r None pairs)
entry_coded limits specs heads files before filled are r pairs =
    let declared : References = declared_references limits specs heads in
    at_coded filled.references r _
    (filled_have files 0 before declared filled (declared_have limits specs heads) are)
    (λ reference has. version_coded (demands_on filled r reference) reference.versions pairs has)
