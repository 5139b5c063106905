-- Which reference a word of the management socket names (HAProxy management guide 2.4, section 9.3,
-- `show acl`, `show map`).
use Rattle.std.specs.Prelude.{ℕ, ◌==◌, Bool, false, not, List, drop, slice_get, slice_index, Option, None, Some, Result, if◌then◌else◌}
use Rattle.std.specs.List.{position_or_len}
use Rattle.std.specs.Option.{option_map_or}
use Rattle.std.specs.Str.{bytes_eq}
use Rattle.hx_base.specs.Bytes.{ascii}
use Rattle.hx_text.specs.Number.{number_of}
use Rattle.hx_refs.specs.declared.fault.RefFault.{RefFault}
use Rattle.hx_refs.specs.declared.fault.RefFault.TheVariants.{UnknownRef, NeedsMap, UsedAsMap}
use Rattle.hx_refs.specs.declared.side.Side.{Side}
use Rattle.hx_refs.specs.declared.side.Side.TheVariants.{Acl, AclWrite, Map}
use Rattle.hx_refs.specs.References.{Reference, References}
use Rattle.hx_refs.specs.Changes.{answer, fault_unless}

-- the number that a word names: `#`, and decimal digits
abbrev pub named_number : List ℕ → Option ℕ
named_number word = if slice_index word 0 == ascii "#" then number_of (drop 1 word) else None

-- the word names the reference: by its number where the word names one, and else by its file
abbrev pub is_named : Option ℕ → List ℕ → Reference → Bool
is_named (Some number) word reference = reference.id == number
is_named None word reference = option_map_or (λ file. bytes_eq file word) reference.file false

-- why the reference isn't used on a side
abbrev pub side_fault : Side → Reference → Option RefFault
side_fault Acl reference = fault_unless reference.acl UnknownRef
side_fault AclWrite reference =
    if reference.acl then fault_unless (not reference.two_column) UsedAsMap else Some UnknownRef
side_fault Map reference = fault_unless reference.two_column NeedsMap

-- what is answered for a word on a side: the position of the first reference that the word names
abbrev pub resolution : References → List ℕ → Side → Result ℕ RefFault
resolution refs word side =
    let r = position_or_len (is_named (named_number word) word) refs.references in
    answer r (option_map_or (side_fault side) (slice_get refs.references r) (Some UnknownRef))
