-- What a change of a list, as a rule asks for it, makes of the references. An addition or a value
-- that is refused changes nothing (HAProxy configuration manual 2.4, section 4.2,
-- `http-request add-acl`, `del-acl`, `del-map`, `set-map`).
use Rattle.std.specs.Prelude.{ℕ, Bool, List, [], ◌∷◌, Option, None, is_some, if◌then◌else◌}
use Rattle.std.specs.List.{list_any}
use Rattle.hx_sample.specs.Changes.{has_key, is_fit, ListChange, Addition, Removal, NewValue}
use Rattle.hx_refs.specs.declared.fault.RefFault.{RefFault}
use Rattle.hx_refs.specs.Additions.{addition_fault, after_addition, Pair}
use Rattle.hx_refs.specs.Changes.{after_change_of_value, after_deletion, fault_at, value_fault}
use Rattle.hx_refs.specs.References.{entries_in, References}

-- what a call makes of the references, which stay where it is refused
abbrev pub unless_refused : Option RefFault → References → References → References
unless_refused fault after refs = if is_some fault then refs else after

-- an entry of the version that is searched has the key
abbrev pub is_key_of : References → ℕ → List ℕ → Bool
is_key_of refs r key = list_any (has_key key) (entries_in refs r None)

-- the pair as the last entry of the version that is searched
abbrev pub with_pair : References → ℕ → Pair → References
with_pair refs r pair =
    unless_refused (addition_fault refs r None (pair ∷ []))
    (after_addition refs r None (pair ∷ [])) refs

-- what a change that is fit makes of them
abbrev pub after_fit_change : References → ℕ → ListChange → References
after_fit_change refs r (Addition key) =
    if is_key_of refs r key then refs else with_pair refs r (record { key = key; value = [] })
after_fit_change refs r (Removal key) = after_deletion refs r None (has_key key)
after_fit_change refs r (NewValue key value) =
    if is_key_of refs r key
    then unless_refused (fault_at refs r (value_fault None (has_key key) value))
    (after_change_of_value refs r None (has_key key) value) refs
    else with_pair refs r (record { key = key; value = value })

-- what a change of the list at a position makes of them; one that isn't fit does nothing
abbrev pub after_table_change : References → ℕ → ListChange → References
after_table_change refs r asked = if is_fit asked then after_fit_change refs r asked else refs
