-- The lines of references by the numbers of the references.
use Rattle.std.proofs.Common.{◌≡◌, ℕ, zero, suc, ◌+◌, ◌-◌, ◌<◌, Bool, true, false, List, [], ◌∷◌, length, drop, refl, sym, ap, ◌∙◌, arith}
use Rattle.std.specs.Prelude.{codes, map, option_map, slice_get, Option, Some, if◌then◌else◌}
use Rattle.std.specs.BTreeMap.{insert_entry}
use Rattle.std.specs.Cmp.{nat_cmp_total}
use Rattle.std.specs.FinMap as finite
use Rattle.std.specs.FinMap.{entries-insert, len-empty, len-entries, put}
use Rattle.std.specs.FinMap.Entries.{by_order}
use Rattle.std.specs.Ordering.{match_ordering, nat_cmp}
use Rattle.std.specs.declared.cmp.Ordering.{Ordering}
use Rattle.std.specs.declared.cmp.Ordering.TheVariants.{Less, Equal, Greater}
use Rattle.hx_refs.specs.References.{file_of, info_of, Reference, References}
use Rattle.hx_refs.specs.declared.info.RefInfo.{RefInfo}
use Rattle.hx_cli.specs.Effects.{lines_by_number, told_references}
use Rattle.hx_cli.specs.Replies.{reference_text, ReplyParts}
use Rattle.hx_cli.proofs.ReplyLemmas.{with_lines}

-- the lines of the references that are told, in the order of their numbers
abbrev pub numbered_lines : Bool → List Reference → List (ℕ × List ℕ)
numbered_lines is_map references = finite.entries (lines_by_number is_map references)

-- whether a reference is told
abbrev is_told : Bool → Reference → Bool
is_told is_map reference = if is_map then reference.two_column else reference.acl

-- ---- an insertion in a map of std is that in a finite map

same_order : {A : Type 0} (r : Ordering) (a b c d : A) → c ≡ d → by_order r a b c ≡ match_ordering r a b d
same_order Less a b c d same = refl
same_order Equal a b c d same = refl
same_order Greater a b c d same = same

same_put : (k : ℕ) (v : List ℕ) (es : List (ℕ × List ℕ)) → put nat_cmp k v es ≡ insert_entry nat_cmp es k v
same_put k v [] = refl
same_put k v (e ∷ es) =
    same_order (nat_cmp k e.0) ((k, v) ∷ e ∷ es) ((e.0, v) ∷ es) (e ∷ put nat_cmp k v es) (e ∷ insert_entry nat_cmp es k v)
    (ap (λ (rest : List (ℕ × List ℕ)). e ∷ rest) (same_put k v es))

nothing_left : {A : Type 0} (xs : List A) → length xs ≡ 0 → xs ≡ []
nothing_left [] none = refl
nothing_left (x ∷ xs) none = absurd (omega (arith, none))

dropped_all : {A : Type 0} (xs : List A) → drop (length xs) xs ≡ []
dropped_all [] = refl
dropped_all (x ∷ xs) = dropped_all xs

no_lines : (is_map : Bool) → numbered_lines is_map [] ≡ []
no_lines is_map =
    nothing_left (numbered_lines is_map [])
    (sym (len-entries (lines_by_number is_map [])) ∙ len-empty nat_cmp (List ℕ))

-- after the last reference there are none
pub none_after_all : (is_map : Bool) (refs : References) (entries : List (ℕ × List ℕ)) → entries ≡ []
    → entries ≡ numbered_lines is_map (drop (length refs.references) refs.references)
none_after_all is_map refs entries empty =
    empty ∙ sym (no_lines is_map) ∙ ap (numbered_lines is_map) (sym (dropped_all refs.references))

-- ---- one reference more, before the others

pub line_more : (is_map : Bool) (reference : Reference) (references : List Reference) (old new : List (ℕ × List ℕ)) (line : List ℕ)
    → is_told is_map reference ≡ true → line ≡ reference_text (info_of reference) reference.file
    → old ≡ numbered_lines is_map references → new ≡ insert_entry nat_cmp old reference.id line
    → new ≡ numbered_lines is_map (reference ∷ references)
line_more is_map reference references old new line told text before inserted =
    let others = lines_by_number is_map references in
    inserted ∙ ap (λ es. insert_entry nat_cmp es reference.id line) before
    ∙ ap (λ t. insert_entry nat_cmp (finite.entries others) reference.id t) text
    ∙ sym (same_put reference.id (reference_text (info_of reference) reference.file) (finite.entries others))
    ∙ sym (entries-insert nat_cmp_total others reference.id (reference_text (info_of reference) reference.file))
    ∙ rw told refl

pub line_left_out : (is_map : Bool) (reference : Reference) (references : List Reference) → is_told is_map reference ≡ false
    → numbered_lines is_map references ≡ numbered_lines is_map (reference ∷ references)
line_left_out is_map reference references untold = rw untold refl

-- ---- the reference at a position, and those after it

pub record StandsAt (references : List Reference) (r : ℕ) (info : RefInfo) : Type 0 where
  pub reference : Reference
  pub is : slice_get references r ≡ Some reference
  pub others : drop r references ≡ reference ∷ drop (r + 1) references
  pub info_is : info ≡ info_of reference

stands_at : (references : List Reference) (r : ℕ) (info : RefInfo)
    → Some info ≡ option_map info_of (slice_get references r) → StandsAt references r info
stands_at [] r info said = absurd (cc)
stands_at (reference ∷ references) zero info said =
    record { reference = reference; is = refl; others = refl; info_is = cc }
stands_at (reference ∷ references) (suc r) info said =
    let rest = stands_at references r info said in
    let next : suc r + 1 ≡ suc (r + 1) = omega arith in
    record { reference = rest.reference; is = rest.is; others = rw next rest.others; info_is = rest.info_is }

inserted_here : (is_map : Bool) (reference : Reference) (others : List Reference) (info : RefInfo) (file : Option (List ℕ))
    (old new : List (ℕ × List ℕ))
    → info ≡ info_of reference → file ≡ reference.file → true ≡ (if is_map then info.two_column else info.acl)
    → old ≡ numbered_lines is_map others → new ≡ insert_entry nat_cmp old info.id (reference_text info file)
    → new ≡ numbered_lines is_map (reference ∷ others)
inserted_here is_map reference others info file old new same named told before inserted =
    line_more is_map reference others old new (reference_text info file) (sym (rw same at told)) (rw (same, named) refl) before
    (inserted ∙ ap (λ (i : RefInfo). insert_entry nat_cmp old i.id (reference_text info file)) same)

-- where the reference before a position is told, the lines get its line
pub line_inserted : (is_map : Bool) (refs : References) (r : ℕ) (info : RefInfo) (old new : List (ℕ × List ℕ))
    → 0 < r → Some info ≡ option_map info_of (slice_get refs.references (r - 1))
    → true ≡ (if is_map then info.two_column else info.acl) → old ≡ numbered_lines is_map (drop r refs.references)
    → new ≡ insert_entry nat_cmp old info.id (reference_text info (file_of refs (r - 1)))
    → new ≡ numbered_lines is_map (drop (r - 1) refs.references)
line_inserted is_map refs r info old new some said told before inserted =
    let here = stands_at refs.references (r - 1) info said in
    let place : r - 1 + 1 ≡ r = omega (arith, some) in
    let file_is : file_of refs (r - 1) ≡ here.reference.file = rw here.is refl in
    rw (here.others, place)
    (inserted_here is_map here.reference (drop r refs.references) info (file_of refs (r - 1)) old new here.info_is file_is told before inserted)

left_out_here : (is_map : Bool) (reference : Reference) (others : List Reference) (info : RefInfo) (lines : List (ℕ × List ℕ))
    → info ≡ info_of reference → false ≡ (if is_map then info.two_column else info.acl)
    → lines ≡ numbered_lines is_map others → lines ≡ numbered_lines is_map (reference ∷ others)
left_out_here is_map reference others info lines same untold before =
    before ∙ line_left_out is_map reference others (sym (rw same at untold))

-- and else they stay
pub line_kept : (is_map : Bool) (refs : References) (r : ℕ) (info : RefInfo) (lines : List (ℕ × List ℕ))
    → 0 < r → Some info ≡ option_map info_of (slice_get refs.references (r - 1))
    → false ≡ (if is_map then info.two_column else info.acl) → lines ≡ numbered_lines is_map (drop r refs.references)
    → lines ≡ numbered_lines is_map (drop (r - 1) refs.references)
line_kept is_map refs r info lines some said untold before =
    let here = stands_at refs.references (r - 1) info said in
    let place : r - 1 + 1 ≡ r = omega (arith, some) in
    rw (here.others, place)
    (left_out_here is_map here.reference (drop r refs.references) info lines here.info_is untold before)

-- ---- the reply

pub told_first : (is_map : Bool) (refs : References) (new pushed : ReplyParts) (first : List ℕ) (entries : List (ℕ × List ℕ))
    → new ≡ record { code = 0; lines = [] } → first ≡ codes "# id (file)"
    → entries ≡ numbered_lines is_map refs.references
    → pushed ≡ with_lines new (first ∷ [])
    → with_lines pushed (map (λ entry. entry.1) entries) ≡ record { code = 0; lines = told_references is_map refs }
unfolding told_references
told_first is_map refs new pushed first entries new_is first_is entries_are pushed_is =
    rw (pushed_is, new_is, first_is, entries_are) refl
