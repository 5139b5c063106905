-- How references are used: the heads of each, and the uses that these give it (HAProxy management
-- guide 2.4, section 9.3, `get acl`, `get map`).
use Rattle.std.specs.Prelude.{◌≡◌, ℕ, ◌==◌, Bool, false, List, [], ◌∷◌, ◌++◌, length, Option, None, Some, is_some, if◌then◌else◌, ⊤}
use Rattle.std.specs.List.{enumerate_from, filter_map}
use Rattle.std.specs.Option.{option_map_or}
use Rattle.hx_text.specs.declared.kinds.By.{By}
use Rattle.hx_text.specs.declared.kinds.By.TheVariants as by
use Rattle.hx_sample.specs.Tables.{TableHead}
use Rattle.hx_refs.specs.References.{References}
pub use Rattle.hx_versions.specs.Uses.{is_use, use_parts, use_place, use_with, uses_by, uses_in_order, with_cases, with_first, Use}

-- a head, which stands with its number, as a use of the reference at a position; none where it is
-- one of another reference
abbrev pub use_by_head : ℕ → ℕ × TableHead → Option Use
use_by_head r (number, h) =
    if h.list == r then Some (record { by = h.by; ci = h.ci; head = number }) else None

-- the uses of the reference at a position, in the order of their heads
abbrev pub uses_of : List TableHead → ℕ → List Use
uses_of heads r = filter_map (use_by_head r) (enumerate_from 0 heads)

-- patterns of numbers, addresses and bytes don't ignore case
abbrev pub KeepsToCase : By → Bool → Type 0
KeepsToCase by.Int ci = ci ≡ false
KeepsToCase by.Ip ci = ci ≡ false
KeepsToCase by.Bin ci = ci ≡ false
KeepsToCase by.Len ci = ci ≡ false
KeepsToCase _ ci = ⊤

-- the head of a use of the reference at a position: that which it has, or else a new one
abbrev pub head_for : References → ℕ → By → Bool → ℕ
head_for refs r method ci =
    option_map_or (λ u. u.head) (use_with method ci (uses_of refs.heads r)) (length refs.heads)

-- the references, with a use of the one at a position: they have a head more, unless it has one
abbrev pub after_use : References → ℕ → By → Bool → References
after_use refs r method ci =
    let head : TableHead = record { by = method; ci = ci; list = r } in
    let known = is_some (use_with method ci (uses_of refs.heads r)) in
    record refs { heads = if known then refs.heads else refs.heads ++ head ∷ [] }

-- ---- steps towards these, for proofs

-- the uses of the reference at a position, of heads that are numbered from `number` on
abbrev pub uses_from : ℕ → List TableHead → ℕ → List Use
uses_from number heads r = filter_map (use_by_head r) (enumerate_from number heads)

-- the heads with one for a use
abbrev pub heads_with : Option Use → TableHead → List TableHead → List TableHead
heads_with found head heads = if is_some found then heads else heads ++ head ∷ []
