-- How many slots of memory calls on references read, at most.
use Rattle.std.specs.Prelude.{ℕ, ◌+◌, ◌*◌, None, slice_get}
use Rattle.std.specs.Option.{option_map_or}
use Rattle.hx_sample.specs.declared.sample.Value.{Value}
use Rattle.hx_versions.specs.Costs.{search_steps}
use Rattle.hx_refs.specs.References.{entries_in, Reference, References}
use Rattle.hx_refs.specs.VersionNumbers.{ahead}

-- a search by a head: those of a search among the entries of its list
abbrev pub find_steps : References → ℕ → Value → ℕ
find_steps refs head v =
    option_map_or (λ h. search_steps h.by h.ci (entries_in refs h.list None) v)
    (slice_get refs.heads head) 0

-- that the version of a number is searched from then on: ten for each version that is dropped, and
-- one more
abbrev pub steps_to_commit : ℕ → Reference → ℕ
steps_to_commit number reference = 10 * ahead reference.curr number + 1

abbrev pub commit_steps : References → ℕ → ℕ → ℕ
commit_steps refs r number =
    option_map_or (steps_to_commit number) (slice_get refs.references r) 0
