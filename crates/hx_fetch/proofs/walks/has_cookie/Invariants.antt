use Rattle.std.proofs.Common.{◌≡◌, is_some}
use Rattle.std.specs.Prelude.{slice_get}
use Rattle.std.specs.List.{flat_map}
use Rattle.std.specs.Option.{option_copied}
use Rattle.hx_lists.specs.NamedValues.{cookies}
use Rattle.hx_fetch.specs.Names.{cookie_values}
use Rattle.hx_fetch.specs.Views.{values_under}
use Rattle.hx_fetch.proofs.walks.has_cookie.Given as goal

abbrev pub invariant-loop-line : goal.invariant-loop-line
invariant-loop-line l =
    is_some (slice_get (values_under (option_copied l.name) (flat_map cookies l.line-iterator)) 0) ≡ is_some (slice_get (cookie_values (option_copied l.name) l.message) 0)
