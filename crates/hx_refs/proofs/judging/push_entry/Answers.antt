use Rattle.std.proofs.Common.{[], ◌∷◌}
use Rattle.std.proofs.lemmas.List.{map-append}
use Rattle.hx_versions.specs.NewEntries.{added_entry}
use Rattle.hx_refs.proofs.AdditionLemmas.{all_ready}
use Rattle.hx_refs.proofs.judging.push_entry.Goals as goal

pub returns-clause-shown : goal.returns-clause-shown
returns-clause-shown c =
    rw c.in_ok-push.ensures.items (map-append added_entry c.args.entries.now.items (c.args.entry ∷ []))

pub returns-clause-ready : goal.returns-clause-ready
returns-clause-ready c ways ready is =
    rw c.in_ok-push.ensures.items (all_ready ways c.args.entries.now.items c.args.entry ready is)
