use Rattle.std.proofs.Common.{ap, ◌∙◌, arith}
use Rattle.std.specs.List.{list_any}
use Rattle.hx_refs.specs.Kept.{stored_last}
use Rattle.hx_versions.specs.Versions.{is_chosen}
use Rattle.hx_refs.proofs.ChangeLemmas.{entries_seen, holds_here}
use Rattle.hx_refs.proofs.FilledLemmas.{row_within, filled_length}
use Rattle.hx_refs.proofs.kept_references.KeptReferences.has_chosen.Goals as goal

pub has_chosen-requires-clause-row : goal.has_chosen-requires-clause-row
has_chosen-requires-clause-row c =
    row_within c.self.inside.references.items c.self.inside.store c.args.r (rw (← c.self.view_is) at c.requires) c.self.invariant

pub returns : goal.returns
returns c seen is =
    let kept = c.self.inside.references.items in
    let k = c.index-reference.result.now in
    let requires = rw (← c.self.view_is) at c.requires in
    let here = holds_here kept c.self.inside.store c.args.r k requires c.index-reference.ensures c.self.invariant in
    c.has_chosen.ensures k.stored_first (stored_last k) here.numbers
    ∙ ap (list_any (is_chosen c.args.choice.now))
    (entries_seen kept c.self.inside.store c.args.r k requires c.index-reference.ensures c.self.invariant c.args.ver c.stored_or_unused-stored.result seen
    c.stored_or_unused-stored.ensures.some c.stored_or_unused-stored.ensures.none (rw (← c.self.view_is) at is))

pub index-reference-requires : goal.index-reference-requires
index-reference-requires c =
    omega (arith, rw (← c.self.view_is) at c.requires, filled_length c.self.inside.references.items c.self.inside.store.rows, c.self.inside.references.ok.0)
