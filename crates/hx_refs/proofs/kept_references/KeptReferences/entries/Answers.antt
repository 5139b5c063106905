use Rattle.std.proofs.Common.{◌∙◌, arith}
use Rattle.hx_refs.specs.Kept.{stored_last}
use Rattle.hx_refs.proofs.ChangeLemmas.{entries_seen, holds_here}
use Rattle.hx_refs.proofs.FilledLemmas.{row_within, filled_length}
use Rattle.hx_refs.proofs.kept_references.KeptReferences.entries.Goals as goal

pub entries-requires-clause-row : goal.entries-requires-clause-row
entries-requires-clause-row c =
    row_within c.self.inside.references.items c.self.inside.store c.args.r (rw (← c.self.view_is) at c.requires) c.self.invariant

pub returns : goal.returns
returns c seen is =
    let kept = c.self.inside.references.items in
    let k = c.index-reference.result.now in
    let requires = rw (← c.self.view_is) at c.requires in
    let here = holds_here kept c.self.inside.store c.args.r k requires c.index-reference.ensures c.self.invariant in
    c.entries.ensures k.stored_first (stored_last k) here.numbers
    ∙ entries_seen kept c.self.inside.store c.args.r k requires c.index-reference.ensures c.self.invariant c.args.ver c.stored_or_unused-stored.result seen
    c.stored_or_unused-stored.ensures.some c.stored_or_unused-stored.ensures.none (rw (← c.self.view_is) at is)

pub index-reference-requires : goal.index-reference-requires
index-reference-requires c =
    omega (arith, rw (← c.self.view_is) at c.requires, filled_length c.self.inside.references.items c.self.inside.store.rows, c.self.inside.references.ok.0)
