use Rattle.std.proofs.Common.{ap, arith, length, sym, ◌∙◌}
use Rattle.std.proofs.lemmas.List.{length-map}
use Rattle.std.proofs.lemmas.Result.{IfErr-weaker, IfOk-weaker, on_ok_weaker}
use Rattle.hx_refs.specs.Additions.{PairsAskFor}
use Rattle.hx_refs.specs.Kept.{kept_demands, stored_last}
use Rattle.hx_versions.specs.NewEntries.{added_entry}
use Rattle.hx_refs.proofs.AdditionLemmas.{asked_wider}
use Rattle.hx_refs.proofs.ChangeLemmas.{added_seen, asked_seen, fault_seen, few_seen, holds_here, if_ok_both, ok_of_each, seen_here}
use Rattle.hx_refs.proofs.FilledLemmas.{row_within, seen_from, filled_length}
use Rattle.hx_refs.proofs.ReferenceLemmas.{length-new_entries}
use Rattle.hx_refs.proofs.kept_references.KeptReferences.judged.Goals as goal

pub filling-count-requires-clause-row : goal.filling-count-requires-clause-row
filling-count-requires-clause-row g c =
    row_within c.self.inside.references.items c.self.inside.store c.args.r (rw (← c.self.view_is) at c.requires.r) c.self.invariant

pub returns-clause-entries : goal.returns-clause-entries
returns-clause-entries g c =
    let kept = c.self.inside.references.items in
    let store = c.self.inside.store in
    let k = c.index-reference.result.now in
    let requires = rw (← c.self.view_is) at c.requires.r in
    let here = holds_here kept store c.args.r k requires c.index-reference.ensures c.self.invariant in
    let has = (rw (← c.self.view_is) at c.requires.version) _ (seen_here kept store c.args.r k requires c.index-reference.ensures c.self.invariant) in
    let count = c.filling-count.ensures.count k.stored_first (stored_last k) here.numbers in
    let serial = c.filling-count.ensures.serial k.stored_first (stored_last k) here.numbers in
    if_ok_both c.new_entries.result
    (λ added are last seen is. added_seen kept store c.args.r k requires c.index-reference.ensures c.self.invariant c.args.number c.stored_number-stored.result c.filling-count.result.1 added.serial c.args.pairs.now _ seen has c.stored_number-stored.ensures serial (rw (← c.self.view_is) at is) are last)
    c.new_entries.ensures.entries c.new_entries.ensures.serial

pub returns-clause-ready : goal.returns-clause-ready
returns-clause-ready g c =
    let kept = c.self.inside.references.items in
    let store = c.self.inside.store in
    let k = c.index-reference.result.now in
    let requires = rw (← c.self.view_is) at c.requires.r in
    let here = holds_here kept store c.args.r k requires c.index-reference.ensures c.self.invariant in
    let has = (rw (← c.self.view_is) at c.requires.version) _ (seen_here kept store c.args.r k requires c.index-reference.ensures c.self.invariant) in
    let count = c.filling-count.ensures.count k.stored_first (stored_last k) here.numbers in
    let serial = c.filling-count.ensures.serial k.stored_first (stored_last k) here.numbers in
    IfOk-weaker c.new_entries.result _ _
    (λ added ready seen is. rw (seen_from kept store c.args.r k seen requires c.index-reference.ensures (rw (← c.self.view_is) at is)) ready)
    c.new_entries.ensures.ready

pub returns-clause-few : goal.returns-clause-few
returns-clause-few g c =
    let kept = c.self.inside.references.items in
    let store = c.self.inside.store in
    let k = c.index-reference.result.now in
    let requires = rw (← c.self.view_is) at c.requires.r in
    let here = holds_here kept store c.args.r k requires c.index-reference.ensures c.self.invariant in
    let has = (rw (← c.self.view_is) at c.requires.version) _ (seen_here kept store c.args.r k requires c.index-reference.ensures c.self.invariant) in
    let count = c.filling-count.ensures.count k.stored_first (stored_last k) here.numbers in
    let serial = c.filling-count.ensures.serial k.stored_first (stored_last k) here.numbers in
    if_ok_both c.new_entries.result
    (λ added are few seen is.
    let many = sym (length-map added.entries.items added_entry) ∙ ap length are ∙ length-new_entries c.args.number c.filling-count.result.1 c.args.pairs.now in
    few_seen kept store c.args.r k requires c.index-reference.ensures c.self.invariant c.args.number c.stored_number-stored.result c.filling-count.result.0 (length added.entries.items) _ seen has c.stored_number-stored.ensures count (rw (← c.self.view_is) at is) (rw (← many) at few))
    c.new_entries.ensures.entries (ok_of_each _ c.new_entries.result c.new_entries.ensures.few)

pub returns-clause-none : goal.returns-clause-none
returns-clause-none g c =
    let kept = c.self.inside.references.items in
    let store = c.self.inside.store in
    let k = c.index-reference.result.now in
    let requires = rw (← c.self.view_is) at c.requires.r in
    let here = holds_here kept store c.args.r k requires c.index-reference.ensures c.self.invariant in
    let has = (rw (← c.self.view_is) at c.requires.version) _ (seen_here kept store c.args.r k requires c.index-reference.ensures c.self.invariant) in
    let count = c.filling-count.ensures.count k.stored_first (stored_last k) here.numbers in
    let serial = c.filling-count.ensures.serial k.stored_first (stored_last k) here.numbers in
    on_ok_weaker c.new_entries.result
    (λ none seen is. fault_seen kept store c.args.r k requires c.index-reference.ensures c.self.invariant c.args.limits c.args.number c.stored_number-stored.result c.filling-count.result.0 c.filling-count.result.1 c.args.pairs.now seen has c.stored_number-stored.ensures count serial (rw (← c.self.view_is) at is) ∙ none)
    c.new_entries.ensures.none

pub returns-clause-refused : goal.returns-clause-refused
returns-clause-refused g c =
    let kept = c.self.inside.references.items in
    let store = c.self.inside.store in
    let k = c.index-reference.result.now in
    let requires = rw (← c.self.view_is) at c.requires.r in
    let here = holds_here kept store c.args.r k requires c.index-reference.ensures c.self.invariant in
    let has = (rw (← c.self.view_is) at c.requires.version) _ (seen_here kept store c.args.r k requires c.index-reference.ensures c.self.invariant) in
    let count = c.filling-count.ensures.count k.stored_first (stored_last k) here.numbers in
    let serial = c.filling-count.ensures.serial k.stored_first (stored_last k) here.numbers in
    IfErr-weaker c.new_entries.result _ _
    (λ fault may seen is. rw (fault_seen kept store c.args.r k requires c.index-reference.ensures c.self.invariant c.args.limits c.args.number c.stored_number-stored.result c.filling-count.result.0 c.filling-count.result.1 c.args.pairs.now seen has c.stored_number-stored.ensures count serial (rw (← c.self.view_is) at is)) may)
    c.new_entries.ensures.refused

pub returns-clause-large : goal.returns-clause-large
returns-clause-large g c seen is =
    let kept = c.self.inside.references.items in
    let store = c.self.inside.store in
    let k = c.index-reference.result.now in
    let requires = rw (← c.self.view_is) at c.requires.r in
    let here = holds_here kept store c.args.r k requires c.index-reference.ensures c.self.invariant in
    let has = (rw (← c.self.view_is) at c.requires.version) _ (seen_here kept store c.args.r k requires c.index-reference.ensures c.self.invariant) in
    let count = c.filling-count.ensures.count k.stored_first (stored_last k) here.numbers in
    let serial = c.filling-count.ensures.serial k.stored_first (stored_last k) here.numbers in
    asked_wider c.new_entries.result
    (PairsAskFor (kept_demands k.kept c.args.limits) c.filling-count.result.0 c.filling-count.result.1 c.args.pairs.now)
    _ _ _ (asked_seen kept store c.args.r k requires c.index-reference.ensures c.self.invariant c.args.limits c.args.number c.stored_number-stored.result c.filling-count.result.0 c.filling-count.result.1 c.args.pairs.now seen has c.stored_number-stored.ensures count serial (rw (← c.self.view_is) at is))
    c.new_entries.ensures.large

pub index-reference-requires : goal.index-reference-requires
index-reference-requires g c =
    omega (arith, rw (← c.self.view_is) at c.requires.r, filled_length c.self.inside.references.items c.self.inside.store.rows, c.self.inside.references.ok.0)

pub stored_number-stored-requires : goal.stored_number-stored-requires
stored_number-stored-requires g c =
    (rw (← c.self.view_is) at c.requires.version) _ (seen_here c.self.inside.references.items c.self.inside.store c.args.r c.index-reference.result.now (rw (← c.self.view_is) at c.requires.r) c.index-reference.ensures c.self.invariant)
