use Rattle.std.proofs.Common.{◌∙◌}
use Rattle.hx_refs.specs.Additions.{new_entries, pairs_fault, PairsAskFor}
use Rattle.hx_refs.specs.Kept.{kept_demands}
use Rattle.hx_versions.specs.NewEntries.{added_entries, added_entry}
use Rattle.hx_versions.specs.Rows.{use_ways}
use Rattle.hx_refs.proofs.NewEntryLemmas.{asked_left, entries_left, fault_left, fewer_left}
use Rattle.hx_refs.proofs.judging.new_entries.Goals as goal

pub loop-rest-preserved : goal.loop-rest-preserved
loop-rest-preserved g c =
    let rest = c.loop-rest.rest.now in
    let pair = c.pair-item.result in
    let some = c.in-len1-up.len_at_least in
    let is = c.pair-item.is in
    let was = c.loop-rest.invariant in
    let entry = c.in_ok-entry.ensures in
    let demands = kept_demands c.args.reference.now.kept c.args.limits in
    record {
      entries = entries_left rest pair some is c.args.version c.loop-rest.serial (added_entry c.in_ok-entry.entry) (added_entries c.loop-rest.entries.items) (added_entries c.push_entry.new.entries.items) (new_entries c.args.version c.args.serial c.args.pairs.now) c.in_ok-push_entry.ensures.shown entry.entry was.entries;
      count = fewer_left rest pair some is c.loop-rest.count _ was.count;
      serial = fewer_left rest pair some is c.loop-rest.serial _ was.serial;
      ready = c.in_ok-push_entry.ensures.ready (use_ways c.args.reference.now.kept.uses) was.ready entry.ready;
      fault = fault_left rest pair some is demands c.loop-rest.count c.loop-rest.serial (pairs_fault demands c.args.count c.args.serial c.args.pairs.now) entry.none was.fault;
      asked = asked_left rest pair some is demands c.loop-rest.count c.loop-rest.serial (PairsAskFor demands c.args.count c.args.serial c.args.pairs.now) entry.none was.asked;
      too_large = entry.large.0 ∙ was.too_large;
      large = entry.large.1 ∙ was.large;
    }
