use Rattle.std.proofs.Common.{◌≡◌, ◌∷◌, true, sym, ◌∙◌, rules}
use Rattle.hx_sample.specs.Keys.{hits}
use Rattle.hx_sample.specs.Seen.{value_of}
use Rattle.hx_sample.specs.Tables.{entry_of}
use Rattle.hx_trace.proofs.ScanLemmas.{leaves_better}
use Rattle.hx_trace.proofs.scanning.scan.Goals as goal

pub loop-entry-preserved-then-branch : goal.loop-entry-preserved-then-branch
loop-entry-preserved-then-branch c =
    let here : c.loop-entry.left ≡ entry_of c.in-Some.entry ∷ c.next.new.self = search rules in
    let hit : hits c.args.by c.args.ci c.in-Some.entry.key.now (value_of c.args.sample.now) ≡ true =
    sym c.in_ok-key_hits.ensures ∙ c.if-branch.true in
    rw c.better.ensures
    (leaves_better c.args.by c.args.ci (value_of c.args.sample.now) _ _ _ (entry_of c.in-Some.entry) hit
    (rw here at c.loop-entry.invariant))
