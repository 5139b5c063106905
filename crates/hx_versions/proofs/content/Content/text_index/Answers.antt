use Rattle.std.proofs.Common.{◌≡◌, ◌<◌, length, sym, subst, ◌∙◌, arith}
use Rattle.hx_versions.specs.Contents.{KeepsTextsAt, ways_of}
use Rattle.hx_versions.proofs.KeyLemmas.{is_within, keeps_here, none_first, none_more}
use Rattle.hx_versions.proofs.content.Content.text_index.Goals as goal

pub loop-at-init : goal.loop-at-init
loop-at-init c = none_first (ways_of c.args.self.now.indexes.items)

pub loop-at-preserved : goal.loop-at-preserved
loop-at-preserved c =
    let indexes = c.args.self.now.indexes.items in
    let within : c.loop-at.at < length indexes =
    omega (arith, c.loop-at-test.true, c.len-at-end.ensures, c.args.self.now.indexes.ok.0) in
    none_more indexes c.loop-at.at c.index-index.result.now within c.index-index.ensures
    (sym c.keeps_texts.ensures ∙ c.if-keeps_texts.false) c.loop-at.invariant

pub returns-then-keeps_texts-clause-some : goal.returns-then-keeps_texts-clause-some
returns-then-keeps_texts-clause-some c at is =
    let indexes = c.args.self.now.indexes.items in
    let here = c.loop-at.at in
    let same : here ≡ at = cc in
    let within : here < length indexes =
    omega (arith, c.loop-at-test.true, c.len-at-end.ensures, c.args.self.now.indexes.ok.0) in
    subst (KeepsTextsAt (ways_of indexes)) same
    (keeps_here indexes here c.index-index.result.now within c.index-index.ensures (sym c.keeps_texts.ensures ∙ c.if-keeps_texts.true))

pub returns-clause-none : goal.returns-clause-none
returns-clause-none c is at keeps =
    let indexes = c.args.self.now.indexes.items in
    let within = is_within indexes at keeps in
    c.loop-at.invariant at (omega (arith, within, c.loop-at-test.false, c.len-at-end.ensures, c.args.self.now.indexes.ok.0)) keeps
