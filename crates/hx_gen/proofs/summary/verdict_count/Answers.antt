use Rattle.std.proofs.Common.{◌==◌, rules, ◌∙◌}
use borrow.Author.Tests.{tests}
use Rattle.std.proofs.lemmas.Iterator.Consumers.{YieldsList-from_filter, YieldsList-at, count_from_yields_List}
use Rattle.std.proofs.lemmas.Iterator.Splits.{YieldsList-from_slice_split}
use Rattle.std.proofs.lemmas.List.Sums.{length-filter}
use Rattle.hx_base.specs.Bytes.{ascii}
use Rattle.hx_text.specs.Cut.{pieces}
use Rattle.hx_gen.specs.Summary.{has_verdict}
use Rattle.hx_gen.proofs.summary.verdict_count.Goals as goal

pub returns : goal.returns
returns c =
    count_from_yields_List c.filter.result _ c.count.ensures.ran
    (YieldsList-from_filter _ (has_verdict c.args.verdict.now)
    (YieldsList-at c.filter.ensures.source
    (YieldsList-from_slice_split _ (λ b. b == ascii "\n") c.args.answers.now
    c.split.ensures.rest c.split.ensures.done c.split.ensures.closure
    (λ x r q k. search (rules, tests))))
    c.filter.ensures.closure (λ x r q k. search (rules, tests)))
    ∙ length-filter (has_verdict c.args.verdict.now) (pieces (ascii "\n") c.args.answers.now)
