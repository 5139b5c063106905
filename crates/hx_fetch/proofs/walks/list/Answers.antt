use Rattle.std.proofs.Common.{◌∙◌, ap}
use Rattle.std.specs.Option.{option_to_list}
use Rattle.hx_fetch.specs.Fetches.{text_occurrences}
use Rattle.hx_fetch.specs.Views.{source_texts}
use Rattle.hx_fetch.proofs.ListLemmas.{few_by_count}
use Rattle.hx_fetch.proofs.walks.list.Goals as goal

pub returns-then-count-le1-clause-value : goal.returns-then-count-le1-clause-value
returns-then-count-le1-clause-value c =
    let texts = source_texts c.args.source in
    let first = ap option_to_list c.nth.ensures ∙ few_by_count texts _ c.text_count-count.ensures c.if-count-le1.true in
    c.lone.ensures ∙ ap (text_occurrences c.args.kind) first
