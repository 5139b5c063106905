use Rattle.std.proofs.Common.{◌∙◌, ap, sym, Some, None}
use Rattle.std.specs.Option.{option_copied}
use Rattle.hx_fetch.specs.Fetches.{takes_last, occurrences_of}
use Rattle.hx_fetch.specs.Picks.{selection_end}
use Rattle.hx_fetch.specs.Views.{source_texts}
use Rattle.hx_fetch.specs.World.{context_of}
use Rattle.hx_fetch.proofs.StepLemmas.{end_is}
use Rattle.hx_fetch.proofs.fetching.chosen_text.Goals as goal

pub returns-in-Some : goal.returns-in-Some
returns-in-Some c =
    let query = c.text_query-query.result in
    let texts = source_texts query.source in
    let occurrences = occurrences_of c.args.fetch.now (context_of c.args.world.now) in
    let last = takes_last c.args.fetch.now in
    let text = sym (ap option_copied c.in-Some.is) ∙ c.pick_end.ensures ∙ ap (λ b. selection_end b query.at texts) c.takes_last.ensures in
    c.read_text.ensures ∙ end_is last query.at query.kind texts occurrences (Some c.in-Some.text.now) c.text_query-query.ensures text

pub returns-in-None : goal.returns-in-None
returns-in-None c =
    let query = c.text_query-query.result in
    let texts = source_texts query.source in
    let occurrences = occurrences_of c.args.fetch.now (context_of c.args.world.now) in
    let last = takes_last c.args.fetch.now in
    let text = sym (ap option_copied c.in-None.is) ∙ c.pick_end.ensures ∙ ap (λ b. selection_end b query.at texts) c.takes_last.ensures in
    end_is last query.at query.kind texts occurrences None c.text_query-query.ensures text
