use Rattle.std.proofs.Common.{◌≡◌, ap, ◌∙◌}
use Rattle.hx_refs.specs.References.{RefsState}
use Rattle.hx_trace.proofs.plain_explainer.explained_by_scans.Goals as goal

-- the tables begin as the references were
pub returns-clause-cause : goal.returns-clause-cause
returns-clause-cause g c =
    let same : c.over-tables.result ≡ c.args.refs.now.content =
    c.over-tables.ensures ∙ ap (λ (now : RefsState). now.content) c.replace-own.ensures.value in
    rw (← same) c.in_ok-told.ensures.cause
