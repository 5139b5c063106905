use Rattle.std.proofs.Common.{sym, ap, ◌∙◌}
use Rattle.hx_match.specs.Patterns.{PatternText, pattern_network}
use Rattle.hx_text.specs.declared.kinds.By.{By}
use Rattle.hx_index.specs.Parts.{pattern_key}
use Rattle.hx_index.proofs.FindingLemmas.{has_width, if_ok, other_key}
use Rattle.hx_index.proofs.prepared.pattern_key.Goals as goal

pub network_key-requires : goal.network_key-requires
network_key-requires c net some =
    let shown = ap (λ (t : PatternText). pattern_network t.by t.text) c.requires ∙ ap (λ (m : By). pattern_network m c.args.text.now) c.in-Ip.is in
    has_width c.args.text.now net (sym shown ∙ sym c.network.ensures ∙ some)

pub returns-in_default-clause-key : goal.returns-in_default-clause-key
returns-in_default-clause-key c =
    if_ok c.no_key.result _ _ (λ key e. e ∙ sym (ap pattern_key c.requires ∙ other_key c.args.by c.args.ci c.args.text.now c.in_default.not-Str c.in_default.not-Beg c.in_default.not-Ip)) c.no_key.ensures
