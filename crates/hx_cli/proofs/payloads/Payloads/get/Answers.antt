use Rattle.std.proofs.Common.{ap, sym, ◌∙◌}
use Rattle.std.proofs.lemmas.Cmp.{nat_cmp_total}
use Rattle.std.specs.FinMap as finite
use Rattle.hx_sample.proofs.MapLemmas.{answers_alike}
use Rattle.hx_cli.proofs.payloads.Payloads.get.Goals as goal

pub returns : goal.returns
returns c =
    c.get.ensures.value ∙ sym (answers_alike nat_cmp_total c.self.inside.payloads c.args.session)
    ∙ ap (λ payloads. finite.get payloads c.args.session) c.self.view_is
