use Rattle.std.proofs.Common.{sym, ◌∙◌}
use Rattle.std.proofs.lemmas.Option.{same_Some}
use Rattle.hx_text.proofs.GrammarLemmas.{ip_unique}
use Rattle.hx_text.proofs.laws.one_address.Goals as goal

pub returns : goal.returns
returns c =
    λ a b h k. same_Some a b (sym (ip_unique c.args.text.now a h) ∙ ip_unique c.args.text.now b k)
