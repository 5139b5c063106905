use Rattle.std.proofs.Common.{rules, ◌≡◌, ◌∙◌}
use Rattle.hx_calls.specs.KnownView.{tables_of}
use Rattle.hx_calls.specs.TableSpecs.{ReferenceSpecs}
use Rattle.hx_calls.proofs.TableSpecLemmas.{tables_same}
use Rattle.hx_calls.proofs.known.Knowledge.into_tables.Goals as goal

pub returns : goal.returns
returns c =
    let tables : ReferenceSpecs = c.new.result in
    let built : tables ≡ tables_of c.args.self = search rules in
    built ∙ tables_same c.args.self
