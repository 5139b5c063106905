use Rattle.std.proofs.Common.{◌≡◌, true}
use Rattle.std.specs.Prelude.{None}
use Rattle.std.proofs.lemmas.List.{length-map}
use Rattle.std.proofs.lemmas.Result.{on_ok_weaker}
use Rattle.hx_sample.specs.Changes.{change_of, is_fit}
use Rattle.hx_refs.specs.References.{version_entries}
use Rattle.hx_refs.proofs.TableLemmas.{changed_lists}
use Rattle.hx_refs.proofs.refs.RefsTables.change.Goals as goal

pub returns-clause-lists : goal.returns-clause-lists
returns-clause-lists g c =
    let asked = change_of c.args.change in
    let within = rw (length-map c.args.self.now.content.references (λ reference. version_entries reference None)) at c.requires.table in
    let fit : is_fit asked ≡ true = cc (c.is_fit.ensures, c.if-not-is_fit.false) in
    on_ok_weaker c.change_fit.result
    (λ after. changed_lists c.args.self.now.content c.change_fit.new.self.content c.args.table asked within fit after)
    c.change_fit.ensures.ok
