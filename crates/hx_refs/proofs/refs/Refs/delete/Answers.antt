use Rattle.std.proofs.lemmas.List.{length-map}
use Rattle.std.proofs.Common.{ap, sym, ◌∙◌}
use Rattle.std.proofs.lemmas.Result.{on_ok_weaker}
use Rattle.hx_sample.specs.Changes.{without_chosen}
use Rattle.hx_refs.specs.Changes.{answer, deletion_fault, with_entries}
use Rattle.hx_versions.specs.Versions.{is_chosen}
use Rattle.hx_refs.specs.Kept.{table_heads}
use Rattle.hx_refs.proofs.KeptLemmas.{fault_shown}
use Rattle.hx_refs.proofs.NameLemmas.{entries_keep}
use Rattle.hx_refs.proofs.KeptLemmas.{content_after, kept_after_answer}
use Rattle.hx_refs.proofs.refs.Refs.delete.Goals as goal

pub invariant_of-self : goal.invariant_of-self
invariant_of-self c = record {
  all = kept_after_answer c.delete.result (table_heads c.self.inside.heads.items) c.self.inside.kept c.delete.new.self c.args.r (with_entries c.args.ver (without_chosen (is_chosen c.args.choice.now))) (entries_keep c.args.ver (without_chosen (is_chosen c.args.choice.now)))
      c.delete.ensures.ok c.delete.ensures.err c.self.invariant.all;
  placed = c.self.invariant.placed;
}

pub returns-clause-ok : goal.returns-clause-ok
returns-clause-ok c =
    rw (← c.self.view_is)
    (on_ok_weaker c.delete.result
    (content_after c.self.inside.limits c.self.inside.first (table_heads c.self.inside.heads.items) c.self.inside.kept.kept c.delete.new.self.kept c.args.r (with_entries c.args.ver (without_chosen (is_chosen c.args.choice.now))))
    c.delete.ensures.ok)

pub returns-clause-answer : goal.returns-clause-answer
returns-clause-answer c =
    rw (← c.self.view_is)
    (c.delete.ensures.answer
    ∙ ap (answer tt) (sym (fault_shown c.self.inside.limits c.self.inside.first (table_heads c.self.inside.heads.items) c.self.inside.kept.kept c.args.r (deletion_fault c.args.ver (is_chosen c.args.choice.now)))))

pub delete-requires : goal.delete-requires
delete-requires c = rw (length-map c.self.inside.kept.kept (λ k. k.shown)) at (rw (← c.self.view_is) at c.requires)
