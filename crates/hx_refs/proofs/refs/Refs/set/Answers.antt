use Rattle.std.proofs.lemmas.List.{length-map}
use Rattle.std.proofs.lemmas.Result.{on_ok_weaker}
use Rattle.std.proofs.Common.{map}
use Rattle.hx_sample.specs.Changes.{with_value}
use Rattle.hx_refs.specs.Changes.{value_fault, with_entries}
use Rattle.hx_versions.specs.Versions.{is_chosen}
use Rattle.hx_refs.specs.Kept.{table_heads}
use Rattle.hx_refs.proofs.KeptLemmas.{fault_shown}
use Rattle.hx_refs.proofs.NameLemmas.{entries_keep}
use Rattle.hx_refs.proofs.KeptLemmas.{content_after, kept_after_answer}
use Rattle.hx_refs.proofs.refs.Refs.set.Goals as goal

pub invariant_of-self : goal.invariant_of-self
invariant_of-self c = record {
  all = kept_after_answer c.set.result (table_heads c.self.inside.heads.items) c.self.inside.kept c.set.new.self c.args.r (with_entries c.args.ver (map (with_value (is_chosen c.args.choice.now) c.args.value.now))) (entries_keep c.args.ver (map (with_value (is_chosen c.args.choice.now) c.args.value.now)))
      c.set.ensures.ok c.set.ensures.kept c.self.invariant.all;
  placed = c.self.invariant.placed;
}

pub returns-clause-ok : goal.returns-clause-ok
returns-clause-ok c =
    rw (← c.self.view_is)
    (on_ok_weaker c.set.result
    (content_after c.self.inside.limits c.self.inside.first (table_heads c.self.inside.heads.items) c.self.inside.kept.kept c.set.new.self.kept c.args.r (with_entries c.args.ver (map (with_value (is_chosen c.args.choice.now) c.args.value.now))))
    c.set.ensures.ok)

pub returns-clause-none : goal.returns-clause-none
returns-clause-none c =
    rw (← c.self.view_is)
    (rw (fault_shown c.self.inside.limits c.self.inside.first (table_heads c.self.inside.heads.items) c.self.inside.kept.kept c.args.r (value_fault c.args.ver (is_chosen c.args.choice.now) c.args.value.now))
    c.set.ensures.none)

pub returns-clause-refused : goal.returns-clause-refused
returns-clause-refused c =
    rw (← c.self.view_is)
    (rw (fault_shown c.self.inside.limits c.self.inside.first (table_heads c.self.inside.heads.items) c.self.inside.kept.kept c.args.r (value_fault c.args.ver (is_chosen c.args.choice.now) c.args.value.now))
    c.set.ensures.refused)

pub set-requires : goal.set-requires
set-requires c = rw (length-map c.self.inside.kept.kept (λ k. k.shown)) at (rw (← c.self.view_is) at c.requires)
