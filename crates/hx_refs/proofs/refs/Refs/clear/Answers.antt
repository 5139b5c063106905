use Rattle.std.proofs.lemmas.List.{length-map}
use Rattle.std.proofs.Common.{[]}
use Rattle.hx_refs.specs.Changes.{with_entries}
use Rattle.hx_refs.specs.Kept.{table_heads}
use Rattle.hx_refs.proofs.KeptLemmas.{content_after, kept_after_change}
use Rattle.hx_refs.proofs.NameLemmas.{entries_keep}
use Rattle.hx_refs.proofs.refs.Refs.clear.Goals as goal

pub invariant_of-self : goal.invariant_of-self
invariant_of-self c = record {
  all = rw c.clear.ensures
      (kept_after_change (table_heads c.self.inside.heads.items) c.self.inside.kept.kept c.args.r (with_entries c.args.ver (λ _. []))
      (entries_keep c.args.ver (λ _. [])) c.self.invariant.all);
  placed = c.self.invariant.placed;
}

pub returns : goal.returns
returns c =
    rw (← c.self.view_is)
    (content_after c.self.inside.limits c.self.inside.first (table_heads c.self.inside.heads.items) c.self.inside.kept.kept c.clear.new.self.kept c.args.r
    (with_entries c.args.ver (λ _. [])) c.clear.ensures)

pub clear-requires : goal.clear-requires
clear-requires c = rw (length-map c.self.inside.kept.kept (λ k. k.shown)) at (rw (← c.self.view_is) at c.requires)
