use Rattle.std.proofs.lemmas.List.{length-map}
use Rattle.std.proofs.Common.{refl}
use Rattle.hx_refs.specs.References.{with_output, Reference}
use Rattle.hx_refs.specs.Kept.{table_heads}
use Rattle.hx_refs.proofs.KeptLemmas.{content_after, kept_after_change}
use Rattle.hx_refs.proofs.refs.Refs.add_out.Goals as goal

pub invariant_of-self : goal.invariant_of-self
invariant_of-self c = record {
  all = rw c.add_out.ensures
      (kept_after_change (table_heads c.self.inside.heads.items) c.self.inside.kept.kept c.args.r
      (λ (old : Reference). record old { outputs = with_output c.args.out old.outputs }) (λ x. (refl, refl)) c.self.invariant.all);
  placed = c.self.invariant.placed;
}

pub returns-clause-ok : goal.returns-clause-ok
returns-clause-ok c =
    rw (← c.self.view_is)
    (content_after c.self.inside.limits c.self.inside.first (table_heads c.self.inside.heads.items) c.self.inside.kept.kept c.add_out.new.self.kept c.args.r
    (λ (old : Reference). record old { outputs = with_output c.args.out old.outputs }) c.add_out.ensures)

pub add_out-requires : goal.add_out-requires
add_out-requires c = rw (length-map c.self.inside.kept.kept (λ k. k.shown)) at (rw (← c.self.view_is) at c.requires.r)
