use Rattle.std.proofs.lemmas.Result.{on_ok_weaker}
use Rattle.std.proofs.lemmas.List.{length-map}
use Rattle.std.proofs.lemmas.Result.{IfErr-weaker}
use Rattle.hx_refs.specs.Additions.{with_pairs, VersionAsksFor}
use Rattle.hx_refs.specs.Kept.{kept_demands, table_heads}
use Rattle.hx_refs.specs.References.{version_of}
use Rattle.hx_refs.proofs.AdditionLemmas.{asked_at, asked_wider, fault_at}
use Rattle.hx_refs.proofs.KeptLemmas.{found_within}
use Rattle.hx_refs.proofs.NameLemmas.{pairs_keep}
use Rattle.hx_refs.proofs.KeptLemmas.{content_after, kept_after_answer}
use Rattle.hx_refs.proofs.refs.Refs.add_pairs.Goals as goal

pub invariant_of-self : goal.invariant_of-self
invariant_of-self g c = record {
  all = kept_after_answer c.add.result (table_heads c.self.inside.heads.items) c.self.inside.kept c.add.new.self c.args.r (with_pairs c.args.ver c.args.pairs.now) (pairs_keep c.args.ver c.args.pairs.now)
      c.add.ensures.ok c.add.ensures.kept c.self.invariant.all;
  placed = c.self.invariant.placed;
}

pub returns-clause-ok : goal.returns-clause-ok
returns-clause-ok g c =
    rw (← c.self.view_is)
    (on_ok_weaker c.add.result
    (content_after c.self.inside.limits c.self.inside.first (table_heads c.self.inside.heads.items) c.self.inside.kept.kept c.add.new.self.kept c.args.r (with_pairs c.args.ver c.args.pairs.now))
    c.add.ensures.ok)

pub returns-clause-none : goal.returns-clause-none
returns-clause-none g c =
    let kept = c.self.inside.kept.kept in
    let within = rw (length-map kept (λ k. k.shown)) at (rw (← c.self.view_is) at c.requires) in
    let found = found_within kept c.args.r within in
    rw (← c.self.view_is)
    (rw (fault_at c.self.inside.limits c.self.inside.first (table_heads c.self.inside.heads.items) kept c.args.r found.0 c.args.ver c.args.pairs.now c.self.invariant.all found.1)
    (on_ok_weaker c.add.result (λ none. none found.0 found.1) c.add.ensures.none))

pub returns-clause-refused : goal.returns-clause-refused
returns-clause-refused g c =
    let kept = c.self.inside.kept.kept in
    let within = rw (length-map kept (λ k. k.shown)) at (rw (← c.self.view_is) at c.requires) in
    let found = found_within kept c.args.r within in
    rw (← c.self.view_is)
    (rw (fault_at c.self.inside.limits c.self.inside.first (table_heads c.self.inside.heads.items) kept c.args.r found.0 c.args.ver c.args.pairs.now c.self.invariant.all found.1)
    (IfErr-weaker c.add.result _ _ (λ fault may. may found.0 found.1) c.add.ensures.refused))

pub returns-clause-large : goal.returns-clause-large
returns-clause-large g c =
    let kept = c.self.inside.kept.kept in
    let within = rw (length-map kept (λ k. k.shown)) at (rw (← c.self.view_is) at c.requires) in
    let found = found_within kept c.args.r within in
    rw (← c.self.view_is)
    (asked_wider c.add.result
    (VersionAsksFor (kept_demands found.0 c.self.inside.limits) (version_of found.0.shown c.args.ver) c.args.pairs.now)
    _ _ _
    (asked_at c.self.inside.limits c.self.inside.first (table_heads c.self.inside.heads.items) kept c.args.r found.0 c.args.ver c.args.pairs.now c.self.invariant.all found.1)
    (c.add.ensures.large found.0 found.1))

pub add-requires : goal.add-requires
add-requires g c = rw (length-map c.self.inside.kept.kept (λ k. k.shown)) at (rw (← c.self.view_is) at c.requires)
