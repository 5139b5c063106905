use Rattle.std.proofs.Common.{◌≤◌, refl, sym, ap, subst, ◌∙◌, arith}
use Rattle.hx_pool.specs.Chain.{links_at}
use Rattle.hx_versions.specs.declared.stored_version.StoredVersion.{StoredVersion}
use Rattle.hx_versions.specs.StoredVersions.{version_links}
use Rattle.hx_versions.specs.Store.{version_slots_of}
use Rattle.hx_versions.proofs.CountWalkLemmas.{first_at, none_at, none_left}
use Rattle.hx_versions.proofs.IndexListLemmas.{some_same}
use Rattle.hx_versions.proofs.LoweringLemmas.{lower_above, lower_begins, lower_ends, lower_has, lower_keeps, lower_lies, lower_live, lower_on, lowered_all}
use Rattle.hx_versions.proofs.RowLemmas.{keeps_versions_on, keeps_versions_self}
use Rattle.hx_versions.proofs.lowering.lower_in.Goals as goal

pub loop-passed-init : goal.loop-passed-init
loop-passed-init g c = record {
  lowered = λ owner vs h.
      lower_begins c.args.by c.args.pools.now owner c.args.row.now vs c.front-at.result (c.front-at.ensures (links_at version_links c.args.pools.now.versions) (version_slots_of vs) h.chain) h;
  others = λ owner vs h theirs differs. keeps_versions_self theirs c.args.pools.now;
  counts = record { versions = refl; spare = refl; entries = refl; nodes = refl };
}

pub next-at-requires : goal.next-at-requires
next-at-requires g c =
    let r = c.requires in
    let i = c.loop-passed in
    let w = i.invariant.lowered r.0 r.1 r.2 in
    let a = first_at c.in-Some.slot w.rest (sym c.in-Some.is ∙ w.here) in
    (version_slots_of (lowered_all c.args.by w.before), version_slots_of a.after, lower_lies c.args.by i.pools r.0 c.args.row.now r.1 i.at i._passed w c.in-Some.slot a)

pub lower_number-requires-clause-live : goal.lower_number-requires-clause-live
lower_number-requires-clause-live g c =
    let r = c.requires in
    let i = c.loop-passed in
    let w = i.invariant.lowered r.0 r.1 r.2 in
    let a = first_at c.in-Some.slot w.rest (sym c.in-Some.is ∙ w.here) in
    lower_live c.args.by i.pools r.0 c.args.row.now r.1 i.at i._passed w c.in-Some.slot a

pub lower_number-requires-clause-above : goal.lower_number-requires-clause-above
lower_number-requires-clause-above g c stored is =
    let r = c.requires in
    let i = c.loop-passed in
    let w = i.invariant.lowered r.0 r.1 r.2 in
    let a = first_at c.in-Some.slot w.rest (sym c.in-Some.is ∙ w.here) in
    let has = lower_has c.args.by i.pools r.0 c.args.row.now r.1 i.at i._passed w c.in-Some.slot a in
    let number = ap (λ (x : StoredVersion). x.number) (some_same stored has.0 (sym is ∙ has.1)) ∙ has.3 in
    subst (λ k. c.args.by ≤ k) (sym number) (lower_above c.args.by i.pools r.0 c.args.row.now r.1 i.at i._passed w c.in-Some.slot a r.3)

pub loop-passed-preserved : goal.loop-passed-preserved
loop-passed-preserved g c =
    let i = c.loop-passed in
    let step = c.lower_number in
    record {
      lowered = λ owner vs h.
          let row = c.args.row.now in
          let slot = c.in-Some.slot in
          let w = i.invariant.lowered owner vs h in
          let a = first_at slot w.rest (sym c.in-Some.is ∙ w.here) in
          let has = lower_has c.args.by i.pools owner row vs i.at i._passed w slot a in
          lower_on c.args.by i.pools owner row vs i.at i._passed w slot a step.new.versions (step.ensures.lowered has.0 has.1) c.next-at.result
          (c.next-at.ensures.next (version_slots_of (lowered_all c.args.by w.before)) (version_slots_of a.after) (lower_lies c.args.by i.pools owner row vs i.at i._passed w slot a));
      others = λ owner vs h theirs differs.
          let row = c.args.row.now in
          let slot = c.in-Some.slot in
          let w = i.invariant.lowered owner vs h in
          let a = first_at slot w.rest (sym c.in-Some.is ∙ w.here) in
          let has = lower_has c.args.by i.pools owner row vs i.at i._passed w slot a in
          keeps_versions_on theirs c.args.pools.now i.pools (record i.pools { versions = step.new.versions }) (i.invariant.others owner vs h theirs differs)
          (lower_keeps c.args.by i.pools owner row vs i.at i._passed w slot a step.new.versions (step.ensures.lowered has.0 has.1) theirs differs);
      counts = record {
        versions = step.ensures.live ∙ i.invariant.counts.versions;
        spare = step.ensures.spare ∙ i.invariant.counts.spare;
        entries = i.invariant.counts.entries;
        nodes = i.invariant.counts.nodes;
      };
    }

pub returns-in_default-clause-lowered : goal.returns-in_default-clause-lowered
returns-in_default-clause-lowered g c owner vs h =
    let i = c.loop-passed in
    let w = i.invariant.lowered owner vs h in
    lower_ends c.args.by i.pools owner c.args.row.now vs i.at i._passed w (none_at w.rest (sym c.in_default.is ∙ w.here))

pub returns-clause-lowered : goal.returns-clause-lowered
returns-clause-lowered g c owner vs h =
    let i = c.loop-passed in
    let w = i.invariant.lowered owner vs h in
    lower_ends c.args.by i.pools owner c.args.row.now vs i.at i._passed w (none_left w.rest (omega (arith, w.left, h.count, c.loop-passed-test.false)))
