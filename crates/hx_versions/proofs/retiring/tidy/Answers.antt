use Rattle.std.proofs.Common.{◌≡◌, ◌≢◌, ℕ, ◌+◌, ◌-◌, ◌≤◌, [], List, refl, sym, ap, subst, ◌∙◌, arith}
use Rattle.hx_versions.specs.Store.{waiting_slots}
use Rattle.hx_versions.proofs.RowLemmas.{keeps_versions_on, keeps_versions_self}
use Rattle.hx_versions.proofs.retiring.tidy.Goals as goal

pub tidy_first-given-requires-clause-wait : goal.tidy_first-given-requires-clause-wait
tidy_first-given-requires-clause-wait g c =
    let w = c.loop-left.invariant.wait c.requires.0 c.requires.1 in (w.0, w.1)

pub loop-left-init : goal.loop-left-init
loop-left-init g c = record {
  most = omega arith;
  wait = λ gone h. (gone, h, omega arith);
  others = λ owner differs. keeps_versions_self owner c.args.pools.now;
  spare = omega arith;
  given = record { total = omega arith; versions = omega arith; entries = omega arith; nodes = omega arith };
}

pub loop-left-preserved : goal.loop-left-preserved
loop-left-preserved g c =
    let i = c.loop-left.invariant in
    let step = c.tidy_first-given in
    record {
      most = omega (arith, i.most);
      wait = λ gone h.
          let w = i.wait gone h in
          let t = step.ensures.wait w.0 w.1 in
          (t.0, t.1, omega (arith, w.2, t.2, i.most, step.ensures.most));
      others = λ owner differs.
          keeps_versions_on owner c.args.pools.now c.loop-left.pools step.new.pools (i.others owner differs) (step.ensures.others owner differs);
      spare = omega (arith, i.spare, step.ensures.spare);
      given = record {
        total = omega (arith, i.given.total, step.ensures.live.total, i.most, step.ensures.most);
        versions = omega (arith, i.given.versions, step.ensures.live.versions);
        entries = omega (arith, i.given.entries, step.ensures.live.entries);
        nodes = omega (arith, i.given.nodes, step.ensures.live.nodes);
      };
    }

pub loop-left-smaller : goal.loop-left-smaller
loop-left-smaller g c = omega (arith, c.if-given-eq0.false, c.tidy_first-given.ensures.most)

pub returns-then-given-eq0-clause-count : goal.returns-then-given-eq0-clause-count
returns-then-given-eq0-clause-count g c gone h =
    let w = c.loop-left.invariant.wait gone h in
    let none = c.tidy_first-given.ensures.none w.0 w.1 (omega (arith, c.if-given-eq0.true)) in
    let left : waiting_slots w.0 ≡ 0 = ap waiting_slots none in
    omega (arith, w.2, left, c.loop-left.invariant.most)

pub returns-then-given-eq0-clause-wait : goal.returns-then-given-eq0-clause-wait
returns-then-given-eq0-clause-wait g c gone h =
    let w = c.loop-left.invariant.wait gone h in
    let t = c.tidy_first-given.ensures.wait w.0 w.1 in
    (t.0, t.1, omega (arith, w.2, t.2, c.if-given-eq0.true))

pub returns-then-given-eq0-clause-others : goal.returns-then-given-eq0-clause-others
returns-then-given-eq0-clause-others g c owner differs =
    keeps_versions_on owner c.args.pools.now c.loop-left.pools c.tidy_first-given.new.pools (c.loop-left.invariant.others owner differs) (c.tidy_first-given.ensures.others owner differs)

pub returns-then-given-eq0-clause-spare : goal.returns-then-given-eq0-clause-spare
returns-then-given-eq0-clause-spare g c =
    omega (arith, c.loop-left.invariant.spare, c.tidy_first-given.ensures.spare)

pub returns-then-given-eq0-clause-live : goal.returns-then-given-eq0-clause-live
returns-then-given-eq0-clause-live g c =
    let i = c.loop-left.invariant.given in
    let step = c.tidy_first-given.ensures.live in
    record {
      total = omega (arith, i.total, step.total, c.if-given-eq0.true);
      versions = omega (arith, i.versions, step.versions);
      entries = omega (arith, i.entries, step.entries);
      nodes = omega (arith, i.nodes, step.nodes);
    }

pub returns-clause-count : goal.returns-clause-count
returns-clause-count g c gone h =
    let w = c.loop-left.invariant.wait gone h in omega (arith, w.2, c.loop-left-test.false)

pub returns-clause-wait : goal.returns-clause-wait
returns-clause-wait g c gone h =
    let w = c.loop-left.invariant.wait gone h in (w.0, w.1, omega (arith, w.2, c.loop-left-test.false))

pub returns-clause-live : goal.returns-clause-live
returns-clause-live g c =
    let i = c.loop-left.invariant.given in
    record {
      total = omega (arith, i.total, c.loop-left-test.false);
      versions = i.versions;
      entries = i.entries;
      nodes = i.nodes;
    }
