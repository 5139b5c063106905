use Rattle.std.proofs.Common.{◌≡◌, ℕ, ◌+◌, [], ◌∷◌, List, length, refl, sym, ap, subst, ◌∙◌, arith}
use Rattle.hx_versions.proofs.dismantling.drop_entries.Goals as goal

pub drop_first-dropped-requires : goal.drop_first-dropped-requires
drop_first-dropped-requires g c =
    let r = c.requires in
    let i = c.loop-taken.invariant.chain r.0 r.1 r.2 r.3 in
    (i.0, i.1)

pub loop-taken-init : goal.loop-taken-init
loop-taken-init g c = record {
  most = omega arith;
  live = omega arith;
  chain = λ v slots lies owned. (slots, lies, owned, omega arith, λ k stored is other. is);
}

pub loop-taken-preserved : goal.loop-taken-preserved
loop-taken-preserved g c =
    let i = c.loop-taken.invariant in
    let step = c.drop_first-dropped in
    let done = c.if-not-dropped.false in
    record {
      most = omega (arith, c.loop-taken-test.true);
      live = omega (arith, i.live, step.ensures.live done);
      chain = λ v slots lies owned.
          let s = i.chain v slots lies owned in
          let d = step.ensures.some v s.0 s.1 s.2 done in
          (d.1, d.3, d.4, omega (arith, s.3, ap length d.2), λ k stored is other. d.5 k stored (s.4 k stored is other) other);
    }

pub returns-then-not-dropped-clause-count : goal.returns-then-not-dropped-clause-count
returns-then-not-dropped-clause-count g c v slots lies owned =
    let s = c.loop-taken.invariant.chain v slots lies owned in
    let none = c.drop_first-dropped.ensures.none s.0 s.1 c.if-not-dropped.true in
    omega (arith, s.3, ap length none, c.loop-taken-test.true)

pub returns-then-not-dropped-clause-chain : goal.returns-then-not-dropped-clause-chain
returns-then-not-dropped-clause-chain g c v slots lies owned =
    let s = c.loop-taken.invariant.chain v slots lies owned in
    rw ((c.drop_first-dropped.ensures.same c.if-not-dropped.true).0, (c.drop_first-dropped.ensures.same c.if-not-dropped.true).1) (s.0, s.1, s.2, s.3)

pub returns-then-not-dropped-clause-others : goal.returns-then-not-dropped-clause-others
returns-then-not-dropped-clause-others g c v slots lies owned =
    let s = c.loop-taken.invariant.chain v slots lies owned in
    rw ((c.drop_first-dropped.ensures.same c.if-not-dropped.true).0) s.4

pub returns-clause-count : goal.returns-clause-count
returns-clause-count g c v slots lies owned =
    let s = c.loop-taken.invariant.chain v slots lies owned in omega (arith, s.3, c.loop-taken-test.false)

pub returns-clause-chain : goal.returns-clause-chain
returns-clause-chain g c v slots lies owned =
    let s = c.loop-taken.invariant.chain v slots lies owned in
    (s.0, s.1, s.2, omega (arith, s.3, c.loop-taken-test.false, c.loop-taken.invariant.most))

pub returns-clause-others : goal.returns-clause-others
returns-clause-others g c v slots lies owned = (c.loop-taken.invariant.chain v slots lies owned).4

pub returns-clause-live : goal.returns-clause-live
returns-clause-live g c = omega (arith, c.loop-taken.invariant.live, c.loop-taken-test.false, c.loop-taken.invariant.most)
