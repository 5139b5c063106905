use Rattle.std.proofs.Common.{◌≡◌, ℕ, Option, None, Some, ap, sym, subst, ◌∙◌, ◌+◌, ◌<◌, List, rules}
use Rattle.std.specs.Option.{option_map_or}
use Rattle.hx_acl.specs.AclSetView.{AreIndexed, IsLast, declarations}
use Rattle.hx_acl.specs.Grounds.{test_ground}
use Rattle.hx_acl.specs.declared.acl_set.Declared.{Declared}
use Rattle.hx_acl.proofs.GroundWalkLemmas.{GroundsLeft, ground_ends, ground_goes_back, ground_goes_on}
use Rattle.hx_fetch.specs.World.{context_of}
use Rattle.hx_acl.proofs.acl_set.AclSet.name_ground.Goals as goal

pub loop-left-smaller : goal.loop-left-smaller
loop-left-smaller g c =
    let given = test_ground (context_of c.args.world.now) (g.T.Tables.heads (g.T.Tables.state c.args.tables.now)) (g.T.Tables.lists (g.T.Tables.state c.args.tables.now)) in
    let acls = c.args.self.now in
    let name = c.args.name.now in
    let tests = c.as_slice-tests.result.now in
    let view : declarations tests ≡ acls = ap declarations c.as_slice-tests.ensures.value ∙ c.self.view_is in
    let left : GroundsLeft given acls name (Some c.in-Some-left.at) c.loop-left.given = subst (λ (o : Option ℕ). GroundsLeft given acls name o c.loop-left.given) c.in-Some-left.is c.loop-left.invariant in
    let indexed : AreIndexed tests c.self.inside.positions.entries = subst (λ (xs : List Declared). AreIndexed xs c.self.inside.positions.entries) (sym c.as_slice-tests.ensures.value) c.self.invariant in
    subst (λ (o : Option ℕ). option_map_or (λ k. k + 1) c.index-tests-at.result.earlier 0 < option_map_or (λ k. k + 1) o 0) (sym c.in-Some-left.is)
    (ground_goes_back given tests acls c.self.inside.positions.entries name c.in-Some-left.at c.loop-left.given c.index-tests-at.result view indexed left c.index-tests-at.is)

pub loop-left-preserved : goal.loop-left-preserved
loop-left-preserved g c =
    let given = test_ground (context_of c.args.world.now) (g.T.Tables.heads (g.T.Tables.state c.args.tables.now)) (g.T.Tables.lists (g.T.Tables.state c.args.tables.now)) in
    let acls = c.args.self.now in
    let name = c.args.name.now in
    let tests = c.as_slice-tests.result.now in
    let view : declarations tests ≡ acls = ap declarations c.as_slice-tests.ensures.value ∙ c.self.view_is in
    let left : GroundsLeft given acls name (Some c.in-Some-left.at) c.loop-left.given = subst (λ (o : Option ℕ). GroundsLeft given acls name o c.loop-left.given) c.in-Some-left.is c.loop-left.invariant in
    let indexed : AreIndexed tests c.self.inside.positions.entries = subst (λ (xs : List Declared). AreIndexed xs c.self.inside.positions.entries) (sym c.as_slice-tests.ensures.value) c.self.invariant in
    ground_goes_on given tests acls c.self.inside.positions.entries name c.in-Some-left.at c.loop-left.given c.index-tests-at.result view indexed left c.index-tests-at.is c.in_ok-first.first c.or-given.result c.in_ok-first.ensures c.or-given.ensures

pub returns : goal.returns
returns g c =
    let heads = g.T.Tables.heads (g.T.Tables.state c.args.tables.now) in
    let lists = g.T.Tables.lists (g.T.Tables.state c.args.tables.now) in
    let context = context_of c.args.world.now in
    let acls = c.args.self.now in
    let name = c.args.name.now in
    let none : c.loop-left.left ≡ None = search rules in
    let known : IsLast acls name (Some c.in-Some.last) = subst (λ (o : Option ℕ). IsLast acls name o) c.in-Some.is c.last_of.ensures in
    ground_ends context heads lists acls name c.in-Some.last c.loop-left.given known
    (subst (λ (o : Option ℕ). GroundsLeft (test_ground context heads lists) acls name o c.loop-left.given) none c.loop-left.invariant)
