use Rattle.std.proofs.Common.{◌≡◌, ℕ, Option, None, Some, true, ap, sym, subst, ◌∙◌, ◌+◌, ◌<◌, List, rules}
use Rattle.std.specs.Prelude.{is_some}
use Rattle.std.specs.Option.{option_map_or}
use Rattle.hx_acl.specs.AclSetView.{AreIndexed, declarations}
use Rattle.hx_acl.specs.Matching.{test_matches}
use Rattle.hx_acl.specs.declared.acl_set.Declared.{Declared}
use Rattle.hx_acl.proofs.AclSetLemmas.{AreLeft, walk_fails, walk_goes_back, walk_goes_on, walk_holds}
use Rattle.hx_fetch.specs.World.{context_of}
use Rattle.hx_acl.proofs.acl_set.AclSet.name_holds.Goals as goal

pub returns-then-branch : goal.returns-then-branch
returns-then-branch g c =
    let heads = g.T.Tables.heads (g.T.Tables.state c.args.tables.now) in
    let lists = g.T.Tables.lists (g.T.Tables.state c.args.tables.now) in
    let context = context_of c.args.world.now in
    let acls = c.args.self.now in
    let name = c.args.name.now in
    let tests = c.as_slice-tests.result.now in
    let view : declarations tests ≡ acls = ap declarations c.as_slice-tests.ensures.value ∙ c.self.view_is in
    let left : AreLeft (test_matches context heads lists) acls name (Some c.in-Some.at) = subst (λ (o : Option ℕ). AreLeft (test_matches context heads lists) acls name o) c.in-Some.is c.loop-left.invariant in
    walk_holds context heads lists acls name tests c.in-Some.at c.index-tests-at.result view left c.index-tests-at.is c.in_ok-matches.field-0 c.if-branch.true c.in_ok-matches.ensures

pub loop-left-smaller : goal.loop-left-smaller
loop-left-smaller g c =
    let heads = g.T.Tables.heads (g.T.Tables.state c.args.tables.now) in
    let lists = g.T.Tables.lists (g.T.Tables.state c.args.tables.now) in
    let context = context_of c.args.world.now in
    let acls = c.args.self.now in
    let name = c.args.name.now in
    let tests = c.as_slice-tests.result.now in
    let view : declarations tests ≡ acls = ap declarations c.as_slice-tests.ensures.value ∙ c.self.view_is in
    let left : AreLeft (test_matches context heads lists) acls name (Some c.in-Some.at) = subst (λ (o : Option ℕ). AreLeft (test_matches context heads lists) acls name o) c.in-Some.is c.loop-left.invariant in
    let indexed : AreIndexed tests c.self.inside.positions.entries = subst (λ (xs : List Declared). AreIndexed xs c.self.inside.positions.entries) (sym c.as_slice-tests.ensures.value) c.self.invariant in
    subst (λ (o : Option ℕ). option_map_or (λ k. k + 1) c.index-tests-at.result.earlier 0 < option_map_or (λ k. k + 1) o 0) (sym c.in-Some.is)
    (walk_goes_back (test_matches context heads lists) tests acls c.self.inside.positions.entries name c.in-Some.at c.index-tests-at.result view indexed left c.index-tests-at.is)

pub loop-left-preserved : goal.loop-left-preserved
loop-left-preserved g c =
    let heads = g.T.Tables.heads (g.T.Tables.state c.args.tables.now) in
    let lists = g.T.Tables.lists (g.T.Tables.state c.args.tables.now) in
    let context = context_of c.args.world.now in
    let acls = c.args.self.now in
    let name = c.args.name.now in
    let tests = c.as_slice-tests.result.now in
    let view : declarations tests ≡ acls = ap declarations c.as_slice-tests.ensures.value ∙ c.self.view_is in
    let left : AreLeft (test_matches context heads lists) acls name (Some c.in-Some.at) = subst (λ (o : Option ℕ). AreLeft (test_matches context heads lists) acls name o) c.in-Some.is c.loop-left.invariant in
    let indexed : AreIndexed tests c.self.inside.positions.entries = subst (λ (xs : List Declared). AreIndexed xs c.self.inside.positions.entries) (sym c.as_slice-tests.ensures.value) c.self.invariant in
    walk_goes_on (test_matches context heads lists) tests acls c.self.inside.positions.entries name c.in-Some.at c.index-tests-at.result view indexed left c.index-tests-at.is c.in_ok-matches.field-0 c.if-branch.false c.in_ok-matches.ensures

pub returns : goal.returns
returns g c =
    let heads = g.T.Tables.heads (g.T.Tables.state c.args.tables.now) in
    let lists = g.T.Tables.lists (g.T.Tables.state c.args.tables.now) in
    let context = context_of c.args.world.now in
    let acls = c.args.self.now in
    let name = c.args.name.now in
    let some : is_some c.last_of-left.result ≡ true = search rules in
    let none : c.loop-left.left ≡ None = search rules in
    walk_fails context heads lists acls name c.last_of-left.result c.last_of-left.ensures some
    (subst (λ (o : Option ℕ). AreLeft (test_matches context heads lists) acls name o) none c.loop-left.invariant)
