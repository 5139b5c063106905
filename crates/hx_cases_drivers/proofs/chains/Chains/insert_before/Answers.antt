use Rattle.std.proofs.Common.{◌∷◌, ◌++◌, subst}
use Rattle.hx_pool.specs.Chain.{AreApart, LiesIn}
use Rattle.hx_pool.proofs.LyingLemmas.{lies_taken}
use Rattle.hx_cases_drivers.specs.declared.chains.Item.{Item}
use Rattle.hx_cases_drivers.proofs.WalkLemmas.{apart_of_more, apart_put}
use Rattle.hx_cases_drivers.proofs.chains.Chains.insert_before.Goals as goal

pub insert_before-requires-clause-lies : goal.insert_before-requires-clause-lies
insert_before-requires-clause-lies g c =
    let s = c.self.invariant in
    let split = c.at_index.ensures s.0 s.2 c.in-Some.at c.in-Some.is in
    let lies = subst (LiesIn (λ (item : Item). item.links) c.self.inside.pool c.self.inside.first) split.2 s.2 in
    let taken = lies_taken (λ (item : Item). item.links) c.self.inside.pool c.reserve.new.self c.take-id.new.self c.self.inside.first (split.0 ++ c.in-Some.at ∷ split.1) c.take-id.result _ lies c.reserve.ensures.values c.take-id.ensures.was_free c.take-id.ensures.updates in
    (split.0, split.1, taken.0, taken.1)

pub invariant_of-self-2 : goal.invariant_of-self-2
invariant_of-self-2 g c =
    let s = c.self.invariant in let id = c.take-id.result in let at = c.in-Some.at in
    let split = c.at_index.ensures s.0 s.2 c.in-Some.at c.in-Some.is in
    let whole = split.0 ++ at ∷ split.1 in
    let lies = subst (LiesIn (λ (item : Item). item.links) c.self.inside.pool c.self.inside.first) split.2 s.2 in
    let apart = subst (λ l. AreApart l s.1) split.2 s.4 in
    let taken = lies_taken (λ (item : Item). item.links) c.self.inside.pool c.reserve.new.self c.take-id.new.self c.self.inside.first whole id _ lies c.reserve.ensures.values c.take-id.ensures.was_free c.take-id.ensures.updates in
    let other = lies_taken (λ (item : Item). item.links) c.self.inside.pool c.reserve.new.self c.take-id.new.self c.self.inside.second s.1 id _ s.3 c.reserve.ensures.values c.take-id.ensures.was_free c.take-id.ensures.updates in (
      split.0 ++ id ∷ at ∷ split.1,
      s.1,
      c.insert_before.ensures.lies split.0 split.1 taken.0 taken.1,
      c.insert_before.ensures.apart split.0 split.1 s.1 c.self.inside.second taken.0 (apart_of_more whole s.1 id apart other.1) other.0,
      apart_put split.0 (at ∷ split.1) s.1 id apart other.1,
    )
