use Rattle.std.proofs.Common.{[], ◌∷◌, ◌++◌}
use Rattle.hx_pool.proofs.LyingLemmas.{lies_taken}
use Rattle.hx_cases_drivers.specs.declared.chains.Item.{Item}
use Rattle.hx_cases_drivers.proofs.WalkLemmas.{apart_of_more, apart_end}
use Rattle.hx_cases_drivers.proofs.chains.Chains.push.Goals as goal

pub push_back-requires-clause-lies : goal.push_back-requires-clause-lies
push_back-requires-clause-lies g c =
    let s = c.self.invariant in
    let taken = lies_taken (λ (item : Item). item.links) c.self.inside.pool c.reserve.new.self c.take-id.new.self c.self.inside.first s.0 c.take-id.result _ s.2 c.reserve.ensures.values c.take-id.ensures.was_free c.take-id.ensures.updates in
    (s.0, taken.0, taken.1)

pub invariant_of-self-2 : goal.invariant_of-self-2
invariant_of-self-2 g c =
    let s = c.self.invariant in let id = c.take-id.result in
    let taken = lies_taken (λ (item : Item). item.links) c.self.inside.pool c.reserve.new.self c.take-id.new.self c.self.inside.first s.0 id _ s.2 c.reserve.ensures.values c.take-id.ensures.was_free c.take-id.ensures.updates in
    let other = lies_taken (λ (item : Item). item.links) c.self.inside.pool c.reserve.new.self c.take-id.new.self c.self.inside.second s.1 id _ s.3 c.reserve.ensures.values c.take-id.ensures.was_free c.take-id.ensures.updates in (
      s.0 ++ id ∷ [],
      s.1,
      c.push_back.ensures.lies s.0 taken.0 taken.1,
      c.push_back.ensures.apart s.0 s.1 c.self.inside.second taken.0 (apart_of_more s.0 s.1 id s.4 other.1) other.0,
      apart_end s.0 s.1 id s.4 other.1,
    )
