use Rattle.std.proofs.Common.{◌≡◌, ◌∷◌, ◌++◌, None, subst, inl, refl}
use Rattle.hx_pool.specs.Chain.{AreApart, LiesIn}
use Rattle.hx_pool.proofs.ChainLemmas.{in_right}
use Rattle.hx_pool.proofs.LyingLemmas.{lies_updated, lies_live, relinked_live, distinct_off}
use Rattle.hx_cases_drivers.specs.declared.chains.Item.{Item}
use Rattle.hx_cases_drivers.proofs.WalkLemmas.{apart_back, apart_cut}
use Rattle.hx_cases_drivers.proofs.chains.Chains.unlink.Goals as goal

pub unlink-requires : goal.unlink-requires
unlink-requires g c =
    let s = c.self.invariant in
    let split = c.at_index.ensures s.0 s.2 c.in-Some.id c.in-Some.is in
    (split.0, split.1, subst (LiesIn (λ (item : Item). item.links) c.self.inside.pool c.self.inside.first) split.2 s.2)

pub give-requires : goal.give-requires
give-requires g c =
    let s = c.self.invariant in let id = c.in-Some.id in
    let split = c.at_index.ensures s.0 s.2 id c.in-Some.is in
    let lies = subst (LiesIn (λ (item : Item). item.links) c.self.inside.pool c.self.inside.first) split.2 s.2 in
    let live = lies_live (λ (item : Item). item.links) c.self.inside.pool c.self.inside.first (split.0 ++ id ∷ split.1) id lies (in_right split.0 (id ∷ split.1) id (inl refl)) in
    relinked_live (λ (x y : Item). x.key ≡ y.key) c.self.inside.pool c.unlink.new.pool id c.unlink.ensures.values live

pub invariant_of-self : goal.invariant_of-self
invariant_of-self g c =
    let s = c.self.invariant in let id = c.in-Some.id in
    let split = c.at_index.ensures s.0 s.2 id c.in-Some.is in
    let before = split.0 in let after = split.1 in
    let links = λ (item : Item). item.links in
    let lies = subst (LiesIn links c.self.inside.pool c.self.inside.first) split.2 s.2 in
    let apart = subst (λ l. AreApart l s.1) split.2 s.4 in
    let left = c.unlink.ensures.lies before after lies in
    let other = c.unlink.ensures.apart before after s.1 c.self.inside.second lies (apart_back (before ++ id ∷ after) s.1 apart) s.3 in (
      before ++ after,
      s.1,
      lies_updated links c.unlink.new.pool c.give.new.self c.unlink.new.self (before ++ after) id None left (distinct_off before id after lies.distinct) c.give.ensures.updates,
      lies_updated links c.unlink.new.pool c.give.new.self c.self.inside.second s.1 id None other (apart id (in_right before (id ∷ after) id (inl refl))) c.give.ensures.updates,
      apart_cut before after s.1 id apart,
    )
