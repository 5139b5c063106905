use Rattle.std.proofs.Common.{◌≡◌, [], ◌∷◌, List, Some, None, All, refl, sym, ap, subst, ◌∙◌, inl}
use Rattle.hx_pool.specs.Chain.{LiesIn, links_at}
use Rattle.hx_pool.proofs.LyingLemmas.{lies_live, relinked_live}
use Rattle.hx_versions.specs.StoredEntries.{IsSameStoredEntry, entry_links}
use Rattle.hx_versions.specs.Contents.{IsOfVersion}
use Rattle.hx_versions.proofs.DismantlingLemmas.{front_none, front_split, others_left, rest_lies, rest_owned}
use Rattle.hx_versions.proofs.dismantling.drop_first.Goals as goal

pub unlink-requires : goal.unlink-requires
unlink-requires g c =
    let r = c.requires in
    let e = c.args.entries.now in
    let s = front_split r.0 c.in-Some.slot (sym c.in-Some.is ∙ c.front.ensures (links_at entry_links e) r.0 r.1) in
    ([], s.0, subst (LiesIn entry_links e c.args.chain.now) s.1 r.1)

pub give_back-requires : goal.give_back-requires
give_back-requires g c =
    let r = c.requires in
    let e = c.args.entries.now in
    let slot = c.in-Some.slot in
    let s = front_split r.0 slot (sym c.in-Some.is ∙ c.front.ensures (links_at entry_links e) r.0 r.1) in
    relinked_live IsSameStoredEntry e c.unlink.new.pool slot c.unlink.ensures.values
    (lies_live entry_links e c.args.chain.now (slot ∷ s.0) slot (subst (LiesIn entry_links e c.args.chain.now) s.1 r.1) (inl refl))

pub returns-clause-some : goal.returns-clause-some
returns-clause-some g c v slots lies owned is =
    let e = c.args.entries.now in
    let slot = c.in-Some.slot in
    let s = front_split slots slot (sym c.in-Some.is ∙ c.front.ensures (links_at entry_links e) slots lies) in
    let mine = subst (LiesIn entry_links e c.args.chain.now) s.1 lies in
    let own = subst (All (IsOfVersion e v)) s.1 owned in
    let unlinked = c.unlink.ensures.lies [] s.0 mine in
    let others = c.unlink.ensures.others [] s.0 mine in
    let e1 = c.unlink.new.pool in
    let e2 = c.give_back.new.entries in
    let chain1 = c.unlink.new.self in (
      slot,
      s.0,
      s.1,
      rest_lies e e1 e2 c.args.chain.now chain1 v slot s.0 mine own unlinked c.unlink.ensures.values others c.give_back.ensures.updates,
      rest_owned e e1 e2 c.args.chain.now chain1 v slot s.0 mine own unlinked c.unlink.ensures.values others c.give_back.ensures.updates,
      others_left e e1 e2 c.args.chain.now chain1 v slot s.0 mine own unlinked c.unlink.ensures.values others c.give_back.ensures.updates,
    )
