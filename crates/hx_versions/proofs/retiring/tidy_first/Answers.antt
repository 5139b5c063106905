use Rattle.std.proofs.Common.{◌≡◌, ◌≢◌, ℕ, ◌+◌, ◌≤◌, [], ◌∷◌, List, Option, Some, None, refl, sym, ap, subst, ◌∙◌, inl, inr, arith}
use Rattle.hx_pool.specs.Pool.{get}
use Rattle.hx_pool.specs.Chain.{IsIn, IsSameSlot, LiesIn, links_at}
use Rattle.hx_pool.proofs.LyingLemmas.{relinked_live}
use Rattle.hx_versions.specs.declared.stored_version.StoredVersion.{StoredVersion}
use Rattle.hx_versions.specs.StoredVersions.{IsSameStoredVersion, version_links}
use Rattle.hx_versions.specs.Contents.{IsRetired, remaining_slots}
use Rattle.hx_versions.specs.Store.{retired_slots_of, waiting_slots}
use Rattle.hx_versions.proofs.MovingLemmas.{set_live}
use Rattle.hx_versions.proofs.TidyLemmas.{first_changed, first_given, first_keeps, first_lies, first_out, first_waiting, none_waiting, updates_on}
use Rattle.hx_versions.proofs.retiring.tidy_first.Goals as goal

pub take_content-content-requires : goal.take_content-content-requires
take_content-content-requires g c =
    let r = c.requires.wait in
    let p = c.args.pools.now in
    let f = first_waiting p c.args.retired.now r.0 c.in-Some.slot r.1 (sym c.in-Some.is ∙ c.front.ensures (links_at version_links p.versions) (retired_slots_of r.0) r.1.lies) in
    set_live (get p.versions c.in-Some.slot) f.stored f.there

pub dismantle-given-requires : goal.dismantle-given-requires
dismantle-given-requires g c =
    let r = c.requires.wait in
    let p = c.args.pools.now in
    let slot = c.in-Some.slot in
    let f = first_waiting p c.args.retired.now r.0 slot r.1 (sym c.in-Some.is ∙ c.front.ensures (links_at version_links p.versions) (retired_slots_of r.0) r.1.lies) in
    let t = c.take_content-content.ensures.taken f.stored f.there in
    (slot, f.version.left, subst (λ x. IsRetired p.entries p.nodes slot x f.version.left) (sym (t.0 ∙ f.content_is)) f.remains)

pub put_content-requires : goal.put_content-requires
put_content-requires g c =
    let r = c.requires.wait in
    let p = c.args.pools.now in
    let slot = c.in-Some.slot in
    let f = first_waiting p c.args.retired.now r.0 slot r.1 (sym c.in-Some.is ∙ c.front.ensures (links_at version_links p.versions) (retired_slots_of r.0) r.1.lies) in
    let t = c.take_content-content.ensures.taken f.stored f.there in
    set_live (get c.take_content-content.new.versions slot) (record f.stored { content = t.1 }) t.2.changed

pub returns-then-given-n-clause-none : goal.returns-then-given-n-clause-none
returns-then-given-n-clause-none g c gone h zero = absurd (omega (arith, c.requires.some, zero))

pub returns-then-given-n-clause-wait : goal.returns-then-given-n-clause-wait
returns-then-given-n-clause-wait g c gone h =
    let p = c.args.pools.now in
    let slot = c.in-Some.slot in
    let chain = c.args.retired.now in
    let step = c.dismantle-given in
    let put = c.put_content in
    let f = first_waiting p chain gone slot h (sym c.in-Some.is ∙ c.front.ensures (links_at version_links p.versions) (retired_slots_of gone) h.lies) in
    let t = c.take_content-content.ensures.taken f.stored f.there in
    let remains = subst (λ x. IsRetired p.entries p.nodes slot x f.version.left) (sym (t.0 ∙ f.content_is)) f.remains in
    let d = step.ensures.content slot f.version.left remains in
    let s' : StoredVersion = record f.stored { content = step.new.self } in
    let updates = updates_on p.versions c.take_content-content.new.versions put.new.versions slot (Some (record f.stored { content = t.1 })) (Some s') t.2 (put.ensures.put (record f.stored { content = t.1 }) t.2.changed) in
    let all : step.result ≡ c.args.n = omega (arith, c.if-given-n.true) in
    let x = first_changed p (record { entries = step.new.entries; versions = put.new.versions; nodes = step.new.nodes }) chain gone slot f h (step.ensures.others slot f.version.left remains) s' step.new.self d.0 step.result updates refl f.owner_is refl d.1 d.2 in
    (x.0, x.1, subst (λ k. waiting_slots x.0 + k ≡ waiting_slots gone) all x.2)

pub returns-then-given-n-clause-others : goal.returns-then-given-n-clause-others
returns-then-given-n-clause-others g c owner differs =
    let r = c.requires.wait in
    let p = c.args.pools.now in
    let slot = c.in-Some.slot in
    let chain = c.args.retired.now in
    let step = c.dismantle-given in
    let put = c.put_content in
    let f = first_waiting p chain r.0 slot r.1 (sym c.in-Some.is ∙ c.front.ensures (links_at version_links p.versions) (retired_slots_of r.0) r.1.lies) in
    let t = c.take_content-content.ensures.taken f.stored f.there in
    let remains = subst (λ x. IsRetired p.entries p.nodes slot x f.version.left) (sym (t.0 ∙ f.content_is)) f.remains in
    let s' : StoredVersion = record f.stored { content = step.new.self } in
    let updates = updates_on p.versions c.take_content-content.new.versions put.new.versions slot (Some (record f.stored { content = t.1 })) (Some s') t.2 (put.ensures.put (record f.stored { content = t.1 }) t.2.changed) in
    first_keeps p (record { entries = step.new.entries; versions = put.new.versions; nodes = step.new.nodes }) chain r.0 slot f r.1 (step.ensures.others slot f.version.left remains)
    (λ k off. updates.others k (λ e. off (inl e))) owner differs

pub returns-then-given-n-clause-live : goal.returns-then-given-n-clause-live
returns-then-given-n-clause-live g c = record {
  total = omega (arith, c.dismantle-given.ensures.live, c.take_content-content.ensures.live, c.put_content.ensures.live, c.if-given-n.true);
  versions = omega (arith, c.take_content-content.ensures.live, c.put_content.ensures.live);
  entries = c.dismantle-given.ensures.fewer_entries;
  nodes = c.dismantle-given.ensures.fewer_nodes;
}

pub unlink-requires : goal.unlink-requires
unlink-requires g c =
    let r = c.requires.wait in
    let p = c.args.pools.now in
    let slot = c.in-Some.slot in
    let chain = c.args.retired.now in
    let f = first_waiting p chain r.0 slot r.1 (sym c.in-Some.is ∙ c.front.ensures (links_at version_links p.versions) (retired_slots_of r.0) r.1.lies) in
    let t = c.take_content-content.ensures.taken f.stored f.there in
    ([], retired_slots_of f.rest, first_lies p c.take_content-content.new.versions chain r.0 slot f r.1 (record f.stored { content = t.1 }) t.2 refl)

pub give_version-requires : goal.give_version-requires
give_version-requires g c =
    let r = c.requires.wait in
    let p = c.args.pools.now in
    let slot = c.in-Some.slot in
    let f = first_waiting p c.args.retired.now r.0 slot r.1 (sym c.in-Some.is ∙ c.front.ensures (links_at version_links p.versions) (retired_slots_of r.0) r.1.lies) in
    let t = c.take_content-content.ensures.taken f.stored f.there in
    relinked_live IsSameStoredVersion c.take_content-content.new.versions c.unlink.new.pool slot c.unlink.ensures.values
    (set_live (get c.take_content-content.new.versions slot) (record f.stored { content = t.1 }) t.2.changed)

pub returns-clause-none : goal.returns-clause-none
returns-clause-none g c gone h zero = absurd (omega (arith, zero))

pub returns-clause-most : goal.returns-clause-most
returns-clause-most g c =
    let r = c.requires.wait in
    let p = c.args.pools.now in
    let slot = c.in-Some.slot in
    let f = first_waiting p c.args.retired.now r.0 slot r.1 (sym c.in-Some.is ∙ c.front.ensures (links_at version_links p.versions) (retired_slots_of r.0) r.1.lies) in
    let t = c.take_content-content.ensures.taken f.stored f.there in
    let remains = subst (λ x. IsRetired p.entries p.nodes slot x f.version.left) (sym (t.0 ∙ f.content_is)) f.remains in
    omega (arith, c.dismantle-given.ensures.count slot f.version.left remains, c.if-given-n.false)

pub returns-clause-wait : goal.returns-clause-wait
returns-clause-wait g c gone h =
    let p = c.args.pools.now in
    let slot = c.in-Some.slot in
    let chain = c.args.retired.now in
    let step = c.dismantle-given in
    let f = first_waiting p chain gone slot h (sym c.in-Some.is ∙ c.front.ensures (links_at version_links p.versions) (retired_slots_of gone) h.lies) in
    let t = c.take_content-content.ensures.taken f.stored f.there in
    let remains = subst (λ x. IsRetired p.entries p.nodes slot x f.version.left) (sym (t.0 ∙ f.content_is)) f.remains in
    let lies1 = first_lies p c.take_content-content.new.versions chain gone slot f h (record f.stored { content = t.1 }) t.2 refl in
    let out = first_given p c.take_content-content.new.versions chain gone slot f h (record f.stored { content = t.1 }) t.2 c.unlink.new.pool c.give_version.new.versions c.unlink.new.self (c.unlink.ensures.lies [] (retired_slots_of f.rest) lies1) c.unlink.ensures.values c.give_version.ensures.updates in
    first_out p (record { entries = step.new.entries; versions = c.give_version.new.versions; nodes = step.new.nodes }) chain gone slot f h (step.ensures.others slot f.version.left remains) c.unlink.new.self step.result out.0 out.1
    (omega (arith, step.ensures.count slot f.version.left remains, c.if-given-n.false))

pub returns-clause-others : goal.returns-clause-others
returns-clause-others g c owner differs =
    let r = c.requires.wait in
    let p = c.args.pools.now in
    let slot = c.in-Some.slot in
    let chain = c.args.retired.now in
    let step = c.dismantle-given in
    let f = first_waiting p chain r.0 slot r.1 (sym c.in-Some.is ∙ c.front.ensures (links_at version_links p.versions) (retired_slots_of r.0) r.1.lies) in
    let t = c.take_content-content.ensures.taken f.stored f.there in
    let remains = subst (λ x. IsRetired p.entries p.nodes slot x f.version.left) (sym (t.0 ∙ f.content_is)) f.remains in
    let lies1 = first_lies p c.take_content-content.new.versions chain r.0 slot f r.1 (record f.stored { content = t.1 }) t.2 refl in
    first_keeps p (record { entries = step.new.entries; versions = c.give_version.new.versions; nodes = step.new.nodes }) chain r.0 slot f r.1 (step.ensures.others slot f.version.left remains)
    (λ k off.
    c.give_version.ensures.updates.others k (λ e. off (inl e)) ∙ c.unlink.ensures.others [] (retired_slots_of f.rest) lies1 k (λ there. off (inr there)) ∙ t.2.others k (λ e. off (inl e))) owner differs

pub returns-clause-spare : goal.returns-clause-spare
returns-clause-spare g c =
    omega (arith, c.take_content-content.ensures.spare, c.unlink.ensures.values.spare, c.give_version.ensures.spare)

pub returns-clause-live : goal.returns-clause-live
returns-clause-live g c = record {
  total = omega (arith, c.dismantle-given.ensures.live, c.take_content-content.ensures.live, c.unlink.ensures.values.live, c.give_version.ensures.live);
  versions = omega (arith, c.take_content-content.ensures.live, c.unlink.ensures.values.live, c.give_version.ensures.live);
  entries = c.dismantle-given.ensures.fewer_entries;
  nodes = c.dismantle-given.ensures.fewer_nodes;
}

pub overflow_add-result : goal.overflow_add-result
overflow_add-result g c =
    let r = c.requires.wait in
    let p = c.args.pools.now in
    let slot = c.in-Some.slot in
    let f = first_waiting p c.args.retired.now r.0 slot r.1 (sym c.in-Some.is ∙ c.front.ensures (links_at version_links p.versions) (retired_slots_of r.0) r.1.lies) in
    let t = c.take_content-content.ensures.taken f.stored f.there in
    let remains = subst (λ x. IsRetired p.entries p.nodes slot x f.version.left) (sym (t.0 ∙ f.content_is)) f.remains in
    omega (arith, c.ranges.n.fits, c.dismantle-given.ensures.count slot f.version.left remains, c.if-given-n.false)

pub returns-in_default-clause-none : goal.returns-in_default-clause-none
returns-in_default-clause-none g c gone h zero =
    none_waiting gone (sym c.in_default.is ∙ c.front.ensures (links_at version_links c.args.pools.now.versions) (retired_slots_of gone) h.lies)
