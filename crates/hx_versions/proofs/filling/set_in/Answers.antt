use Rattle.std.proofs.Common.{◌≡◌, Some, refl, sym, ap, ◌∙◌, arith}
use Rattle.std.proofs.lemmas.List.{length-map}
use Rattle.std.proofs.lemmas.Result.{on_ok_weaker}
use Rattle.hx_pool.specs.Pool.{Updates, get}
use Rattle.hx_versions.specs.declared.content.Content.{Content}
use Rattle.hx_versions.specs.declared.stored_version.StoredVersion.{StoredVersion}
use Rattle.hx_versions.specs.Contents.{ways_of, with_chosen_values}
use Rattle.hx_versions.specs.Versions.{is_chosen}
use Rattle.hx_versions.proofs.ChangingLemmas.{changes_at, content_at, version_at}
use Rattle.hx_versions.proofs.IndexListLemmas.{some_same}
use Rattle.hx_versions.proofs.MovingLemmas.{set_live}
use Rattle.hx_versions.proofs.filling.set_in.Goals as goal

pub get-version-requires : goal.get-version-requires
get-version-requires g c =
    let r = c.requires in
    let p = c.args.pools.now in
    let at = version_at r.0 p r.1 r.2 r.3 r.4 c.args.slot r.5 r.6 in
    set_live (get p.versions c.args.slot) at.0 at.1

pub set_chosen-requires : goal.set_chosen-requires
set_chosen-requires g c =
    let r = c.requires in
    let p = c.args.pools.now in
    let at = version_at r.0 p r.1 r.2 r.3 r.4 c.args.slot r.5 r.6 in
    let version = c.get-version.result.now in
    let same : version ≡ at.0 = some_same version at.0 (sym c.get-version.ensures.value ∙ at.1) in
    (c.args.slot, r.3.placed, content_at r.0 p r.1 r.2 r.3 r.4 c.args.slot r.5 r.6 version.content (ap (λ (x : StoredVersion). x.content) same))

pub returns-clause-ok : goal.returns-clause-ok
returns-clause-ok g c =
    on_ok_weaker c.set_chosen.result (λ changed owner row before v after here h.
    let p = c.args.pools.now in
    let slot = c.args.slot in
    let step = c.set_chosen in
    let at = version_at owner p row before v after slot here h in
    let version = c.get-version.result.now in
    let same : version ≡ at.0 = some_same version at.0 (sym c.get-version.ensures.value ∙ at.1) in
    let content_is = ap (λ (x : StoredVersion). x.content) same in
    let stands = content_at owner p row before v after slot here h version.content content_is in
    let now = with_chosen_values (is_chosen c.args.choice.now) c.args.value.now v.placed in
    let updates : Updates p.versions p.versions slot (Some at.0) = record { changed = at.1; others = λ k differs. refl } in
    changes_at owner p row before v after slot here h (record { entries = step.new.entries; versions = p.versions; nodes = p.nodes }) at.0 version.content v.serial now updates (step.ensures.others slot v.placed stands) refl refl refl at.4 (sym content_is) (changed slot v.placed stands) (ap (λ (x : Content). ways_of x.indexes.items) (content_is ∙ at.5))
    (rw (step.ensures.live, length-map v.placed _) refl)) c.set_chosen.ensures.ok

pub returns-clause-fewer : goal.returns-clause-fewer
returns-clause-fewer g c = record {
  versions = refl;
  spare = refl;
  entries = omega (arith, c.set_chosen.ensures.live);
  nodes = omega arith;
}
