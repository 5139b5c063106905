use Rattle.std.proofs.Common.{◌≡◌, ◌≢◌, length, refl, sym, ap, ◌∙◌, arith}
use Rattle.hx_pool.specs.Pool.{get}
use Rattle.hx_versions.specs.declared.content.Content.{Content}
use Rattle.hx_versions.specs.declared.stored_version.StoredVersion.{StoredVersion}
use Rattle.hx_versions.specs.Contents.{ways_of}
use Rattle.hx_versions.specs.Rows.{use_ways}
use Rattle.hx_versions.specs.Store.{shown_version}
use Rattle.hx_versions.proofs.ChangingLemmas.{version_at}
use Rattle.hx_versions.proofs.GrowingLemmas.{bare_content, gets_ways, has_already, has_none_yet, has_ways, none_placed, uses_many, ways_many}
use Rattle.hx_versions.proofs.IndexListLemmas.{some_same}
use Rattle.hx_versions.proofs.MovingLemmas.{set_live}
use Rattle.hx_versions.proofs.growing.set_indexes.Goals as goal

pub get-version-requires : goal.get-version-requires
get-version-requires g c =
    let r = c.requires in
    let p = c.args.pools.now in
    let at = version_at r.0 p r.1 r.2 r.3 r.4 c.args.slot r.5 r.6 in
    set_live (get p.versions c.args.slot) at.0 at.1

pub returns-then-len-uses-clause-ok : goal.returns-then-len-uses-clause-ok
returns-then-len-uses-clause-ok g c owner row before v after here below h searched =
    let p = c.args.pools.now in
    let at = version_at owner p row before v after c.args.slot here h in
    let version = c.get-version.result.now in
    let content_is : version.content ≡ v.content = ap (λ (x : StoredVersion). x.content) (some_same version at.0 (sym c.get-version.ensures.value ∙ at.1)) ∙ at.5 in
    let many = ways_many version.content v.content c.args.uses.now content_is (omega (arith, version.content.indexes.ok.0, c.len.ensures, c.if-len-uses.true)) in
    has_ways owner p row before v after c.args.slot here h below (use_ways c.args.uses.now)
    (has_already (use_ways c.args.uses.now) (shown_version v) searched many)

pub returns-clause-ok : goal.returns-clause-ok
returns-clause-ok g c owner row before v after here below h searched =
    let p = c.args.pools.now in
    let slot = c.args.slot in
    let put = c.put_content in
    let at = version_at owner p row before v after slot here h in
    let version = c.get-version.result.now in
    let content_is : version.content ≡ v.content = ap (λ (x : StoredVersion). x.content) (some_same version at.0 (sym c.get-version.ensures.value ∙ at.1)) ∙ at.5 in
    let ways = use_ways c.args.uses.now in
    let differs : length (ways_of v.content.indexes.items) ≢ length ways = λ same. c.if-len-uses.false
    (omega (arith, version.content.indexes.ok.0, c.len.ensures, uses_many version.content v.content c.args.uses.now content_is same)) in
    let none = none_placed v.placed (has_none_yet ways (shown_version v) searched differs) in
    let content : Content = record c.empty_content-content.result { indexes = c.in_ok-content.field-0 } in
    let bare = bare_content p.entries p.nodes slot c.empty_content-content.result content (c.empty_content-content.ensures.content p.entries p.nodes slot) refl refl c.in_ok-content.ensures.bare in
    gets_ways owner p row before v after slot here h below ways put.new.versions (record at.0 { content = content }) content (put.ensures.put at.0 at.1) refl bare none c.in_ok-content.ensures.ways put.ensures.live put.ensures.spare
