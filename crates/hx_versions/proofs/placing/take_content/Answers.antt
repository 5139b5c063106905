use Rattle.std.proofs.Common.{◌≡◌, Some, sym, ap, ◌∙◌}
use Rattle.hx_versions.specs.declared.stored_version.StoredVersion.{StoredVersion}
use Rattle.hx_versions.proofs.IndexListLemmas.{some_same}
use Rattle.hx_versions.proofs.MovingLemmas.{written_version}
use Rattle.hx_versions.proofs.placing.take_content.Goals as goal

pub returns-clause-taken : goal.returns-clause-taken
returns-clause-taken g c stored is =
    let now = c.get_mut.result.now in
    let same : now ≡ stored = some_same now stored (sym c.get_mut.ensures.value ∙ is) in (
      c.replace.ensures.value ∙ ap (λ (x : StoredVersion). x.content) same,
      c.replace.new.dest,
      written_version c.args.versions.now c.args.slot now stored (λ (x : StoredVersion). record x { content = c.replace.new.dest }) c.get_mut.ensures.value is,
    )
