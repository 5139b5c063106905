use Rattle.std.proofs.Common.{◌≡◌, Bool, length, min, refl, sym, subst, ◌∙◌, inl, arith}
use Rattle.std.proofs.lemmas.Option.{slice_get_read}
use Rattle.hx_text.specs.declared.kinds.By.{By}
use Rattle.hx_index.specs.Items.{LeavesOut}
use Rattle.hx_index.specs.Index.{ignores_case, method_of}
use Rattle.hx_index.proofs.ItemLemmas.{in_left}
use Rattle.hx_versions.proofs.IndexListLemmas.{list_changed, nodes_left, some_same, way_of, ways_get, ways_kept}
use Rattle.hx_versions.proofs.dismantling.dismantle_at.Goals as goal

pub dismantle-requires : goal.dismantle-requires
dismantle-requires g c =
    let indexes = c.args.indexes.now.items in
    let index = c.index_mut-index.result.now in
    let here = slice_get_read indexes (length indexes) c.args.at index refl c.requires.at c.index_mut-index.ensures.value in
    (c.requires.stand.0 c.args.at (method_of index) (ignores_case index), c.requires.stand.1.holds c.args.at index here)

pub returns-clause-most : goal.returns-clause-most
returns-clause-most g c =
    let indexes = c.args.indexes.now.items in
    let index = c.index_mut-index.result.now in
    let here = slice_get_read indexes (length indexes) c.args.at index refl c.requires.at c.index_mut-index.ensures.value in
    let mine = c.requires.stand.0 c.args.at (method_of index) (ignores_case index) in
    omega (arith, c.dismantle.ensures.count mine (c.requires.stand.1.holds c.args.at index here))

pub returns-clause-count : goal.returns-clause-count
returns-clause-count g c items way h way_is =
    let indexes = c.args.indexes.now.items in
    let index = c.index_mut-index.result.now in
    let here = slice_get_read indexes (length indexes) c.args.at index refl c.requires.at c.index_mut-index.ensures.value in
    let mine = items c.args.at (method_of index) (ignores_case index) in
    let same : way ≡ way_of index = some_same way (way_of index) (sym way_is ∙ ways_get indexes c.args.at index here) in
    subst (λ (w : By × Bool). c.dismantle.result ≡ min c.args.n (length (items c.args.at w.0 w.1))) (sym same)
    (c.dismantle.ensures.count mine (h.holds c.args.at index here))

pub returns-clause-stand : goal.returns-clause-stand
returns-clause-stand g c items way h way_is =
    let indexes = c.args.indexes.now.items in
    let index = c.index_mut-index.result.now in
    let step = c.dismantle in
    let here = slice_get_read indexes (length indexes) c.args.at index refl c.requires.at c.index_mut-index.ensures.value in
    let mine = items c.args.at (method_of index) (ignores_case index) in
    let same : way ≡ way_of index = some_same way (way_of index) (sym way_is ∙ ways_get indexes c.args.at index here) in
    let stands = h.holds c.args.at index here in
    let out = step.ensures.holds mine stands in (
      out.0,
      list_changed c.args.nodes.now step.new.nodes indexes c.args.at index step.new.self items c.requires.at c.index_mut-index.ensures.value step.ensures.method step.ensures.case
          out.0 h out.1 (λ k there. inl (in_left step.result mine out.0 k out.2 there)) (λ k live off. step.ensures.others mine stands k off),
      subst (λ (w : By × Bool). LeavesOut step.result (items c.args.at w.0 w.1) out.0) (sym same) out.2,
    )

pub returns-clause-others : goal.returns-clause-others
returns-clause-others g c items entries version h owned =
    let indexes = c.args.indexes.now.items in
    let index = c.index_mut-index.result.now in
    let step = c.dismantle in
    let here = slice_get_read indexes (length indexes) c.args.at index refl c.requires.at c.index_mut-index.ensures.value in
    let mine = items c.args.at (method_of index) (ignores_case index) in
    let stands = h.holds c.args.at index here in
    nodes_left c.args.nodes.now step.new.nodes indexes c.args.at index step.new.self items c.requires.at c.index_mut-index.ensures.value step.ensures.method step.ensures.case entries version h owned
    (λ k live off. step.ensures.others mine stands k off)

pub returns-clause-ways : goal.returns-clause-ways
returns-clause-ways g c =
    ways_kept c.args.nodes.now c.dismantle.new.nodes c.args.indexes.now.items c.args.at c.index_mut-index.result.now c.dismantle.new.self c.requires.stand.0 c.requires.at c.index_mut-index.ensures.value c.dismantle.ensures.method c.dismantle.ensures.case
