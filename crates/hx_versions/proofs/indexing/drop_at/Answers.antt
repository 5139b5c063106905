use Rattle.std.proofs.Common.{◌≡◌, Bool, length, refl, sym, subst, ◌∙◌, inl}
use Rattle.std.proofs.lemmas.Option.{slice_get_read}
use Rattle.hx_text.specs.declared.kinds.By.{By}
use Rattle.hx_pool.specs.Chain.{IsIn}
use Rattle.hx_index.specs.Items.{nodes_of, without_node}
use Rattle.hx_index.specs.Index.{Holds, ignores_case, method_of}
use Rattle.hx_index.proofs.ItemLemmas.{in_without}
use Rattle.hx_versions.proofs.IndexListLemmas.{list_changed, nodes_left, some_same, way_of, ways_get, ways_kept}
use Rattle.hx_versions.proofs.indexing.drop_at.Goals as goal

pub drop_entry-requires : goal.drop_entry-requires
drop_entry-requires g c =
    let indexes = c.args.indexes.now.items in
    let index = c.index_mut-index.result.now in
    let here = slice_get_read indexes (length indexes) c.args.at index refl c.requires.at c.index_mut-index.ensures.value in
    let items = c.requires.stand.0 in
    (items c.args.at (method_of index) (ignores_case index), c.requires.stand.1.holds c.args.at index here, c.requires.stand.2 (way_of index) (ways_get indexes c.args.at index here))

pub returns-clause-stand : goal.returns-clause-stand
returns-clause-stand g c items way h there way_is =
    let indexes = c.args.indexes.now.items in
    let index = c.index_mut-index.result.now in
    let drop = c.drop_entry in
    let here = slice_get_read indexes (length indexes) c.args.at index refl c.requires.at c.index_mut-index.ensures.value in
    let mine = items c.args.at (method_of index) (ignores_case index) in
    let same : way ≡ way_of index = some_same way (way_of index) (sym way_is ∙ ways_get indexes c.args.at index here) in
    let stands = h.holds c.args.at index here in
    let inside = there (way_of index) (ways_get indexes c.args.at index here) in
    list_changed c.args.nodes.now drop.new.nodes indexes c.args.at index drop.new.self items c.requires.at c.index_mut-index.ensures.value drop.ensures.method drop.ensures.case
    (without_node c.args.node (items c.args.at way.0 way.1)) h
    (subst (λ (w : By × Bool). Holds drop.new.nodes drop.new.self (without_node c.args.node (items c.args.at w.0 w.1))) (sym same) (drop.ensures.holds mine stands inside))
    (λ k there. inl (subst (λ (w : By × Bool). IsIn k (nodes_of (items c.args.at w.0 w.1))) same (in_without c.args.node (items c.args.at way.0 way.1) k there)))
    (λ k live off. drop.ensures.others mine stands inside k off)

pub returns-clause-others : goal.returns-clause-others
returns-clause-others g c items entries version h there owned =
    let indexes = c.args.indexes.now.items in
    let index = c.index_mut-index.result.now in
    let drop = c.drop_entry in
    let here = slice_get_read indexes (length indexes) c.args.at index refl c.requires.at c.index_mut-index.ensures.value in
    let mine = items c.args.at (method_of index) (ignores_case index) in
    let stands = h.holds c.args.at index here in
    let inside = there (way_of index) (ways_get indexes c.args.at index here) in
    nodes_left c.args.nodes.now drop.new.nodes indexes c.args.at index drop.new.self items c.requires.at c.index_mut-index.ensures.value drop.ensures.method drop.ensures.case entries version h owned
    (λ k live off. drop.ensures.others mine stands inside k off)

pub returns-clause-ways : goal.returns-clause-ways
returns-clause-ways g c =
    ways_kept c.args.nodes.now c.drop_entry.new.nodes c.args.indexes.now.items c.args.at c.index_mut-index.result.now c.drop_entry.new.self c.requires.stand.0 c.requires.at c.index_mut-index.ensures.value c.drop_entry.ensures.method c.drop_entry.ensures.case
