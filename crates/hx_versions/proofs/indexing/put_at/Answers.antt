use Rattle.std.proofs.Common.{[], ◌∷◌, ◌++◌, length, refl, sym, ap, subst}
use Rattle.std.proofs.lemmas.Option.{slice_get_read}
use Rattle.hx_index.specs.Index.{Holds, ignores_case, method_of}
use Rattle.hx_versions.specs.Contents.{new_item}
use Rattle.hx_versions.proofs.IndexListLemmas.{list_changed, live_other, nodes_left, put_grows, way_at, ways_kept}
use Rattle.hx_versions.proofs.indexing.put_at.Goals as goal

pub put-requires-clause-method : goal.put-requires-clause-method
put-requires-clause-method g c =
    let index = c.index_mut-index.result.now in
    ap (λ w. w.0) (way_at c.args.indexes.now.items c.args.at index (c.args.prepared.by, c.args.prepared.ci) c.requires.at c.index_mut-index.ensures.value c.requires.way)

pub put-requires-clause-case : goal.put-requires-clause-case
put-requires-clause-case g c =
    let index = c.index_mut-index.result.now in
    ap (λ w. w.1) (way_at c.args.indexes.now.items c.args.at index (c.args.prepared.by, c.args.prepared.ci) c.requires.at c.index_mut-index.ensures.value c.requires.way)

pub put-requires-clause-holds : goal.put-requires-clause-holds
put-requires-clause-holds g c =
    let indexes = c.args.indexes.now.items in
    let index = c.index_mut-index.result.now in
    let items = c.requires.stand.0 in
    (items c.args.at (method_of index) (ignores_case index), c.requires.stand.1.holds c.args.at index (slice_get_read indexes (length indexes) c.args.at index refl c.requires.at c.index_mut-index.ensures.value))

pub returns-clause-stand : goal.returns-clause-stand
returns-clause-stand g c items h =
    let indexes = c.args.indexes.now.items in
    let index = c.index_mut-index.result.now in
    let by = c.args.prepared.by in
    let ci = c.args.prepared.ci in
    let mine = items c.args.at (method_of index) (ignores_case index) in
    let here = slice_get_read indexes (length indexes) c.args.at index refl c.requires.at c.index_mut-index.ensures.value in
    let way = way_at indexes c.args.at index (by, ci) c.requires.at c.index_mut-index.ensures.value c.requires.way in
    let stands = h.holds c.args.at index here in
    list_changed c.args.nodes.now c.put.new.nodes indexes c.args.at index c.put.new.self items c.requires.at c.index_mut-index.ensures.value c.put.ensures.method c.put.ensures.case
    (items c.args.at by ci ++ new_item c.put.result c.args.slot c.args.prepared.text by ci ∷ []) h
    (subst (λ w. Holds c.put.new.nodes c.put.new.self (items c.args.at w.0 w.1 ++ new_item c.put.result c.args.slot c.args.prepared.text by ci ∷ [])) (sym way) (c.put.ensures.holds mine stands))
    (put_grows c.args.nodes.now (items c.args.at by ci) mine (new_item c.put.result c.args.slot c.args.prepared.text by ci) (ap (λ w. items c.args.at w.0 w.1) way) c.put.ensures.was_free)
    (λ k live off. c.put.ensures.others mine stands k off (live_other c.args.nodes.now k c.put.result live c.put.ensures.was_free))

pub returns-clause-others : goal.returns-clause-others
returns-clause-others g c items entries version h owned =
    let indexes = c.args.indexes.now.items in
    let index = c.index_mut-index.result.now in
    let mine = items c.args.at (method_of index) (ignores_case index) in
    let stands = h.holds c.args.at index (slice_get_read indexes (length indexes) c.args.at index refl c.requires.at c.index_mut-index.ensures.value) in
    nodes_left c.args.nodes.now c.put.new.nodes indexes c.args.at index c.put.new.self items c.requires.at c.index_mut-index.ensures.value c.put.ensures.method c.put.ensures.case entries version h owned
    (λ k live off. c.put.ensures.others mine stands k off (live_other c.args.nodes.now k c.put.result live c.put.ensures.was_free))

pub returns-clause-ways : goal.returns-clause-ways
returns-clause-ways g c =
    ways_kept c.args.nodes.now c.put.new.nodes c.args.indexes.now.items c.args.at c.index_mut-index.result.now c.put.new.self (λ at by ci. []) c.requires.at c.index_mut-index.ensures.value c.put.ensures.method c.put.ensures.case
