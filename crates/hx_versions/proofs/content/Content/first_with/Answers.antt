use Rattle.std.proofs.Common.{refl, ◌∙◌, arith}
use Rattle.std.proofs.lemmas.Option.{slice_get_read}
use Rattle.hx_index.specs.Index.{ignores_case, method_of}
use Rattle.hx_versions.specs.Contents.{items_of}
use Rattle.hx_versions.proofs.KeyLemmas.{first_is, is_within, read_keeps}
use Rattle.hx_versions.proofs.content.Content.first_with.Goals as goal

pub index-index-requires : goal.index-index-requires
index-index-requires g c =
    omega (arith, is_within c.args.self.now.indexes.items c.args.at c.requires.index, c.args.self.now.indexes.ok.0)

pub first_with-requires-clause-keeps : goal.first_with-requires-clause-keeps
first_with-requires-clause-keeps g c =
    read_keeps c.args.self.now.indexes.items c.args.at c.index-index.result.now c.index-index.ensures c.requires.index

pub first_with-requires-clause-holds : goal.first_with-requires-clause-holds
first_with-requires-clause-holds g c =
    let r = c.requires.content in
    let indexes = c.args.self.now.indexes.items in
    let index = c.index-index.result.now in
    let here = slice_get_read indexes _ c.args.at index refl (is_within indexes c.args.at c.requires.index) c.index-index.ensures in
    (items_of r.2 c.args.at (method_of index) (ignores_case index), r.3.indexes.holds c.args.at index here)

pub returns-clause-found : goal.returns-clause-found
returns-clause-found g c e v placed h =
    let indexes = c.args.self.now.indexes.items in
    let index = c.index-index.result.now in
    let here = slice_get_read indexes _ c.args.at index refl (is_within indexes c.args.at c.requires.index) c.index-index.ensures in
    c.first_with.ensures.found (items_of placed c.args.at (method_of index) (ignores_case index)) (h.indexes.holds c.args.at index here)
    ∙ first_is c.args.at (method_of index) (ignores_case index) c.args.key.now placed
