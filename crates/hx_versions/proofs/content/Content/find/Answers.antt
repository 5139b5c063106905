use Rattle.std.proofs.Common.{Bool, length, refl, sym, ap, ◌∙◌, arith}
use Rattle.std.proofs.lemmas.Option.{slice_get_read}
use Rattle.hx_text.specs.declared.kinds.By.{By}
use Rattle.hx_sample.specs.Find.{found_entry}
use Rattle.hx_sample.specs.Seen.{value_of}
use Rattle.hx_index.specs.Index.{ignores_case, method_of}
use Rattle.hx_versions.specs.Contents.{entries_of, items_of}
use Rattle.hx_versions.proofs.FindLemmas.{entry_is, none_is, slot_live, steps_here, way_here}
use Rattle.hx_versions.proofs.content.Content.find.Goals as goal

pub find-requires : goal.find-requires
find-requires g c =
    let r = c.requires.content in
    let indexes = c.args.self.now.indexes.items in
    let index = c.index-index.result.now in
    let here = slice_get_read indexes (length indexes) c.args.at index refl c.requires.at c.index-index.ensures in
    (items_of r.1 c.args.at (method_of index) (ignores_case index), r.2.indexes.holds c.args.at index here)

pub get-requires : goal.get-requires
get-requires g c =
    let r = c.requires.content in
    let indexes = c.args.self.now.indexes.items in
    let index = c.index-index.result.now in
    let here = slice_get_read indexes (length indexes) c.args.at index refl c.requires.at c.index-index.ensures in
    let items = items_of r.1 c.args.at (method_of index) (ignores_case index) in
    slot_live c.args.entries.now c.args.nodes.now r.0 c.args.self.now r.1 r.2 index c.args.at (value_of c.args.sample.now) c.in-Some.slot
    (sym c.in-Some.is ∙ c.in_ok-slot.ensures.found items (r.2.indexes.holds c.args.at index here))

pub returns-in-Some-clause-found : goal.returns-in-Some-clause-found
returns-in-Some-clause-found g c v placed way h way_is =
    let indexes = c.args.self.now.indexes.items in
    let index = c.index-index.result.now in
    let here = slice_get_read indexes (length indexes) c.args.at index refl c.requires.at c.index-index.ensures in
    let items = items_of placed c.args.at (method_of index) (ignores_case index) in
    let same = way_here indexes c.args.at index way c.requires.at c.index-index.ensures way_is in
    let sought = value_of c.args.sample.now in
    let is = entry_is c.args.entries.now c.args.nodes.now v c.args.self.now placed h index c.args.at sought c.in-Some.slot c.get.result.now
    (sym c.in-Some.is ∙ c.in_ok-slot.ensures.found items (h.indexes.holds c.args.at index here)) c.get.ensures.value in
    is ∙ ap (λ (w : By × Bool). found_entry w.0 w.1 (entries_of placed) sought) same

pub returns-in-None-clause-found : goal.returns-in-None-clause-found
returns-in-None-clause-found g c v placed way h way_is =
    let indexes = c.args.self.now.indexes.items in
    let index = c.index-index.result.now in
    let here = slice_get_read indexes (length indexes) c.args.at index refl c.requires.at c.index-index.ensures in
    let items = items_of placed c.args.at (method_of index) (ignores_case index) in
    let same = way_here indexes c.args.at index way c.requires.at c.index-index.ensures way_is in
    let sought = value_of c.args.sample.now in
    let is = none_is c.args.entries.now c.args.nodes.now v c.args.self.now placed h index c.args.at sought
    (sym c.in-None.is ∙ c.in_ok-slot.ensures.found items (h.indexes.holds c.args.at index here)) in
    is ∙ ap (λ (w : By × Bool). found_entry w.0 w.1 (entries_of placed) sought) same

pub returns-in-Some-clause-cost : goal.returns-in-Some-clause-cost
returns-in-Some-clause-cost g c v placed way h way_is =
    let indexes = c.args.self.now.indexes.items in
    let index = c.index-index.result.now in
    let here = slice_get_read indexes (length indexes) c.args.at index refl c.requires.at c.index-index.ensures in
    let items = items_of placed c.args.at (method_of index) (ignores_case index) in
    let same = way_here indexes c.args.at index way c.requires.at c.index-index.ensures way_is in
    omega (arith, c.get.ensures.cost, c.in_ok-slot.ensures.cost items (h.indexes.holds c.args.at index here), steps_here indexes c.args.at index way placed (value_of c.args.sample.now) same)

pub returns-in-None-clause-cost : goal.returns-in-None-clause-cost
returns-in-None-clause-cost g c v placed way h way_is =
    let indexes = c.args.self.now.indexes.items in
    let index = c.index-index.result.now in
    let here = slice_get_read indexes (length indexes) c.args.at index refl c.requires.at c.index-index.ensures in
    let items = items_of placed c.args.at (method_of index) (ignores_case index) in
    let same = way_here indexes c.args.at index way c.requires.at c.index-index.ensures way_is in
    omega (arith, c.in_ok-slot.ensures.cost items (h.indexes.holds c.args.at index here), steps_here indexes c.args.at index way placed (value_of c.args.sample.now) same)

pub returns-in_err-slot-clause-cost : goal.returns-in_err-slot-clause-cost
returns-in_err-slot-clause-cost g c v placed way h way_is =
    let indexes = c.args.self.now.indexes.items in
    let index = c.index-index.result.now in
    let here = slice_get_read indexes (length indexes) c.args.at index refl c.requires.at c.index-index.ensures in
    let items = items_of placed c.args.at (method_of index) (ignores_case index) in
    let same = way_here indexes c.args.at index way c.requires.at c.index-index.ensures way_is in
    omega (arith, c.in_err-slot.ensures.cost items (h.indexes.holds c.args.at index here), steps_here indexes c.args.at index way placed (value_of c.args.sample.now) same)
