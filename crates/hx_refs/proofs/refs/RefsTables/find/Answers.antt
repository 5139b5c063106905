use Rattle.std.proofs.Common.{length, refl, ◌∙◌}
use Rattle.std.proofs.lemmas.Option.{slice_get_read}
use Rattle.std.proofs.lemmas.Result.{IfOk-weaker}
use Rattle.hx_sample.specs.Seen.{value_of}
use Rattle.hx_refs.specs.Kept.{table_heads, PlacedHead}
use Rattle.hx_refs.proofs.KeptLemmas.{cost_here, found_here, found_within, reference_within}
use Rattle.hx_refs.proofs.PlacedHeadLemmas.{head_count, head_read, way_placed}
use Rattle.hx_refs.proofs.refs.RefsTables.find.Goals as goal

pub find-requires-clause-r : goal.find-requires-clause-r
find-requires-clause-r g c =
    let heads = c.self.inside.heads.items in
    let here : PlacedHead = record {
      head = record { by = c.known.inside.by; ci = c.known.inside.ci; list = c.known.inside.list };
      place = c.known.inside.place;
    } in
    let within = rw (← c.self.view_is) at c.requires.head in
    let read = rw (← c.known.view_is) at c.index-known.ensures in
    reference_within (table_heads heads) c.self.inside.kept.kept c.args.head here.head c.self.invariant.all within
    (head_read heads c.args.head here (head_count heads c.args.head within) read)

pub find-requires-clause-known : goal.find-requires-clause-known
find-requires-clause-known g c =
    let heads = c.self.inside.heads.items in
    let here : PlacedHead = record {
      head = record { by = c.known.inside.by; ci = c.known.inside.ci; list = c.known.inside.list };
      place = c.known.inside.place;
    } in
    let within = rw (← c.self.view_is) at c.requires.head in
    let read = rw (← c.known.view_is) at c.index-known.ensures in
    way_placed heads c.self.inside.kept.kept c.args.head here c.self.invariant (head_count heads c.args.head within) read

pub returns-clause-found : goal.returns-clause-found
returns-clause-found g c =
    let heads = c.self.inside.heads.items in
    let kept = c.self.inside.kept.kept in
    let here : PlacedHead = record {
      head = record { by = c.known.inside.by; ci = c.known.inside.ci; list = c.known.inside.list };
      place = c.known.inside.place;
    } in
    let within = rw (← c.self.view_is) at c.requires.head in
    let read = head_read heads c.args.head here (head_count heads c.args.head within) (rw (← c.known.view_is) at c.index-known.ensures) in
    let found = found_within kept here.head.list (reference_within (table_heads heads) kept c.args.head here.head c.self.invariant.all within read) in
    rw (← c.self.view_is)
    (IfOk-weaker c.find.result _ _
    (λ hit is. is found.0 found.1
    ∙ found_here c.self.inside.limits c.self.inside.first (table_heads heads) kept c.args.head here.head found.0 (value_of c.args.sample.now) within read found.1)
    c.find.ensures.found)

pub returns-clause-free : goal.returns-clause-free
returns-clause-free g c =
    let heads = c.self.inside.heads.items in
    let here : PlacedHead = record {
      head = record { by = c.known.inside.by; ci = c.known.inside.ci; list = c.known.inside.list };
      place = c.known.inside.place;
    } in
    let within = rw (← c.self.view_is) at c.requires.head in
    let read = head_read heads c.args.head here (head_count heads c.args.head within) (rw (← c.known.view_is) at c.index-known.ensures) in
    rw (← c.self.view_is)
    (rw (slice_get_read (table_heads heads) (length (table_heads heads)) c.args.head here.head refl within read)
    c.find.ensures.free)

pub returns-clause-cost : goal.returns-clause-cost
returns-clause-cost g c =
    let heads = c.self.inside.heads.items in
    let kept = c.self.inside.kept.kept in
    let here : PlacedHead = record {
      head = record { by = c.known.inside.by; ci = c.known.inside.ci; list = c.known.inside.list };
      place = c.known.inside.place;
    } in
    let within = rw (← c.self.view_is) at c.requires.head in
    let read = head_read heads c.args.head here (head_count heads c.args.head within) (rw (← c.known.view_is) at c.index-known.ensures) in
    let found = found_within kept here.head.list (reference_within (table_heads heads) kept c.args.head here.head c.self.invariant.all within read) in
    rw (← c.self.view_is)
    (rw (cost_here c.self.inside.limits c.self.inside.first (table_heads heads) kept c.args.head here.head found.0 (value_of c.args.sample.now) within read found.1)
    at (c.find.ensures.cost found.0 found.1))
