use Rattle.std.proofs.Common.{◌≡◌, length, ap, ◌∙◌, arith}
use Rattle.hx_filling.proofs.FillLemmas.{first_and_others, other_specs}
use Rattle.hx_filling.proofs.NumberLemmas.{all_numbered, first_is_below, free_is_taken, given_is_taken, is_first_free, numbering_begins, one_is_free}
use Rattle.hx_filling.proofs.tables.numbers_beside.Goals.{in-Some, in-None}
use Rattle.hx_filling.proofs.tables.numbers_beside.Goals as goal

pub loop-rest-init : goal.loop-rest-init
loop-rest-init c = rw c.new-numbers.ensures.items (numbering_begins c.args.specs.now)

pub first_free-free-requires : goal.first_free-free-requires
first_free-free-requires c =
    let rest = c.loop-rest.rest.now in
    let spec = c.spec-item.result in
    let list = first_and_others rest spec c.in-len1-up.len_at_least c.spec-item.is in
    let one = one_is_free c.loop-rest.numbers.items c.loop-rest.free spec rest (other_specs rest)
    c.args.specs.now c.loop-rest.invariant list c.in-None.is in
    (one.0, one.1, omega (arith, one.2, c.requires.few), c.requires.given one.0 ∙ one.3)

pub overflow_add-free : goal.overflow_add-free
overflow_add-free c =
    let rest = c.loop-rest.rest.now in
    let spec = c.spec-item.result in
    let list = first_and_others rest spec c.in-len1-up.len_at_least c.spec-item.is in
    let free = c.first_free-free in
    let found = is_first_free c.args.given.now c.args.specs.now c.requires.given c.loop-rest.free
    free.result free.ensures.from free.ensures.free free.ensures.least in
    let low = first_is_below c.loop-rest.numbers.items c.loop-rest.free free.result spec rest
    (other_specs rest) c.args.specs.now c.loop-rest.invariant list c.in-None.is found in
    omega (arith, low, c.requires.few)

pub loop-rest-smaller : goal.loop-rest-smaller
loop-rest-smaller c =
    let rest = c.loop-rest.rest.now in
    let list = first_and_others rest c.spec-item.result c.in-len1-up.len_at_least c.spec-item.is in
    let count = ap length list in
    omega (arith, count)

pub loop-rest-preserved : goal.loop-rest-preserved
loop-rest-preserved c =
    let rest = c.loop-rest.rest.now in
    let spec = c.spec-item.result in
    let specs = c.args.specs.now in
    let numbers = c.loop-rest.numbers.items in
    let list = first_and_others rest spec c.in-len1-up.len_at_least c.spec-item.is in
    elim c.match-spec.branch [
      | in-Some w ↦
          rw (c.in_ok-push.ensures.items, w.free-is, w.number-is)
          (given_is_taken numbers c.loop-rest.free w.in-Some.number spec rest
          (other_specs rest) specs c.loop-rest.invariant list w.in-Some.is)
      | in-None w ↦
          let free = w.first_free-free in
          let found = is_first_free c.args.given.now specs c.requires.given c.loop-rest.free
          free.result free.ensures.from free.ensures.free free.ensures.least in
          let same : c.match-spec.number ≡ free.result = omega (arith, w.number-is) in
          rw (c.in_ok-push.ensures.items, w.free-is, same)
          (free_is_taken numbers c.loop-rest.free free.result spec rest
          (other_specs rest) specs c.loop-rest.invariant list w.in-None.is found)
    ]

pub returns : goal.returns
returns c =
    all_numbered c.loop-rest.numbers.items c.loop-rest.free c.loop-rest.rest.now c.args.specs.now
    c.loop-rest.invariant c.in_default.len_below
