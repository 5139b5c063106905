use Rattle.std.proofs.Common.{◌≡◌, ◌<◌, ◌+◌, length, refl, sym, arith, ◌∙◌}
use Rattle.hx_trace.proofs.HeadWalkLemmas.{is_below, number_next, numbers_whole}
use Rattle.hx_trace.proofs.numbers.head_numbers.Goals as goal

pub heads-init : goal.heads-init
heads-init c = record { so_far = rw c.new-numbers.ensures.items refl }

pub heads-smaller : goal.heads-smaller
heads-smaller c =
    let heads = c.args.refs.now.content.heads in
    let below : c.heads.head < length heads =
    is_below heads c.heads.head c.in-Some.r (sym c.reference_of.ensures ∙ c.in-Some.is) in
    let next : c.in-Some-checked_add.next ≡ c.heads.head + 1 = c.in-Some-checked_add.ensures.1 in
    omega (arith, below, next)

pub heads-preserved : goal.heads-preserved
heads-preserved c = record {
  so_far = rw (c.in_ok-push.ensures.items, c.reference_number.ensures, c.in-Some-checked_add.ensures.1)
      (number_next c.args.refs.now.content c.heads.numbers.items c.heads.head c.in-Some.r
      (sym c.reference_of.ensures ∙ c.in-Some.is) c.heads.invariant.so_far);
}

pub returns : goal.returns
returns c =
    numbers_whole c.args.refs.now.content c.heads.numbers.items c.heads.head
    (sym c.reference_of.ensures ∙ c.in_default.is) c.heads.invariant.so_far
