use Rattle.std.proofs.Common.{◌≡◌, true, false, refl, sym, ◌∙◌, arith}
use Rattle.hx_versions.proofs.ValueWalkLemmas.{live_has}
use Rattle.hx_versions.proofs.values.give_value.Goals as goal

pub is_chosen-requires : goal.is_chosen-requires
is_chosen-requires g c = c.requires.live

pub unreachable-requires : goal.unreachable-requires
unreachable-requires g c =
    let has = live_has c.args.entries.now c.args.slot c.requires.live in
    let some = c.requires.values has.0 has.1 (sym (c.is_chosen.ensures has.0 has.1) ∙ c.if-is_chosen.true) in
    omega (arith, some, c.in_default.ensures.cases.0, c.args.values.now.ok.0)

pub returns-in-Some-clause-chosen : goal.returns-in-Some-clause-chosen
returns-in-Some-clause-chosen g c stored is hit =
    (c.in-Some.value, c.in-Some.ensures.items, c.set_value.ensures.updates stored is)

pub returns-in-Some-clause-other : goal.returns-in-Some-clause-other
returns-in-Some-clause-other g c stored is miss =
    let same : true ≡ false = sym c.if-is_chosen.true ∙ c.is_chosen.ensures stored is ∙ miss in absurd (cc)

pub returns-else-is_chosen-clause-chosen : goal.returns-else-is_chosen-clause-chosen
returns-else-is_chosen-clause-chosen g c stored is hit =
    let same : false ≡ true = sym c.if-is_chosen.false ∙ c.is_chosen.ensures stored is ∙ hit in absurd (cc)

pub returns-else-is_chosen-clause-other : goal.returns-else-is_chosen-clause-other
returns-else-is_chosen-clause-other g c stored is miss = (refl, refl)
