use Rattle.std.proofs.Common.{List, ℕ, Some, ◌∷◌, length, drop, sym, ap, ◌∙◌, refl, arith, length-append}
use Rattle.std.specs.Prelude.{option_map}
use Rattle.std.proofs.lemmas.List.{drop_at}
use Rattle.hx_base.specs.Bytes.{ascii}
use Rattle.hx_http.proofs.CutLemmas.{IsCut-cut_of}
use Rattle.hx_http.proofs.target.from_slash.Goals as goal

pub split_at-requires : goal.split_at-requires
split_at-requires c =
    let cut = IsCut-cut_of (ascii "/") c.args.text.now c.in-Some.before.now c.in-Some.field-0-1.now
    (sym c.in-Some.ensures.value) in
    omega (
      arith,
      ap length cut.whole ∙ length-append c.in-Some.before.now
          (ascii "/" ∷ c.in-Some.field-0-1.now),
    )

pub returns-in-Some : goal.returns-in-Some
returns-in-Some c =
    let text = c.args.text.now in
    let before = c.in-Some.before.now in
    let after = c.in-Some.field-0-1.now in
    let cut = IsCut-cut_of (ascii "/") text before after (sym c.in-Some.ensures.value) in
    ap Some (c.split_at.ensures.back ∙ ap (drop (length before)) cut.whole ∙ drop_at before
    (ascii "/" ∷ after) (length before) refl)
    ∙ ap (option_map (λ (p : List ℕ × List ℕ). ascii "/" ∷ p.1)) c.in-Some.ensures.value
