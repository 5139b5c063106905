use Rattle.std.proofs.Common.{◌≡◌, ◌≤◌, ◌-◌, length, drop, take, ap, ◌∙◌, arith}
use Rattle.std.proofs.lemmas.List.{length-take-le}
use Rattle.hx_conv_text.specs.Pieces.{last_items, text_across}
use Rattle.hx_conv_text.specs.Scanning.{pieces_left}
use Rattle.hx_conv_text.proofs.PieceLemmas.{last_all, last_some, take_last}
use Rattle.hx_conv_text.proofs.pieces.Pieces.to_last.Goals as goal
use Rattle.hx_conv_text.proofs.pieces.Pieces.to_last.Goals.{then-most-eq0, else-most-eq0}

pub returns-clause-value : goal.returns-clause-value
returns-clause-value c =
    let pieces = c.args.self.now in
    let text = pieces.text.now in
    let spans = pieces_left pieces 0 in
    let size = length spans - c.args.others in
    let skipped = c.if-most-eq0.skipped in
    let count : c.saturating_sub-pieces.result ≡ size = omega (arith, c.saturating_sub-pieces.ensures, c.count.ensures.value) in
    let few : length (take size spans) ≡ size = length-take-le size spans (omega arith) in
    let within : skipped ≤ size =
    elim c.if-most-eq0.branch [
      | then-most-eq0 w ↦ omega (arith, w.skipped-is)
      | else-most-eq0 w ↦ omega (arith, w.skipped-is, w.saturating_sub-skipped.ensures, count)
    ] in
    let same : drop skipped (take size spans) ≡ last_items c.args.most (take size spans) =
    elim c.if-most-eq0.branch [
      | then-most-eq0 w ↦ last_all c.args.most skipped (take size spans) w.if-most-eq0.true w.skipped-is
      | else-most-eq0 w ↦ last_some c.args.most skipped (take size spans) w.if-most-eq0.false
          (omega (arith, w.skipped-is, w.saturating_sub-skipped.ensures, count, few))
    ] in
    c.across.ensures.value
    ∙ ap (λ n. text_across text (take (n - skipped) (drop skipped spans))) count
    ∙ ap (text_across text) (take_last spans size skipped within ∙ same)
