use Rattle.std.proofs.Common.{◌≡◌, ◌≤◌, ◌+◌, length, drop, take, ap, ◌∙◌, arith, length-drop}
use Rattle.hx_conv_text.specs.Pieces.{first_items, text_across}
use Rattle.hx_conv_text.specs.Scanning.{pieces_left}
use Rattle.hx_conv_text.proofs.PieceLemmas.{first_all, first_some, length-pieces_after}
use Rattle.hx_conv_text.proofs.pieces.Pieces.from_first.Goals as goal
use Rattle.hx_conv_text.proofs.pieces.Pieces.from_first.Goals.{then-most-eq0, else-most-eq0}

pub returns-clause-value : goal.returns-clause-value
returns-clause-value c =
    let pieces = c.args.self.now in
    let text = pieces.text.now in
    let spans = pieces_left pieces 0 in
    let rest = drop c.args.skipped spans in
    let size : length rest ≤ length text + 1 =
    omega (arith, length-drop c.args.skipped spans, length-pieces_after pieces.words pieces.delims.now text) in
    let same : take c.if-most-eq0.most rest ≡ first_items c.args.most rest =
    elim c.if-most-eq0.branch [
      | then-most-eq0 w ↦ ap (λ n. take n rest) w.most-is ∙ first_all c.args.most (length text + 1) rest w.if-most-eq0.true size
      | else-most-eq0 w ↦ ap (λ n. take n rest) w.most-is ∙ first_some c.args.most rest w.if-most-eq0.false
    ] in
    c.across.ensures.value ∙ ap (text_across text) same
