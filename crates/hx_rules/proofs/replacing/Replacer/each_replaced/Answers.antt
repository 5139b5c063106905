use Rattle.std.proofs.Common.{◌≡◌, [], ◌∷◌, ◌++◌, List, ℕ, Bor, Bool, false, ap, ◌∙◌}
use Rattle.std.specs.Prelude.{◌||◌, Option}
use Rattle.std.specs.Option.{option_copied, option_map_or}
use Rattle.hx_base.specs.Bytes.{ascii}
use Rattle.hx_conv_text.specs.Substitution.{expanded_of}
use Rattle.hx_lists.specs.HeaderValues.{hdr_pieces}
use Rattle.hx_rules.proofs.PieceLemmas.{any_replaced, changed_more, joined, text_more}
use Rattle.hx_rules.proofs.replacing.Replacer.each_replaced.Goals as goal

pub loop-text-preserved : goal.loop-text-preserved
loop-text-preserved c =
    let replacement = expanded_of false c.args.self.now.pattern.now c.args.self.now.sub.now in
    let piece = c.first_hdr_piece.result.0.now in
    let more = c.in-Some.more.now in
    let is : hdr_pieces c.loop-text.rest.now ≡ piece ∷ hdr_pieces more =
    c.first_hdr_piece.ensures
    ∙ ap (λ (o : Option (Bor (List ℕ))). piece ∷ option_map_or hdr_pieces (option_copied o) []) c.in-Some.is in
    record {
      text =
          ap (λ (text : List ℕ). text ++ joined replacement more) c.in_ok-push_all.ensures.ok
          ∙ ap (λ (text : List ℕ). (text ++ ascii "," ∷ []) ++ joined replacement more) c.in_ok-is_changed.ensures.text
          ∙ text_more replacement c.loop-text.text c.loop-text.rest.now more piece (joined replacement c.args.line.now)
          c.loop-text.invariant.text is;
      changed =
          ap (λ (is : Bool). (c.loop-text.is_changed || is) || any_replaced replacement more) c.in_ok-is_changed.ensures.changed
          ∙ changed_more replacement c.loop-text.is_changed (any_replaced replacement c.args.line.now) c.loop-text.rest.now more piece
          c.loop-text.invariant.changed is;
    }
