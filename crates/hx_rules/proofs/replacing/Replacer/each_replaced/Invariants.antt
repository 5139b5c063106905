use Rattle.std.proofs.Common.{◌≡◌, ◌++◌, false, length}
use Rattle.std.specs.Prelude.{◌||◌}
use Rattle.hx_conv_text.specs.Substitution.{expanded_of}
use Rattle.hx_lists.specs.HeaderValues.{hdr_pieces}
use Rattle.hx_rules.proofs.PieceLemmas.{any_replaced, joined}
use Rattle.hx_rules.proofs.replacing.Replacer.each_replaced.Given as goal

-- the text so far and that of what is left are the whole, and so are the two answers whether a value
-- is replaced
abbrev pub invariant-loop-text : goal.invariant-loop-text
invariant-loop-text l =
    let replacement = expanded_of false l.self.pattern.now l.self.sub.now in
    record {
      text : l.text ++ joined replacement l.rest ≡ joined replacement l.line;
      changed : (l.is_changed || any_replaced replacement l.rest) ≡ any_replaced replacement l.line;
    }

abbrev pub decreases-loop-text : goal.decreases-loop-text
decreases-loop-text l = length (hdr_pieces l.rest)
