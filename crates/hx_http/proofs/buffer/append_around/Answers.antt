use Rattle.std.proofs.Common.{◌∙◌}
use Rattle.hx_http.proofs.ExtendLemmas.{text_around}
use Rattle.hx_http.proofs.buffer.append_around.Goals as goal

pub returns-clause-text : goal.returns-clause-text
returns-clause-text c =
    text_around c.args.bytes.now.items c.extend_from_within.new.self.items c.extend_from_slice.new.self.items c.extend_from_slice-2.new.self.items c.extend_from_within-2.new.self.items c.args.mark.now c.args.text.now c.args.span c.args.before c.args.after c.len-start.result c.len.result
    c.requires.span c.requires.before c.requires.after
    c.in_ok-extend_from_within.ensures.items c.in_ok-extend_from_slice.ensures.items c.in_ok-extend_from_slice-2.ensures.items c.in_ok-extend_from_within-2.ensures.items
    (c.len-start.ensures ∙ c.args.bytes.now.ok.0) (c.len.ensures ∙ c.extend_from_within-2.new.self.ok.0)
