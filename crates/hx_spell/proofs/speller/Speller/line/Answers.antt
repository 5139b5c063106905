use Rattle.std.proofs.Common.{List, ℕ, subst}
use Rattle.hx_calls.specs.Known.{ReadsAs}
use Rattle.hx_spell.specs.Lines.{line_of}
use Rattle.hx_spell.proofs.LineLemmas.{answer_code, answer_nothing, answer_spelled}
use Rattle.hx_spell.proofs.SoundLineLemmas.{answer_allowed, answer_grown, answer_heads}
use Rattle.hx_spell.proofs.speller.Speller.line.Goals as goal

pub returns : goal.returns
returns c =
    let answer = c.read.result in
    let line = c.args.number in
    let words = c.args.words.now in
    let before = c.args.self.now in
    let after = c.read.new.self in
    let read : ReadsAs answer after (line_of line words before) =
    subst (λ (w : List (List ℕ)). ReadsAs answer after (line_of line w before))
    c.as_slice.ensures c.read.ensures.answers in
    let grown = answer_grown line words before after answer read c.read.ensures.kept in
    record {
      answers = read;
      kept = c.read.ensures.kept;
      spelled = answer_spelled line words before after answer read;
      nothing = answer_nothing line words before after answer read;
      code = answer_code line words before after answer read;
      allowed = answer_allowed line words before after answer read;
      heads = answer_heads line words before after answer read;
      extends = grown.heads;
      grows = grown.references;
    }
