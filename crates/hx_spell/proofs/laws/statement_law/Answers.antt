use Rattle.hx_spell.proofs.LineLemmas.{line_has_code, line_law, line_never_lacks}
use Rattle.hx_spell.proofs.laws.statement_law.Goals as goal

pub returns : goal.returns
returns c = record {
  spelled = λ number before read. line_law number c.args.words.now before read;
  never = λ number before. line_never_lacks number c.args.words.now before;
  code = λ number before fault. line_has_code number c.args.words.now before fault;
}
