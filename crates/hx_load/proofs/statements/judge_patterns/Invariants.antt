use Rattle.std.specs.Prelude.{◌≡◌, drop, is_none}
use Rattle.std.specs.List.{list_all}
use Rattle.hx_match.specs.Patterns.{text_fault}
use Rattle.hx_load.specs.Configuration.{has_patterns}
use Rattle.hx_load.proofs.statements.judge_patterns.Given as goal

-- the words that are left are patterns exactly where all are; and the maker's count and last text
-- stay
abbrev pub invariant-loop-word : goal.invariant-loop-word
invariant-loop-word g l = record {
  patterns : list_all (λ word. is_none (text_fault l.decl.by l.decl.ci word)) (drop l.word-index l.decl.words)
      ≡ has_patterns l.decl;
  count : (g.M.ReMaker.state l.maker).too_large ≡ (g.M.ReMaker.state l.fn.maker).too_large;
  last : (g.M.ReMaker.state l.maker).large ≡ (g.M.ReMaker.state l.fn.maker).large;
}
