use Rattle.std.proofs.Common.{◌≡◌, length}
use Rattle.hx_rules.specs.ReplacingView.{replacement_by, replacing_from}
use Rattle.hx_rules.proofs.replacing.Replacer.replaced_copy.Given as goal

-- what is left to replace in the copy is what was to be replaced in the message
abbrev pub invariant-lines : goal.invariant-lines
invariant-lines l = record {
  edit : replacing_from l.at l.name (replacement_by l.self) l.edited
      ≡ replacing_from l.first l.name (replacement_by l.self) l.message;
  count : length l.edited.headers ≡ length l.message.headers;
}
