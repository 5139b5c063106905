use Rattle.std.proofs.Common.{◌≡◌}
use Rattle.hx_rules.specs.ReplacingView.{replacement_by, replacing_from}
use Rattle.hx_rules.proofs.replacing.Replacer.first_replaced.Given as goal

-- what is left to replace is what was to be replaced
abbrev pub invariant-lines : goal.invariant-lines
invariant-lines l =
    let replacement = replacement_by l.self in
    replacing_from l.at l.name replacement l.message ≡ replacing_from l.from l.name replacement l.message
