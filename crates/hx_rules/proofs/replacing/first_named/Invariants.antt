use Rattle.std.proofs.Common.{◌≡◌, drop}
use Rattle.std.specs.List.{list_any}
use Rattle.hx_http.specs.Edits.{has_name}
use Rattle.hx_rules.specs.ReplacingView.{replacing_from}
use Rattle.hx_rules.specs.Rewrites.{Replacement}
use Rattle.hx_rules.proofs.replacing.first_named.Given as goal

-- no line so far has the name
abbrev pub invariant-lines : goal.invariant-lines
invariant-lines l = record {
  edit : (replacement : Replacement) → replacing_from l.at l.name replacement l.message
      ≡ replacing_from 0 l.name replacement l.message;
  named : list_any (has_name l.name) (drop l.at l.message.headers)
      ≡ list_any (has_name l.name) l.message.headers;
}
