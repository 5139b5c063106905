-- Which programs may change the head of a request (HAProxy configuration manual 2.4, section 4.2,
-- `http-request set-header` and the actions like it).
use Rattle.std.specs.Prelude.{Bool, true, false}
use Rattle.std.specs.List.{list_any}
use Rattle.hx_ast.specs.declared.action.Action.{Action}
use Rattle.hx_ast.specs.declared.action.Action.TheVariants as action
use Rattle.hx_rules.specs.Programs.{Rules}

-- whether an action rewrites the head of the request
abbrev pub is_rewrite : Action → Bool
is_rewrite (action.SetHeader name format) = true
is_rewrite (action.AddHeader name format) = true
is_rewrite (action.DelHeader name) = true
is_rewrite (action.ReplaceHeader name pattern format) = true
is_rewrite (action.ReplaceValue name pattern format) = true
is_rewrite (action.SetMethod format) = true
is_rewrite (action.SetUri format) = true
is_rewrite (action.SetPath format) = true
is_rewrite (action.SetQuery format) = true
is_rewrite _ = false

-- A rule of `http-request` rewrites the head, whatever its condition. Redirects and the rules of
-- `use_backend` only read it.
abbrev pub may_rewrite : Rules → Bool
may_rewrite program = list_any (λ rule. is_rewrite rule.action) program.rules
