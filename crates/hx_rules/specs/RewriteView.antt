-- Which actions the code keeps as rewrites.
use Rattle.std.specs.Prelude.{Bool, true, false}
use Rattle.hx_rules.specs.declared.action.BuiltAction.{BuiltAction}
use Rattle.hx_rules.specs.declared.action.BuiltAction.TheVariants as built

abbrev pub is_kept_rewrite : BuiltAction → Bool
is_kept_rewrite (built.Rewrite rewrite) = true
is_kept_rewrite _ = false
