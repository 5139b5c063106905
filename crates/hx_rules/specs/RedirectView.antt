-- Which actions the code keeps as redirects.
use Rattle.std.specs.Prelude.{Option, None, Some}
use Rattle.hx_rules.specs.declared.action.BuiltAction.{BuiltAction}
use Rattle.hx_rules.specs.declared.action.BuiltAction.TheVariants as built
use Rattle.hx_rules.specs.declared.action.BuiltRedirect.{BuiltRedirect}

-- the redirect that an action is, if it is one
abbrev pub redirect_in : BuiltAction → Option BuiltRedirect
redirect_in (built.Redirect redirect) = Some redirect
redirect_in _ = None
