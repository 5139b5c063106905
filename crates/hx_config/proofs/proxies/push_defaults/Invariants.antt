use Rattle.std.proofs.Common.{◌≡◌, ◌≤◌, ◌++◌, length, reverse, take}
use Rattle.std.specs.Option.{option_copied}
use Rattle.hx_config.specs.Proxies.{defaults_above}
use Rattle.hx_config.proofs.proxies.push_defaults.Given as goal

abbrev pub invariant-loop-i : goal.invariant-loop-i
invariant-loop-i l = record {
  within : l.i ≤ length l.above;
  pushed : l.sections.items ++ defaults_above (option_copied l.wanted) (reverse (take l.i l.above))
      ≡ l.fn.sections.items ++ defaults_above (option_copied l.from) (reverse l.above);
}

abbrev pub decreases-loop-i : goal.decreases-loop-i
decreases-loop-i l = l.i
