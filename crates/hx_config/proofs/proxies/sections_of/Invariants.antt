use Rattle.std.proofs.Common.{◌≡◌, ◌-◌, drop, length, reverse, take}
use Rattle.hx_config.specs.Proxies.{sections_below, sections_of}
use Rattle.hx_config.proofs.proxies.sections_of.Given as goal

abbrev pub invariant-loop-i : goal.invariant-loop-i
invariant-loop-i l =
    sections_below (reverse (take l.i l.lines)) l.name (drop l.i l.lines) ≡ sections_of l.name l.lines

abbrev pub decreases-loop-i : goal.decreases-loop-i
decreases-loop-i l = length l.lines - l.i
