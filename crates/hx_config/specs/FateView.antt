-- What becomes of lines, as the code keeps it.
use Rattle.std.specs.Option.{option_copied}
use Rattle.hx_config.specs.Fates.{Selection, Fate}
use Rattle.hx_config.specs.Fates as fates
use Rattle.hx_config.specs.declared.fate.Fate.{Fate as CodeFate}
use Rattle.hx_config.specs.declared.fate.Fate.TheVariants as fate
use Rattle.hx_config.specs.declared.fate.Selection.{Selection as CodeSelection}

abbrev pub fate_view : CodeFate → Fate
fate_view fate.Elsewhere = fates.Elsewhere
fate_view fate.Own = fates.Own
fate_view (fate.LeftOut reason) = fates.LeftOut reason.now
fate_view (fate.Otherwise words reason) = fates.Otherwise words.items reason.now
fate_view (fate.Below words reason) = fates.Below words.items reason.now

abbrev pub selection_view : CodeSelection → Selection
selection_view chosen =
    record {
      sections = chosen.sections.items;
      has_default = chosen.has_default;
      monitor_fails = chosen.monitor_fails;
      first_rule = chosen.first_rule;
      first_change = chosen.first_change;
      tls = option_copied chosen.tls;
      lines = chosen.lines.now;
    }
