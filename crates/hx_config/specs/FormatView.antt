-- What is known where a line stands, as the code keeps it.
use Rattle.std.specs.Option.{option_copied}
use Rattle.hx_config.specs.Formats.{Known}
use Rattle.hx_config.specs.declared.formats.Known.{Known as CodeKnown}

abbrev pub known_view : CodeKnown → Known
known_view known =
    record {
      tls = option_copied known.tls;
      as_it_came = known.as_it_came;
      answers_monitor = known.answers_monitor;
      lines = known.lines.now;
    }
