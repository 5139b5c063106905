-- Parts of an expression that is assembled, as the code keeps them.
use Rattle.hx_config.specs.Assembling.{Append, FirstText}
use Rattle.hx_config.specs.declared.assembling.Append.{Append as CodeAppend}
use Rattle.hx_config.specs.declared.assembling.FirstText.{FirstText as CodeFirstText}

abbrev pub append_view : CodeAppend → Append
append_view part =
    record { text = part.text.items; is_open = part.is_open; skip = part.skip }

abbrev pub first_view : CodeFirstText → FirstText
first_view first = record { text = first.text.items; skip = first.skip }
