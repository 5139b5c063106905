-- A command as the code keeps it.
use Rattle.hx_run.specs.Run.{Asked}
use Rattle.hx_run.specs.declared.command.Command.{Command}

-- the command that is asked for
abbrev pub asked_of : Command → Asked
asked_of command = record { task = command.task; name = command.name.now }
