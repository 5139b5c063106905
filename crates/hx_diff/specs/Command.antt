-- A command as the code keeps it.
use Rattle.hx_diff.specs.Run.{Asked}
use Rattle.hx_diff.specs.declared.command.Command.{Command}

-- the command that is asked for
abbrev pub asked_of : Command → Asked
asked_of command = record {
  task = command.task;
  old_name = command.old_name.now;
  new_name = command.new_name.now;
}
