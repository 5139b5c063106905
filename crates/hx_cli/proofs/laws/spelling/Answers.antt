use Rattle.hx_cli.proofs.CommandLemmas.{command_found, command_spells}
use Rattle.hx_cli.proofs.laws.spelling.Goals as goal

pub returns : goal.returns
returns c command words = (command_found command words, command_spells command words)
