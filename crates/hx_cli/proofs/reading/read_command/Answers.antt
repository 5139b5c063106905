use Rattle.std.proofs.Common.{ℕ, List, length, sym, ap, ◌∙◌, arith}
use Rattle.std.proofs.lemmas.Option.{none-some}
use Rattle.hx_cli.specs.CommandLine.{words_of}
use Rattle.hx_cli.specs.Commands.{command_of}
use Rattle.hx_cli.proofs.CommandLemmas.{command_found, command_spells}
use Rattle.hx_cli.proofs.reading.read_command.Goals as goal

pub returns-in-Some-clause-command : goal.returns-in-Some-clause-command
returns-in-Some-clause-command c =
    command_spells c.in-Some.command (words_of c.args.line.now)
    (ap command_of (sym c.in_ok-words.ensures) ∙ sym c.in_ok-command.ensures ∙ c.in-Some.is)

pub returns-clause-bad_command : goal.returns-clause-bad_command
returns-clause-bad_command c _ = (
  λ none.
      let empty = ap (λ (ws : List (List ℕ)). length ws) (c.in_ok-words.ensures ∙ none) in
      omega (arith, empty, c.len.ensures),
  λ command spells.
      none-some command
      (sym c.in-None.is ∙ c.in_ok-command.ensures ∙ ap command_of c.in_ok-words.ensures
      ∙ command_found command (words_of c.args.line.now) spells),
)
