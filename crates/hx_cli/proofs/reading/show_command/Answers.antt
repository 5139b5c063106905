use Rattle.std.proofs.Common.{rules, sym, ◌∙◌}
use Rattle.hx_cli.specs.Commands.{of_word}
use Rattle.hx_cli.specs.declared.command.Command.TheVariants.{Show}
use Rattle.hx_cli.proofs.CommandLemmas.{show_some}
use Rattle.hx_cli.proofs.reading.show_command.Goals as goal

pub returns-in_default : goal.returns-in_default
returns-in_default c =
    show_some c.args.is_map c.args.words.now (sym c.is_empty.ensures ∙ c.if-is_empty.false)
    (sym (c.in_default.ensures (λ ver. of_word (Show c.args.is_map ver))))

pub returns-in_default-words : goal.returns-in_default-words
returns-in_default-words c =
    show_some c.args.is_map c.args.words.now (sym c.is_empty.ensures ∙ c.if-is_empty.false)
    (search rules)

pub returns : goal.returns
returns c =
    show_some c.args.is_map c.args.words.now (sym c.is_empty.ensures ∙ c.if-is_empty.false)
    (search rules)
