use Rattle.std.proofs.Common.{sym, ap, ◌∙◌}
use Rattle.std.specs.List.{flat_map}
use Rattle.hx_conv_text.specs.Replacements.{item_value}
use Rattle.hx_conv_text.proofs.ReplacementLemmas.{expansion_of_items, items_of, items_written, only_items}
use Rattle.hx_conv_text.proofs.laws.replacement_is_its_items.Goals as goal

pub returns-clause-some : goal.returns-clause-some
returns-clause-some c = (items_of c.args.sub.now, items_written c.args.sub.now)

pub returns-clause-one : goal.returns-clause-one
returns-clause-one c = λ items others h k.
    sym (only_items items c.args.sub.now h) ∙ only_items others c.args.sub.now k

pub returns-clause-value : goal.returns-clause-value
returns-clause-value c = λ items group h.
    expansion_of_items group c.args.sub.now ∙ ap (flat_map (item_value group)) (only_items items c.args.sub.now h)
