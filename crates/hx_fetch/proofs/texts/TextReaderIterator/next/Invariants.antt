use Rattle.std.proofs.Common.{◌≡◌, length}
use Rattle.std.specs.Option.{option_copied}
use Rattle.hx_fetch.specs.Views.{texts_of_reader}
use Rattle.hx_fetch.proofs.texts.TextReaderIterator.next.Given as goal

abbrev pub invariant-loop-text : goal.invariant-loop-text
invariant-loop-text l =
    texts_of_reader (option_copied l.self-inside.name) l.self-inside.rest l.self-inside.form l.self-inside.lines ≡ l.fn.self

abbrev pub decreases-loop-text : goal.decreases-loop-text
decreases-loop-text l = length l.self-inside.lines
