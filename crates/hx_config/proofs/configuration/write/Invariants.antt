use Rattle.std.proofs.Common.{◌≡◌, ◌++◌, length}
use Rattle.hx_config.specs.Configuration.{notes_from, notes_text, texts_below, texts_here}
use Rattle.hx_config.specs.FateView.{selection_view}
use Rattle.hx_config.proofs.configuration.write.Given as goal

abbrev pub invariant-loop-rest : goal.invariant-loop-rest
invariant-loop-rest l = record {
  here : l.text.items ++ texts_here (selection_view l.chosen) l.rest ≡ texts_here (selection_view l.chosen) l.lines;
  below : l.below.items ++ texts_below (selection_view l.chosen) l.rest ≡ texts_below (selection_view l.chosen) l.lines;
  noted : l.notes.items ++ notes_from l.file (selection_view l.chosen) l.lines l.rest
      ≡ notes_text l.file (selection_view l.chosen) l.lines;
}

abbrev pub decreases-loop-rest : goal.decreases-loop-rest
decreases-loop-rest l = length l.rest
