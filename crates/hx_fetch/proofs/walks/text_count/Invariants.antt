use Rattle.std.proofs.Common.{◌≡◌, ◌+◌, ◌-◌, ◌^◌, ◌≤◌, min, length}
use Rattle.hx_fetch.specs.Views.{source_texts}
use Rattle.hx_fetch.proofs.walks.text_count.Given as goal

abbrev pub invariant-loop-text : goal.invariant-loop-text
invariant-loop-text l =
    record {
      fits : l.count ≤ 2 ^ 64 - 1;
      rest : min (l.count + length l._text-iterator) (2 ^ 64 - 1) ≡ min (length (source_texts l.fn.source)) (2 ^ 64 - 1);
    }
