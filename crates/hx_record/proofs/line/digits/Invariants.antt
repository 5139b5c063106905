use Rattle.std.proofs.Common.{◌≡◌, ◌≤◌, drop}
use Rattle.hx_record.proofs.DigitLemmas.{number_after}
use Rattle.hx_record.proofs.line.digits.Given as goal

abbrev pub invariant-loop-byte : goal.invariant-loop-byte
invariant-loop-byte l = record {
  value : number_after l.most l.n (drop l.byte-index l.word) ≡ number_after l.most 0 l.word;
  within : l.n ≤ l.most;
}
