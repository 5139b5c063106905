use Rattle.std.proofs.Common.{refl}
use Rattle.hx_record.proofs.WordLemmas.{words_are_some}
use Rattle.hx_record.proofs.line.no_word.Goals as goal

pub returns-in-Some : goal.returns-in-Some
returns-in-Some c = rw c.in-Some.is (words_are_some c.in-Some.field-0.now, refl)
