-- What is decided is written before more is read: also where more is written later.
use Rattle.std.proofs.Common.{ℕ, List, ◌++◌, Option, append_assoc}
use Rattle.std.specs.Io.KnownBytes.{Appends}
use Rattle.std.proofs.KnownBytes.{Appends-trans}
use Rattle.hx_outside.specs.Log.{Log}
use Rattle.hx_replay.specs.Behavior.{Behavior}
use Rattle.hx_replay.specs.Replay.{BeginsWithDecided, WritesBeforeReading, decided_outcome}
use Rattle.hx_replay.proofs.LogLemmas.{before_map}

pub begins_more : {S : Type 0} → (b : Behavior S) (start : S) (bytes : List ℕ) (old mid new : Option (List ℕ)) (more : List ℕ)
    → BeginsWithDecided b start bytes old mid → Appends mid new more → BeginsWithDecided b start bytes old new
begins_more b start bytes old mid new more begins appended =
    let answers = (decided_outcome b start bytes).answers in
    record {
      rest = begins.rest ++ more;
      written = rw (← append_assoc answers begins.rest more) (Appends-trans old mid new (answers ++ begins.rest) more begins.written appended);
    }

-- more that is written after the last read
pub written_more : {S : Type 0} → (b : Behavior S) (start : S) (log log' : Option Log) (old mid new : Option (List ℕ)) (more : List ℕ)
    → WritesBeforeReading b start log log' old mid → Appends mid new more → WritesBeforeReading b start log log' old new
written_more b start log log' old mid new more so_far appended =
    before_map log log' (λ bytes. BeginsWithDecided b start bytes old mid) (λ bytes. BeginsWithDecided b start bytes old new) so_far
    (λ bytes begins. begins_more b start bytes old mid new more begins appended)
