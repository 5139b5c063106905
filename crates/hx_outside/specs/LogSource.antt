-- A source beside the log of its reads.
use Rattle.std.specs.Prelude.{ℕ, Option, List, map, Vec}
use Rattle.std.specs.Option.{option_map}
use Rattle.hx_outside.specs.Log.{Log}

-- the source within, and its log, where that is known
pub record LogSourceState (S : Type 0) : Type 0 where
  pub inner : S
  pub log : Option Log

-- reads as vectors of bytes, as the log that they make
abbrev pub reads_of : {A : Type 0} → List (Option (Vec ℕ A)) → Log
reads_of reads = map (λ read. option_map (λ bytes. bytes.items) read) reads
