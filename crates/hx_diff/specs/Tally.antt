-- How many requests and lines of the management socket there were, and how many of them two
-- configurations answer differently.
use Rattle.std.specs.Prelude.{ℕ, Bool, true, false, not, ◌==◌, ◌||◌, nat_lt, length, List, ◌++◌, codes}
use Rattle.std.specs.Fmt.{decimal}
use Rattle.std.specs.Str.{bytes_eq}
use Rattle.hx_core.specs.Steps.{next_number}
use Rattle.hx_record.specs.declared.Event.{Event}
use Rattle.hx_record.specs.declared.Event.TheVariants.{Conn, Req, Close, Cli}
use Rattle.hx_diff.specs.declared.tally.Tally.{Tally}

-- one more where it is so
abbrev pub counted_if : Bool → ℕ → ℕ
counted_if true count = next_number count
counted_if false count = count

-- nothing is counted yet
abbrev pub no_tally : Tally
no_tally = record { requests = 0; requests_differ = 0; commands = 0; commands_differ = 0 }

-- A request is counted, and once more where its two answers differ; so is a line of the management
-- socket that either side answers.
abbrev pub tally_after : Tally → Event → (old new : List ℕ) → Tally
tally_after tally (Conn id src src_port dst dst_port) old new = tally
tally_after tally (Req id bytes) old new = record {
  requests = next_number tally.requests;
  requests_differ = counted_if (not (bytes_eq old new)) tally.requests_differ;
  commands = tally.commands;
  commands_differ = tally.commands_differ;
}
tally_after tally (Close id) old new = tally
tally_after tally (Cli session text) old new = record {
  requests = tally.requests;
  requests_differ = tally.requests_differ;
  commands = counted_if (not (length old == 0) || not (length new == 0)) tally.commands;
  commands_differ = counted_if (not (bytes_eq old new)) tally.commands_differ;
}

-- something differed
abbrev pub some_differ : Tally → Bool
some_differ tally = nat_lt 0 tally.requests_differ || nat_lt 0 tally.commands_differ

-- `COUNT, COUNT differ` with a line feed
abbrev pub differing : (count differ : ℕ) → List ℕ
differing count differ = decimal count ++ (codes ", " ++ (decimal differ ++ codes " differ\n"))

-- `requests R, D differ`, and then `commands C, E differ`
abbrev pub totals : Tally → List ℕ
totals tally =
    codes "requests " ++ (differing tally.requests tally.requests_differ
    ++ (codes "commands " ++ differing tally.commands tally.commands_differ))
