-- How requests are counted.
use Rattle.std.specs.Prelude.{ℕ, ◌+◌, ◌-◌, ◌^◌, min}
use Rattle.hx_record.specs.declared.Event.{Event}
use Rattle.hx_record.specs.declared.Event.TheVariants.{Req}

-- how many requests there were after an event; a count saturates at the last value of its type
abbrev pub requests_after : Event → ℕ → ℕ
requests_after (Req conn bytes) count = min (count + 1) (2 ^ 64 - 1)
requests_after _ count = count
