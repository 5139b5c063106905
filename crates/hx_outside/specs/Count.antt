-- Counts of calls and of faults, which a u64 holds.
use Rattle.std.specs.Prelude.{ℕ, ◌+◌, ◌-◌, ◌^◌, ◌≤◌, min}

-- a count after one more: one higher, and at the last value of a u64, where it saturates, the same
abbrev pub next_count : ℕ → ℕ
next_count n = min (n + 1) (2 ^ 64 - 1)

-- a count rose from `before` to `now`; a saturated one can't show that, so it is taken to have
-- risen
abbrev pub Rose : ℕ → ℕ → Type 0
Rose before now = next_count before ≤ now
