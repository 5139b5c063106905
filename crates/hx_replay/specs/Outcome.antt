-- What a replay of a record, or a run with one, writes, and how it ends.
use Rattle.std.specs.Prelude.{ℕ, List, [], ◌++◌, Option, option_map}

-- The answers, one after the other, and how the run ends after them. Where that isn't decided,
-- since more of a configuration or of the record isn't known, there is no end.
pub record Outcome (E : Type 0) : Type 0 where
  pub answers : List ℕ
  pub end : Option E

-- a run that ends here without an answer
abbrev pub ends_with : {E : Type 0} → Option E → Outcome E
ends_with end = record { answers = []; end = end }

abbrev pub after_answers : {E : Type 0} → List ℕ → Outcome E → Outcome E
after_answers answers outcome = record { answers = answers ++ outcome.answers; end = outcome.end }

-- the same answers with another end
abbrev pub with_end : {E F : Type 0} → (E → F) → Outcome E → Outcome F
with_end f outcome = record { answers = outcome.answers; end = option_map f outcome.end }

-- How the replay of a record ends, as its bytes decide it: at the record's end, in this state, or
-- with a refusal.
pub data ReplayEnd (S : Type 0) : Type 0 where
  RecordEnd : (last : S) → ReplayEnd S
  RefusedAt : (offset code : ℕ) → ReplayEnd S
