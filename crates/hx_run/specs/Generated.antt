-- What `gen N` writes: the summary of what `run` answers over the generated input of size N.
use Rattle.std.specs.Prelude.{◌≡◌, ℕ, List, [], ◌∷◌, codes, Contains, Option, None, Some, if◌then◌else◌}
use Rattle.std.specs.Io.KnownBytes.{Appends}
use Rattle.std.specs.Str.{bytes_eq}
use Rattle.hx_gen.specs.Files.{config_name, config_text, files_of}
use Rattle.hx_gen.specs.Record.{record_text}
use Rattle.hx_gen.specs.Sizes.{size_of}
use Rattle.hx_gen.specs.Summary.{summary_text}
use Rattle.hx_outside.specs.Prefixes.{AppendsPrefix}
use Rattle.hx_replay.specs.Outcome.{Outcome}
use Rattle.hx_run.specs.Outcome.{End}
use Rattle.hx_run.specs.Run.{Headline, Setting, command_of, outcome_of}
use Rattle.hx_run.specs.declared.command.Task.TheVariants.{Replay}
use Rattle.hx_run.specs.declared.command.Detail.TheVariants.{Verdicts}

-- the size that the words `gen N` ask for
abbrev pub asked_size : List (List ℕ) → Option ℕ
asked_size (word ∷ size ∷ []) = if bytes_eq word (codes "gen") then size_of size else None
asked_size _ = None

-- the words are none of `run CONFIG`, `check CONFIG` and `gen N`
abbrev pub AreNoCommand : List (List ℕ) → Type 0
AreNoCommand texts = (command_of texts ≡ None) × (asked_size texts ≡ None)

-- what the run over the generated input of a size is given: no variable of the environment, the
-- files, with the configuration among them, and the record
abbrev pub generated_setting : ℕ → Setting
generated_setting size = record {
  env = [];
  held = Some (files_of size);
  task = Replay Verdicts;
  name = config_name;
  left = Some (record_text size);
}

-- the outcome of that run
unfoldable pub generated_outcome : ℕ → Outcome End
generated_outcome size =
    outcome_of [] (Replay Verdicts) (files_of size) (Some config_text) (record_text size)

-- the text that is written of it: the summary of its answers
unfoldable pub generated_text : ℕ → List ℕ
generated_text size = summary_text size (generated_outcome size).answers

-- What `gen N` does: it writes its text, and where it ends before, a prefix of it. The answers are
-- those of a run that came to its end.
pub record Generates (size : ℕ) (old new : Option (List ℕ)) (status : ℕ) : Type 0 where
  pub of_status : Contains (0 ∷ 6 ∷ 7 ∷ []) status
  pub written : AppendsPrefix old new (generated_text size)
  pub whole : status ≡ 0 → Appends old new (generated_text size)
  pub completed : status ≡ 0
      → Headline (generated_setting size) (Some []) (Some (generated_outcome size).answers)
