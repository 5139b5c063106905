-- The run over a generated input, and the words that ask for it.
use Rattle.std.proofs.Common.{◌≡◌, ◌≢◌, ◌↔◌, ℕ, List, [], ◌∷◌, Bool, true, false, codes, cond, Option, None, Some, Ok, refl, sym, ap, ◌∙◌, subst, append-nil}
use Rattle.std.specs.Str.{bytes_eq}
use Rattle.std.proofs.lemmas.Slice.Eq.{bytes_eq-Decides}
use Rattle.hx_base.specs.Pairs.{NamedBytes}
use Rattle.hx_gen.specs.Files.{config_text, files_of}
use Rattle.hx_gen.specs.Record.{record_text}
use Rattle.hx_gen.specs.Sizes.{size_of}
use Rattle.hx_replay.specs.Outcome.{Outcome}
use Rattle.hx_run.specs.Outcome.{End}
use Rattle.hx_run.specs.Generated.{AreNoCommand, asked_size, generated_outcome, generated_setting}
use Rattle.hx_run.specs.Run.{Asked, Headline, HasOutcome, command_of, outcome_of}
use Rattle.hx_run.specs.RunFault.{Attempted}
use Rattle.hx_run.specs.declared.command.Detail.TheVariants.{Verdicts}
use Rattle.hx_run.specs.declared.command.Task.TheVariants.{Replay}
use Rattle.hx_run.proofs.StatusLemmas.{headline}

same_outcome : (files files' : NamedBytes) (config config' : Option (List ℕ)) (bytes bytes' : List ℕ)
    → files ≡ files' → config ≡ config' → bytes ≡ bytes'
    → outcome_of [] (Replay Verdicts) files config bytes ≡ outcome_of [] (Replay Verdicts) files' config' bytes'
same_outcome files files' config config' bytes bytes' same_files same_config same_bytes = cc

outcome_is : (size : ℕ) (outcome : Outcome End) → HasOutcome (generated_setting size) outcome
    → outcome ≡ generated_outcome size
unfolding generated_outcome
outcome_is size outcome o =
    o.is ∙ same_outcome o.files (files_of size) o.config (Some config_text) o.bytes (record_text size)
    o.of_files.0 o.of_files.1 o.of_source

-- what a sink in memory holds after the run, from no byte on
pub answers_are : (size : ℕ) (written : List ℕ)
    → Attempted (generated_setting size) (Some []) (Some written) (Ok tt)
    → written ≡ (generated_outcome size).answers
answers_are size written a =
    a.appended ∙ sym (append-nil a.wrote) ∙ sym a.answers.1
    ∙ ap (λ (o : Outcome End). o.answers) (outcome_is size a.outcome a.is_such)

pub is_completed : (size : ℕ) (written : List ℕ)
    → Attempted (generated_setting size) (Some []) (Some written) (Ok tt)
    → Headline (generated_setting size) (Some []) (Some (generated_outcome size).answers)
is_completed size written a =
    subst (λ (text : List ℕ). Headline (generated_setting size) (Some []) (Some text))
    (answers_are size written a) (headline Verdicts (generated_setting size) (Some []) (Some written) refl a)

no_size_by : (word size : List ℕ) (asked : Asked) (gen : Bool) → bytes_eq word (codes "gen") ≡ gen
    → command_of (word ∷ size ∷ []) ≡ Some asked → cond gen (size_of size) None ≡ None
no_size_by word size asked false test is = refl
no_size_by word size asked true test is =
    let same : word ≡ codes "gen" = (bytes_eq-Decides word (codes "gen")).0 test in
    let none : command_of (codes "gen" ∷ size ∷ []) ≡ Some asked =
    subst (λ (w : List ℕ). command_of (w ∷ size ∷ []) ≡ Some asked) same is in
    cc

-- words that ask for a configuration ask for no size
pub no_size : (texts : List (List ℕ)) (asked : Asked) → command_of texts ≡ Some asked
    → asked_size texts ≡ None
no_size [] asked is = refl
no_size (word ∷ []) asked is = refl
no_size (word ∷ size ∷ []) asked is = no_size_by word size asked (bytes_eq word (codes "gen")) refl is
no_size (word ∷ size ∷ more ∷ rest) asked is = refl

-- and so they are a command
pub usage : (texts : List (List ℕ)) (asked : Asked) (status : ℕ) → command_of texts ≡ Some asked → status ≢ 2
    → (status ≡ 2) ↔ AreNoCommand texts
usage texts asked status is no_two =
    (λ two. absurd (no_two two), λ none. let bad : Some asked ≡ None = sym is ∙ none.0 in absurd (cc))
