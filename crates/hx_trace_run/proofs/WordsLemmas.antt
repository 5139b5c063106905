-- What the words `trace CONFIG` and `check CONFIG TRACE` ask for.
use Rattle.std.proofs.Common.{◌≡◌, ◌≢◌, ◌↔◌, ℕ, zero, suc, arith, List, [], ◌∷◌, Bool, true, false, codes, cond, Contains, None, Some, sym, ap, ◌∙◌}
use Rattle.std.specs.Str.{bytes_eq}
use Rattle.hx_run.specs.Run.{Asked, IsReplay}
use Rattle.hx_run.specs.declared.command.Detail.TheVariants.{Reasons}
use Rattle.hx_run.specs.declared.command.Task.{Task}
use Rattle.hx_run.specs.declared.command.Task.TheVariants.{Replay}
use Rattle.hx_trace_run.specs.Words.{AreNoCommand, command_of, names_of}

abbrev traced : List ℕ → Asked
traced name = record { task = Replay Reasons; name = name }

traced_by : (test : Bool) (name : List ℕ) (asked : Asked) → cond test (Some (traced name)) None ≡ Some asked → asked.task ≡ Replay Reasons
traced_by false name asked is = absurd (cc)
traced_by true name asked is = let same : traced name ≡ asked = cc in sym (ap (λ (a : Asked). a.task) same)

-- the record is answered, and why is told
pub traced_task : (texts : List (List ℕ)) (asked : Asked) → command_of texts ≡ Some asked → asked.task ≡ Replay Reasons
traced_task [] asked is = absurd (cc)
traced_task (word ∷ []) asked is = absurd (cc)
traced_task (word ∷ name ∷ []) asked is = traced_by (bytes_eq word (codes "trace")) name asked is
traced_task (word ∷ name ∷ more ∷ rest) asked is = absurd (cc)

pub is_replay : (task : Task) → task ≡ Replay Reasons → IsReplay task
is_replay task is = rw is tt

-- ---- statuses

pub usage : (texts : List (List ℕ)) (asked : Asked) (status : ℕ) → command_of texts ≡ Some asked → status ≢ 2
    → (status ≡ 2) ↔ AreNoCommand texts
usage texts asked status is no_two =
    (λ two. absurd (no_two two), λ none. let bad : Some asked ≡ None = sym is ∙ none.0 in absurd (cc))

pub check_usage : (texts : List (List ℕ)) (names : List ℕ × List ℕ) (status : ℕ) → names_of texts ≡ Some names → status ≢ 2
    → (status ≡ 2) ↔ AreNoCommand texts
check_usage texts names status is no_two =
    (λ two. absurd (no_two two), λ none. let bad : Some names ≡ None = sym is ∙ none.1 in absurd (cc))

-- a status of a record that is answered
pub traced_status : (status : ℕ) → Contains (0 ∷ 3 ∷ 4 ∷ 5 ∷ 6 ∷ 7 ∷ 8 ∷ []) status
    → Contains (0 ∷ 2 ∷ 3 ∷ 4 ∷ 5 ∷ 6 ∷ 7 ∷ 8 ∷ 9 ∷ []) status
traced_status status (zero, within, is) = (0, omega arith, is)
traced_status status (suc zero, within, is) = (2, omega arith, is)
traced_status status (suc (suc zero), within, is) = (3, omega arith, is)
traced_status status (suc (suc (suc zero)), within, is) = (4, omega arith, is)
traced_status status (suc (suc (suc (suc zero))), within, is) = (5, omega arith, is)
traced_status status (suc (suc (suc (suc (suc zero)))), within, is) = (6, omega arith, is)
traced_status status (suc (suc (suc (suc (suc (suc zero))))), within, is) = (7, omega arith, is)
traced_status status (suc (suc (suc (suc (suc (suc (suc k)))))), within, is) = absurd (omega (arith, within))

pub not_nine : (status : ℕ) → Contains (0 ∷ 3 ∷ 4 ∷ 5 ∷ 6 ∷ 7 ∷ 8 ∷ []) status → status ≢ 9
not_nine status (zero, within, is) nine = absurd (omega (arith, is, nine))
not_nine status (suc zero, within, is) nine = absurd (omega (arith, is, nine))
not_nine status (suc (suc zero), within, is) nine = absurd (omega (arith, is, nine))
not_nine status (suc (suc (suc zero)), within, is) nine = absurd (omega (arith, is, nine))
not_nine status (suc (suc (suc (suc zero))), within, is) nine = absurd (omega (arith, is, nine))
not_nine status (suc (suc (suc (suc (suc zero)))), within, is) nine = absurd (omega (arith, is, nine))
not_nine status (suc (suc (suc (suc (suc (suc zero))))), within, is) nine = absurd (omega (arith, is, nine))
not_nine status (suc (suc (suc (suc (suc (suc (suc k)))))), within, is) nine = absurd (omega (arith, within))

-- a status of a check
pub check_status : (status : ℕ) → Contains (0 ∷ 3 ∷ 4 ∷ 5 ∷ 6 ∷ 7 ∷ 8 ∷ 9 ∷ []) status
    → Contains (0 ∷ 2 ∷ 3 ∷ 4 ∷ 5 ∷ 6 ∷ 7 ∷ 8 ∷ 9 ∷ []) status
check_status status (zero, within, is) = (0, omega arith, is)
check_status status (suc k, within, is) = (suc (suc k), omega (arith, within), is)

pub check_no_usage : (status : ℕ) → Contains (0 ∷ 3 ∷ 4 ∷ 5 ∷ 6 ∷ 7 ∷ 8 ∷ 9 ∷ []) status → status ≢ 2
check_no_usage status (zero, within, is) two = absurd (omega (arith, is, two))
check_no_usage status (suc zero, within, is) two = absurd (omega (arith, is, two))
check_no_usage status (suc (suc zero), within, is) two = absurd (omega (arith, is, two))
check_no_usage status (suc (suc (suc zero)), within, is) two = absurd (omega (arith, is, two))
check_no_usage status (suc (suc (suc (suc zero))), within, is) two = absurd (omega (arith, is, two))
check_no_usage status (suc (suc (suc (suc (suc zero)))), within, is) two = absurd (omega (arith, is, two))
check_no_usage status (suc (suc (suc (suc (suc (suc zero))))), within, is) two = absurd (omega (arith, is, two))
check_no_usage status (suc (suc (suc (suc (suc (suc (suc zero)))))), within, is) two = absurd (omega (arith, is, two))
check_no_usage status (suc (suc (suc (suc (suc (suc (suc (suc k))))))), within, is) two = absurd (omega (arith, within))

-- a check that no fault ended
pub unfailed_check : (status : ℕ) → Contains (0 ∷ 6 ∷ 7 ∷ 9 ∷ []) status → Contains (0 ∷ 2 ∷ 6 ∷ 7 ∷ 9 ∷ []) status
unfailed_check status (zero, within, is) = (0, omega arith, is)
unfailed_check status (suc k, within, is) = (suc (suc k), omega (arith, within), is)
