-- What holds before the last of the reads of a log.
use Rattle.std.proofs.Common.{◌≡◌, ℕ, List, [], ◌∷◌, ◌++◌, Option, None, Some, unwrap_or, sym, ap, subst, ◌∙◌, append_assoc, append-nil}
use Rattle.std.proofs.lemmas.List.{same_from_push}
use Rattle.hx_outside.specs.Log.{Log, Logs, HoldsSince}
use Rattle.hx_replay.specs.Records.{bytes_given, HoldsBeforeLastRead}

-- ---- logs

pub since_start : (log : Option Log) (P : Log → Type 0) → P [] → HoldsSince log log P
since_start None P start = tt
since_start (Some reads) P start = ([], sym (append-nil reads), start)

pub since_more : {T : Type 0} (a b c : Option (List T)) (read : T) (P Q : List T → Type 0) → HoldsSince a b P → Logs b c read
    → ((reads : List T) → P reads → Q (reads ++ (read ∷ []))) → HoldsSince a c Q
since_more a b None read P Q so_far one more = tt
since_more a None (Some now) read P Q so_far one more = absurd one
since_more None (Some between) (Some now) read P Q so_far one more = absurd so_far
since_more {T} (Some old) (Some between) (Some now) read P Q so_far one more =
    (so_far.0 ++ (read ∷ []), one ∙ ap (λ (reads : List T). reads ++ (read ∷ [])) so_far.1 ∙ append_assoc old so_far.0 (read ∷ []), more so_far.0 so_far.2)

pub since_map : {T : Type 0} (a b : Option (List T)) (P Q : List T → Type 0) → HoldsSince a b P → ((reads : List T) → P reads → Q reads) → HoldsSince a b Q
since_map a None P Q so_far also = tt
since_map None (Some now) P Q so_far also = so_far
since_map (Some old) (Some now) P Q so_far also = (so_far.0, so_far.1, also so_far.0 so_far.2)

-- ---- the bytes of reads

pub given_more : (reads : Log) (read : Option (List ℕ)) → bytes_given (reads ++ (read ∷ [])) ≡ bytes_given reads ++ unwrap_or read []
given_more [] read = append-nil (unwrap_or read [])
given_more (first ∷ reads) read =
    ap (λ bytes. unwrap_or first [] ++ bytes) (given_more reads read) ∙ sym (append_assoc (unwrap_or first []) (bytes_given reads) (unwrap_or read []))

-- the reads since the old log gave these bytes
abbrev pub HaveGiven : (log log' : Option Log) → List ℕ → Type 0
HaveGiven log log' took = HoldsSince log log' (λ reads. bytes_given reads ≡ took)

pub given_and_more : (log log' log'' : Option Log) (took got : List ℕ) → HaveGiven log log' took → Logs log' log'' (Some got)
    → HaveGiven log log'' (took ++ got)
given_and_more log log' log'' took got so_far one =
    since_more log log' log'' (Some got) (λ reads. bytes_given reads ≡ took) (λ reads. bytes_given reads ≡ took ++ got) so_far one
    (λ reads is. given_more reads (Some got) ∙ ap (λ bytes. bytes ++ got) is)

-- ---- before the last read

no_last : (before : Log) (last : Option (List ℕ)) → (let none : Log = [] in none ≡ before ++ (last ∷ [])) → ⊥
no_last [] last is = cc
no_last (first ∷ before) last is = cc

-- no read, no last one
pub before_none : (log : Option Log) (P : List ℕ → Type 0) → HoldsBeforeLastRead log log P
before_none log P =
    since_start log (λ reads. (before : Log) (last : Option (List ℕ)) → reads ≡ before ++ (last ∷ []) → P (bytes_given before))
    (λ before last is. absurd (no_last before last is))

pub before_map : (log log' : Option Log) (P Q : List ℕ → Type 0) → HoldsBeforeLastRead log log' P → ((bytes : List ℕ) → P bytes → Q bytes)
    → HoldsBeforeLastRead log log' Q
before_map log log' P Q so_far also =
    since_map log log' (λ reads. (before : Log) (last : Option (List ℕ)) → reads ≡ before ++ (last ∷ []) → P (bytes_given before))
    (λ reads. (before : Log) (last : Option (List ℕ)) → reads ≡ before ++ (last ∷ []) → Q (bytes_given before)) so_far
    (λ reads holds before last is. also (bytes_given before) (holds before last is))

-- one read more
pub before_read : (log log' log'' : Option Log) (read : Option (List ℕ)) (took : List ℕ) (P : List ℕ → Type 0) → HaveGiven log log' took
    → Logs log' log'' read → P took → HoldsBeforeLastRead log log'' P
before_read log log' log'' read took P given one holds =
    since_more log log' log'' read (λ reads. bytes_given reads ≡ took)
    (λ reads. (before : Log) (last : Option (List ℕ)) → reads ≡ before ++ (last ∷ []) → P (bytes_given before)) given one
    (λ reads is before last same.
    let whole : bytes_given before ≡ took = ap bytes_given (sym (same_from_push reads before read last same).0) ∙ is in
    subst P (sym whole) holds)
