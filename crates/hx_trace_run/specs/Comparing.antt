-- A trace beside the text that it should be.
use Rattle.std.specs.Prelude.{ℕ, ◌+◌, ◌==◌, List, ◌∷◌, ◌++◌, codes, count_by, take, if◌then◌else◌}
use Rattle.std.specs.Fmt.{decimal}
use Rattle.std.specs.Str.{bytes_eq}
use Rattle.hx_base.specs.Bytes.{ascii}
use Rattle.hx_trace_run.specs.declared.agreement.Finding.{Finding}
use Rattle.hx_trace_run.specs.declared.agreement.Finding.TheVariants.{Same, Differs}

-- how many bytes two texts have in common at their beginning
abbrev pub common_length : List ℕ → List ℕ → ℕ
common_length (b ∷ text) (c ∷ other) = if b == c then common_length text other + 1 else 0
common_length _ _ = 0

-- how many line feeds a text has
abbrev pub line_feeds : List ℕ → ℕ
line_feeds text = count_by (λ b. b == ascii "\n") text

-- the line, counted from 1, in which two texts that differ do so first: each line feed that both
-- begin with ends a line before it
abbrev pub line_of_difference : List ℕ → List ℕ → ℕ
line_of_difference text other = line_feeds (take (common_length text other) text) + 1

-- what is found of a trace and the text that it should be
abbrev pub finding_of : (trace text : List ℕ) → Finding
finding_of trace text =
    if bytes_eq trace text then Same else Differs (line_of_difference trace text)

-- `ok`, or `differs LINE`
abbrev pub finding_text : Finding → List ℕ
finding_text Same = codes "ok\n"
finding_text (Differs line) = codes "differs " ++ (decimal line ++ codes "\n")

-- the exit status of a check that finds this
abbrev pub finding_status : Finding → ℕ
finding_status Same = 0
finding_status (Differs line) = 9
