-- How the code writes a text whose matches are replaced: from each match to the next.
use Rattle.std.specs.Prelude.{ℕ, ◌-◌, nat_le, List, [], ◌++◌, Option, Some, None, slice_range, if◌then◌else◌}
use Rattle.regex.specs.Patterns.{Match}
use Rattle.hx_conv_text.specs.Substitution.{expansion_at}

-- where a match ends
abbrev pub end_of : Match → ℕ
end_of m = m.trace.end

-- What is written for a match that was found, where the last one ended before `after`: what stands
-- between the two, and then what the replacement stands for. An empty match right where the last
-- one ended is none, and nothing is written.
abbrev pub written_at : List ℕ → List ℕ → ℕ → Option Match → List ℕ
written_at sub input after None = []
written_at sub input after (Some m) =
    if nat_le after m.trace.end
    then slice_range input (after - 1) m.start ++ expansion_at sub input m
    else []
