-- How the code writes the answer to a request, for the contracts of its private functions: the
-- verdict first, and then the head, where it was changed.
use Rattle.std.specs.Prelude.{ℕ, List, ◌++◌, codes, unwrap_or}
use Rattle.std.specs.Fmt.{decimal}
use Rattle.hx_rules.specs.declared.Verdict.{Verdict}
use Rattle.hx_rules.specs.declared.Verdict.TheVariants.{Deny, Error, Pass, Redirect}

-- what follows the number of a request whose head stays as it was read
abbrev pub verdict_without_head : Verdict → List ℕ
verdict_without_head (Pass backend) =
    codes " pass " ++ (unwrap_or backend (codes "-") ++ codes "\n")
verdict_without_head (Deny code) = codes " deny " ++ (decimal code ++ codes "\n")
verdict_without_head (Redirect code location) =
    codes " redirect " ++ (decimal code ++ (codes "\n| location: " ++ (location ++ codes "\n")))
verdict_without_head Error = codes " error 500\n"
