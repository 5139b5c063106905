-- What a program says of its version.
use Rattle.std.specs.Prelude.{ℕ, List, ◌++◌, Option, None, Some, codes}
use Rattle.hx_base.specs.Pairs.{NamedBytes, value_at}
use Rattle.hx_program.specs.declared.about.TheConstants.{COMMIT, KIT}

-- the commit, where it is known; else who tells it
abbrev pub commit_text : (name : List ℕ) → (commit : Option (List ℕ)) → List ℕ
commit_text name (Some commit) = codes ", commit " ++ commit
commit_text name None =
    codes "; ./" ++ (name ++ codes " --version at the top of its repository tells the commit")

-- `NAME, commit COMMIT` with the commit that the environment has, or the sentence in its place, and
-- the kit
abbrev pub version_of : (name : List ℕ) → (env : NamedBytes) → List ℕ
version_of name env =
    name ++ (commit_text name (value_at env COMMIT.now) ++ (codes "\nkit " ++ KIT.now))
