-- The statements of a configuration are the program that is loaded of it.
use Rattle.std.proofs.Common.{◌≡◌, ℕ, List, Ok, subst}
use Rattle.std.specs.Prelude.{Option}
use Rattle.hx_base.specs.Pairs.{NamedBytes}
use Rattle.hx_load.specs.LoadResult.{LoadsHeld}
use Rattle.hx_load.specs.Loads.{GivesProgram, Loads, loaded}
use Rattle.hx_refs.specs.References.{References, RefsState}
use Rattle.hx_refs.specs.declared.Limits.{Limits}
use Rattle.hx_rules.specs.Programs.{Rules}
use Rattle.hx_trace.specs.Statements.{NumberedRules}

pub program_is : (held : Option NamedBytes) (env : NamedBytes) (limits : Limits) (config : List ℕ) (given : NumberedRules) (program : Rules) (state : RefsState)
    → ((files : NamedBytes) → Loads env limits files config (loaded env limits files config))
    → ((files : NamedBytes) (references : References) → GivesProgram env limits files config program references → given.program ≡ program)
    → LoadsHeld held env limits config (Ok (program, state)) → given.program ≡ program
program_is held env limits config given program state loads same is =
    same is.files state.content (subst (Loads env limits is.files config) is.is (loads is.files))
