-- A configuration whose lines give a program isn't refused by them.
use Rattle.std.proofs.Common.{◌≡◌, ℕ, List, [], Ok, None, Some, inl, inr, ap}
use Rattle.std.specs.Prelude.{Option}
use Rattle.hx_ast.specs.declared.Statement.{Statement}
use Rattle.hx_base.specs.Pairs.{NamedBytes}
use Rattle.hx_calls.specs.Known.{Reading, nothing_known}
use Rattle.hx_calls.specs.TableSpecs.{table_specs}
use Rattle.hx_filling.specs.References.{first_unknown, repeated_after}
use Rattle.hx_filling.specs.Refusals.{Refusal}
use Rattle.hx_filling.proofs.FirstLemmas.{all_known, none_repeated, repeated_is, unknown_is}
use Rattle.hx_load.specs.Configuration.{lines_of}
use Rattle.hx_load.specs.Loads.{GivesProgram, GivesReferences, IsRefusedByLines, LinesBring}
use Rattle.hx_load.proofs.LoadingLemmas.{first_refused_is, given_are}
use Rattle.hx_refs.specs.References.{References}
use Rattle.hx_refs.specs.declared.Limits.{Limits}
use Rattle.hx_rules.specs.Programs.{Rules}
use Rattle.hx_words.specs.Variable.{Env}

no_fault : (env : Env) (config : List ℕ) (read : Reading (List Statement)) → GivesReferences env config read
    → (refusal : Refusal) → IsRefusedByLines env config refusal → ⊥
no_fault env config read gives refusal (inl first) =
    let given = given_are env 1 (lines_of config) nothing_known read gives.given in
    let refused = first_refused_is env 1 (lines_of config) nothing_known refusal first in
    cc (given, refused)
no_fault env config read gives refusal (inr (inl twice)) =
    let given = given_are env 1 (lines_of config) nothing_known read gives.given in
    let again = given_are env 1 (lines_of config) nothing_known twice.read twice.given in
    let same : twice.read ≡ read = cc (given, again) in
    let moved = ap (λ (r : Reading (List Statement)). repeated_after [] (table_specs r.known)) same in
    let none = none_repeated (table_specs read.known) gives.once in
    let some = repeated_is (table_specs twice.read.known) refusal.line twice.twice in
    cc (moved, none, some)
no_fault env config read gives refusal (inr (inr changes)) =
    let given = given_are env 1 (lines_of config) nothing_known read gives.given in
    let again = given_are env 1 (lines_of config) nothing_known changes.read changes.given in
    let same : changes.read ≡ read = cc (given, again) in
    let moved = ap (λ (r : Reading (List Statement)). first_unknown (table_specs r.known)) same in
    let none = all_known (table_specs read.known) gives.named in
    let some = unknown_is (table_specs changes.read.known) refusal.line changes.unknown in
    cc (moved, none, some)

pub brought_lines : (env : Env) (limits : Limits) (config : List ℕ) (program : Rules) (references : References)
    → LinesBring env limits config program references
    → (refusal : Refusal) → IsRefusedByLines env config refusal → ⊥
brought_lines env limits config program references (read, gives, program_is, references_are) =
    no_fault env config read gives

pub loaded_lines : (env : Env) (limits : Limits) (files : NamedBytes) (config : List ℕ) (program : Rules) (references : References)
    → GivesProgram env limits files config program references
    → (refusal : Refusal) → IsRefusedByLines env config refusal → ⊥
loaded_lines env limits files config program references (read, gives, filled, program_is) =
    no_fault env config read gives
