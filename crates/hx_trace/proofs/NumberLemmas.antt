-- The numbers of the references that heads search: of those that the lines of a configuration
-- bring, and of those that are loaded of it.
use Rattle.std.proofs.Common.{◌≡◌, ℕ, zero, suc, ◌+◌, List, [], ◌∷◌, length, map, Option, None, Some, Ok, refl, sym, ap, ◌∙◌, inl, inr}
use Rattle.std.specs.Prelude.{drop, option_map, slice_get, slice_set, unwrap_or}
use Rattle.std.specs.Option.{option_map_or}
use Rattle.std.proofs.lemmas.Bool.{cases_Bool}
use Rattle.std.proofs.lemmas.Option.{slice_get-map}
use Rattle.hx_ast.specs.declared.Statement.{Statement}
use Rattle.hx_base.specs.Pairs.{NamedBytes}
use Rattle.hx_calls.specs.Known.{Reading, nothing_known}
use Rattle.hx_calls.specs.TableSpecs.{table_specs}
use Rattle.hx_calls.specs.declared.HeadSpec.{HeadSpec}
use Rattle.hx_calls.specs.declared.TableSpec.{TableSpec}
use Rattle.hx_filling.specs.References.{AreFilled, declared_references, numbers_of, with_heads, with_outputs, with_table, with_tables}
use Rattle.hx_filling.proofs.FilledLemmas.{filled_heads}
use Rattle.hx_load.specs.Configuration.{lines_of, statements_from}
use Rattle.hx_load.specs.Loads.{GivesProgram, GivesReferences, declared, with_statements}
use Rattle.hx_load.proofs.LoadingLemmas.{given_are}
use Rattle.hx_refs.specs.Additions.{after_addition, with_pairs}
use Rattle.hx_refs.specs.References.{Reference, References, changed_at, no_references, with_new}
use Rattle.hx_refs.specs.Uses.{after_use}
use Rattle.hx_refs.specs.declared.Limits.{Limits}
use Rattle.hx_rules.specs.Programs.{Rules, no_rules}
use Rattle.hx_sample.specs.Tables.{TableHead}
use Rattle.hx_words.specs.Variable.{Env}
use Rattle.hx_trace.specs.Statements.{LinesNumber, NumberedRules}
use Rattle.hx_trace.specs.Why.{head_numbers, reference_number}

-- ---- numbers, by the heads and the numbers of all references

abbrev id_of : Reference → ℕ
id_of reference = reference.id

abbrev ids_of : References → List ℕ
ids_of refs = map id_of refs.references

-- the number at a position of all numbers
abbrev numbers_among : List ℕ → List TableHead → List ℕ
numbers_among ids heads = map (λ known. unwrap_or (slice_get ids known.list) 0) heads

id_or_none : (found : Option Reference) → option_map_or id_of found 0 ≡ unwrap_or (option_map id_of found) 0
id_or_none None = refl
id_or_none (Some reference) = refl

number_among : (refs : References) (r : ℕ) → reference_number refs r ≡ unwrap_or (slice_get (ids_of refs) r) 0
number_among refs r =
    id_or_none (slice_get refs.references r)
    ∙ ap (λ (o : Option ℕ). unwrap_or o 0) (sym (slice_get-map id_of refs.references r))

these_among : (refs : References) (heads : List TableHead)
    → map (λ known. reference_number refs known.list) heads ≡ numbers_among (ids_of refs) heads
these_among refs [] = refl
these_among refs (known ∷ heads) =
    ap (λ (n : ℕ). n ∷ map (λ known. reference_number refs known.list) heads) (number_among refs known.list)
    ∙ ap (λ (ns : List ℕ). unwrap_or (slice_get (ids_of refs) known.list) 0 ∷ ns) (these_among refs heads)

-- references with the same heads and numbers have the same numbers of heads
pub same_numbers : (refs others : References) → refs.heads ≡ others.heads → ids_of refs ≡ ids_of others
    → head_numbers refs ≡ head_numbers others
same_numbers refs others heads ids =
    these_among refs refs.heads
    ∙ ap (λ (ns : List ℕ). numbers_among ns refs.heads) ids
    ∙ ap (numbers_among (ids_of others)) heads
    ∙ sym (these_among others others.heads)

-- ---- entries change no number

pub ids_changed : (change : Reference → Reference) → ((x : Reference) → (change x).id ≡ x.id) → (i : ℕ) (xs : List Reference)
    → map id_of (changed_at i change xs) ≡ map id_of xs
ids_changed change same zero [] = refl
ids_changed change same (suc i) [] = refl
ids_changed change same zero (x ∷ xs) = ap (λ (n : ℕ). n ∷ map id_of xs) (same x)
ids_changed change same (suc i) (x ∷ xs) =
    go (slice_get xs i) refl (ids_changed change same i xs)
  where
    go : (o : Option Reference) → slice_get xs i ≡ o → map id_of (changed_at i change xs) ≡ map id_of xs
        → map id_of (changed_at (suc i) change (x ∷ xs)) ≡ map id_of (x ∷ xs)
    go None is before = rw is refl
    go (Some y) is before =
        let later : map id_of (slice_set xs i (change y)) ≡ map id_of xs = rw is at before in
        rw is (ap (λ (ns : List ℕ). x.id ∷ ns) later)

filled_ids : (files : NamedBytes) (r : ℕ) (specs : List TableSpec) (old now : References)
    → AreFilled files r specs old now → ids_of now ≡ ids_of old
filled_ids files r [] old now is = ap ids_of is
filled_ids files r (spec ∷ specs) old now (pairs, there, none, more) =
    filled_ids files (r + 1) specs (after_addition old r None pairs) now more
    ∙ ids_changed (with_pairs None pairs) (λ x. refl) r old.references

-- ---- nor do limits

-- the references, under other limits
abbrev under : Limits → References → References
under limits refs = record refs { limits = limits }

outputs_under : (limits : Limits) (r : ℕ) (spec : TableSpec) (refs : References)
    → with_outputs r spec (under limits refs) ≡ under limits (with_outputs r spec refs)
outputs_under limits r spec refs =
    elim (cases_Bool spec.out_int) [
      | inl int ↦ elim (cases_Bool spec.out_ip) [
        | inl ip ↦ rw (int, ip) refl
        | inr text ↦ rw (int, text) refl
      ]
      | inr none ↦ elim (cases_Bool spec.out_ip) [
        | inl ip ↦ rw (none, ip) refl
        | inr text ↦ rw (none, text) refl
      ]
    ]

table_under : (limits : Limits) (n : ℕ) (spec : TableSpec) (refs : References)
    → with_table n spec (under limits refs) ≡ under limits (with_table n spec refs)
table_under limits n spec refs =
    outputs_under limits (length refs.references) spec (with_new refs n spec.file spec.two_column spec.acl)

tables_under : (limits : Limits) (numbers : List ℕ) (specs : List TableSpec) (refs : References)
    → with_tables numbers specs (under limits refs) ≡ under limits (with_tables numbers specs refs)
tables_under limits numbers [] refs = refl
tables_under limits numbers (spec ∷ specs) refs =
    ap (with_tables (drop 1 numbers) specs) (table_under limits (unwrap_or (slice_get numbers 0) 0) spec refs)
    ∙ tables_under limits (drop 1 numbers) specs (with_table (unwrap_or (slice_get numbers 0) 0) spec refs)

heads_under : (limits : Limits) (heads : List HeadSpec) (refs : References)
    → with_heads heads (under limits refs) ≡ under limits (with_heads heads refs)
heads_under limits [] refs = refl
heads_under limits (head ∷ heads) refs =
    heads_under limits heads (after_use refs head.table head.by head.ci)

declared_under : (limits others : Limits) (specs : List TableSpec) (heads : List HeadSpec)
    → declared_references limits specs heads ≡ under limits (declared_references others specs heads)
declared_under limits others specs heads =
    ap (with_heads heads) (tables_under limits (numbers_of specs) specs (no_references others))
    ∙ heads_under limits heads (with_tables (numbers_of specs) specs (no_references others))

-- ---- what the lines bring and what is loaded

-- a configuration is read in one way
one_reading : (env : Env) (config : List ℕ) (read other : Reading (List Statement))
    → GivesReferences env config read → GivesReferences env config other → read ≡ other
one_reading env config read other gives again =
    let first : statements_from env 1 (lines_of config) nothing_known ≡ Ok read =
    given_are env 1 (lines_of config) nothing_known read gives.given in
    let second : statements_from env 1 (lines_of config) nothing_known ≡ Ok other =
    given_are env 1 (lines_of config) nothing_known other again.given in
    cc (first, second)

pub loaded_numbers : (env : Env) (limits : Limits) (files : NamedBytes) (config : List ℕ) (given : NumberedRules) (program : Rules) (references : References)
    → LinesNumber env config given → GivesProgram env limits files config program references
    → (given.program ≡ program) × (given.numbers ≡ head_numbers references)
loaded_numbers env limits files config given program references number (read, gives, filled, program_is) =
    let (first, brings, rules_are, brought_are) = number.brought in
    let same : first ≡ read = one_reading env config first read brings gives in
    let lines : number.references ≡ under number.limits (declared limits read.known) =
    brought_are ∙ ap (λ (r : Reading (List Statement)). declared number.limits r.known) same
    ∙ declared_under number.limits limits (table_specs read.known) read.known.heads in (
      rules_are ∙ ap (λ (r : Reading (List Statement)). with_statements r.value no_rules) same ∙ sym program_is,
      number.numbers_are ∙ ap head_numbers lines
          ∙ same_numbers (declared limits read.known) references
          (sym (filled_heads files 0 (table_specs read.known) (declared limits read.known) references filled))
          (sym (filled_ids files 0 (table_specs read.known) (declared limits read.known) references filled)),
    )
