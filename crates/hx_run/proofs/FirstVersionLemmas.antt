-- The references of a configuration that is accepted begin at version 0.
use Rattle.std.proofs.Common.{◌≡◌, ◌≢◌, ℕ, zero, suc, ◌+◌, Bool, true, false, List, [], ◌∷◌, ◌++◌, ◌<◌, ◌^◌, drop, length, refl, ap, subst, ◌∙◌, if◌then◌else◌, arith, length-set}
use Rattle.std.specs.Bool.{⊤}
use Rattle.std.specs.Prelude.{Option, None, Some, IfSome, slice_get, slice_set, unwrap_or}
use Rattle.std.specs.Option.{option_map_or}
use Rattle.hx_base.specs.Pairs.{NamedBytes}
use Rattle.hx_refs.specs.Additions.{after_addition, new_entries, with_pairs, Pair}
use Rattle.hx_refs.specs.Numbers.{IsAnotherVersion, IsNotSearched}
use Rattle.hx_refs.specs.VersionNumbers.{ahead}
use Rattle.hx_refs.proofs.VersionNumberLemmas.{ahead_self}
use Rattle.hx_refs.specs.References.{after_output, changed_at, new_reference, no_references, with_new, with_output, Reference, References, Version}
use Rattle.hx_refs.specs.Uses.{after_use}
use Rattle.hx_refs.specs.declared.Limits.{Limits}
use Rattle.hx_calls.specs.TableSpecs.{table_specs}
use Rattle.hx_calls.specs.declared.HeadSpec.{HeadSpec}
use Rattle.hx_calls.specs.declared.TableSpec.{TableSpec}
use Rattle.hx_text.specs.declared.Out.{Out}
use Rattle.hx_text.specs.declared.Out.TheVariants as out
use Rattle.hx_load.specs.Loads.{declared}
use Rattle.hx_load.specs.References.{declared_references, numbers_of, with_heads, with_outputs, with_table, with_tables, AreFilled}
use Rattle.hx_replay.specs.Program.{Program, usual_limits}
use Rattle.hx_run.specs.Run.{Setting, Accepts}

-- version 0 is the one that is searched, and there is no other
abbrev HasOne : Reference → Type 0
HasOne x = (x.curr ≡ 0) × (x.next ≡ 0) × (length x.versions ≡ 1)

-- so it is of each of the references
abbrev Begin : List Reference → Type 0
Begin [] = ⊤
Begin (x ∷ xs) = HasOne x × Begin xs

-- and of those that are added; no more may be prepared than there are numbers
abbrev AllBegin : References → Type 0
AllBegin refs = (refs.limits.versions < 2 ^ 32) × (refs.first ≡ 0) × Begin refs.references

begins_at : (xs : List Reference) (r : ℕ) (x : Reference) → Begin xs → slice_get xs r ≡ Some x → HasOne x
begins_at [] r x all is = absurd (cc)
begins_at (y ∷ ys) zero x all is = let same : y ≡ x = cc in subst HasOne same all.0
begins_at (y ∷ ys) (suc r) x all is = begins_at ys r x all.1 is

set_begins : (xs : List Reference) (r : ℕ) (x : Reference) → Begin xs → HasOne x → Begin (slice_set xs r x)
set_begins [] r x all begins = tt
set_begins (y ∷ ys) zero x all begins = (begins, all.1)
set_begins (y ∷ ys) (suc r) x all begins = (all.0, set_begins ys r x all.1 begins)

-- a change that keeps the version that is searched
changed_begins : (r : ℕ) (change : Reference → Reference) → ((x : Reference) → HasOne x → HasOne (change x)) → (xs : List Reference) → Begin xs
    → Begin (changed_at r change xs)
changed_begins r change keeps xs all = go (slice_get xs r) refl
  where
    go : (found : Option Reference) → slice_get xs r ≡ found → Begin (option_map_or (λ x. slice_set xs r (change x)) found xs)
    go None is = all
    go (Some x) is = set_begins xs r (change x) all (keeps x (begins_at xs r x all is))

one_more_begins : (xs : List Reference) (x : Reference) → Begin xs → HasOne x → Begin (xs ++ x ∷ [])
one_more_begins [] x all begins = (begins, tt)
one_more_begins (y ∷ ys) x all begins = (all.0, one_more_begins ys x all.1 begins)

-- ---- references as they are declared

output_begins : (refs : References) (r : ℕ) (o : Out) → AllBegin refs → AllBegin (after_output refs r o)
output_begins refs r o all = (
  all.0,
  all.1,
  changed_begins r (λ old. record old { outputs = with_output o old.outputs }) (λ x one. one) refs.references all.2,
)

either_begins : (test : Bool) (first second : References) → AllBegin first → AllBegin second → AllBegin (if test then first else second)
either_begins true first second one other = one
either_begins false first second one other = other

outputs_begin : (r : ℕ) (spec : TableSpec) (refs : References) → AllBegin refs → AllBegin (with_outputs r spec refs)
outputs_begin r spec refs all =
    let ints : References = if spec.out_int then after_output refs r out.Int else refs in
    let begin = either_begins spec.out_int (after_output refs r out.Int) refs (output_begins refs r out.Int all) all in
    either_begins spec.out_ip (after_output ints r out.Ip) ints (output_begins ints r out.Ip begin) begin

table_begins : (number : ℕ) (spec : TableSpec) (refs : References) → AllBegin refs → AllBegin (with_table number spec refs)
table_begins number spec refs all =
    outputs_begin (length refs.references) spec (with_new refs number spec.file spec.two_column spec.acl) (
      all.0,
      all.1,
      one_more_begins refs.references (new_reference refs.first number spec.file spec.two_column spec.acl) all.2 (all.1, all.1, refl),
    )

tables_begin : (numbers : List ℕ) (specs : List TableSpec) (refs : References) → AllBegin refs → AllBegin (with_tables numbers specs refs)
tables_begin numbers [] refs all = all
tables_begin numbers (spec ∷ specs) refs all =
    let number = unwrap_or (slice_get numbers 0) 0 in
    tables_begin (drop 1 numbers) specs (with_table number spec refs) (table_begins number spec refs all)

heads_begin : (heads : List HeadSpec) (refs : References) → AllBegin refs → AllBegin (with_heads heads refs)
heads_begin [] refs all = all
heads_begin (head ∷ heads) refs all = heads_begin heads (after_use refs head.table head.by head.ci) all

declared_begin : (limits : Limits) (specs : List TableSpec) (heads : List HeadSpec) → limits.versions < 2 ^ 32
    → AllBegin (declared_references limits specs heads)
declared_begin limits specs heads few =
    heads_begin heads (with_tables (numbers_of specs) specs (no_references limits)) (tables_begin (numbers_of specs) specs (no_references limits) (few, refl, tt))

-- ---- and with their entries

-- an addition leaves how many versions there are
pairs_stay : (pairs : List Pair) (x : Reference) → length (with_pairs None pairs x).versions ≡ length x.versions
pairs_stay pairs x = go (slice_get x.versions 0)
  where
    go : (found : Option Version)
        → length
        (option_map_or
        (λ old. slice_set x.versions 0 (record { serial = old.serial + length pairs; entries = old.entries ++ new_entries x.curr old.serial pairs }))
        found x.versions)
        ≡ length x.versions
    go None = refl
    go (Some old) = length-set x.versions 0 _

filled_begin : (files : NamedBytes) (r : ℕ) (specs : List TableSpec) (refs filled : References) → AreFilled files r specs refs filled → AllBegin refs
    → AllBegin filled
filled_begin files r [] refs filled is all = rw is all
filled_begin files r (spec ∷ specs) refs filled (pairs, given, none, rest) all =
    filled_begin files (r + 1) specs (after_addition refs r None pairs) filled rest (
      all.0,
      all.1,
      changed_begins r (with_pairs None pairs) (λ x one. (one.0, one.1, pairs_stay pairs x ∙ one.2)) refs.references all.2,
    )

not_searched_at : (limits : Limits) (v : ℕ) (xs : List Reference) (r : ℕ) → limits.versions < 2 ^ 32 → v ≢ 0 → Begin xs
    → IfSome (slice_get xs r) (IsAnotherVersion limits v)
not_searched_at limits v [] r few other all = tt
not_searched_at limits v (x ∷ xs) zero few other all =
    let one = all.0 in
    let none : ahead x.curr x.next ≡ 0 = ap (λ n. ahead n x.next) one.0 ∙ ap (ahead 0) one.1 ∙ ahead_self 0 in record {
      other = λ same. other (same ∙ one.0);
      order = record {
        short = (omega (arith, one.0), omega (arith, one.1));
        count = omega (arith, one.2, none);
      };
      few = few;
    }
not_searched_at limits v (x ∷ xs) (suc r) few other all = not_searched_at limits v xs r few other all.1

pub accepted_begins : (s : Setting) (program : Program) (r v : ℕ) → Accepts s program → v ≢ 0 → IsNotSearched program.references r v
accepted_begins s program r v accepted other =
    let (read, given, filled, rules) = accepted.is in
    let specs = table_specs read.known in
    let all = filled_begin accepted.files 0 specs (declared usual_limits read.known) program.references filled
    (declared_begin usual_limits specs read.known.heads (omega arith)) in
    not_searched_at program.references.limits v program.references.references r all.0 other all.2
