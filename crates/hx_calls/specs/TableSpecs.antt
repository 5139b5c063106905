-- The references of a configuration as those see them who fill them (HAProxy configuration manual
-- 2.4, sections 7.1 and 7.3.1, `map`).
use Rattle.std.specs.Prelude.{◌≡◌, ◌≢◌, ◌<◌, ◌≤◌, ℕ, ◌+◌, ◌==◌, Bool, true, false, List, [], ◌∷◌, length, Some, IfSome, ⊤}
use Rattle.std.specs.List.{All, list_any}
use Rattle.hx_text.specs.declared.Out.{Out}
use Rattle.hx_text.specs.declared.Out.TheVariants as output
use Rattle.hx_calls.specs.declared.table_specs.HeadSpec.{HeadSpec}
use Rattle.hx_calls.specs.declared.table_specs.TableSpec.{TableSpec}
use Rattle.hx_ast.specs.Acls.{compares_texts, takes_patterns}
use Rattle.hx_calls.specs.Known.{Known, ReferenceForm, is_head, is_output, most_references}

-- the values of the reference at a position are read as this type
abbrev pub is_read_as : Known → ℕ → Out → Bool
is_read_as known r out = list_any (is_output (record { table = r; out = out })) known.outputs

-- the reference at a position
abbrev pub table_spec : Known → ℕ → ReferenceForm → TableSpec
table_spec known r form = record {
  file = form.file;
  given = form.given;
  two_column = form.two_column;
  acl = list_any (λ table. table == r) known.acls;
  named = list_any (λ table. table == r) known.named;
  line = form.line;
  out_str = is_read_as known r output.Str;
  out_int = is_read_as known r output.Int;
  out_ip = is_read_as known r output.Ip;
  inline = form.words;
}

-- the references from a position on
abbrev pub table_specs_from : Known → ℕ → List ReferenceForm → List TableSpec
table_specs_from known r [] = []
table_specs_from known r (form ∷ forms) =
    table_spec known r form ∷ table_specs_from known (r + 1) forms

-- the references in their order
abbrev pub table_specs : Known → List TableSpec
table_specs known = table_specs_from known 0 known.references

-- the references and the heads of a configuration
pub record ReferenceSpecs : Type 0 where
  pub specs : List TableSpec
  pub heads : List HeadSpec

-- those that are known
abbrev pub reference_specs : Known → ReferenceSpecs
reference_specs known = record { specs = table_specs known; heads = known.heads }

-- ---- what holds of the references of any configuration

-- no other reference has the file of one
abbrev pub HaveDistinctFiles : List TableSpec → Type 0
HaveDistinctFiles [] = ⊤
HaveDistinctFiles (spec ∷ specs) =
    IfSome spec.file (λ name. All (λ other. other.file ≢ Some name) specs)
    × HaveDistinctFiles specs

-- a head of one of so many references, by a method that takes patterns; case is ignored where texts
-- are compared
pub record IsHeadOf (count : ℕ) (head : HeadSpec) : Type 0 where
  pub table : head.table < count
  pub patterns : takes_patterns head.by ≡ true
  pub case : head.ci ≡ true → compares_texts head.by ≡ true

-- no two heads are the same
abbrev pub HaveDistinctHeads : List HeadSpec → Type 0
HaveDistinctHeads [] = ⊤
HaveDistinctHeads (head ∷ heads) =
    All (λ other. is_head head other ≡ false) heads × HaveDistinctHeads heads

pub record AreSpecs (given : ReferenceSpecs) : Type 0 where
  pub few : length given.specs ≤ most_references
  pub files : HaveDistinctFiles given.specs
  pub heads : All (IsHeadOf (length given.specs)) given.heads
  pub distinct : HaveDistinctHeads given.heads
