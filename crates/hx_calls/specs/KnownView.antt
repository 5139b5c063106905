-- How the code keeps the references that are known, and what each is used for.
use Rattle.std.specs.Prelude.{ℕ, suc, ◌==◌, ◌&&◌, Bool, List, [], ◌∷◌}
use Rattle.std.specs.List.{list_any}
use Rattle.hx_text.specs.declared.Out.{Out}
use Rattle.hx_text.specs.declared.Out.TheVariants as output
use Rattle.hx_calls.specs.declared.table_specs.MapOutput.{MapOutput}
use Rattle.hx_calls.specs.declared.table_specs.TableSpec.{TableSpec}
use Rattle.hx_calls.specs.Known.{Known, ReferenceForm, output_number}
use Rattle.hx_calls.specs.TableSpecs.{ReferenceSpecs}

-- a reference without what it is used for
abbrev pub form_of : TableSpec → ReferenceForm
form_of spec = record {
  file = spec.file;
  given = spec.given;
  two_column = spec.two_column;
  line = spec.line;
  words = spec.inline;
}

-- whether the reference at a position is one of these
abbrev pub is_listed : List ℕ → ℕ → Bool
is_listed tables place = list_any (λ table. table == place) tables

-- whether the values of the reference at a position are read as a type
abbrev pub is_typed : List MapOutput → ℕ → Out → Bool
is_typed outputs place out =
    list_any (λ other. other.table == place && output_number other.out == output_number out) outputs

-- the reference at a position with what it is used for: by ACLs, and as values of types
abbrev pub spec_of : List ℕ → List ℕ → List MapOutput → ℕ → ReferenceForm → TableSpec
spec_of acls named outputs place form = record {
  file = form.file;
  given = form.given;
  two_column = form.two_column;
  acl = is_listed acls place;
  named = is_listed named place;
  line = form.line;
  out_str = is_typed outputs place output.Str;
  out_int = is_typed outputs place output.Int;
  out_ip = is_typed outputs place output.Ip;
  inline = form.words;
}

-- the same of the references from a position on
abbrev pub specs_from : List ℕ → List ℕ → List MapOutput → ℕ → List ReferenceForm → List TableSpec
specs_from acls named outputs place [] = []
specs_from acls named outputs place (form ∷ forms) =
    spec_of acls named outputs place form ∷ specs_from acls named outputs (suc place) forms

-- the references and heads that are known
abbrev pub tables_of : Known → ReferenceSpecs
tables_of known = record {
  specs = specs_from known.acls known.named known.outputs 0 known.references;
  heads = known.heads;
}
