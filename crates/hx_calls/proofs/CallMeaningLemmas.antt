-- What a call makes by the tables is what it writes, and nothing else.
use Rattle.std.proofs.Common.{◌≡◌, ℕ, ◌≤◌, Bool, true, false, cond, List, [], ◌∷◌, length, Option, None, Some, Ok, Err, arith, refl, sym, ap, ◌∙◌, inl, inr}
use Rattle.std.specs.Prelude.{nat_le, nat_lt, position, slice_get}
use Rattle.std.proofs.lemmas.Bool.{leb-true, le-leb, lt-ltb, ltb-true}
use Rattle.hx_words.specs.CallForm.{CallForm}
use Rattle.hx_ast.specs.declared.Conv.{Conv}
use Rattle.hx_ast.specs.declared.Fetch.{Fetch}
use Rattle.hx_base.specs.Results.{◌>>=◌}
use Rattle.hx_calls.specs.declared.convs.ConvName.{ConvName}
use Rattle.hx_calls.specs.declared.convs.ConvName.TheVariants as conv_name
use Rattle.hx_calls.specs.declared.fault.SpellFault.{SpellFault}
use Rattle.hx_calls.specs.declared.fetches.FetchName.{FetchName}
use Rattle.hx_calls.specs.declared.fetches.FetchName.TheVariants as fetch_name
use Rattle.hx_calls.specs.Arguments.{is_count, made_by, optional, read_form, required}
use Rattle.hx_calls.specs.Codes.{file_kind, too_many_references}
use Rattle.hx_calls.specs.Criteria.{FetchWay, MapWay, MethodFetch, conv_by, conv_call, fetch_by, fetch_way, map_arguments, map_reading, map_table}
use Rattle.hx_calls.specs.Expressions.{conv_by_name, conv_made, fetch_by_name, fetch_call, fetch_made}
use Rattle.hx_calls.specs.ExpressionRelation.{HasPosition, IsNewReference, WritesConv, WritesConvBy, WritesFetch, WritesMap, WritesMethodFetch, WritesPlainConv}
use Rattle.hx_calls.specs.Forms.Form.{ValueOfMap}
use Rattle.hx_calls.specs.Forms.Parameter.{Optional}
use Rattle.hx_calls.specs.Known.{Known, Reading, ReferenceForm, has_columns, is_of_file, most_references, reading, reference_form, with_file, with_named, with_named_file, with_reference}
use Rattle.hx_calls.specs.Tables.{conv_names, conv_row, entry_at, fetch_names, fetch_row}
use Rattle.hx_calls.proofs.ArgumentLemmas.{counted_ok, parameter_writes, row_writes, writes_parameter, writes_row}
use Rattle.hx_calls.proofs.KnownLemmas.{file_or_new}
use Rattle.hx_calls.proofs.ResultLemmas.{and_then_ok, both, then_ok}

-- ---- files

tested_ok : {A : Type 0} (b : Bool) (x y : A) (fault : SpellFault)
    → cond b (Ok x) (Err fault) ≡ Ok y → (b ≡ true) × (y ≡ x)
tested_ok true x y fault is = (refl, let same : x ≡ y = cc in sym same)
tested_ok false x y fault is = absurd (let no : ⊥ = cc in no)

-- one more reference is added where there is room for it, and nowhere else
pub reference_added : (form : ReferenceForm) (before : Known) (read : Reading ℕ)
    → with_reference form before ≡ Ok read → IsNewReference form before read
reference_added form before read is =
    let (room, same) =
    tested_ok (nat_lt (length before.references) most_references) _ read too_many_references is in
    record { room = ltb-true (length before.references) most_references room; is = same }

pub added_reference : (form : ReferenceForm) (before : Known) (read : Reading ℕ)
    → IsNewReference form before read → with_reference form before ≡ Ok read
added_reference form before read new =
    rw (lt-ltb (length before.references) most_references new.room) (ap (λ r. Ok r) (sym new.is))

position_by : (line : ℕ) (name : List ℕ) (two : Bool) (before : Known) (place : Option ℕ)
    (read : Reading ℕ) → position (is_of_file name) before.references ≡ place
    → file_or_new (reference_form (Some name) None two line []) before place ≡ Ok read
    → HasPosition line name two before read
position_by line name two before (Some place) read found is =
    let (columns, same) =
    tested_ok (has_columns before place two) (reading place before) read file_kind is in
    inl (record { at = place; found = found; columns = columns; is = same })
position_by line name two before None read new is =
    inr (record {
      new = new;
      added = reference_added (reference_form (Some name) None two line []) before read is;
    })

pub file_position : (line : ℕ) (name : List ℕ) (two : Bool) (before : Known) (read : Reading ℕ)
    → with_file line name two before ≡ Ok read → HasPosition line name two before read
file_position line name two before read is =
    position_by line name two before (position (is_of_file name) before.references) read refl is

pub position_file : (line : ℕ) (name : List ℕ) (two : Bool) (before : Known) (read : Reading ℕ)
    → HasPosition line name two before read → with_file line name two before ≡ Ok read
position_file line name two before read (inl known) =
    ap (file_or_new (reference_form (Some name) None two line []) before) known.found
    ∙ (ap (λ (b : Bool). cond b (Ok (reading known.at before)) (Err file_kind)) known.columns
    ∙ ap (λ r. Ok r) (sym known.is))
position_file line name two before read (inr new) =
    ap (file_or_new (reference_form (Some name) None two line []) before) new.new
    ∙ added_reference (reference_form (Some name) None two line []) before read new.added

-- a file that `-f` or a map converter names
pub named_position : (line : ℕ) (name : List ℕ) (two : Bool) (before : Known) (read : Reading ℕ)
    → with_named_file line name two before ≡ Ok read
    → (file : Reading ℕ) × HasPosition line name two before file
    × (read ≡ reading file.value (with_named file.value file.known))
named_position line name two before read is =
    let (file, found, noted) =
    and_then_ok (with_file line name two before)
    (λ file. Ok (reading file.value (with_named file.value file.known))) read is in
    let same : reading file.value (with_named file.value file.known) ≡ read = cc in
    (file, file_position line name two before file found, sym same)

pub position_named : (line : ℕ) (name : List ℕ) (two : Bool) (before : Known) (file : Reading ℕ)
    → HasPosition line name two before file
    → with_named_file line name two before
    ≡ Ok (reading file.value (with_named file.value file.known))
position_named line name two before file has =
    then_ok (with_file line name two before)
    (λ file. Ok (reading file.value (with_named file.value file.known))) file
    (reading file.value (with_named file.value file.known))
    (position_file line name two before file has) refl

-- ---- maps

map_writes : (line : ℕ) (way : MapWay) (args : List (List ℕ)) (before : Known)
    (read : Reading Conv) → map_arguments line way args before ≡ Ok read
    → WritesMap line way before args read
map_writes line way args before read is =
    let (count, made) = counted_ok (is_count 1 2 (length args)) _ read is in
    with_count args count made
  where
    with_count : (args : List (List ℕ)) → is_count 1 2 (length args) ≡ true
        → (required (λ name. with_named_file line name true before) (slice_get args 0)
        >>= (λ file. optional (read_form (ValueOfMap way.out)) (slice_get args 1)
        >>= (λ default. Ok (map_reading way file default)))) ≡ Ok read
        → WritesMap line way before args read
    with_count [] count made = absurd (let no : ⊥ = cc in no)
    with_count (name ∷ others) count made =
        let (named, opened, after) =
        and_then_ok (with_named_file line name true before)
        (λ file. optional (read_form (ValueOfMap way.out)) (slice_get others 0)
        >>= (λ default. Ok (map_reading way file default))) read made in
        let (file, has, is_named) = named_position line name true before named opened in
        let (default, given, whole) =
        and_then_ok (optional (read_form (ValueOfMap way.out)) (slice_get others 0))
        (λ default. Ok (map_reading way named default)) read after in
        let most = leb-true (length (name ∷ others)) 2
        (both (nat_le 1 (length (name ∷ others))) (nat_le (length (name ∷ others)) 2) count).1 in
        let is_read : map_reading way named default ≡ read = cc in
        record {
          name = name;
          others = others;
          args_are = refl;
          file = file;
          has_position = has;
          default = default;
          written = record {
            count = omega (arith, most);
            each =
                (parameter_writes (Optional (ValueOfMap way.out)) (slice_get others 0) default given, tt);
          };
          is = sym is_read ∙ ap (λ f. map_reading way f default) is_named;
        }

map_read : (line : ℕ) (way : MapWay) (args : List (List ℕ)) (before : Known)
    (read : Reading Conv) → WritesMap line way before args read
    → map_arguments line way args before ≡ Ok read
map_read line way args before read w =
    let least : 1 ≤ length (w.name ∷ w.others) = omega arith in
    let most : length (w.name ∷ w.others) ≤ 2 = omega (arith, w.written.count) in
    ap (λ a. map_arguments line way a before) w.args_are
    ∙ rw (
      le-leb 1 (length (w.name ∷ w.others)) least,
      le-leb (length (w.name ∷ w.others)) 2 most,
    )
    (then_ok (with_named_file line w.name true before) _
    (reading w.file.value (with_named w.file.value w.file.known)) read
    (position_named line w.name true before w.file w.has_position)
    (then_ok (optional (read_form (ValueOfMap way.out)) (slice_get w.others 0)) _ w.default read
    (writes_parameter (Optional (ValueOfMap way.out)) (slice_get w.others 0) w.default w.written.each.0)
    (ap (λ r. Ok r) (sym w.is))))

-- ---- converters

pub conv_made_is : (name : ConvName) (args : List (List ℕ))
    → conv_made name args ≡ made_by (conv_row name) args
conv_made_is conv_name.Lower args = refl
conv_made_is _ args = refl

pub fetch_made_is : (name : FetchName) (args : List (List ℕ))
    → fetch_made name args ≡ made_by (fetch_row name) args
fetch_made_is fetch_name.AlwaysTrue args = refl
fetch_made_is _ args = refl

plain_writes : (before : Known) (call : CallForm) (found : Option ConvName) (c : Conv)
    (read : Reading Conv) → entry_at conv_names call.name ≡ found
    → conv_by_name found call.args ≡ Ok c → read ≡ reading c before
    → WritesPlainConv before call read
plain_writes before call None c read named made is = absurd (let no : ⊥ = cc in no)
plain_writes before call (Some name) c read named made is = record {
  name = name;
  named = named;
  conv = c;
  written = row_writes (conv_row name) call.args c (sym (conv_made_is name call.args) ∙ made);
  is = is;
}

conv_by_writes : (line : ℕ) (way : Option MapWay) (call : CallForm) (before : Known)
    (read : Reading Conv) → conv_by line way call before ≡ Ok read
    → WritesConvBy line way before call read
conv_by_writes line (Some way) call before read is = map_writes line way call.args before read is
conv_by_writes line None call before read is =
    let (c, made, whole) =
    and_then_ok (conv_by_name (entry_at conv_names call.name) call.args)
    (λ c. Ok (reading c before)) read is in
    let same : reading c before ≡ read = cc in
    plain_writes before call (entry_at conv_names call.name) c read refl made (sym same)

pub conv_writes : (line : ℕ) (call : CallForm) (before : Known) (read : Reading Conv)
    → conv_call line call before ≡ Ok read → WritesConv line before call read
conv_writes line call before read is =
    conv_by_writes line (entry_at map_table call.name) call before read is

conv_by_read : (line : ℕ) (way : Option MapWay) (call : CallForm) (before : Known)
    (read : Reading Conv) → WritesConvBy line way before call read
    → conv_by line way call before ≡ Ok read
conv_by_read line (Some way) call before read w = map_read line way call.args before read w
conv_by_read line None call before read w =
    then_ok (conv_by_name (entry_at conv_names call.name) call.args)
    (λ c. Ok (reading c before)) w.conv read
    (ap (λ found. conv_by_name found call.args) w.named
    ∙ (conv_made_is w.name call.args ∙ writes_row (conv_row w.name) call.args w.conv w.written))
    (ap (λ r. Ok r) (sym w.is))

pub conv_read : (line : ℕ) (call : CallForm) (before : Known) (read : Reading Conv)
    → WritesConv line before call read → conv_call line call before ≡ Ok read
conv_read line call before read w =
    conv_by_read line (entry_at map_table call.name) call before read w

-- ---- fetches

fetch_by_name_writes : (call : CallForm) (found : Option FetchName) (fetch : Fetch)
    → entry_at fetch_names call.name ≡ found → fetch_by_name found call.args ≡ Ok fetch
    → WritesFetch call fetch
fetch_by_name_writes call None fetch named made = absurd (let no : ⊥ = cc in no)
fetch_by_name_writes call (Some name) fetch named made = record {
  name = name;
  named = named;
  written = row_writes (fetch_row name) call.args fetch (sym (fetch_made_is name call.args) ∙ made);
}

pub fetch_writes : (call : CallForm) (fetch : Fetch) → fetch_call call ≡ Ok fetch
    → WritesFetch call fetch
fetch_writes call fetch is =
    fetch_by_name_writes call (entry_at fetch_names call.name) fetch refl is

pub fetch_read : (call : CallForm) (fetch : Fetch) → WritesFetch call fetch
    → fetch_call call ≡ Ok fetch
fetch_read call fetch w =
    ap (λ found. fetch_by_name found call.args) w.named
    ∙ (fetch_made_is w.name call.args ∙ writes_row (fetch_row w.name) call.args fetch w.written)

way_writes : (call : CallForm) (found : Option FetchWay) (read : MethodFetch)
    → fetch_way call.name ≡ found → fetch_by found call.args ≡ Ok read
    → WritesMethodFetch call read
way_writes call None read named made = absurd (let no : ⊥ = cc in no)
way_writes call (Some way) read named made =
    let (fetch, written, whole) =
    and_then_ok (fetch_made way.name call.args)
    (λ f. Ok (record { fetch = f; by = way.by })) read made in
    let found : MethodFetch = record { fetch = fetch; by = way.by } in
    let same : found ≡ read = cc in
    record {
      way = way;
      named = named;
      fetch = fetch;
      written = row_writes (fetch_row way.name) call.args fetch (sym (fetch_made_is way.name call.args) ∙ written);
      is = sym same;
    }

pub method_fetch_writes : (call : CallForm) (read : MethodFetch)
    → fetch_by (fetch_way call.name) call.args ≡ Ok read → WritesMethodFetch call read
method_fetch_writes call read is = way_writes call (fetch_way call.name) read refl is

pub method_fetch_read : (call : CallForm) (read : MethodFetch) → WritesMethodFetch call read
    → fetch_by (fetch_way call.name) call.args ≡ Ok read
method_fetch_read call read w =
    ap (λ found. fetch_by found call.args) w.named
    ∙ then_ok (fetch_made w.way.name call.args)
    (λ f. Ok (record { fetch = f; by = w.way.by })) w.fetch read
    (fetch_made_is w.way.name call.args ∙ writes_row (fetch_row w.way.name) call.args w.fetch w.written)
    (ap (λ r. Ok r) (sym w.is))
