-- Expressions, and the criterion of an ACL: an expression whose fetch may have the match method in
-- its name, as `path_beg` (HAProxy configuration manual 2.4, sections 7.1.3, 7.3 and 7.3.1). The
-- converters may look values up in maps, whose files are references.
use Rattle.std.specs.Prelude.{ℕ, false, true, List, [], ◌∷◌, ◌++◌, map, codes, slice_get, Option, Some, None, Result, Ok, Err, option_map, option_and_then}
use Rattle.std.specs.List.{flat_map}
use Rattle.std.specs.Option.{option_map_or, option_or}
use Rattle.hx_base.specs.Bytes.{ascii}
use Rattle.hx_text.specs.declared.By.{By}
use Rattle.hx_text.specs.declared.By.TheVariants as method
use Rattle.hx_text.specs.declared.Out.{Out}
use Rattle.hx_text.specs.declared.Out.TheVariants as output
use Rattle.hx_text.specs.Cut.{cut_of}
use Rattle.hx_text.specs.Methods.{method_name}
use Rattle.hx_words.specs.CallForm.{CallForm}
use Rattle.hx_words.specs.Calls.{Step, steps_of}
use Rattle.hx_words.specs.Calls.Step.{Last, More, Faulty}
use Rattle.hx_words.specs.declared.ArgFault.{ArgFault}
use Rattle.hx_ast.specs.declared.Conv.{Conv}
use Rattle.hx_ast.specs.declared.Conv.TheVariants as conv
use Rattle.hx_ast.specs.declared.Expr.{Expr}
use Rattle.hx_ast.specs.declared.Fetch.{Fetch}
use Rattle.hx_calls.specs.declared.fault.SpellFault.{SpellFault}
use Rattle.hx_calls.specs.declared.fetches.FetchName.{FetchName}
use Rattle.hx_calls.specs.declared.fetches.FetchName.TheVariants as fetch_name
use Rattle.hx_calls.specs.Codes.{form_fault, unsupported}
use Rattle.hx_base.specs.Results.{◌>>=◌}
use Rattle.hx_calls.specs.Arguments.{counted, optional, read_form, required}
use Rattle.hx_calls.specs.Expressions.{call_fault, conv_by_name, fetch_call, fetch_made}
use Rattle.hx_calls.specs.Forms.Form.{ValueOfMap}
use Rattle.hx_calls.specs.Known.{Known, Reading, with_head, with_named_file, with_output, reading}
use Rattle.hx_calls.specs.Tables.{Table, conv_names, entry_at, fetch_names}

-- ---- maps

-- how a map is searched, and the type of its values
pub record MapWay : Type 0 where
  pub by : By
  pub out : Out

abbrev pub map_way : By → Out → MapWay
map_way by out = record { by = by; out = out }

-- the names of the converters that look up in a map: `map`, `map_MATCH` and `map_MATCH_OUT`
abbrev pub map_rows : By → Table MapWay
map_rows by =
    (codes "map_" ++ method_name by, map_way by output.Str)
    ∷ (codes "map_" ++ method_name by ++ codes "_str", map_way by output.Str)
    ∷ (codes "map_" ++ method_name by ++ codes "_int", map_way by output.Int)
    ∷ (codes "map_" ++ method_name by ++ codes "_ip", map_way by output.Ip)
    ∷ []

unfoldable pub map_table : Table MapWay
map_table =
    (codes "map", map_way method.Str output.Str)
    ∷ flat_map map_rows (method.Str ∷ method.Beg ∷ method.Sub ∷ method.Dir ∷ method.Dom ∷ method.End
    ∷ method.Reg ∷ method.Int ∷ method.Ip ∷ [])

-- the head of a map, whose file is a reference with two columns
abbrev pub map_head : MapWay → Reading ℕ → Reading ℕ
map_head way file =
    with_head (record { table = file.value; by = way.by; ci = false })
    (with_output (record { table = file.value; out = way.out }) file.known)

abbrev pub map_reading : MapWay → Reading ℕ → Option (List ℕ) → Reading Conv
map_reading way file default =
    let head = map_head way file in
    reading (conv.Map head.value way.by way.out default) head.known

-- FILE[,DEFAULT]: the file is judged before the default
abbrev pub map_arguments : ℕ → MapWay → List (List ℕ) → Known → Result (Reading Conv) SpellFault
map_arguments line way args known = counted 1 2 args (do
  file ← required (λ name. with_named_file line name true known) (slice_get args 0)
  default ← optional (read_form (ValueOfMap way.out)) (slice_get args 1)
  Ok (map_reading way file default))

-- ---- converters

abbrev pub conv_by : ℕ → Option MapWay → CallForm → Known → Result (Reading Conv) SpellFault
conv_by line (Some way) call known = map_arguments line way call.args known
conv_by line None call known =
    conv_by_name (entry_at conv_names call.name) call.args >>= (λ c. Ok (reading c known))

-- the converter of a call
abbrev pub conv_call : ℕ → CallForm → Known → Result (Reading Conv) SpellFault
conv_call line call known = conv_by line (entry_at map_table call.name) call known

-- what a call that has a fault after its name is refused for
abbrev pub conv_fault : List ℕ → ArgFault → SpellFault
conv_fault name fault =
    option_map_or (λ way. form_fault fault) (entry_at map_table name)
    (call_fault (entry_at conv_names name) fault)

-- the same of a call that is whole, or of one that has a fault after its name
abbrev pub conv_step : ℕ → Step → Known → Result (Reading Conv) SpellFault
conv_step line (Last call rest) known = conv_call line call known
conv_step line (More call rest) known = conv_call line call known
conv_step line (Faulty name fault) known = Err (conv_fault name fault)

-- the converters of calls, one after the other
abbrev pub convs_after : ℕ → List Step → Known → Result (Reading (List Conv)) SpellFault
convs_after line [] known = Ok (reading [] known)
convs_after line (step ∷ steps) known = do
  first ← conv_step line step known
  others ← convs_after line steps first.known
  Ok (reading (first.value ∷ others.value) others.known)

-- ---- fetches with a method in their names

-- a fetch by its name, and the match method that its name brings, if it brings one
pub record FetchWay : Type 0 where
  pub name : FetchName
  pub by : Option By

-- the fetches that have such names
unfoldable pub derived_fetches : Table FetchName
derived_fetches =
    (codes "base", fetch_name.Base)
    ∷ (codes "cook", fetch_name.ReqCook)
    ∷ (codes "hdr", fetch_name.ReqHdr)
    ∷ (codes "path", fetch_name.Path)
    ∷ (codes "url", fetch_name.Url)
    ∷ (codes "urlp", fetch_name.UrlParam)
    ∷ []

-- the methods in names, after `_`
unfoldable pub derived_methods : Table By
derived_methods = map (λ by. (method_name by, by))
    (method.Beg ∷ method.Dir ∷ method.Dom ∷ method.End ∷ method.Len ∷ method.Reg ∷ method.Sub ∷ [])

abbrev pub way_with : Option By → FetchName → FetchWay
way_with by name = record { name = name; by = by }

-- the fetch and the method of a name that is a fetch's, `_` and a method's
abbrev pub derived_of_parts : List ℕ × List ℕ → Option FetchWay
derived_of_parts parts =
    option_and_then
    (λ name. option_map (λ by. way_with (Some by) name) (entry_at derived_methods parts.1))
    (entry_at derived_fetches parts.0)

-- what the name of a fetch says in a criterion
abbrev pub fetch_way : List ℕ → Option FetchWay
fetch_way name =
    option_or (option_map (way_with None) (entry_at fetch_names name))
    (option_and_then derived_of_parts (cut_of (ascii "_") name))

-- a fetch, and the match method that its name brings, if it brings one
pub record MethodFetch : Type 0 where
  pub fetch : Fetch
  pub by : Option By

abbrev pub fetch_by : Option FetchWay → List (List ℕ) → Result MethodFetch SpellFault
fetch_by None args = Err unsupported
fetch_by (Some way) args =
    fetch_made way.name args >>= (λ f. Ok (record { fetch = f; by = way.by }))

-- the fetch of the first call
abbrev pub fetch_step : Step → Result MethodFetch SpellFault
fetch_step (Last call rest) = fetch_by (fetch_way call.name) call.args
fetch_step (More call rest) = fetch_by (fetch_way call.name) call.args
fetch_step (Faulty name fault) = Err (call_fault (fetch_way name) fault)

-- an expression, and the match method that the name of its fetch brings, if it brings one
pub record Criterion : Type 0 where
  pub expr : Expr
  pub by : Option By

abbrev pub criterion : MethodFetch → Reading (List Conv) → Reading Criterion
criterion first convs =
    let expr : Expr = record { fetch = first.fetch; convs = convs.value } in
    reading (record { expr = expr; by = first.by }) convs.known

abbrev pub criterion_of_steps : ℕ → List Step → Known → Result (Reading Criterion) SpellFault
criterion_of_steps line [] known = Err unsupported
criterion_of_steps line (step ∷ steps) known = do
  first ← fetch_step step
  convs ← convs_after line steps known
  Ok (criterion first convs)

-- the criterion that a text on this line writes, or the code of its first fault
unfoldable pub criterion_of : ℕ → List ℕ → Known → Result (Reading Criterion) SpellFault
criterion_of line text known = criterion_of_steps line (steps_of None text) known

-- ---- expressions

-- the fetch of the first call of an expression, whose name brings no method
abbrev pub expr_fetch : Step → Result Fetch SpellFault
expr_fetch (Last call rest) = fetch_call call
expr_fetch (More call rest) = fetch_call call
expr_fetch (Faulty name fault) = Err (call_fault (entry_at fetch_names name) fault)

abbrev pub expr_reading : Fetch → Reading (List Conv) → Reading Expr
expr_reading fetch convs = reading (record { fetch = fetch; convs = convs.value }) convs.known

-- the expression of calls, or the code of its first fault
abbrev pub expr_of_steps : ℕ → List Step → Known → Result (Reading Expr) SpellFault
expr_of_steps line [] known = Err unsupported
expr_of_steps line (step ∷ steps) known = do
  fetch ← expr_fetch step
  convs ← convs_after line steps known
  Ok (expr_reading fetch convs)

-- The expression that a text on this line writes, or the code of its first fault. It goes to the
-- end of the text, or up to the stop byte, which is the first outside parentheses.
unfoldable pub expr_of : Option ℕ → ℕ → List ℕ → Known → Result (Reading Expr) SpellFault
expr_of stop line text known = expr_of_steps line (steps_of stop text) known
