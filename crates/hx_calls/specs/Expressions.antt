-- What a call makes by the tables of fetches and of converters (HAProxy configuration manual 2.4,
-- section 7.3). Of a call first its name is judged, then its form, then its arguments.
use Rattle.std.specs.Prelude.{ℕ, List, Option, Some, None, Result, Err}
use Rattle.hx_words.specs.CallForm.{CallForm}
use Rattle.hx_words.specs.declared.ArgFault.{ArgFault}
use Rattle.hx_ast.specs.declared.Conv.{Conv}
use Rattle.hx_ast.specs.declared.Fetch.{Fetch}
use Rattle.hx_calls.specs.declared.convs.ConvName.{ConvName}
use Rattle.hx_calls.specs.declared.convs.ConvName.TheVariants.{Lower}
use Rattle.hx_calls.specs.declared.fault.SpellFault.{SpellFault}
use Rattle.hx_calls.specs.declared.fetches.FetchName.{FetchName}
use Rattle.hx_calls.specs.declared.fetches.FetchName.TheVariants.{AlwaysTrue}
use Rattle.hx_calls.specs.Arguments.{made_by}
use Rattle.hx_calls.specs.Codes.{unsupported, form_fault}
use Rattle.hx_calls.specs.Tables.{conv_row, entry_at, fetch_names, fetch_row}

-- what a call that has a fault after its name is refused for
abbrev pub call_fault : {A : Type 0} → Option A → ArgFault → SpellFault
call_fault None fault = unsupported
call_fault (Some name) fault = form_fault fault

-- What a fetch makes of its arguments. It is said by cases, so that it computes at each name.
abbrev pub fetch_made : FetchName → List (List ℕ) → Result Fetch SpellFault
fetch_made AlwaysTrue args = made_by (fetch_row AlwaysTrue) args
fetch_made name args = made_by (fetch_row name) args

-- the same of a converter
abbrev pub conv_made : ConvName → List (List ℕ) → Result Conv SpellFault
conv_made Lower args = made_by (conv_row Lower) args
conv_made name args = made_by (conv_row name) args

abbrev pub fetch_by_name : Option FetchName → List (List ℕ) → Result Fetch SpellFault
fetch_by_name None args = Err unsupported
fetch_by_name (Some name) args = fetch_made name args

-- the fetch of a call
abbrev pub fetch_call : CallForm → Result Fetch SpellFault
fetch_call call = fetch_by_name (entry_at fetch_names call.name) call.args

abbrev pub conv_by_name : Option ConvName → List (List ℕ) → Result Conv SpellFault
conv_by_name None args = Err unsupported
conv_by_name (Some name) args = conv_made name args
