-- Expressions and criteria, and the texts that write them: a relation that knows nothing of how a
-- text is read (HAProxy configuration manual 2.4, sections 7.1.3 and 7.3).
use Rattle.std.specs.Prelude.{◌≡◌, ◌⊎◌, ℕ, ◌<◌, Bool, true, List, [], ◌∷◌, ◌++◌, length, position, Option, None, Some}
use Rattle.hx_words.specs.CallForm.{CallForm}
use Rattle.hx_words.specs.Spelling.{SpellsCalls}
use Rattle.hx_ast.specs.declared.Conv.{Conv}
use Rattle.hx_ast.specs.declared.Expr.{Expr}
use Rattle.hx_ast.specs.declared.Fetch.{Fetch}
use Rattle.hx_calls.specs.declared.convs.ConvName.{ConvName}
use Rattle.hx_calls.specs.declared.fetches.FetchName.{FetchName}
use Rattle.hx_calls.specs.Criteria.{Criterion, FetchWay, MapWay, MethodFetch, criterion, expr_reading, fetch_way, map_reading, map_table}
use Rattle.hx_calls.specs.Forms.{WriteAll, WritesRow}
use Rattle.hx_calls.specs.Forms.Form.{ValueOfMap}
use Rattle.hx_calls.specs.Forms.Parameter.{Optional}
use Rattle.hx_calls.specs.Known.{Known, Reading, ReferenceForm, has_columns, is_of_file, most_references, reading, reference_form, with_named}
use Rattle.hx_calls.specs.Tables.{conv_names, conv_row, entry_at, fetch_names, fetch_row}

-- ---- files

-- a file is known, and used with as many columns
pub record IsKnownFile (name : List ℕ) (two : Bool) (before : Known) (read : Reading ℕ)
    : Type 0 where
  pub at : ℕ
  pub found : position (is_of_file name) before.references ≡ Some at
  pub columns : has_columns before at two ≡ true
  pub is : read ≡ reading at before

-- a reference is new, and there is room for it
pub record IsNewReference (form : ReferenceForm) (before : Known) (read : Reading ℕ)
    : Type 0 where
  pub room : length before.references < most_references
  pub is : read ≡ reading (length before.references)
      (record before { references = before.references ++ form ∷ [] })

-- a file is new
pub record IsNewFile (line : ℕ) (name : List ℕ) (two : Bool) (before : Known) (read : Reading ℕ)
    : Type 0 where
  pub new : position (is_of_file name) before.references ≡ None
  pub added : IsNewReference (reference_form (Some name) None two line []) before read

-- a file that is named on this line has this position among the references
abbrev pub HasPosition : ℕ → List ℕ → Bool → Known → Reading ℕ → Type 0
HasPosition line name two before read =
    IsKnownFile name two before read ⊎ IsNewFile line name two before read

-- ---- converters

-- FILE[,DEFAULT]: the arguments of a converter that looks up in a map
pub record WritesMap (line : ℕ) (way : MapWay) (before : Known) (args : List (List ℕ))
    (read : Reading Conv) : Type 0 where
  pub name : List ℕ
  pub others : List (List ℕ)
  pub args_are : args ≡ name ∷ others
  pub file : Reading ℕ
  pub has_position : HasPosition line name true before file
  pub default : Option (List ℕ)
  pub written : WriteAll (Optional (ValueOfMap way.out) ∷ []) others (default, tt)
  pub is : read ≡ map_reading way (reading file.value (with_named file.value file.known)) default

-- a converter of another name, by its row
pub record WritesPlainConv (before : Known) (call : CallForm) (read : Reading Conv)
    : Type 0 where
  pub name : ConvName
  pub named : entry_at conv_names call.name ≡ Some name
  pub conv : Conv
  pub written : WritesRow (conv_row name) call.args conv
  pub is : read ≡ reading conv before

-- a call writes a converter: by the names of maps, or by those of the others
abbrev pub WritesConvBy : ℕ → Option MapWay → Known → CallForm → Reading Conv → Type 0
WritesConvBy line (Some way) before call read = WritesMap line way before call.args read
WritesConvBy line None before call read = WritesPlainConv before call read

abbrev pub WritesConv : ℕ → Known → CallForm → Reading Conv → Type 0
WritesConv line before call read =
    WritesConvBy line (entry_at map_table call.name) before call read

-- calls write converters, one after the other
abbrev pub WriteConvs : ℕ → Known → List CallForm → Reading (List Conv) → Type 0
WriteConvs line before [] convs = convs ≡ reading [] before
WriteConvs line before (call ∷ calls) convs =
    (first : Reading Conv) × (others : Reading (List Conv))
    × (convs ≡ reading (first.value ∷ others.value) others.known)
    × WritesConv line before call first × WriteConvs line first.known calls others

-- ---- criteria

-- a call writes a fetch, perhaps with a match method in its name
pub record WritesMethodFetch (call : CallForm) (found : MethodFetch) : Type 0 where
  pub way : FetchWay
  pub named : fetch_way call.name ≡ Some way
  pub fetch : Fetch
  pub written : WritesRow (fetch_row way.name) call.args fetch
  pub is : found ≡ record { fetch = fetch; by = way.by }

-- a text writes a criterion: it is spelled by calls, of which the first writes the fetch, perhaps
-- with a match method, and the others the converters
pub record WritesCriterion (line : ℕ) (before : Known) (text : List ℕ) (read : Reading Criterion)
    : Type 0 where
  pub first : CallForm
  pub others : List CallForm
  pub spelled : SpellsCalls None (first ∷ others) text
  pub fetch : MethodFetch
  pub fetched : WritesMethodFetch first fetch
  pub convs : Reading (List Conv)
  pub converted : WriteConvs line before others convs
  pub is : read ≡ criterion fetch convs

-- ---- expressions

-- a call writes a fetch by its row
pub record WritesFetch (call : CallForm) (fetch : Fetch) : Type 0 where
  pub name : FetchName
  pub named : entry_at fetch_names call.name ≡ Some name
  pub written : WritesRow (fetch_row name) call.args fetch

-- A text writes an expression, up to the stop byte at its end, if there is one: it is spelled by
-- calls, of which the first writes the fetch, and the others the converters.
pub record WritesExpr (stop : Option ℕ) (line : ℕ) (before : Known) (text : List ℕ)
    (read : Reading Expr) : Type 0 where
  pub first : CallForm
  pub others : List CallForm
  pub spelled : SpellsCalls stop (first ∷ others) text
  pub fetch : Fetch
  pub fetched : WritesFetch first fetch
  pub convs : Reading (List Conv)
  pub converted : WriteConvs line before others convs
  pub is : read ≡ expr_reading fetch convs
