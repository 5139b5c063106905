-- `http-request set-var-fmt(VAR) FMT` as `set-var(VAR)` with an expression that makes the same text
-- (HAProxy configuration manual 2.6, section 4.2). The text begins as the value of a fetch that
-- always has one, if the format begins with it, and else empty; plain text and variables are
-- appended by `concat`, to which a variable that isn't set is nothing, as it is in a format. A
-- format with any other expression makes a text also where that has no value, which no expression
-- of hxeval does.
use Rattle.std.specs.Prelude.{ℕ, ◌+◌, ◌-◌, nat_lt, ◌==◌, Bool, true, false, ◌&&◌, List, [], ◌∷◌, ◌++◌, codes, drop, length, take, Option, None, Some, option_and_then, option_map, Result, Ok, Err, if◌then◌else◌}
use Rattle.std.specs.List.{list_any}
use Rattle.std.specs.Option.{option_map_or}
use Rattle.std.specs.Str.{bytes_eq}
use Rattle.hx_base.specs.Bytes.{ascii}
use Rattle.hx_words.specs.CallForm.{CallForm, CallList}
use Rattle.hx_words.specs.Calls.{calls_of}
use Rattle.hx_words.specs.declared.fault.ArgFault.{ArgFault}
use Rattle.hx_config.specs.LeftOut.{action_name}
use Rattle.hx_config.specs.Quoted.{quoted_byte}
use Rattle.hx_config.specs.declared.assembling.TheConstants.{ALWAYS_FOUND}

-- ---- what a format begins with

-- the one call of a fetch that always has a value
abbrev pub is_always_found : List CallForm → Bool
is_always_found (call ∷ []) = list_any (λ name. bytes_eq call.name name.now) ALWAYS_FOUND
is_always_found _ = false

-- a text that an expression makes, and how many bytes of the format it stands for
pub record FirstText : Type 0 where
  pub text : List ℕ
  pub skip : ℕ

abbrev pub empty_text : FirstText
empty_text = record { text = codes "str(\"\")"; skip = 0 }

abbrev pub text_called : List ℕ → Result CallList ArgFault → FirstText
text_called inside (Ok list) =
    if is_always_found list.calls
    then record { text = take (list.used - 1) inside ++ codes ",concat()"; skip = list.used + 2 }
    else empty_text
text_called inside (Err fault) = empty_text

abbrev pub first_text : List ℕ → FirstText
first_text (a ∷ b ∷ inside) =
    if a == ascii "%" && b == ascii "["
    then text_called inside (calls_of (Some (ascii "]")) inside) else empty_text
first_text _ = empty_text

-- ---- what is appended

-- what a byte of the format and those after it append, whether the quotes of an argument are open
-- then, and how many of the bytes after it are taken
pub record Append : Type 0 where
  pub text : List ℕ
  pub is_open : Bool
  pub skip : ℕ

abbrev pub opening : (is_open : Bool) → List ℕ
opening true = []
opening false = codes ",concat(\""

abbrev pub closing : (is_open : Bool) → List ℕ
closing true = codes "\")"
closing false = []

abbrev pub plain_append : (is_open : Bool) → ℕ → (skip : ℕ) → Append
plain_append is_open b skip =
    record { text = opening is_open ++ quoted_byte b; is_open = true; skip = skip }

abbrev pub variable_append : (is_open : Bool) → (name : List ℕ) → (skip : ℕ) → Append
variable_append is_open name skip = record {
  text = closing is_open ++ codes ",concat(," ++ name ++ codes ")";
  is_open = false;
  skip = skip;
}

abbrev pub only_one : List (List ℕ) → Option (List ℕ)
only_one (argument ∷ []) = Some argument
only_one _ = None

-- the name in the one call `var(NAME)`
abbrev pub variable_in : List CallForm → Option (List ℕ)
variable_in (call ∷ []) =
    if bytes_eq call.name (codes "var") then only_one call.args else None
variable_in _ = None

abbrev pub variable_called : (is_open : Bool) → Result CallList ArgFault → Option Append
variable_called is_open (Ok list) =
    option_map (λ name. variable_append is_open name (list.used + 1)) (variable_in list.calls)
variable_called is_open (Err fault) = None

abbrev pub percent_append : (is_open : Bool) → List ℕ → Option Append
percent_append is_open [] = None
percent_append is_open (b ∷ bytes) =
    if b == ascii "%" then Some (plain_append is_open b 1)
    else (if b == ascii "["
    then variable_called is_open (calls_of (Some (ascii "]")) bytes) else None)

abbrev pub byte_append : (is_open : Bool) → ℕ → List ℕ → Option Append
byte_append is_open b bytes =
    if b == ascii "%" then percent_append is_open bytes else Some (plain_append is_open b 0)

-- this expression, and what a format appends to it, of which the first `skip` bytes are taken; none
-- where it has a part that can't be appended
abbrev pub appended_to : (expression : List ℕ) → (is_open : Bool) → (skip : ℕ) → List ℕ
    → Option (List ℕ)
appended_to expression is_open skip [] = Some (expression ++ closing is_open)
appended_to expression is_open skip (b ∷ bytes) =
    if nat_lt 0 skip then appended_to expression is_open (skip - 1) bytes
    else option_and_then
    (λ part. appended_to (expression ++ part.text) part.is_open part.skip bytes)
    (byte_append is_open b bytes)

-- the expression that makes the text of a format
unfoldable pub assembled : List ℕ → Option (List ℕ)
assembled format = appended_to (first_text format).text false (first_text format).skip format

-- ---- the statement

-- `set-var(VAR)` for `set-var-fmt(VAR)`
abbrev pub variable_action : List ℕ → List ℕ
variable_action action = codes "set-var" ++ drop (length (action_name action)) action

abbrev pub is_from_format : (keyword action : List ℕ) → Bool
is_from_format keyword action =
    bytes_eq keyword (codes "http-request")
    && bytes_eq (action_name action) (codes "set-var-fmt")

-- the words of a line, with such a statement said where its format can be assembled
abbrev pub variables_said : List (List ℕ) → List (List ℕ)
variables_said (keyword ∷ action ∷ format ∷ condition) =
    if is_from_format keyword action
    then option_map_or (λ expression. keyword ∷ variable_action action ∷ expression ∷ condition)
    (assembled format) (keyword ∷ action ∷ format ∷ condition)
    else keyword ∷ action ∷ format ∷ condition
variables_said words = words
