-- The text that a format makes (HAProxy configuration manual 2.4, section 8.2.4).
use Rattle.std.specs.Prelude.{ℕ, List, [], Option, Some, option_and_then}
use Rattle.std.specs.List.{flat_map}
use Rattle.hx_ast.specs.declared.action.Part.{Part}
use Rattle.hx_ast.specs.declared.action.Part.TheVariants as part
use Rattle.hx_expr.specs.Values.{expr_value}
use Rattle.hx_fetch.specs.World.{Context}
use Rattle.hx_fetch.specs.declared.world.Conn.{Conn}
use Rattle.hx_sample.specs.Cast.{cast_of}
use Rattle.hx_sample.specs.Find.{Entry}
use Rattle.hx_sample.specs.Tables.{TableHead}
use Rattle.hx_sample.specs.declared.sample.Value.{Value}
use Rattle.hx_sample.specs.declared.sample.Value.TheVariants as value
use Rattle.hx_text.specs.declared.kinds.Kind.TheVariants as kind
use Rattle.hx_rules.specs.State.{in_state, State, TableView}

-- the bytes of a string
abbrev pub bytes_of_string : Option Value → List ℕ
bytes_of_string (Some (value.Str bytes)) = bytes
bytes_of_string _ = []

-- a value as a string, and nothing where there is none
abbrev pub string_of : Option Value → List ℕ
string_of v = bytes_of_string (option_and_then (λ found. cast_of found kind.Str) v)

-- the text of a part: bytes that stand for themselves, or the value of an expression as a string
abbrev pub part_text : Context → List TableHead → List (List Entry) → Part → List ℕ
part_text context heads lists (part.Text bytes) = bytes
part_text context heads lists (part.Value expr) = string_of (expr_value context heads lists expr)

-- the texts of the parts, one after the other
abbrev pub format_text : Context → List TableHead → List (List Entry) → List Part → List ℕ
format_text context heads lists format = flat_map (part_text context heads lists) format

-- the text of a format in a state
abbrev pub text_in : {S : Type 0} → TableView S → Conn → State S → List Part → List ℕ
text_in view conn state format = in_state format_text view conn state format
