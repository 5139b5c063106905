-- The value of an expression: what its fetch finds, and what its converters make of that one after
-- the other (HAProxy configuration manual 2.4, section 7.3).
use Rattle.std.specs.Prelude.{◌≡◌, fold, ℕ, ◌<◌, Bool, true, false, List, [], ◌∷◌, length, map, Option, None, Some, IfSome, option_and_then, slice_get, if◌then◌else◌, ⊤}
use Rattle.hx_ast.specs.declared.conv.Conv.{Conv}
use Rattle.hx_ast.specs.declared.conv.Conv.TheVariants as conv
use Rattle.hx_ast.specs.declared.expr.Expr.{Expr}
use Rattle.hx_ast.specs.Types.{kind_out}
use Rattle.hx_conv_text.specs.Converters.{is_text_conv, text_conv_of}
use Rattle.hx_conv_val.specs.Converters.{value_conv_of}
use Rattle.hx_fetch.specs.Fetches.{chosen_of, occurrences_of}
use Rattle.hx_fetch.specs.World.{Context}
use Rattle.hx_sample.specs.Cast.{cast_of}
use Rattle.hx_sample.specs.Find.{Entry}
use Rattle.hx_sample.specs.Keys.{kind_by}
use Rattle.hx_sample.specs.Tables.{TableHead, found_at}
use Rattle.hx_sample.specs.declared.sample.Value.{Value}
use Rattle.hx_sample.specs.declared.sample.Value.TheVariants as value
use Rattle.hx_text.specs.declared.kinds.By.{By}
use Rattle.hx_text.specs.declared.kinds.Out.{Out}

-- the value of the entry that was found, or without one the default, read as the type of the map's
-- values; none without a default
abbrev pub mapped_value : Out → Option (List ℕ) → Option Entry → Option Value
mapped_value out default (Some entry) = cast_of (value.Str entry.value) (kind_out out)
mapped_value out (Some text) None = cast_of (value.Str text) (kind_out out)
mapped_value out None None = None

-- what a map gives for a value, which is cast first to the type that the map's method takes
abbrev pub map_value : List TableHead → List (List Entry) → Conv → Value → Option Value
map_value heads lists (conv.Map head by out default) input =
    option_and_then (λ v. mapped_value out default (found_at heads lists head v))
    (cast_of input (kind_by by))
map_value heads lists _ input = None

abbrev pub is_map_conv : Conv → Bool
is_map_conv (conv.Map head by out default) = true
is_map_conv _ = false

-- what a converter makes of a value: one of texts, one that looks up in a map, or one of numbers,
-- addresses and encodings
abbrev pub converted_value :
    Context → List TableHead → List (List Entry) → Conv → Value → Option Value
converted_value context heads lists c input =
    if is_text_conv c then text_conv_of c input context.conn.id context.vars
    else if is_map_conv c then map_value heads lists c input
    else value_conv_of c input context.conn.id context.vars

-- what converters make of an occurrence, one after the other; none stays none
abbrev pub value_after :
    Context → List TableHead → List (List Entry) → List Conv → Option Value → Option Value
value_after context heads lists convs occurrence =
    fold (λ found c. option_and_then (converted_value context heads lists c) found) occurrence convs

-- the value of an expression, from the one occurrence of its fetch that expressions take
abbrev pub expr_value : Context → List TableHead → List (List Entry) → Expr → Option Value
expr_value context heads lists expr =
    value_after context heads lists expr.convs (chosen_of expr.fetch context)

-- the values of an expression, from each occurrence of its fetch; an occurrence without a value
-- keeps its position
abbrev pub expr_values : Context → List TableHead → List (List Entry) → Expr → List (Option Value)
expr_values context heads lists expr =
    map (λ occurrence. value_after context heads lists expr.convs occurrence)
    (occurrences_of expr.fetch context)

-- the head is one of these, with this method
pub record IsHeadBy (heads : List TableHead) (position : ℕ) (method : By) : Type 0 where
  pub head : position < length heads
  pub by : IfSome (slice_get heads position) (λ h. h.by ≡ method)

-- where the converter looks a value up, its head is one of these
abbrev pub HasTableHead : List TableHead → Conv → Type 0
HasTableHead heads (conv.Map head by out default) = IsHeadBy heads head by
HasTableHead heads _ = ⊤

-- the heads of all converters are among these
abbrev pub HasTableHeads : List TableHead → List Conv → Type 0
HasTableHeads heads [] = ⊤
HasTableHeads heads (c ∷ convs) = HasTableHead heads c × HasTableHeads heads convs
