-- The values of fetches and of converters are of the types that the tables give.
use Rattle.std.proofs.Common.{ℕ, ℤ, Bool, true, false, List, [], ◌∷◌, map, Option, Some, None, option_map, refl, if◌then◌else◌}
use Rattle.std.specs.Prelude.{IfSome, option_and_then}
use Rattle.std.specs.List.{AllByRecursion}
use Rattle.hx_ast.specs.Types.{expr_kind, fetch_kind, input_kind, kind_after, kind_out, output_kind}
use Rattle.hx_ast.specs.declared.conv.Conv.{Conv}
use Rattle.hx_ast.specs.declared.conv.Conv.TheVariants as conv
use Rattle.hx_ast.specs.declared.expr.Expr.{Expr}
use Rattle.hx_ast.specs.declared.fetch.Fetch.{Fetch}
use Rattle.hx_ast.specs.declared.fetch.Fetch.TheVariants as fetch
use Rattle.hx_ast.specs.declared.val.Val.{Val}
use Rattle.hx_conv_text.specs.Converters.{cast_content, converted_bytes, is_text_conv, text_conv_of}
use Rattle.hx_conv_val.specs.Converters.{made_of, value_conv_of}
use Rattle.hx_conv_val.specs.Inputs.{operand_of}
use Rattle.hx_fetch.specs.Fetches.{occurrences_of, text_occurrences, texts_of}
use Rattle.hx_fetch.specs.World.{Context}
use Rattle.hx_sample.specs.Cast.{cast_of}
use Rattle.hx_sample.specs.Find.{Entry}
use Rattle.hx_sample.specs.Keys.{kind_by}
use Rattle.hx_sample.specs.Tables.{TableHead, found_at}
use Rattle.hx_sample.specs.Vars.{Scopes}
use Rattle.hx_sample.specs.declared.sample.Value.{Value}
use Rattle.hx_sample.specs.declared.sample.Value.TheVariants as value
use Rattle.hx_text.specs.declared.kinds.Kind.{Kind}
use Rattle.hx_text.specs.declared.kinds.Kind.TheVariants as kind
use Rattle.hx_text.specs.declared.kinds.Out.{Out}
use Rattle.hx_expr.specs.Kinds.{HasKind}
use Rattle.hx_expr.specs.Values.{converted_value, expr_values, is_map_conv, map_value, mapped_value, value_after}

-- where there is a value, it is of the type
abbrev pub AreOf : Kind → Option Value → Type 0
AreOf known found = IfSome found (HasKind known)

-- ---- values that are made of others

and_then_kind : {A : Type 0} (known : Kind) (f : A → Option Value) (o : Option A) → ((x : A) → AreOf known (f x))
    → AreOf known (option_and_then f o)
and_then_kind known f None each = tt
and_then_kind known f (Some x) each = each x

map_kind : {A : Type 0} (known : Kind) (f : A → Value) (o : Option A) → ((x : A) → HasKind known (f x))
    → AreOf known (option_map f o)
map_kind known f None each = tt
map_kind known f (Some x) each = each x

-- ---- casts

pub cast_kind : (v : Value) (to : Kind) → AreOf to (cast_of v to)
cast_kind v kind.Any = tt
cast_kind (value.Bool b) kind.Bool = refl
cast_kind (value.Bool b) kind.Int = refl
cast_kind (value.Bool b) kind.Str = refl
cast_kind (value.Int n) kind.Bool = refl
cast_kind (value.Int n) kind.Int = refl
cast_kind (value.Int n) kind.Str = refl
cast_kind (value.Ip ip) kind.Ip = refl
cast_kind (value.Ip ip) kind.Str = refl
cast_kind (value.Str text) kind.Bool = map_kind kind.Bool _ _ (λ n. refl)
cast_kind (value.Str text) kind.Int = map_kind kind.Int value.Int _ (λ n. refl)
cast_kind (value.Str text) kind.Ip = map_kind kind.Ip value.Ip _ (λ ip. refl)
cast_kind (value.Str text) kind.Str = refl
cast_kind (value.Str text) kind.Bin = refl
cast_kind (value.Str text) kind.Method = refl
cast_kind (value.Bin bytes) kind.Str = refl
cast_kind (value.Bin bytes) kind.Bin = refl
cast_kind (value.Method name) kind.Str = refl
cast_kind (value.Method name) kind.Bin = refl
cast_kind (value.Method name) kind.Method = refl
cast_kind _ _ = tt

-- ---- converters of texts

bytes_kind : (c : Conv) (conn : ℕ) (vars : Scopes) (text : List ℕ) → AreOf (output_kind c) (converted_bytes c conn vars text)
bytes_kind conv.Lower conn vars text = refl
bytes_kind conv.Upper conn vars text = refl
bytes_kind conv.Length conn vars text = refl
bytes_kind (conv.Field index delims count) conn vars text = map_kind kind.Str value.Str _ (λ t. refl)
bytes_kind (conv.Word index delims count) conn vars text = map_kind kind.Str value.Str _ (λ t. refl)
bytes_kind (conv.Bytes offset len) conn vars text = refl
bytes_kind (conv.Ltrim chars) conn vars text = refl
bytes_kind (conv.Rtrim chars) conn vars text = refl
bytes_kind conv.CutCrlf conn vars text = refl
bytes_kind (conv.Concat start name end) conn vars text = refl
bytes_kind (conv.Strcmp name) conn vars text = map_kind kind.Int _ _ (λ other. refl)
bytes_kind (conv.Regsub pattern sub each ci) conn vars text = map_kind kind.Str value.Str _ (λ t. refl)
bytes_kind (conv.UrlDec form) conn vars text = map_kind kind.Str value.Str _ (λ t. refl)
bytes_kind _ conn vars text = tt

text_kind : (c : Conv) (input : Value) (conn : ℕ) (vars : Scopes) → AreOf (output_kind c) (text_conv_of c input conn vars)
unfolding text_conv_of
text_kind c input conn vars =
    and_then_kind (output_kind c) (converted_bytes c conn vars) (cast_content (input_kind c) input) (bytes_kind c conn vars)

-- ---- converters of numbers, addresses and encodings

made_kind : (c : Conv) (number : Val → Option ℤ) (v : Value) → AreOf (output_kind c) (made_of c number v)
made_kind (conv.Iif t f) number (value.Bool b) = refl
made_kind conv.Bool number (value.Int n) = refl
made_kind conv.Even number (value.Int n) = refl
made_kind conv.Odd number (value.Int n) = refl
made_kind conv.Not number (value.Int n) = refl
made_kind (conv.Add operand) number (value.Int n) = map_kind kind.Int _ (number operand) (λ m. refl)
made_kind (conv.Sub operand) number (value.Int n) = map_kind kind.Int _ (number operand) (λ m. refl)
made_kind (conv.Mul operand) number (value.Int n) = map_kind kind.Int _ (number operand) (λ m. refl)
made_kind (conv.Div operand) number (value.Int n) = map_kind kind.Int _ (number operand) (λ m. refl)
made_kind (conv.Mod operand) number (value.Int n) = map_kind kind.Int _ (number operand) (λ m. refl)
made_kind conv.Neg number (value.Int n) = refl
made_kind (conv.And operand) number (value.Int n) = map_kind kind.Int _ (number operand) (λ m. refl)
made_kind (conv.Or operand) number (value.Int n) = map_kind kind.Int _ (number operand) (λ m. refl)
made_kind (conv.Xor operand) number (value.Int n) = map_kind kind.Int _ (number operand) (λ m. refl)
made_kind conv.Cpl number (value.Int n) = refl
made_kind (conv.Ipmask mask bits) number (value.Ip ip) = map_kind kind.Ip value.Ip _ (λ a. refl)
made_kind conv.Base64 number (value.Bin bytes) = refl
made_kind conv.Ub64enc number (value.Bin bytes) = refl
made_kind conv.B64dec number (value.Str text) = map_kind kind.Bin value.Bin _ (λ b. refl)
made_kind conv.Ub64dec number (value.Str text) = map_kind kind.Bin value.Bin _ (λ b. refl)
made_kind conv.Hex number (value.Bin bytes) = refl
made_kind conv.Hex2i number (value.Str text) = refl
made_kind (conv.Sha2 bits) number (value.Bin bytes) = refl
made_kind _ number _ = tt

value_kind : (c : Conv) (input : Value) (conn : ℕ) (vars : Scopes) → AreOf (output_kind c) (value_conv_of c input conn vars)
unfolding value_conv_of
value_kind c input conn vars =
    and_then_kind (output_kind c) (made_of c (operand_of conn vars)) (cast_of input (input_kind c)) (made_kind c (operand_of conn vars))

-- ---- maps

mapped_kind : (out : Out) (default : Option (List ℕ)) (found : Option Entry) → AreOf (kind_out out) (mapped_value out default found)
mapped_kind out default (Some entry) = cast_kind (value.Str entry.value) (kind_out out)
mapped_kind out (Some text) None = cast_kind (value.Str text) (kind_out out)
mapped_kind out None None = tt

map_kind_of : (heads : List TableHead) (lists : List (List Entry)) (c : Conv) (input : Value)
    → AreOf (output_kind c) (map_value heads lists c input)
map_kind_of heads lists (conv.Map head by out default) input =
    and_then_kind (kind_out out) (λ v. mapped_value out default (found_at heads lists head v)) (cast_of input (kind_by by))
    (λ v. mapped_kind out default (found_at heads lists head v))
map_kind_of heads lists _ input = tt

-- ---- expressions

one_of_three : (known : Kind) (first second : Bool) (a b c : Option Value) → AreOf known a → AreOf known b → AreOf known c
    → AreOf known (if first then a else if second then b else c)
one_of_three known true second a b c is other third = is
one_of_three known false true a b c is other third = other
one_of_three known false false a b c is other third = third

pub converted_kind : (context : Context) (heads : List TableHead) (lists : List (List Entry)) (c : Conv) (input : Value)
    → AreOf (output_kind c) (converted_value context heads lists c input)
converted_kind context heads lists c input =
    one_of_three (output_kind c) (is_text_conv c) (is_map_conv c) _ _ _
    (text_kind c input context.conn.id context.vars)
    (map_kind_of heads lists c input)
    (value_kind c input context.conn.id context.vars)

kind_after_all : (context : Context) (heads : List TableHead) (lists : List (List Entry)) (convs : List Conv) (known : Kind)
    (found : Option Value) → AreOf known found
    → AreOf (kind_after known convs) (value_after context heads lists convs found)
kind_after_all context heads lists [] known found is = is
kind_after_all context heads lists (c ∷ convs) known found is =
    kind_after_all context heads lists convs (output_kind c) (option_and_then (converted_value context heads lists c) found)
    (and_then_kind (output_kind c) (converted_value context heads lists c) found (converted_kind context heads lists c))

-- ---- fetches

any_kind : (found : Option Value) → AreOf kind.Any found
any_kind None = tt
any_kind (Some v) = tt

texts_kind : (known : Kind) (texts : List (List ℕ)) → AllByRecursion (AreOf known) (text_occurrences known texts)
texts_kind known [] = tt
texts_kind known (text ∷ texts) = (cast_kind (value.Str text) known, texts_kind known texts)

fetched_kind : (f : Fetch) (context : Context) → AllByRecursion (AreOf (fetch_kind f)) (occurrences_of f context)
fetched_kind fetch.AlwaysTrue context = (refl, tt)
fetched_kind fetch.AlwaysFalse context = (refl, tt)
fetched_kind (fetch.Bool b) context = (refl, tt)
fetched_kind (fetch.Int n) context = (refl, tt)
fetched_kind (fetch.Str text) context = (refl, tt)
fetched_kind (fetch.Bin bytes) context = (refl, tt)
fetched_kind (fetch.Ipv4 ip) context = (refl, tt)
fetched_kind (fetch.Ipv6 ip) context = (refl, tt)
fetched_kind (fetch.Var name default) context = (any_kind _, tt)
fetched_kind fetch.Src context = (refl, tt)
fetched_kind fetch.Dst context = (refl, tt)
fetched_kind fetch.SrcPort context = (refl, tt)
fetched_kind fetch.DstPort context = (refl, tt)
fetched_kind fetch.Method context = (refl, tt)
fetched_kind fetch.ReqVer context = (refl, tt)
fetched_kind fetch.Path context = (map_kind kind.Str value.Str _ (λ t. refl), tt)
fetched_kind fetch.Query context = (map_kind kind.Str value.Str _ (λ t. refl), tt)
fetched_kind fetch.Url context = (refl, tt)
fetched_kind fetch.Base context = (map_kind kind.Str value.Str _ (λ t. refl), tt)
fetched_kind (fetch.ReqHdrCnt name) context = (refl, tt)
fetched_kind (fetch.ReqCookCnt name) context = (refl, tt)
fetched_kind f context = texts_kind (fetch_kind f) (texts_of f context.message)

mapped_all : (f : Option Value → Option Value) (before after : Kind) → ((found : Option Value) → AreOf before found → AreOf after (f found))
    → (founds : List (Option Value)) → AllByRecursion (AreOf before) founds → AllByRecursion (AreOf after) (map f founds)
mapped_all f before after step [] all = tt
mapped_all f before after step (found ∷ founds) all =
    (step found all.0, mapped_all f before after step founds all.1)

pub values_kind : (context : Context) (heads : List TableHead) (lists : List (List Entry)) (expr : Expr)
    → AllByRecursion (AreOf (expr_kind expr)) (expr_values context heads lists expr)
values_kind context heads lists expr =
    mapped_all (value_after context heads lists expr.convs) (fetch_kind expr.fetch) (expr_kind expr)
    (kind_after_all context heads lists expr.convs (fetch_kind expr.fetch))
    (occurrences_of expr.fetch context) (fetched_kind expr.fetch context)
