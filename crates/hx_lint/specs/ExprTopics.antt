-- The topics that an expression shows: each is what makes HAProxy give another value, by a row of
-- docs/manual/haproxy.md.
use Rattle.std.specs.Prelude.{ℕ, ℤ, pos, negsuc, ◌==◌, ◌&&◌, ◌||◌, nat_lt, nat_le, Bool, true, false, List, [], ◌∷◌, length, Option, None, Some, not}
use Rattle.std.specs.List.{list_any}
use Rattle.hx_text.specs.declared.address.Ip.{Ip}
use Rattle.hx_text.specs.declared.address.Ip.TheVariants as ip
use Rattle.hx_text.specs.declared.kinds.Kind.{Kind}
use Rattle.hx_text.specs.declared.kinds.Kind.TheVariants as kind
use Rattle.hx_text.specs.declared.kinds.Out.TheVariants as out
use Rattle.hx_ast.specs.declared.conv.Conv.{Conv}
use Rattle.hx_ast.specs.declared.conv.Conv.TheVariants as conv
use Rattle.hx_ast.specs.declared.expr.Expr.{Expr}
use Rattle.hx_ast.specs.declared.fetch.Fetch.{Fetch}
use Rattle.hx_ast.specs.declared.fetch.Fetch.TheVariants as fetch
use Rattle.hx_ast.specs.declared.val.Val.TheVariants as val
use Rattle.hx_ast.specs.Types.{fetch_kind, input_kind, output_kind}
use Rattle.hx_lint.specs.declared.expr_topics.ExprTopic.{ExprTopic}
use Rattle.hx_lint.specs.declared.expr_topics.ExprTopic.TheVariants as topic

-- ---- types

abbrev pub is_text : Kind → Bool
is_text kind.Str = true
is_text _ = false

-- the types that a text is read as a number for
abbrev pub is_number : Kind → Bool
is_number kind.Int = true
is_number kind.Bool = true
is_number _ = false

abbrev pub is_address : Kind → Bool
is_address kind.Ip = true
is_address _ = false

-- a converter reads a text, which stands before it, as a number
abbrev pub text_is_number : Kind → Conv → Bool
text_is_number before c = is_text before && is_number (input_kind c)

-- the same of one of several converters, the first of which takes a value of this type
abbrev pub texts_are_numbers : Kind → List Conv → Bool
texts_are_numbers before [] = false
texts_are_numbers before (c ∷ cs) =
    text_is_number before c || texts_are_numbers (output_kind c) cs

-- ---- fetches

abbrev pub is_header_number : Fetch → Bool
is_header_number (fetch.ReqHdrVal name at) = true
is_header_number _ = false

abbrev pub is_cookie : Fetch → Bool
is_cookie (fetch.ReqCook name) = true
is_cookie (fetch.ReqCookCnt name) = true
is_cookie _ = false

abbrev pub is_no_name : Option (List ℕ) → Bool
is_no_name None = false
is_no_name (Some name) = length name == 0

-- the cookie whose name is the empty text
abbrev pub is_cookie_without_name : Fetch → Bool
is_cookie_without_name (fetch.ReqCook name) = is_no_name name
is_cookie_without_name _ = false

abbrev pub is_parameter : Fetch → Bool
is_parameter (fetch.UrlParam name None) = true
is_parameter _ = false

abbrev pub is_delimited_parameter : Fetch → Bool
is_delimited_parameter (fetch.UrlParam name (Some delimiter)) = true
is_delimited_parameter _ = false

abbrev pub is_port : Fetch → Bool
is_port fetch.SrcPort = true
is_port fetch.DstPort = true
is_port _ = false

abbrev pub is_header_address : Fetch → Bool
is_header_address (fetch.ReqHdrIp name at) = true
is_header_address _ = false

abbrev pub is_base : Fetch → Bool
is_base fetch.Base = true
is_base _ = false

abbrev pub is_method : Fetch → Bool
is_method fetch.Method = true
is_method _ = false

-- an IPv6 address whose first 96 bits are zero, and of the others not the first 16 alone
abbrev pub ends_as_ipv4 : Ip → Bool
ends_as_ipv4 (ip.V4 n) = false
ends_as_ipv4 (ip.V6 n) = nat_le 65536 n && nat_lt n 4294967296

abbrev pub is_mixed_address : Fetch → Bool
is_mixed_address (fetch.Ipv6 address) = ends_as_ipv4 address
is_mixed_address _ = false

abbrev pub is_no_bytes : Fetch → Bool
is_no_bytes (fetch.Bin bytes) = length bytes == 0
is_no_bytes _ = false

-- below -10
abbrev pub is_far_back : Option ℤ → Bool
is_far_back None = false
is_far_back (Some (pos n)) = false
is_far_back (Some (negsuc n)) = nat_lt 9 n

-- one of the occurrences of a header before the last ten
abbrev pub is_far_occurrence : Fetch → Bool
is_far_occurrence (fetch.ReqHdr name at) = is_far_back at
is_far_occurrence (fetch.ReqFhdr name at) = is_far_back at
is_far_occurrence (fetch.ReqHdrIp name at) = is_far_back at
is_far_occurrence (fetch.ReqHdrVal name at) = is_far_back at
is_far_occurrence _ = false

-- ---- converters

abbrev pub is_mask : Conv → Bool
is_mask (conv.Ipmask mask bits) = true
is_mask _ = false

abbrev pub is_hex2i : Conv → Bool
is_hex2i conv.Hex2i = true
is_hex2i _ = false

abbrev pub is_base64 : Conv → Bool
is_base64 conv.B64dec = true
is_base64 conv.Ub64dec = true
is_base64 _ = false

-- a replacement with an empty regular expression
abbrev pub is_empty_expression : Conv → Bool
is_empty_expression (conv.Regsub expression text all ci) = length expression == 0
is_empty_expression _ = false

abbrev pub is_address_map : Conv → Bool
is_address_map (conv.Map head by out.Ip default) = true
is_address_map _ = false

-- a converter stands after a map that gives addresses
abbrev pub goes_on_after_address : List Conv → Bool
goes_on_after_address [] = false
goes_on_after_address (c ∷ cs) =
    is_address_map c && not (length cs == 0) || goes_on_after_address cs

-- ---- sums

abbrev pub is_negative : ℤ → Bool
is_negative (pos n) = false
is_negative (negsuc n) = true

abbrev pub is_positive : ℤ → Bool
is_positive (pos n) = nat_lt 0 n
is_positive (negsuc n) = false

-- what is added is below 0
abbrev pub adds_negative : Conv → Bool
adds_negative (conv.Add (val.Number n)) = is_negative n
adds_negative (conv.Sub (val.Number n)) = is_positive n
adds_negative _ = false

abbrev pub is_negative_number : Fetch → Bool
is_negative_number (fetch.Int n) = is_negative n
is_negative_number _ = false

abbrev pub first_adds_negative : List Conv → Bool
first_adds_negative [] = false
first_adds_negative (c ∷ cs) = adds_negative c

-- ---- all

-- an expression shows a topic
abbrev pub expr_has : ExprTopic → Expr → Bool
expr_has topic.TextAsNumber e = texts_are_numbers (fetch_kind e.fetch) e.convs
expr_has topic.HeaderAsNumber e = is_header_number e.fetch
expr_has topic.Cookie e = is_cookie e.fetch
expr_has topic.CookieWithoutName e = is_cookie_without_name e.fetch
expr_has topic.Parameter e = is_parameter e.fetch
expr_has topic.DelimitedParameter e = is_delimited_parameter e.fetch
expr_has topic.Port e = is_port e.fetch
expr_has topic.HeaderAsAddress e = is_header_address e.fetch
expr_has topic.Base e = is_base e.fetch
expr_has topic.MixedAddress e = is_mixed_address e.fetch
expr_has topic.EmptyBinary e = is_no_bytes e.fetch
expr_has topic.FarOccurrence e = is_far_occurrence e.fetch
expr_has topic.Mask e = list_any is_mask e.convs
expr_has topic.HexNumber e = list_any is_hex2i e.convs
expr_has topic.Base64 e = list_any is_base64 e.convs
expr_has topic.EmptyExpression e = list_any is_empty_expression e.convs
expr_has topic.AfterAddress e = goes_on_after_address e.convs
expr_has topic.NegativeSum e = is_negative_number e.fetch && first_adds_negative e.convs
expr_has topic.Method e = is_method e.fetch
