-- The topics that an ACL shows, by its expression, its match method and its patterns: each is what
-- makes HAProxy decide otherwise, by a row of docs/manual/haproxy.md.
use Rattle.std.specs.Prelude.{ℕ, ◌==◌, ◌&&◌, ◌||◌, Bool, true, false, not, List, [], ◌∷◌, length, codes, eqb, is_none}
use Rattle.std.specs.List.{list_all, list_any, starts_with}
use Rattle.hx_base.specs.Bytes.{ascii}
use Rattle.hx_text.specs.Methods.{kind_by}
use Rattle.hx_text.specs.declared.kinds.By.{By}
use Rattle.hx_text.specs.declared.kinds.By.TheVariants as method
use Rattle.hx_text.specs.declared.kinds.Kind.{Kind}
use Rattle.hx_ast.specs.declared.conv.Conv.{Conv}
use Rattle.hx_ast.specs.declared.conv.Conv.TheVariants as conv
use Rattle.hx_ast.specs.declared.fetch.Fetch.{Fetch}
use Rattle.hx_ast.specs.declared.fetch.Fetch.TheVariants as fetch
use Rattle.hx_ast.specs.declared.statement.Decl.{Decl}
use Rattle.hx_ast.specs.Types.{expr_kind, fetch_kind, input_kind, output_kind}
use Rattle.hx_lint.specs.ExprTopics.{is_address, is_address_map, is_number, is_text}
use Rattle.hx_lint.specs.declared.acl_topics.AclTopic.{AclTopic}
use Rattle.hx_lint.specs.declared.acl_topics.AclTopic.TheVariants as topic

-- ---- values that are lost

-- the fetches that find several values in a request
abbrev pub finds_several : Fetch → Bool
finds_several (fetch.ReqHdr name at) = is_none at
finds_several (fetch.ReqFhdr name at) = is_none at
finds_several (fetch.ReqHdrIp name at) = is_none at
finds_several (fetch.ReqHdrVal name at) = is_none at
finds_several (fetch.ReqCook name) = true
finds_several (fetch.UrlParam name delimiter) = true
finds_several _ = false

-- the converters that give nothing for some texts
abbrev pub may_fail : Conv → Bool
may_fail (conv.Field index delimiters count) = true
may_fail (conv.Word index delimiters count) = true
may_fail (conv.Strcmp variable) = true
may_fail (conv.UrlDec form) = true
may_fail (conv.Map head by out default) = is_none default
may_fail conv.B64dec = true
may_fail conv.Ub64dec = true
may_fail conv.Hex2i = true
may_fail (conv.Ipmask mask bits) = is_none bits
may_fail _ = false

-- a text stands before a converter that reads it as a number or as an address
abbrev pub reads_text : Kind → Conv → Bool
reads_text before c =
    is_text before && (is_number (input_kind c) || is_address (input_kind c))

-- one of several converters gives nothing for some values, the first of which have this type
abbrev pub one_may_fail : Kind → List Conv → Bool
one_may_fail before [] = false
one_may_fail before (c ∷ cs) =
    may_fail c || reads_text before c || one_may_fail (output_kind c) cs

-- ---- patterns

abbrev pub is_length : By → Bool
is_length method.Len = true
is_length _ = false

-- the methods whose patterns are numbers
abbrev pub compares_numbers : By → Bool
compares_numbers method.Int = true
compares_numbers method.Len = true
compares_numbers _ = false

-- a pattern has a number below 0
abbrev pub has_minus : List ℕ → Bool
has_minus pattern = list_any (λ b. b == ascii "-") pattern

-- a pattern is a range without a least number, whose greatest is below 0
abbrev pub ends_below_zero : List ℕ → Bool
ends_below_zero pattern = starts_with eqb pattern (codes ":-")

abbrev pub is_empty_text : List ℕ → Bool
is_empty_text pattern = length pattern == 0

-- the bytes that delimit what `dir` and `dom` look for
abbrev pub delimits : By → ℕ → Bool
delimits method.Dir b = b == ascii "/" || b == ascii "?"
delimits method.Dom b =
    b == ascii "/" || b == ascii "?" || b == ascii "." || b == ascii ":"
delimits _ b = false

-- a pattern has delimiters alone, and one at least
abbrev pub is_delimiters : By → List ℕ → Bool
is_delimiters by pattern = not (length pattern == 0) && list_all (delimits by) pattern

-- the last of several converters is a map that gives addresses
abbrev pub ends_in_addresses : List Conv → Bool
ends_in_addresses [] = false
ends_in_addresses (c ∷ cs) = is_address_map c && length cs == 0 || ends_in_addresses cs

-- ---- all

-- an ACL shows a topic
abbrev pub acl_has : AclTopic → Decl → Bool
acl_has topic.TextAsNumber decl = is_text (expr_kind decl.expr) && is_number (kind_by decl.by)
acl_has topic.LostValues decl =
    finds_several decl.expr.fetch && one_may_fail (fetch_kind decl.expr.fetch) decl.expr.convs
acl_has topic.BelowZero decl = compares_numbers decl.by && list_any has_minus decl.words
acl_has topic.LengthBelowZero decl = is_length decl.by && list_any ends_below_zero decl.words
acl_has topic.EmptyPattern decl = list_any is_empty_text decl.words
acl_has topic.Delimiters decl = list_any (is_delimiters decl.by) decl.words
acl_has topic.AfterAddress decl =
    ends_in_addresses decl.expr.convs && not (is_address (kind_by decl.by))
