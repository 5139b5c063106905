-- What an expression or a format names stays named where more heads are known.
use Rattle.std.proofs.Common.{◌≡◌, ℕ, ◌<◌, List, [], ◌∷◌, ◌++◌, drop, length, Option, Some, arith, sym, ◌∙◌, ap, subst, length-append}
use Rattle.std.specs.Prelude.{IfSome, slice_get}
use Rattle.std.proofs.lemmas.List.{get_or_append_left}
use Rattle.std.proofs.lemmas.List.Elements.{All-weaker}
use Rattle.std.proofs.lemmas.Option.{slice_get-get_or}
use Rattle.hx_text.specs.declared.By.{By}
use Rattle.hx_ast.specs.declared.Conv.{Conv}
use Rattle.hx_ast.specs.declared.Conv.TheVariants as conv
use Rattle.hx_ast.specs.declared.Expr.{Expr}
use Rattle.hx_ast.specs.declared.Part.{Part}
use Rattle.hx_ast.specs.declared.Part.TheVariants.{Text, Value}
use Rattle.hx_calls.specs.declared.table_specs.HeadSpec.{HeadSpec}
use Rattle.hx_calls.specs.ExpressionHeads.{ExprNames, FormatNames, IsHeadBy, NamesHead, PartNames}
use Rattle.hx_calls.specs.Known.{BeginsWith}
use Rattle.hx_calls.proofs.KnownLemmas.{begins_split}

is_by : (heads others : List HeadSpec) (by : By) (h : ℕ) → h < length heads
    → h < length (heads ++ others) → IfSome (slice_get heads h) (λ head. head.by ≡ by)
    → IfSome (slice_get (heads ++ others) h) (λ head. head.by ≡ by)
is_by (first ∷ heads) others by h within still is =
    let same : slice_get (first ∷ heads) h ≡ slice_get ((first ∷ heads) ++ others) h =
    slice_get-get_or (first ∷ heads) h first within
    ∙ (ap Some (sym (get_or_append_left (first ∷ heads) others first h within))
    ∙ sym (slice_get-get_or ((first ∷ heads) ++ others) h first still)) in
    subst (λ (found : Option HeadSpec). IfSome found (λ head. head.by ≡ by)) same is
is_by [] others by h within still is = absurd (omega (arith, within))

more_by : (heads others : List HeadSpec) (by : By) (h : ℕ) → IsHeadBy heads by h
    → IsHeadBy (heads ++ others) by h
more_by heads others by h (within, is) =
    let more = length-append heads others in
    let still : h < length (heads ++ others) = omega (arith, within, more) in
    (still, is_by heads others by h within still is)

pub later_by : (before after : List HeadSpec) → BeginsWith before after → (by : By) (h : ℕ)
    → IsHeadBy before by h → IsHeadBy after by h
later_by before after begins by h is =
    subst (λ (heads : List HeadSpec). IsHeadBy heads by h) (sym (begins_split before after begins))
    (more_by before (drop (length before) after) by h is)

pub names_later : (before after : List HeadSpec) → BeginsWith before after → (c : Conv)
    → NamesHead before c → NamesHead after c
names_later before after begins (conv.Map head by out default) is =
    later_by before after begins by head is
names_later before after begins _ is = tt

pub expr_later : (before after : List HeadSpec) → BeginsWith before after → (expr : Expr)
    → ExprNames before expr → ExprNames after expr
expr_later before after begins expr =
    All-weaker (NamesHead before) (NamesHead after) (names_later before after begins) expr.convs

-- ---- formats

part_later : (before after : List HeadSpec) → BeginsWith before after → (part : Part)
    → PartNames before part → PartNames after part
part_later before after begins (Text bytes) names = tt
part_later before after begins (Value expr) names = expr_later before after begins expr names

pub format_later : (before after : List HeadSpec) → BeginsWith before after → (format : List Part)
    → FormatNames before format → FormatNames after format
format_later before after begins =
    All-weaker (PartNames before) (PartNames after) (part_later before after begins)
