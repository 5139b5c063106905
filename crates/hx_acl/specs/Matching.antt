-- When a declaration matches: some sample that its expression gives is one that its method accepts
-- (HAProxy configuration manual 2.4, section 7.1).
use Rattle.std.specs.Prelude.{ℕ, Bool, true, false, List, Option, is_some, option_and_then}
use Rattle.std.specs.List.{list_any}
use Rattle.std.specs.Option.{option_map_or}
use Rattle.hx_ast.specs.declared.statement.Decl.{Decl}
use Rattle.hx_expr.specs.Values.{expr_values}
use Rattle.hx_fetch.specs.World.{Context}
use Rattle.hx_sample.specs.Cast.{cast_of}
use Rattle.hx_sample.specs.Find.{Entry}
use Rattle.hx_sample.specs.Keys.{kind_by}
use Rattle.hx_sample.specs.Tables.{TableHead, found_at}
use Rattle.hx_sample.specs.declared.sample.Value.{Value}
use Rattle.hx_sample.specs.declared.sample.Value.TheVariants as value
use Rattle.hx_text.specs.declared.kinds.By.{By}
use Rattle.hx_text.specs.declared.kinds.By.TheVariants as method

-- Whether the method accepts a value of the type that it looks at: `found` any, `bool` true, and
-- each other method one that some pattern hits.
abbrev pub accepts : By → (Value → Bool) → Value → Bool
accepts method.Found is_hit v = true
accepts method.Bool is_hit (value.Bool b) = b
accepts method.Bool is_hit v = false
accepts by is_hit v = is_hit v

-- Whether an occurrence matches: it is there, has a cast to the type that the method looks at, and
-- is accepted. A sample that is missing matches nothing.
abbrev pub occurrence_matches : By → (Value → Bool) → Option Value → Bool
occurrence_matches by is_hit occurrence =
    option_map_or (accepts by is_hit)
    (option_and_then (λ v. cast_of v (kind_by by)) occurrence) false

-- whether an entry is found for the value under some of the heads
abbrev pub finds_entry : List TableHead → List (List Entry) → List ℕ → Value → Bool
finds_entry heads lists positions v =
    list_any (λ position. is_some (found_at heads lists position v)) positions

-- Whether the declaration matches: some occurrence of its expression does, after the converters.
-- Its inline patterns stand under the last of its heads, so the words that write them play no part.
abbrev pub test_matches : Context → List TableHead → List (List Entry) → Decl → Bool
test_matches context heads lists decl =
    list_any (occurrence_matches decl.by (finds_entry heads lists decl.heads))
    (expr_values context heads lists decl.expr)
