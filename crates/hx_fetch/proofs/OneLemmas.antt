-- Fetches that have one occurrence.
use Rattle.std.proofs.Common.{◌≡◌, Bool, true, false, ◌||◌, [], ◌∷◌, is_some, refl, ap, sym, ◌∙◌}
use Rattle.std.specs.List.{list_any}
use Rattle.std.proofs.lemmas.Bool.{false≢true}
use Rattle.hx_ast.specs.declared.fetch.Fetch.{Fetch}
use Rattle.hx_ast.specs.declared.fetch.Fetch.TheVariants as fetch
use Rattle.hx_fetch.specs.Fetches.{chosen_of, has_one_occurrence, occurrences_of}
use Rattle.hx_fetch.specs.World.{Context}

pub one_occurrence : (f : Fetch) (context : Context) → has_one_occurrence f ≡ true
    → occurrences_of f context ≡ chosen_of f context ∷ []
one_occurrence fetch.AlwaysTrue context one = refl
one_occurrence fetch.AlwaysFalse context one = refl
one_occurrence (fetch.Bool b) context one = refl
one_occurrence (fetch.Int n) context one = refl
one_occurrence (fetch.Str text) context one = refl
one_occurrence (fetch.Bin bytes) context one = refl
one_occurrence (fetch.Ipv4 ip) context one = refl
one_occurrence (fetch.Ipv6 ip) context one = refl
one_occurrence (fetch.Var name default) context one = refl
one_occurrence fetch.Src context one = refl
one_occurrence fetch.Dst context one = refl
one_occurrence fetch.SrcPort context one = refl
one_occurrence fetch.DstPort context one = refl
one_occurrence fetch.Method context one = refl
one_occurrence fetch.ReqVer context one = refl
one_occurrence fetch.Path context one = refl
one_occurrence fetch.Query context one = refl
one_occurrence fetch.Url context one = refl
one_occurrence fetch.Base context one = refl
one_occurrence (fetch.ReqHdrCnt name) context one = refl
one_occurrence (fetch.ReqCookCnt name) context one = refl
one_occurrence _ context one = absurd (false≢true one)

or_false : (b : Bool) → (b || false) ≡ b
or_false true = refl
or_false false = refl

-- some occurrence is a value exactly where the one is
pub found_alone : (f : Fetch) (context : Context) → has_one_occurrence f ≡ true
    → is_some (chosen_of f context) ≡ list_any is_some (occurrences_of f context)
found_alone f context one =
    sym (ap (list_any is_some) (one_occurrence f context one) ∙ or_false (is_some (chosen_of f context)))
