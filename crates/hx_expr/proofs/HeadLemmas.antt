-- Expressions that look nothing up in a map name no head.
use Rattle.std.proofs.Common.{◌≡◌, false, List, [], ◌∷◌, true≢false}
use Rattle.std.specs.List.{list_any}
use Rattle.hx_ast.specs.Statements.{is_map}
use Rattle.hx_ast.specs.declared.conv.Conv.{Conv}
use Rattle.hx_ast.specs.declared.conv.Conv.TheVariants.{Map}
use Rattle.hx_sample.specs.Tables.{TableHead}
use Rattle.hx_expr.specs.Values.{HasTableHeads}

pub heads_without_maps : (heads : List TableHead) (convs : List Conv) → list_any is_map convs ≡ false → HasTableHeads heads convs
heads_without_maps heads [] none = tt
heads_without_maps heads (Map head by out default ∷ convs) none = absurd (true≢false none)
heads_without_maps heads (_ ∷ convs) none = (tt, heads_without_maps heads convs none)
