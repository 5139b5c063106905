-- Words on the arguments and results of converters of texts (HAProxy configuration manual 2.4,
-- section 7.3.1).
use Rattle.std.specs.Prelude.{ℕ, ℤ, pos, negsuc, List, take, Option}
use Rattle.std.specs.Option.{option_map_or}
use Rattle.std.specs.declared.cmp.Ordering.{Ordering}
use Rattle.std.specs.declared.cmp.Ordering.TheVariants.{Less, Equal, Greater}

-- a number that isn't negative
abbrev pub natural : ℤ → ℕ
natural (pos n) = n
natural (negsuc n) = 0

-- so many of the first bytes, or all where it isn't said
abbrev pub at_most : Option ℤ → List ℕ → List ℕ
at_most len bytes = option_map_or (λ n. take (natural n) bytes) len bytes

-- an order as a number: -1 for before, 0 for equal to, 1 for after
abbrev pub sign_of : Ordering → ℤ
sign_of Less = negsuc 0
sign_of Equal = pos 0
sign_of Greater = pos 1
