-- `http-request del-header NAME -m str` as `del-header NAME`: without a method HAProxy compares
-- whole names too (HAProxy configuration manual 2.6, section 4.2).
use Rattle.std.specs.Prelude.{ℕ, ◌&&◌, List, ◌∷◌, codes, Option, None, Some, if◌then◌else◌}
use Rattle.std.specs.Str.{bytes_eq}

-- what stands for `http-request del-header` with these words after it
abbrev pub removal_said : List (List ℕ) → Option (List (List ℕ))
removal_said (name ∷ flag ∷ method ∷ condition) =
    if bytes_eq flag (codes "-m") && bytes_eq method (codes "str")
    then Some (codes "http-request" ∷ codes "del-header" ∷ name ∷ condition) else None
removal_said _ = None
