-- What is found in a table of the code, seen as the definitions have it.
use Rattle.std.proofs.Common.{◌≡◌, ℕ, Bool, true, false, cond, List, [], ◌∷◌, map, Option, Some, refl}
use Rattle.std.specs.Prelude.{option_map}
use Rattle.std.specs.Str.{bytes_eq}
use Rattle.hx_calls.specs.Tables.{entry_at}

abbrev pub rows_with : {A B : Type 0} → (A → B) → List (List ℕ × A) → List (List ℕ × B)
rows_with f rows = map (λ row. (row.0, f row.1)) rows

cond_map : {A B : Type 0} (f : A → B) (b : Bool) (x : A) (o : Option A) (p : Option B)
    → p ≡ option_map f o
    → cond b (Some (f x)) p ≡ option_map f (cond b (Some x) o)
cond_map f true x o p same = refl
cond_map f false x o p same = same

pub entry_at_map : {A B : Type 0} (f : A → B) (rows : List (List ℕ × A)) (name : List ℕ)
    → entry_at (rows_with f rows) name ≡ option_map f (entry_at rows name)
entry_at_map f [] name = refl
entry_at_map f (row ∷ rows) name =
    cond_map f (bytes_eq row.0 name) row.1 (entry_at rows name) (entry_at (rows_with f rows) name)
    (entry_at_map f rows name)
