-- A fact of each row of a table is one of what is found there.
use Rattle.std.proofs.Common.{◌≡◌, ℕ, Bool, true, false, List, [], ◌∷◌, Option, Some, refl, subst}
use Rattle.std.specs.Prelude.{if◌then◌else◌}
use Rattle.std.specs.Str.{bytes_eq}
use Rattle.hx_calls.specs.Tables.{Table, entry_at}
use Rattle.hx_spell.proofs.ConditionWordLemmas.{same_bytes}

-- the first of several facts, and the others
infixr 4 ◌&◌
pub ◌&◌ : {A B : Type 0} → A → B → A × B
first & rest = (first, rest)

abbrev pub EachRow : {A : Type 0} → (List ℕ → A → Type 0) → Table A → Type 0
EachRow P [] = Unit {0}
EachRow P (row ∷ rows) = P row.0 row.1 × EachRow P rows

row_by : {A : Type 0} (P : List ℕ → A → Type 0) (name found : List ℕ) (same : Bool) (x y : A)
    (later : Option A) → bytes_eq found name ≡ same → P found y → (later ≡ Some x → P name x)
    → (if same then Some y else later) ≡ Some x → P name x
row_by P name found true x y later same such others is =
    let value : y ≡ x = cc in
    subst (λ (n : List ℕ). P n x) (same_bytes found name same) (subst (P found) value such)
row_by P name found false x y later same such others is = others is

pub found_row : {A : Type 0} (P : List ℕ → A → Type 0) (rows : Table A) (name : List ℕ) (x : A)
    → EachRow P rows → entry_at rows name ≡ Some x → P name x
found_row P [] name x each is = absurd (let bad : ⊥ = cc in bad)
found_row P (row ∷ rows) name x each is =
    row_by P name row.0 (bytes_eq row.0 name) x row.1 (entry_at rows name) refl each.0
    (λ later. found_row P rows name x each.1 later) is
