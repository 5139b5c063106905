-- Chains: lists of numbers of a pool, kept in the links of their values.
use Rattle.std.specs.Prelude.{◌≡◌, ℕ, zero, suc, List, [], ◌∷◌, Option, Some, None, ◌⊎◌}
use Rattle.std.specs.Option.{option_map, option_and_then}
use Rattle.hx_pool.specs.declared.links.Links.{Links}
use Rattle.hx_pool.specs.declared.chain.Chain.{Chain}
use Rattle.hx_pool.specs.Pool.{Pool, get, live_count}

-- the first number of a list, or `next` where it is empty
abbrev pub first_or : List ℕ → Option ℕ → Option ℕ
first_or [] next = next
first_or (x ∷ xs) next = Some x

-- the last number of a list, or `prev` where it is empty
abbrev pub last_or : Option ℕ → List ℕ → Option ℕ
last_or prev [] = prev
last_or prev (x ∷ xs) = last_or (Some x) xs

abbrev pub IsIn : ℕ → List ℕ → Type 0
IsIn k [] = ⊥
IsIn k (x ∷ xs) = (k ≡ x) ⊎ IsIn k xs

abbrev pub AreDistinct : List ℕ → Type 0
AreDistinct [] = Unit {0}
AreDistinct (x ∷ xs) = (IsIn x xs → ⊥) × AreDistinct xs

-- two lists that share no number
abbrev pub AreApart : List ℕ → List ℕ → Type 0
AreApart xs ys = (k : ℕ) → IsIn k xs → IsIn k ys → ⊥

-- the links lead through the list, from `prev` before it to `next` after it
abbrev pub AreLinked : (ℕ → Option Links) → Option ℕ → List ℕ → Option ℕ → Type 0
AreLinked f prev [] next = Unit {0}
AreLinked f prev (x ∷ xs) next =
    (f x ≡ Some (record { prev = prev; next = first_or xs next })) × AreLinked f (Some x) xs next

-- the links f lead through the distinct numbers xs, which are the chain's
pub record LiesAt (f : ℕ → Option Links) (c : Chain) (xs : List ℕ) : Type 0 where
  pub distinct : AreDistinct xs
  pub first : c.first ≡ first_or xs None
  pub last : c.last ≡ last_or None xs
  pub linked : AreLinked f None xs None

-- the links of each live number
abbrev pub links_at : {T : Type 0} → (T → Links) → Pool T → ℕ → Option Links
links_at links_of p id = option_map links_of (get p id)

-- the chain lies in the pool for the list
abbrev pub LiesIn : {T : Type 0} → (T → Links) → Pool T → Chain → List ℕ → Type 0
LiesIn links_of p c xs = LiesAt (links_at links_of p) c xs

-- the first `count` numbers along the links, from a number on
abbrev pub numbers_from : (ℕ → Option Links) → ℕ → Option ℕ → List ℕ
numbers_from f zero at = []
numbers_from f (suc count) None = []
numbers_from f (suc count) (Some id) =
    id ∷ numbers_from f count (option_and_then (λ (links : Links). links.next) (f id))

-- the first `count` numbers of the list for which the chain lies in the pool
abbrev pub numbers_in : {T : Type 0} → (T → Links) → Pool T → Chain → ℕ → List ℕ
numbers_in links_of p c count = numbers_from (links_at links_of p) count c.first

-- no value on both sides, or two that are the same but for their links
abbrev pub IsSameSlot : {T : Type 0} → (T → T → Type 0) → Option T → Option T → Type 0
IsSameSlot same None y = y ≡ None
IsSameSlot {T} same (Some x) y = (z : T) × (y ≡ Some z) × same x z

-- each value is the same but for its links
pub record Relinked {T : Type 0} (same : T → T → Type 0) (old new : Pool T) : Type 0 where
  pub values : (k : ℕ) → IsSameSlot same (get old k) (get new k)
  pub spare : new.spare ≡ old.spare
  pub live : live_count new ≡ live_count old
