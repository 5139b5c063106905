-- What the steps change of which a chain's calls are made. No public clause cites this module.
use Rattle.std.specs.Prelude.{◌≡◌, ◌≢◌, ℕ, Option, Some, None}
use Rattle.hx_pool.specs.declared.links.Links.{Links}
use Rattle.hx_pool.specs.declared.chain.Chain.{Chain}

-- g has `next` after p, if p is some number, and is f otherwise
pub record SetsNext (f g : ℕ → Option Links) (p next : Option ℕ) : Type 0 where
  pub at : (x : ℕ) (links : Links) → p ≡ Some x → f x ≡ Some links
      → g x ≡ Some (record { prev = links.prev; next = next })
  pub others : (k : ℕ) → p ≢ Some k → g k ≡ f k

-- g has `prev` before n, if n is some number, and is f otherwise
pub record SetsPrev (f g : ℕ → Option Links) (n prev : Option ℕ) : Type 0 where
  pub at : (x : ℕ) (links : Links) → n ≡ Some x → f x ≡ Some links
      → g x ≡ Some (record { prev = prev; next = links.next })
  pub others : (k : ℕ) → n ≢ Some k → g k ≡ f k

-- the first number of a chain once `next` follows `prev`, and the last one once `prev` goes before
-- `next`
abbrev pub first_after : Option ℕ → Option ℕ → Option ℕ → Option ℕ
first_after None next first = next
first_after (Some x) next first = first

abbrev pub last_after : Option ℕ → Option ℕ → Option ℕ → Option ℕ
last_after None prev last = prev
last_after (Some x) prev last = last

-- id is put between prev and next: f and the chain c before, g and d after
pub record IsLink (f g : ℕ → Option Links) (c d : Chain)
    (prev : Option ℕ) (id : ℕ) (next : Option ℕ) : Type 0 where
  pub middle : ℕ → Option Links
  pub both : ℕ → Option Links
  pub placed : middle id ≡ Some (record { prev = prev; next = next })
  pub others : (k : ℕ) → k ≢ id → middle k ≡ f k
  pub after : SetsNext middle both prev (Some id)
  pub before : SetsPrev both g next (Some id)
  pub first : d.first ≡ first_after prev (Some id) c.first
  pub last : d.last ≡ last_after next (Some id) c.last
