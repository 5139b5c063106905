-- What a chain's calls need of the pool's values.
use Rattle.std.proofs.Common.{◌≡◌, ℕ, List, ◌∷◌, ◌++◌, Option, Some, None, IsSome, refl, sym, ap, subst, ◌∙◌, inr}
use Rattle.std.specs.Option.{option_map}
use Rattle.hx_pool.specs.declared.links.Links.{Links}
use Rattle.hx_pool.specs.declared.chain.Chain.{Chain}
use Rattle.hx_pool.specs.Pool.{Pool, get, IsLive}
use Rattle.hx_pool.specs.Chain.{first_or, last_or, IsIn, LiesIn, links_at, IsSameSlot, Relinked}
use Rattle.hx_pool.proofs.ChainLemmas.{in_left, in_right, last_none_in, first_in, linked_has, lies_frame, lies_links}

module _ {T : Type 0} (links_of : T → Links) where
  mapped_some : (o : Option T) (l : Links) → option_map links_of o ≡ Some l → IsSome o
  mapped_some None l e = cc
  mapped_some (Some x) l e = refl

  -- the numbers of a chain are live
  pub lies_live : (p : Pool T) (c : Chain) (xs : List ℕ) (k : ℕ) → LiesIn links_of p c xs → IsIn k xs → IsLive p k
  lies_live p c xs k lies there = let has = linked_has (links_at links_of p) None None xs k lies.linked there in mapped_some (get p k) has.0 has.1

  pub last_live : (p : Pool T) (c : Chain) (xs : List ℕ) (x : ℕ) → LiesIn links_of p c xs → c.last ≡ Some x → IsLive p x
  last_live p c xs x lies e = lies_live p c xs x lies (last_none_in xs x (sym lies.last ∙ e))

  pub first_live : (p : Pool T) (c : Chain) (xs : List ℕ) (x : ℕ) → LiesIn links_of p c xs → c.first ≡ Some x → IsLive p x
  first_live p c xs x lies e = lies_live p c xs x lies (first_in xs x (sym lies.first ∙ e))

  -- the links that were read of a number of the chain
  pub read_links : (p : Pool T) (c : Chain) (xs : List ℕ) (id : ℕ) (ys : List ℕ) (x : T) (l : Links) → LiesIn links_of p c (xs ++ id ∷ ys) → get p id ≡ Some x → l ≡ links_of x → (l.prev ≡ last_or None xs) × (l.next ≡ first_or ys None)
  read_links p c xs id ys x l lies at read =
      let has = lies_links (links_at links_of p) c xs id ys lies in
      let seen : Some (links_of x) ≡ Some (record { prev = last_or None xs; next = first_or ys None }) = sym (ap (option_map links_of) at) ∙ has in
      let both : l ≡ record { prev = last_or None xs; next = first_or ys None } = cc in
      (ap (λ (k : Links). k.prev) both, ap (λ (k : Links). k.next) both)

  pub prev_live : (p : Pool T) (c : Chain) (xs : List ℕ) (id : ℕ) (ys : List ℕ) (x : T) (l : Links) (k : ℕ) → LiesIn links_of p c (xs ++ id ∷ ys) → get p id ≡ Some x → l ≡ links_of x → l.prev ≡ Some k → IsLive p k
  prev_live p c xs id ys x l k lies at read e =
      let is = read_links p c xs id ys x l lies at read in
      lies_live p c (xs ++ id ∷ ys) k lies (in_left xs (id ∷ ys) k (last_none_in xs k (sym is.0 ∙ e)))

  pub next_live : (p : Pool T) (c : Chain) (xs : List ℕ) (id : ℕ) (ys : List ℕ) (x : T) (l : Links) (k : ℕ) → LiesIn links_of p c (xs ++ id ∷ ys) → get p id ≡ Some x → l ≡ links_of x → l.next ≡ Some k → IsLive p k
  next_live p c xs id ys x l k lies at read e =
      let is = read_links p c xs id ys x l lies at read in
      lies_live p c (xs ++ id ∷ ys) k lies (in_right xs (id ∷ ys) k (inr (first_in ys k (sym is.1 ∙ e))))

  -- a chain none of whose values changed
  pub lies_apart : (p q : Pool T) (c : Chain) (zs : List ℕ) → ((k : ℕ) → IsIn k zs → get q k ≡ get p k) → LiesIn links_of p c zs → LiesIn links_of q c zs
  lies_apart p q c zs same lies = lies_frame (links_at links_of p) (links_at links_of q) c zs (λ k there. ap (option_map links_of) (same k there)) lies

module _ {T : Type 0} (same : T → T → Type 0) where
  same_live : (a b : Option T) → IsSameSlot same a b → IsSome a → IsSome b
  same_live None b s live = cc
  same_live (Some x) b s live = subst IsSome (sym s.1) refl

  -- a number stays live where links alone change
  pub still_live : (p q : Pool T) (k : ℕ) → Relinked same p q → IsLive p k → IsLive q k
  still_live p q k r live = same_live (get p k) (get q k) (r.values k) live

  same_slots : ((x y z : T) → same x y → same y z → same x z) → (a b c : Option T) → IsSameSlot same a b → IsSameSlot same b c → IsSameSlot same a c
  same_slots on None b c s t = let bare : IsSameSlot same None c = subst (λ o. IsSameSlot same o c) s t in bare
  same_slots on (Some x) b c s t =
      let next : IsSameSlot same (Some s.0) c = subst (λ o. IsSameSlot same o c) s.1 t in
      (next.0, next.1, on x s.0 next.0 s.2 next.2)

  pub relinked_on : ((x y z : T) → same x y → same y z → same x z) → (p q r : Pool T) → Relinked same p q → Relinked same q r → Relinked same p r
  relinked_on on p q r a b = record {
    values = λ k. same_slots on (get p k) (get q k) (get r k) (a.values k) (b.values k);
    spare = b.spare ∙ a.spare;
    live = b.live ∙ a.live;
  }
