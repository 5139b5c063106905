-- A walk over the heads of references in their order.
use Rattle.std.proofs.Common.{◌≡◌, ℕ, zero, suc, ◌+◌, ◌<◌, List, [], ◌∷◌, ◌++◌, length, map, Option, None, Some, refl, sym, ap, ◌∙◌, arith, append-nil}
use Rattle.std.specs.Prelude.{drop, option_map, slice_get}
use Rattle.std.proofs.lemmas.Option.{none-some, same_Some}
use Rattle.hx_refs.specs.References.{References}
use Rattle.hx_sample.specs.Tables.{TableHead}
use Rattle.hx_trace.specs.Why.{head_numbers, reference_number}

-- the position of the reference that a head searches, if there is such a head
abbrev pub list_at : List TableHead → ℕ → Option ℕ
list_at heads h = option_map (λ known. known.list) (slice_get heads h)

-- the numbers of the heads from one on
abbrev pub numbers_left : References → List TableHead → List ℕ
numbers_left refs heads = map (λ known. reference_number refs known.list) heads

record HasHead (heads : List TableHead) (h r : ℕ) : Type 0 where
  known : TableHead
  list_is : known.list ≡ r
  left : drop h heads ≡ known ∷ drop (suc h) heads
  below : h < length heads

has_head : (heads : List TableHead) (h r : ℕ) → list_at heads h ≡ Some r → HasHead heads h r
has_head [] h r is = absurd (none-some r is)
has_head (known ∷ heads) zero r is =
    record { known = known; list_is = same_Some known.list r is; left = refl; below = omega arith }
has_head (known ∷ heads) (suc h) r is =
    let s = has_head heads h r is in
    record { known = s.known; list_is = s.list_is; left = s.left; below = let b = s.below in omega (arith, b) }

none_left : (heads : List TableHead) (h : ℕ) → list_at heads h ≡ None → drop h heads ≡ []
none_left [] zero is = refl
none_left [] (suc h) is = refl
none_left (known ∷ heads) zero is = absurd (none-some known.list (sym is))
none_left (known ∷ heads) (suc h) is = none_left heads h is

-- there is a head of this number
pub is_below : (heads : List TableHead) (h r : ℕ) → list_at heads h ≡ Some r → h < length heads
is_below heads h r is = (has_head heads h r is).below

one_more : (done more : List ℕ) (n : ℕ) → (done ++ n ∷ []) ++ more ≡ done ++ n ∷ more
one_more [] more n = refl
one_more (d ∷ done) more n = ap (λ (ns : List ℕ). d ∷ ns) (one_more done more n)

-- its number comes next
pub number_next : (refs : References) (done : List ℕ) (h r : ℕ) → list_at refs.heads h ≡ Some r
    → done ++ numbers_left refs (drop h refs.heads) ≡ head_numbers refs
    → (done ++ reference_number refs r ∷ []) ++ numbers_left refs (drop (h + 1) refs.heads) ≡ head_numbers refs
number_next refs done h r is so_far =
    let s = has_head refs.heads h r is in
    let next : h + 1 ≡ suc h = omega arith in
    one_more done (numbers_left refs (drop (h + 1) refs.heads)) (reference_number refs r)
    ∙ ap (λ (n : ℕ). done ++ reference_number refs r ∷ numbers_left refs (drop n refs.heads)) next
    ∙ ap (λ (n : ℕ). done ++ reference_number refs n ∷ numbers_left refs (drop (suc h) refs.heads)) (sym s.list_is)
    ∙ ap (λ (heads : List TableHead). done ++ numbers_left refs heads) (sym s.left)
    ∙ so_far

-- there is none, and these are all numbers
pub numbers_whole : (refs : References) (done : List ℕ) (h : ℕ) → list_at refs.heads h ≡ None
    → done ++ numbers_left refs (drop h refs.heads) ≡ head_numbers refs → done ≡ head_numbers refs
numbers_whole refs done h is so_far =
    sym (append-nil done)
    ∙ ap (λ (heads : List TableHead). done ++ numbers_left refs heads) (sym (none_left refs.heads h is))
    ∙ so_far
