-- The places of heads among the uses of their references.
use Rattle.std.proofs.Common.{◌≡◌, ℕ, zero, suc, ◌<◌, ◌==◌, Bool, true, List, [], ◌∷◌, ◌++◌, length, refl, ap, subst, sym, ◌∙◌, arith, inl, inr}
use Rattle.std.specs.Prelude.{None, Some, slice_get, slice_index_or, slice_set}
use Rattle.std.proofs.lemmas.Bool.{cases_lt, eq-eqb}
use Rattle.std.proofs.lemmas.List.{length-map, map-append}
use Rattle.std.proofs.lemmas.Option.{get_or_from_slice_get, same_Some, slice_get-map, slice_get_read}
use Rattle.hx_text.specs.declared.kinds.By.{By}
use Rattle.hx_sample.specs.Tables.{TableHead}
use Rattle.hx_refs.specs.Kept.{table_heads, AreSearchable, IsPlaced, Kept, PlacedHead}
use Rattle.hx_versions.specs.Rows.{use_ways}
use Rattle.hx_refs.specs.Uses.{uses_of, Use}
use Rattle.hx_refs.proofs.KeptLemmas.{kept_after_use}
use Rattle.hx_refs.proofs.ListLemmas.{get_last, get_more, get_past}
use Rattle.hx_refs.proofs.UseLemmas.{use_if_head, uses_of_more}

-- ---- a head that is read

pub head_count : (heads : List PlacedHead) (i : ℕ) → i < length (table_heads heads) → i < length heads
head_count heads i within = rw (length-map heads (λ (known : PlacedHead). known.head)) at within

pub head_read : (heads : List PlacedHead) (i : ℕ) (known : PlacedHead) → i < length heads
    → known ≡ slice_index_or heads i known → known.head ≡ slice_index_or (table_heads heads) i known.head
head_read heads i known within read =
    let found : slice_get heads i ≡ Some known = slice_get_read heads (length heads) i known refl within read in
    let here : slice_get (table_heads heads) i ≡ Some known.head =
    rw (slice_get-map {A = PlacedHead} {B = TableHead} (λ h. h.head) heads i, found) refl in
    sym (get_or_from_slice_get (table_heads heads) i known.head known.head here)

-- the use at its place
pub way_placed : (heads : List PlacedHead) (kept : List Kept) (i : ℕ) (known : PlacedHead) → AreSearchable heads kept
    → i < length heads → known ≡ slice_index_or heads i known → (k : Kept) → slice_get kept known.head.list ≡ Some k
    → slice_get (use_ways k.uses) known.place ≡ Some (known.head.by, known.head.ci)
way_placed heads kept i known all within read k is =
    let same : uses_of (table_heads heads) known.head.list ≡ k.uses = rw is at (all.all.uses known.head.list) in
    rw same at (all.placed i known (slice_get_read heads (length heads) i known refl within read))

-- ---- one more head

ways_more : (us vs : List Use) → use_ways (us ++ vs) ≡ use_ways us ++ use_ways vs
ways_more us vs = map-append (λ (u : Use). (u.by, u.ci)) us vs

still_there : {A : Type 0} → (xs ys : List A) (i : ℕ) (x : A) → slice_get xs i ≡ Some x → slice_get (xs ++ ys) i ≡ Some x
still_there [] ys i x is = absurd (cc)
still_there (y ∷ xs) ys zero x is = is
still_there (y ∷ xs) ys (suc i) x is = still_there xs ys i x is

placed_more : (heads : List TableHead) (h : TableHead) (known : PlacedHead) → IsPlaced heads known
    → IsPlaced (heads ++ h ∷ []) known
placed_more heads h known is =
    let list = known.head.list in
    let more = ap use_ways (uses_of_more heads h list) ∙ ways_more (uses_of heads list) (use_if_head (length heads) h list) in
    ap (λ (ways : List (By × Bool)). slice_get ways known.place) more
    ∙ still_there (use_ways (uses_of heads list)) (use_ways (use_if_head (length heads) h list)) known.place
    (known.head.by, known.head.ci) is

placed_new : (heads : List TableHead) (h : TableHead)
    → IsPlaced (heads ++ h ∷ []) (record { head = h; place = length (uses_of heads h.list) })
placed_new heads h =
    let uses = uses_of heads h.list in
    let own : (h.list == h.list) ≡ true = eq-eqb h.list h.list refl in
    let more : use_ways (uses_of (heads ++ h ∷ []) h.list) ≡ use_ways uses ++ (h.by, h.ci) ∷ [] =
    ap use_ways (uses_of_more heads h h.list) ∙ ways_more uses (use_if_head (length heads) h h.list) ∙ rw own refl in
    let count : length (use_ways uses) ≡ length uses = length-map uses (λ (u : Use). (u.by, u.ci)) in
    ap (λ (ways : List (By × Bool)). slice_get ways (length uses)) more
    ∙ ap (λ (n : ℕ). slice_get (use_ways uses ++ (h.by, h.ci) ∷ []) n) (sym count)
    ∙ get_last (use_ways uses) (h.by, h.ci)

pub searchable_after_use : (heads : List PlacedHead) (kept : List Kept) (r : ℕ) (k new : Kept) (method : By) (ci : Bool)
    → slice_get kept r ≡ Some k
    → new.uses ≡ k.uses ++ record { by = method; ci = ci; head = length heads } ∷ [] → new.shown ≡ k.shown
    → AreSearchable heads kept
    → AreSearchable
    (heads ++ record { head = record { by = method; ci = ci; list = r }; place = length k.uses } ∷ []) (slice_set kept r new)
searchable_after_use heads kept r k new method ci found more same all = record {
  all = rw heads_more (kept_after_use (table_heads heads) kept r k new method ci found uses_more same all.all);
  placed = λ i known is. rw heads_more (elim (cases_lt i (length heads)) [
    | inl within ↦
        placed_more (table_heads heads) h known (all.placed i known (sym (get_more heads last i within) ∙ is))
    | inr past ↦ elim (cases_lt (length heads) i) [
      | inl beyond ↦ absurd (nothing known (sym (get_past heads last i beyond) ∙ is))
      | inr least ↦
          let at_end : i ≡ length heads = omega arith in
          let is_last : last ≡ known = same_Some last known (sym (get_last heads last) ∙ rw at_end at is) in
          subst (λ (p : PlacedHead). IsPlaced (table_heads heads ++ h ∷ []) p) is_last
          (subst (λ (n : ℕ). IsPlaced (table_heads heads ++ h ∷ []) (record { head = h; place = n })) place
          (placed_new (table_heads heads) h))
    ]
  ]);
}
  where
    h : TableHead
    h = record { by = method; ci = ci; list = r }

    last : PlacedHead
    last = record { head = h; place = length k.uses }

    heads_more : table_heads (heads ++ last ∷ []) ≡ table_heads heads ++ h ∷ []
    heads_more = map-append (λ (p : PlacedHead). p.head) heads (last ∷ [])

    uses_more : new.uses ≡ k.uses ++ record { by = method; ci = ci; head = length (table_heads heads) } ∷ []
    uses_more = rw (length-map heads (λ (p : PlacedHead). p.head)) more

    place : length (uses_of (table_heads heads) r) ≡ length k.uses
    place = ap length (rw found at (all.all.uses r))

    nothing : (p : PlacedHead) → None ≡ Some p → ⊥
    nothing p is = cc
