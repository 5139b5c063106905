-- The list of free slots, and the counts, as slots are taken and given back.
use Rattle.std.proofs.Common.{◌≡◌, ◌≢◌, ℕ, zero, suc, ◌+◌, ◌-◌, ◌<◌, List, [], ◌∷◌, ◌++◌, map, length, get_or, set, Option, Some, None, is_some, IsSome, count_by, cond, slice_get, refl, sym, ap, subst, ◌∙◌, arith, true≢false}
use Rattle.std.proofs.lemmas.List.{map-set, map-append, length-map, length-set, get_or-map, get_or-set_same, get_or-set_other, get_or_past, length-append}
use Rattle.std.proofs.lemmas.List.Sums.{sum_by-append, sum_by-set}
use Rattle.std.proofs.lemmas.Option.{slice_get_within, slice_get-get_or, get_or_from_slice_get}
use Rattle.hx_pool.specs.declared.slot.Slot.{Slot}
use Rattle.hx_pool.specs.declared.slot.Slot.TheVariants.{Free, Live}
use Rattle.hx_pool.specs.Slots.{value_of, IsFreeList, IsPool}
use Rattle.hx_pool.proofs.ChunkLemmas.{slice_get_left}

module _ {T : Type 0} where
  -- a list that ends can't be as long from one of its own slots again
  pub free_unique : (es : List (Slot T)) (m n : ℕ) (first : Option ℕ) → IsFreeList es m first → IsFreeList es n first → m ≡ n
  free_unique es zero zero first p q = refl
  free_unique es zero (suc n) first p q = let some = q.2 in cc
  free_unique es (suc m) zero first p q = let some = p.2 in cc
  free_unique es (suc m) (suc n) first p q =
      let here = p.2 in let there = q.2 in let read = p.3 in let again = q.3 in
      let same : q.1 ≡ p.1 = cc in
      ap suc (free_unique es m n p.1 p.4 (subst (IsFreeList es n) same q.4))

  -- a write off the list keeps it
  pub free_set : (es : List (Slot T)) (id : ℕ) (e : Slot T) (n : ℕ) (first : Option ℕ) → ((m : ℕ) → m < n → IsFreeList es (suc m) (Some id) → ⊥) → IsFreeList es n first → IsFreeList (set es id e) n first
  free_set es id e zero first off p = p
  free_set es id e (suc n) first off p =
      let other : p.0 ≢ id = λ same. off n (omega arith) (subst (IsFreeList es (suc n)) (p.2 ∙ ap Some same) p) in
      let within = slice_get_within es p.0 _ p.3 in
      let kept : slice_get (set es id e) p.0 ≡ Some (Free p.1) =
      slice_get-get_or (set es id e) p.0 e (omega (arith, length-set es id e))
      ∙ ap Some (get_or-set_other es id p.0 e e other ∙ get_or_from_slice_get es p.0 _ e p.3) in
      (p.0, p.1, p.2, kept, free_set es id e n p.1 (λ m below. off m (omega arith)) p.4)

  pub live_off : (es : List (Slot T)) (id : ℕ) (value : T) → slice_get es id ≡ Some (Live value) → (m : ℕ) → IsFreeList es (suc m) (Some id) → ⊥
  live_off es id value found m p = let here = p.2 in let read = p.3 in cc

  free_append : (es more : List (Slot T)) (n : ℕ) (first : Option ℕ) → IsFreeList es n first → IsFreeList (es ++ more) n first
  free_append es more zero first p = p
  free_append es more (suc n) first p = (p.0, p.1, p.2, slice_get_left es more p.0 _ p.3, free_append es more n p.1 p.4)

  -- the count of values after a write
  pub count_set : (es : List (Slot T)) (id : ℕ) (old new : Slot T) → slice_get es id ≡ Some old → count_by is_some (map value_of (set es id new)) + cond (is_some (value_of old)) 1 0 ≡ count_by is_some (map value_of es) + cond (is_some (value_of new)) 1 0
  count_set es id old new found =
      let within = slice_get_within es id old found in
      let read : get_or (map value_of es) id None ≡ value_of old =
      get_or-map value_of es id old None within ∙ ap value_of (get_or_from_slice_get es id old old found) in
      let counted = sum_by-set (λ o. cond (is_some o) 1 0) (map value_of es) id (value_of new) None (omega (arith, length-map es value_of)) in
      rw (map-set value_of es id new, ← read) counted

  -- a live number's slot
  pub live_slot : (es : List (Slot T)) (id : ℕ) → IsSome (get_or (map value_of es) id None) → (value : T) × (slice_get es id ≡ Some (Live value))
  live_slot es id live =
      let inside : id < length (map value_of es) = grind (arith, get_or_past) in
      let within : id < length es = omega (arith, length-map es value_of) in
      by_slot (get_or es id (Free None)) (slice_get-get_or es id (Free None) within) (subst IsSome (get_or-map value_of es id (Free None) None within) live)
    where
      by_slot : (e : Slot T) → slice_get es id ≡ Some e → IsSome (value_of e) → (value : T) × (slice_get es id ≡ Some (Live value))
      by_slot (Free _) found some = absurd (true≢false (sym some))
      by_slot (Live value) found some = (value, found)

  pub value_read : (es : List (Slot T)) (id : ℕ) (e : Slot T) → slice_get es id ≡ Some e → get_or (map value_of es) id None ≡ value_of e
  value_read es id e found = get_or-map value_of es id e None (slice_get_within es id e found) ∙ ap value_of (get_or_from_slice_get es id e e found)

  -- the free slot that the list begins with is taken
  pub IsPool-take : (es : List (Slot T)) (room free fresh id : ℕ) (first next : Option ℕ) (value : T) → IsPool es room free fresh first → first ≡ Some id → slice_get es id ≡ Some (Free next) → IsPool (set es id (Live value)) room (free - 1) fresh next × (0 < free)
  IsPool-take es room free fresh id first next value pool at found = by_count free pool.counted pool.linked
    where
      by_count : (n : ℕ) → count_by is_some (map value_of es) + n ≡ length es → IsFreeList es n first → IsPool (set es id (Live value)) room (n - 1) fresh next × (0 < n)
      by_count zero counted linked = cc
      by_count (suc n) counted linked =
          let here = linked.2 in let read = linked.3 in
          let same : linked.0 ≡ id = cc in let after : linked.1 ≡ next = cc in
          let whole : IsFreeList es (suc n) (Some id) = subst (IsFreeList es (suc n)) at linked in
          let off : (m : ℕ) → m < n → IsFreeList es (suc m) (Some id) → ⊥ =
          λ m below p. omega (arith, free_unique es (suc m) (suc n) (Some id) p whole) in
          let less : n ≡ suc n - 1 = omega arith in (
            subst (λ k. IsPool (set es id (Live value)) room k fresh next) less (record {
              counted = omega (arith, counted, count_set es id (Free next) (Live value) found, length-set es id (Live value));
              linked = free_set es id (Live value) n next off (subst (IsFreeList es n) after linked.4);
              ready = pool.ready;
              few = rw length-set pool.few;
            }),
            omega arith,
          )

  pub IsPool-give : (es : List (Slot T)) (room free fresh id : ℕ) (first : Option ℕ) (value : T) → IsPool es room free fresh first → slice_get es id ≡ Some (Live value) → IsPool (set es id (Free first)) room (free + 1) fresh (Some id)
  IsPool-give es room free fresh id first value pool found =
      let within = slice_get_within es id _ found in
      let written : slice_get (set es id (Free first)) id ≡ Some (Free first) =
      slice_get-get_or _ id (Free first) (omega (arith, length-set es id (Free first)))
      ∙ ap Some (get_or-set_same es id (Free first) (Free first) within) in
      let longer : free + 1 ≡ suc free = omega arith in
      rw longer (record {
        counted = omega (arith, pool.counted, count_set es id (Live value) (Free first) found, length-set es id (Free first));
        linked = (id, first, refl, written, free_set es id (Free first) free first (λ m _. live_off es id value found m) pool.linked);
        ready = pool.ready;
        few = rw length-set pool.few;
      })

  pub IsPool-write : (es : List (Slot T)) (room free fresh id : ℕ) (first : Option ℕ) (old new : T) → IsPool es room free fresh first → slice_get es id ≡ Some (Live old) → IsPool (set es id (Live new)) room free fresh first
  IsPool-write es room free fresh id first old new pool found =
      record {
        counted = omega (arith, pool.counted, count_set es id (Live old) (Live new) found, length-set es id (Live new));
        linked = free_set es id (Live new) free first (λ m _. live_off es id old found m) pool.linked;
        ready = pool.ready;
        few = rw length-set pool.few;
      }

  -- the count of values after one more
  pub count_live : (es : List (Slot T)) (value : T) → count_by is_some (map value_of (es ++ Live value ∷ [])) ≡ count_by is_some (map value_of es) + 1
  count_live es value = ap (count_by is_some) (map-append value_of es (Live value ∷ [])) ∙ sum_by-append (λ (o : Option T). cond (is_some o) 1 0) (map value_of es) (Some value ∷ [])

  -- no slot was given back, so there is one that is fresh
  pub some_fresh : (es : List (Slot T)) (room free fresh : ℕ) (first : Option ℕ) → IsPool es room free fresh first → first ≡ None → 0 < free + fresh → (free ≡ 0) × (0 < fresh)
  some_fresh es room zero fresh first pool none some = (refl, omega arith)
  some_fresh es room (suc free) fresh first pool none some = let here = pool.linked.2 in cc

  pub IsPool-push : (es : List (Slot T)) (room left free fresh : ℕ) (first : Option ℕ) (value : T) → IsPool es room free fresh first → left + 1 ≡ room → 0 < fresh → IsPool (es ++ Live value ∷ []) left free (fresh - 1) first
  IsPool-push es room left free fresh first value pool one some =
      let ready = pool.ready in let few = pool.few in let counted = pool.counted in
      let long : length (es ++ Live value ∷ []) ≡ length es + 1 = length-append es (Live value ∷ []) in
      record {
        counted = omega (arith, count_live es value);
        linked = free_append es (Live value ∷ []) free first pool.linked;
        ready = omega arith;
        few = omega arith;
      }
