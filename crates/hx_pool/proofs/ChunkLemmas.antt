-- Items in chunks of 1,024, read and written as one list.
use Rattle.std.proofs.Common.{◌≡◌, ℕ, zero, suc, ◌+◌, ◌-◌, ◌*◌, ◌/◌, ◌%◌, ◌^◌, ◌<◌, ◌≤◌, min, List, [], ◌∷◌, ◌++◌, length, get_or, set, slice_get, Some, refl, sym, ap, subst, ◌∙◌, arith, length-append}
use Rattle.std.proofs.lemmas.List.{append_assoc, append-nil, set-append_left}
use Rattle.std.proofs.lemmas.Option.{slice_get_within, slice_get-get_or}
use Rattle.hx_pool.specs.Slots.{flat, IsPacked, AreChunks}

module _ {X : Type 0} where
  pub slice_get_left : (xs ys : List X) (i : ℕ) (x : X) → slice_get xs i ≡ Some x → slice_get (xs ++ ys) i ≡ Some x
  slice_get_left [] ys i x e = cc
  slice_get_left (y ∷ xs) ys zero x e = e
  slice_get_left (y ∷ xs) ys (suc i) x e = slice_get_left xs ys i x e

  slice_get_right : (xs ys : List X) (n i : ℕ) → n ≡ length xs + i → slice_get (xs ++ ys) n ≡ slice_get ys i
  slice_get_right [] ys n i e = let same : n ≡ i = omega arith in ap (slice_get ys) same
  slice_get_right (x ∷ xs) ys zero i e = absurd (omega arith)
  slice_get_right (x ∷ xs) ys (suc n) i e = slice_get_right xs ys n i (omega arith)

  set_right : (xs ys : List X) (n i : ℕ) (a : X) → n ≡ length xs + i → set (xs ++ ys) n a ≡ xs ++ set ys i a
  set_right [] ys n i a e = let same : n ≡ i = omega arith in ap (λ k. set ys k a) same
  set_right (x ∷ xs) ys zero i a e = absurd (omega arith)
  set_right (x ∷ xs) ys (suc n) i a e = ap (λ l. x ∷ l) (set_right xs ys n i a (omega arith))

  pub flat_length : (cs : List (List X)) (n : ℕ) → IsPacked cs n → length (flat cs) ≡ n
  flat_length [] n p = sym p
  flat_length (c ∷ cs) n p = omega (arith, length-append c (flat cs), flat_length cs (n - 1024) p.1, p.0)

  pub packed_most : (cs : List (List X)) (n : ℕ) → IsPacked cs n → n ≤ length cs * 1024
  packed_most [] n p = omega arith
  packed_most (c ∷ cs) n p = omega (arith, packed_most cs (n - 1024) p.1)

  -- a chunk has as many items as are left for it
  pub packed_length : (cs : List (List X)) (n q : ℕ) (c : List X) → IsPacked cs n → slice_get cs q ≡ Some c → length c ≡ min (n - q * 1024) 1024
  packed_length [] n q c p e = cc
  packed_length (d ∷ cs) n zero c p e = let same : d ≡ c = cc in omega (arith, p.0, ap length same)
  packed_length (d ∷ cs) n (suc q) c p e = omega (arith, packed_length cs (n - 1024) q c p.1 e)

  pub packed_empty : (cs : List (List X)) (n : ℕ) → IsPacked cs n → IsPacked (cs ++ [] ∷ []) n
  packed_empty [] n p = (omega arith, omega arith)
  packed_empty (c ∷ cs) n p = (p.0, packed_empty cs (n - 1024) p.1)

  pub flat_empty : (cs : List (List X)) → flat (cs ++ [] ∷ []) ≡ flat cs
  flat_empty [] = refl
  flat_empty (c ∷ cs) = ap (λ l. c ++ l) (flat_empty cs)

  flat_none : (cs : List (List X)) → IsPacked cs 0 → flat cs ≡ []
  flat_none [] p = refl
  flat_none ([] ∷ cs) p = flat_none cs p.1
  flat_none ((x ∷ c) ∷ cs) p = absurd (omega (arith, p.0))

  pub packed_read : (cs : List (List X)) (n q r i : ℕ) (c : List X) (x : X) → i ≡ q * 1024 + r → IsPacked cs n → slice_get cs q ≡ Some c → slice_get c r ≡ Some x → slice_get (flat cs) i ≡ Some x
  packed_read [] n q r i c x at p e f = cc
  packed_read (d ∷ cs) n zero r i c x at p e f =
      let same : d ≡ c = cc in let here : i ≡ r = omega arith in
      rw (here, same) (slice_get_left c (flat cs) r x f)
  packed_read (d ∷ cs) n (suc q) r i c x at p e f =
      let within : r < length c = slice_get_within c r x f in
      let some = packed_length cs (n - 1024) q c p.1 e in
      let full : length d ≡ 1024 = omega (arith, p.0) in
      rw (slice_get_right d (flat cs) i (i - 1024) (omega arith)) (packed_read cs (n - 1024) q r (i - 1024) c x (omega arith) p.1 e f)

  pub packed_write : (cs : List (List X)) (n q r i : ℕ) (c : List X) (x : X) → i ≡ q * 1024 + r → r < length c → IsPacked cs n → slice_get cs q ≡ Some c → flat (set cs q (set c r x)) ≡ set (flat cs) i x
  packed_write [] n q r i c x at lt p e = cc
  packed_write (d ∷ cs) n zero r i c x at lt p e =
      let same : d ≡ c = cc in let here : i ≡ r = omega arith in
      rw (here, same) (sym (set-append_left c (flat cs) r x lt))
  packed_write (d ∷ cs) n (suc q) r i c x at lt p e =
      let some = packed_length cs (n - 1024) q c p.1 e in
      let full : length d ≡ 1024 = omega (arith, p.0) in
      ap (λ l. d ++ l) (packed_write cs (n - 1024) q r (i - 1024) c x (omega arith) lt p.1 e) ∙ sym (set_right d (flat cs) i (i - 1024) x (omega arith))

  -- a chunk of another's length in its place
  pub packed_same : (cs : List (List X)) (n q : ℕ) (c d : List X) → IsPacked cs n → slice_get cs q ≡ Some c → length d ≡ length c → IsPacked (set cs q d) n
  packed_same [] n q c d p e long = cc
  packed_same (b ∷ cs) n zero c d p e long = let same : b ≡ c = cc in (omega (arith, p.0, ap length same), p.1)
  packed_same (b ∷ cs) n (suc q) c d p e long = (p.0, packed_same cs (n - 1024) q c d p.1 e long)

  pub flat_push : (cs : List (List X)) (n q : ℕ) (c : List X) (x : X) → q * 1024 ≤ n → n < q * 1024 + 1024 → IsPacked cs n → slice_get cs q ≡ Some c → flat (set cs q (c ++ x ∷ [])) ≡ flat cs ++ x ∷ []
  flat_push [] n q c x low high p e = cc
  flat_push (d ∷ cs) n zero c x low high p e =
      let same : d ≡ c = cc in let none : n - 1024 ≡ 0 = omega arith in
      let rest : flat cs ≡ [] = flat_none cs (subst (IsPacked cs) none p.1) in
      rw (rest, same, append-nil, append-nil)
  flat_push (d ∷ cs) n (suc q) c x low high p e =
      ap (λ l. d ++ l) (flat_push cs (n - 1024) q c x (omega arith) (omega arith) p.1 e) ∙ sym (append_assoc d (flat cs) (x ∷ []))

  pub packed_push : (cs : List (List X)) (n q : ℕ) (c : List X) (x : X) → q * 1024 ≤ n → n < q * 1024 + 1024 → IsPacked cs n → slice_get cs q ≡ Some c → IsPacked (set cs q (c ++ x ∷ [])) (n + 1)
  packed_push [] n q c x low high p e = cc
  packed_push (d ∷ cs) n zero c x low high p e =
      let same : d ≡ c = cc in let none : n - 1024 ≡ n + 1 - 1024 = omega arith in
      (omega (arith, length-append c (x ∷ []), p.0, ap length same), subst (IsPacked cs) none p.1)
  packed_push (d ∷ cs) n (suc q) c x low high p e =
      let shift : n - 1024 + 1 ≡ n + 1 - 1024 = omega arith in
      (omega (arith, p.0), subst (IsPacked (set cs q (c ++ x ∷ []))) shift (packed_push cs (n - 1024) q c x (omega arith) (omega arith) p.1 e))

  -- the chunk of an item, and where the item lies in it
  pub chunk_of : (cs : List (List X)) (n i : ℕ) (c : List X) → IsPacked cs n → i < n → c ≡ get_or cs (i / 1024) c → (slice_get cs (i / 1024) ≡ Some c) × (i % 1024 < length c)
  chunk_of cs n i c p lt e =
      let most = packed_most cs n p in
      let read : slice_get cs (i / 1024) ≡ Some c = slice_get-get_or cs (i / 1024) c (omega arith) ∙ ap Some (sym e) in
      (read, omega (arith, packed_length cs n (i / 1024) c p read))

  pub room_in_chunk : (cs : List (List X)) (n : ℕ) (c : List X) → IsPacked cs n → n < length cs * 1024 → c ≡ get_or cs (n / 1024) c → (slice_get cs (n / 1024) ≡ Some c) × (length c < 1024)
  room_in_chunk cs n c p lt e =
      let read : slice_get cs (n / 1024) ≡ Some c = slice_get-get_or cs (n / 1024) c (omega arith) ∙ ap Some (sym e) in
      (read, omega (arith, packed_length cs n (n / 1024) c p read))

  -- a chunk that holds nothing, after the others
  pub one_more : (cs ds : List (List X)) (n : ℕ) → AreChunks cs n → length cs < 2 ^ 22 → ds ≡ cs ++ [] ∷ [] → AreChunks ds n
  one_more cs ds n are few e = rw e (record { packed = packed_empty cs n are.packed; few = omega (arith, length-append cs ([] ∷ [])) })

  pub one_more_view : (cs ds : List (List X)) (n : ℕ) → AreChunks cs n → ds ≡ cs ++ [] ∷ [] → (let after : List X × ℕ = (flat ds, length ds * 1024 - n) in after ≡ (flat cs, length cs * 1024 - n + 1024))
  one_more_view cs ds n are e =
      let most = packed_most cs n are.packed in
      let long : length ds ≡ suc (length cs) = omega (arith, ap length e, length-append cs ([] ∷ [])) in
      let room : length ds * 1024 - n ≡ length cs * 1024 - n + 1024 = omega arith in
      rw (room, e, flat_empty)
