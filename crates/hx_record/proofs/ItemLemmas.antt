-- The items of bytes, one piece at a time.
use Rattle.std.proofs.Common.{◌≡◌, ℕ, zero, suc, ◌+◌, ◌-◌, ◌<◌, ◌≤◌, Bool, List, [], ◌∷◌, length, take, drop, refl, sym, ap, ◌∙◌, arith, lt-ltb, inl, inr, length-take, length-drop}
use Rattle.std.proofs.lemmas.Bool.{cases_lt, le-ltb}
use Rattle.std.proofs.lemmas.List.{drop-take}
use Rattle.std.proofs.Math.Nat.{add-zero}
use Rattle.hx_record.specs.Beginning.{Continuation, Beginning, Undecided, TooLong, Finish, Fault, Skip, Found, beginning_of}
use Rattle.hx_record.specs.Record.{Items, Then, items_of, items, continuation_of, items_from}
use Rattle.hx_record.proofs.PieceLemmas.{Takes, takes}

-- a byte that belongs to the piece before is passed over
items_one_past : (limit : ℕ) (tail : Continuation) (b : ℕ) (bs : List ℕ) (at skip : ℕ) → items limit tail (b ∷ bs) at (suc skip) ≡ items limit tail bs (at + 1) skip
unfolding items
items_one_past limit tail b bs at skip = refl

-- and so are all of them
items_skip : (limit : ℕ) (tail : Continuation) (bytes : List ℕ) (at skip : ℕ) → skip ≤ length bytes → items limit tail bytes at skip ≡ items limit tail (drop skip bytes) (at + skip) 0
items_skip limit tail bytes at zero h = rw (add-zero at) refl
items_skip limit tail [] at (suc skip) h = absurd (omega arith)
items_skip limit tail (b ∷ bs) at (suc skip) h =
    items_one_past limit tail b bs at skip ∙ items_skip limit tail bs (at + 1) skip (omega arith) ∙ ap (λ offset. items limit tail (drop skip bs) offset 0) (omega arith)

-- what follows a piece counts only at the bytes that a piece takes
follow_same : (limit : ℕ) (tail : Continuation) (n : ℕ) (p : Beginning) (at : ℕ) (f g : ℕ → Items) → Takes tail n p → ((used : ℕ) → 0 < used → used ≤ n → f used ≡ g used) → items_of limit p at f ≡ items_of limit p at g
follow_same limit tail n Undecided at f g h same = refl
follow_same limit tail n TooLong at f g h same = refl
follow_same limit tail n Finish at f g h same = refl
follow_same limit tail n (Fault skip refusal) at f g h same = refl
follow_same limit tail n (Skip used) at f g h same = same used h.0 h.1
follow_same limit tail n (Found used event) at f g h same = ap (λ rest. Then (record { offset = at; event = event }) rest) (same used h.0 h.1)

-- the items are the first one, and then those after it
pub items_step : (limit : ℕ) (tail : Continuation) (bytes : List ℕ) (at : ℕ) → items limit tail bytes at 0 ≡ items_of limit (beginning_of tail bytes) at (λ used. items limit tail (drop used bytes) (at + used) 0)
unfolding items
items_step limit tail [] at = follow_same limit tail 0 (beginning_of tail []) at _ _ (takes tail []) (λ used some none. absurd (omega arith))
items_step limit tail (b ∷ bs) at = follow_same limit tail (length (b ∷ bs)) (beginning_of tail (b ∷ bs)) at _ _ (takes tail (b ∷ bs)) (λ used some fits. past used some fits) where
  past : (used : ℕ) → 0 < used → used ≤ length (b ∷ bs) → items limit tail bs (at + 1) (used - 1) ≡ items limit tail (drop used (b ∷ bs)) (at + used) 0
  past zero some fits = absurd (omega arith)
  past (suc k) some fits =
      let less : suc k - 1 ≡ k = omega arith in
      ap (λ n. items limit tail bs (at + 1) n) less ∙ items_skip limit tail bs (at + 1) k (omega arith) ∙ ap (λ offset. items limit tail (drop k bs) offset 0) (omega arith)

-- what follows the prefix of a record that the limit leaves room for follows the rest of that prefix
-- too
continuation_of-drop : (ends : Bool) (room used : ℕ) (bytes : List ℕ) → used ≤ room → used ≤ length bytes → continuation_of ends (room - used) (drop used bytes) ≡ continuation_of ends room bytes
continuation_of-drop ends room used bytes within inside =
    let rest : length (drop used bytes) ≡ length bytes - used = length-drop used bytes in
    elim (cases_lt room (length bytes)) [
      | inl beyond ↦ rw (lt-ltb room (length bytes) beyond, lt-ltb (room - used) (length (drop used bytes)) (omega arith)) refl
      | inr all ↦ rw (le-ltb room (length bytes) all, le-ltb (room - used) (length (drop used bytes)) (omega arith)) refl
    ]

take-drop : (room used : ℕ) (bytes : List ℕ) → used ≤ room → drop used (take room bytes) ≡ take (room - used) (drop used bytes)
take-drop room used bytes within =
    let sum : used + (room - used) ≡ room = omega arith in
    ap (λ n. drop used (take n bytes)) (sym sum) ∙ drop-take used (room - used) bytes

-- the same for the rest of a record under a limit
pub rest_step : (ends : Bool) (at : ℕ) (bytes : List ℕ) (limit : ℕ) → items_from ends at bytes limit ≡ items_of limit (beginning_of (continuation_of ends (limit - at) bytes) (take (limit - at) bytes)) at (λ used. items_from ends (at + used) (drop used bytes) limit)
unfolding items_from
rest_step ends at bytes limit =
    let room = limit - at in
    let prefix = take room bytes in
    let tail = continuation_of ends room bytes in
    items_step limit tail prefix at ∙ follow_same limit tail (length prefix) (beginning_of tail prefix) at _ _ (takes tail prefix) (λ used some fits.
    let size = length-take room bytes in
    let within : used ≤ room = omega arith in
    let inside : used ≤ length bytes = omega arith in
    let left : limit - (at + used) ≡ room - used = omega arith in
    rw (left, continuation_of-drop ends room used bytes within inside, ← take-drop room used bytes within) refl)
