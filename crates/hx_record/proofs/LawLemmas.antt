-- The items are those of the relation, and no others are.
use Rattle.std.proofs.Common.{◌≡◌, ℕ, zero, suc, ◌+◌, ◌-◌, ◌<◌, ◌≤◌, Bool, List, [], ◌∷◌, ◌++◌, length, take, drop, refl, sym, ap, ◌∙◌, arith, length-take, length-take-le, length-drop, take-append-drop}
use Rattle.hx_record.specs.Beginning.{Beginning, Undecided, TooLong, Finish, Fault, Skip, Found}
use Rattle.hx_record.specs.Record.{Items, Then, continuation_of, items_from, beginning_under}
use Rattle.hx_record.specs.InOrder.{AreItems, passes, finds, finishes, refuses, exceeds, waits}
use Rattle.hx_record.proofs.PieceLemmas.{Takes, takes}
use Rattle.hx_record.proofs.ItemLemmas.{rest_step}

-- what a piece takes makes the rest shorter
shorter : (ends : Bool) (at : ℕ) (bytes : List ℕ) (limit used n : ℕ) → length bytes < suc n → (0 < used) × (used ≤ length (take (limit - at) bytes)) → length (drop used bytes) < n
shorter ends at bytes limit used n few h =
    let some = h.0 in
    let fits = h.1 in
    omega (arith, length-take (limit - at) bytes, length-drop used bytes)

used_fits : (ends : Bool) (at : ℕ) (bytes : List ℕ) (limit used : ℕ) → (0 < used) × (used ≤ length (take (limit - at) bytes)) → used ≤ length bytes
used_fits ends at bytes limit used h =
    let fits = h.1 in
    omega (arith, length-take (limit - at) bytes)

drop_length : (first rest : List ℕ) → drop (length first) (first ++ rest) ≡ rest
drop_length [] rest = refl
drop_length (b ∷ bs) rest = drop_length bs rest

-- the items by the first piece, where those of each shorter rest are known
by_piece : (n : ℕ) (ends : Bool) (limit at : ℕ) (bytes : List ℕ) → length bytes < suc n → ((used : ℕ) → length (drop used bytes) < n → AreItems ends limit (at + used) (drop used bytes) (items_from ends (at + used) (drop used bytes) limit)) → (p : Beginning) → beginning_under ends at bytes limit ≡ p → Takes (continuation_of ends (limit - at) bytes) (length (take (limit - at) bytes)) p → AreItems ends limit at bytes (items_from ends at bytes limit)
by_piece n ends limit at bytes few later Undecided e h = rw (rest_step ends at bytes limit, e) (waits at bytes e)
by_piece n ends limit at bytes few later TooLong e h = rw (rest_step ends at bytes limit, e) (exceeds at bytes e)
by_piece n ends limit at bytes few later Finish e h = rw (rest_step ends at bytes limit, e) (finishes at bytes e)
by_piece n ends limit at bytes few later (Fault skip refusal) e h =
    rw (rest_step ends at bytes limit, e) (refuses at bytes skip refusal e)
by_piece n ends limit at bytes few later (Skip used) e h =
    let fits = used_fits ends at bytes limit used h in
    let first : length (take used bytes) ≡ used = length-take-le used bytes fits in
    rw (rest_step ends at bytes limit, e) (passes at bytes (take used bytes) (drop used bytes) (items_from ends (at + used) (drop used bytes) limit) (sym (take-append-drop used bytes)) (e ∙ ap (λ n. Skip n) (sym first))
    (rw first (later used (shorter ends at bytes limit used n few h))))
by_piece n ends limit at bytes few later (Found used event) e h =
    let fits = used_fits ends at bytes limit used h in
    let first : length (take used bytes) ≡ used = length-take-le used bytes fits in
    rw (rest_step ends at bytes limit, e) (finds at bytes (take used bytes) (drop used bytes) event (items_from ends (at + used) (drop used bytes) limit) (sym (take-append-drop used bytes)) (e ∙ ap (λ n. Found n event) (sym first))
    (rw first (later used (shorter ends at bytes limit used n few h))))

within : (n : ℕ) (ends : Bool) (limit at : ℕ) (bytes : List ℕ) → length bytes < n → AreItems ends limit at bytes (items_from ends at bytes limit)
within zero ends limit at bytes few = absurd (omega arith)
within (suc n) ends limit at bytes few =
    by_piece n ends limit at bytes few (λ used less. within n ends limit (at + used) (drop used bytes) less) (beginning_under ends at bytes limit) refl (takes (continuation_of ends (limit - at) bytes) (take (limit - at) bytes))

pub items_are : (ends : Bool) (limit at : ℕ) (bytes : List ℕ) → AreItems ends limit at bytes (items_from ends at bytes limit)
items_are ends limit at bytes = within (suc (length bytes)) ends limit at bytes (omega arith)

pub only_items : (ends : Bool) (limit at : ℕ) (bytes : List ℕ) (is : Items) → AreItems ends limit at bytes is → is ≡ items_from ends at bytes limit
only_items ends limit _ _ _ (passes at bytes line rest others cut e h) =
    let after : drop (length line) bytes ≡ rest = ap (drop (length line)) cut ∙ drop_length line rest in
    only_items ends limit (at + length line) rest others h ∙ sym (rest_step ends at bytes limit ∙ rw (e, after) refl)
only_items ends limit _ _ _ (finds at bytes first rest event others cut e h) =
    let after : drop (length first) bytes ≡ rest = ap (drop (length first)) cut ∙ drop_length first rest in
    ap (λ items. Then (record { offset = at; event = event }) items) (only_items ends limit (at + length first) rest others h)
    ∙ sym (rest_step ends at bytes limit ∙ rw (e, after) refl)
only_items ends limit _ _ _ (finishes at bytes e) = sym (rest_step ends at bytes limit ∙ rw e refl)
only_items ends limit _ _ _ (refuses at bytes skip refusal e) = sym (rest_step ends at bytes limit ∙ rw e refl)
only_items ends limit _ _ _ (exceeds at bytes e) = sym (rest_step ends at bytes limit ∙ rw e refl)
only_items ends limit _ _ _ (waits at bytes e) = sym (rest_step ends at bytes limit ∙ rw e refl)
