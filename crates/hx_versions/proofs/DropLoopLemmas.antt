-- Versions that a loop drops from the front of a row, one after another.
use Rattle.std.proofs.Common.{◌≡◌, ℕ, suc, ◌+◌, ◌*◌, ◌<◌, ◌≤◌, List, [], ◌∷◌, ◌++◌, length, set, Some, refl, sym, ap, subst, ◌∙◌, arith, append_assoc, length-set, set-set}
use Rattle.std.specs.Option.{option_map_or}
use Rattle.std.specs.Prelude.{slice_get}
use Rattle.std.proofs.lemmas.List.Elements.{All-nil, All-push}
use Rattle.std.proofs.lemmas.Option.{slice_get-get_or}
use Rattle.hx_versions.specs.Rows.{AreBelow, BeginsFrom, IsDropped, ShownVersion, StoreView, row_at, store_slots}
use Rattle.hx_versions.proofs.RowChangeLemmas.{is_below}
use Rattle.hx_versions.proofs.StoreChangeLemmas.{set_self}

-- those that were dropped so far, in so many steps
pub record HasDropped (number r : ℕ) (old now : StoreView) (steps steps' : ℕ) : Type 0 where
  pub dropped : List ShownVersion
  pub parts : row_at old r ≡ dropped ++ row_at now r
  pub below : AreBelow number dropped
  pub others : now.rows ≡ set old.rows r (row_at now r)
  pub used : (store_slots now).used ≡ (store_slots old).used
  pub cost : steps' + 10 * length (row_at now r) ≤ steps + 10 * length (row_at old r)

pub none_dropped : (number r : ℕ) (old : StoreView) (steps : ℕ) → r < length old.rows → HasDropped number r old old steps steps
none_dropped number r old steps within =
    let read = slice_get-get_or old.rows r [] within in
    let row = ap (λ o. option_map_or (λ x. x) o []) read in
    let is : slice_get old.rows r ≡ Some (row_at old r) = read ∙ ap Some (sym row) in
    record {
      dropped = [];
      parts = refl;
      below = All-nil (is_below number);
      others = sym (set_self old.rows r (row_at old r) is);
      used = refl;
      cost = omega arith;
    }

module _ (number r : ℕ) (old now : StoreView) (steps steps' : ℕ) (d : HasDropped number r old now steps steps') where
  pub row_left : r < length old.rows → r < length now.rows
  row_left within = omega (arith, within, ap length d.others, length-set old.rows r (row_at now r))

  -- one more
  pub dropped_more : (new : StoreView) (steps'' : ℕ) → (version : ShownVersion) × (row_at now r ≡ version ∷ row_at new r) × (version.number < number) → new.rows ≡ set now.rows r (row_at new r) → (store_slots new).used ≡ (store_slots now).used → steps'' ≤ steps' + 10 → HasDropped number r old new steps steps''
  dropped_more new steps'' one others used cost =
      let many : length (row_at now r) ≡ suc (length (row_at new r)) = ap length one.1 in
      record {
        dropped = d.dropped ++ one.0 ∷ [];
        parts = d.parts ∙ ap (λ xs. d.dropped ++ xs) one.1 ∙ sym (append_assoc d.dropped (one.0 ∷ []) (row_at new r));
        below = All-push (is_below number) d.dropped one.0 d.below one.2;
        others =
            others ∙ ap (λ xs. set xs r (row_at new r)) d.others ∙ set-set old.rows r (row_at now r) (row_at new r);
        used = used ∙ d.used;
        cost = omega (arith, cost, many, d.cost);
      }

  -- no more
  pub all_dropped : (new : StoreView) → new ≡ now → BeginsFrom number (row_at now r) → IsDropped number (row_at old r) (row_at new r)
  all_dropped new same rest =
      subst (λ (x : StoreView). IsDropped number (row_at old r) (row_at x r)) (sym same)
      (record { dropped = d.dropped; parts = d.parts; below = d.below; rest = rest })

  pub others_dropped : (new : StoreView) → new ≡ now → new.rows ≡ set old.rows r (row_at new r)
  others_dropped new same =
      subst (λ (x : StoreView). x.rows ≡ set old.rows r (row_at x r)) (sym same) d.others

  pub used_dropped : (new : StoreView) → new ≡ now → (store_slots new).used ≡ (store_slots old).used
  used_dropped new same =
      subst (λ (x : StoreView). (store_slots x).used ≡ (store_slots old).used) (sym same) d.used
