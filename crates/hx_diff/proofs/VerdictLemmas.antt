-- Verdicts in answers, and rows by their keys.
use Rattle.std.proofs.Common.{◌≡◌, ℕ, zero, suc, drop, subst, Result, Ok, Err, OnOk, OnErr, ◌+◌, ◌==◌, Bool, true, false, not, ◌&&◌, cond, List, [], ◌∷◌, ◌++◌, Option, Some, None, is_some, slice_get, unwrap_or, refl, sym, ap, ◌∙◌, arith, if◌then◌else◌}
use mathlib.Core.Bool.{true≢false}
use Rattle.std.specs.List.{after_first, before_first, list_all, list_any, prefix_len}
use Rattle.std.specs.Map.{lookup, set_value}
use Rattle.std.specs.Str.{bytes_eq}
use Rattle.std.specs.declared.alloc.Global.{Global}
use Rattle.std.specs.declared.vec.Vec.{Vec}
use Rattle.std.proofs.lemmas.Bool.{eq-eqb}
use Rattle.std.proofs.lemmas.Bool.Decides.{same_from_decides}
use Rattle.std.proofs.lemmas.Slice.Eq.{bytes_eq-Decides}
use Rattle.hx_core.specs.Steps.{next_number}
use Rattle.hx_http.proofs.CutLemmas.{cut_of-first, lacks-cut_of, neither, IsCut-cut_of}
use Rattle.hx_text.specs.Cut.{cut_of}
use Rattle.indexmap.specs.IndexMap.{insert_entry}
use Rattle.hx_diff.specs.RowsView.{AreKeys, key_of, row_of, rows_of}
use Rattle.hx_diff.specs.Verdicts.{Row, has_verdicts, row_text, rows_text, with_request}
use Rattle.hx_diff.specs.declared.rows.Count.{Count}

module _ (byte : ℕ) where
  around : (before after : List ℕ) → list_any (λ b. b == byte) before ≡ false
      → (before_first (λ b. b == byte) (before ++ byte ∷ after) ≡ before)
      × (after_first (λ b. b == byte) (before ++ byte ∷ after) ≡ after)
  around [] after first = rw (eq-eqb byte byte refl) (refl, refl)
  around (b ∷ before) after first =
      let parts = neither (b == byte) (list_any (λ x. x == byte) before) first in
      let n = prefix_len (λ b. not (b == byte)) (before ++ byte ∷ after) in
      let next : 1 + n ≡ suc n = omega arith in
      let more : 1 + n + 1 ≡ suc (n + 1) = omega arith in
      let rest = around before after parts.1 in
      rw (parts.0, more, next) (ap (λ (xs : List ℕ). b ∷ xs) rest.0, rest.1)

  none_there : (text : List ℕ) → list_any (λ b. b == byte) text ≡ false
      → (before_first (λ b. b == byte) text ≡ text) × (after_first (λ b. b == byte) text ≡ [])
  none_there [] lacks = (refl, refl)
  none_there (b ∷ text) lacks =
      let parts = neither (b == byte) (list_any (λ x. x == byte) text) lacks in
      let n = prefix_len (λ b. not (b == byte)) text in
      let next : 1 + n ≡ suc n = omega arith in
      let more : 1 + n + 1 ≡ suc (n + 1) = omega arith in
      let rest = none_there text parts.1 in
      rw (parts.0, more, next) (ap (λ (xs : List ℕ). b ∷ xs) rest.0, rest.1)

  -- what stands before and after the first byte of the value
  pub cut_before : (text before after : List ℕ) → cut_of byte text ≡ Some (before, after)
      → before ≡ before_first (λ b. b == byte) text
  cut_before text before after is =
      let cut = IsCut-cut_of byte text before after is in
      rw cut.whole (sym (around before after cut.first).0)

  pub cut_after : (text before after : List ℕ) → cut_of byte text ≡ Some (before, after)
      → after ≡ after_first (λ b. b == byte) text
  cut_after text before after is =
      let cut = IsCut-cut_of byte text before after is in
      rw cut.whole (sym (around before after cut.first).1)

  -- and where there is none
  pub uncut_before : (text : List ℕ) → cut_of byte text ≡ None → text ≡ before_first (λ b. b == byte) text
  uncut_before text is = sym (none_there text (lacks-cut_of byte text is)).0

  pub uncut_after : (text : List ℕ) → cut_of byte text ≡ None
      → (let none : List ℕ = [] in none ≡ after_first (λ b. b == byte) text)
  uncut_after text is = sym (none_there text (lacks-cut_of byte text is)).1

-- nothing before the first byte of the value is one
pub before_lacks : (byte : ℕ) (text before after : List ℕ) → cut_of byte text ≡ Some (before, after) → list_any (λ b. b == byte) before ≡ false
before_lacks byte text before after is = (IsCut-cut_of byte text before after is).first

pub whole_lacks : (byte : ℕ) (text : List ℕ) → cut_of byte text ≡ None → list_any (λ b. b == byte) text ≡ false
whole_lacks byte text is = lacks-cut_of byte text is

after_lacks_step : (byte other b : ℕ) (text : List ℕ) (test : Bool) → (b == other) ≡ test → list_any (λ x. x == byte) text ≡ false
    → list_any (λ x. x == byte) (after_first (λ x. x == other) text) ≡ false → list_any (λ x. x == byte) (after_first (λ x. x == other) (b ∷ text)) ≡ false
after_lacks_step byte other b text true is here later = rw is here
after_lacks_step byte other b text false is here later =
    let n = prefix_len (λ x. not (x == other)) text in
    let more : 1 + n + 1 ≡ suc (n + 1) = omega arith in
    rw (is, more) later

-- nor does what follows another byte of a text without it have one
pub after_lacks : (byte other : ℕ) (text : List ℕ) → list_any (λ b. b == byte) text ≡ false → list_any (λ b. b == byte) (after_first (λ b. b == other) text) ≡ false
after_lacks byte other [] lacks = refl
after_lacks byte other (b ∷ text) lacks =
    let parts = neither (b == byte) (list_any (λ x. x == byte) text) lacks in
    after_lacks_step byte other b text (b == other) refl parts.1 (after_lacks byte other text parts.1)

-- ---- rows by their keys

abbrev pub Entries : Type 0
Entries = List (Vec ℕ Global × Count)

both : (a b : Bool) → (a && b) ≡ true → (a ≡ true) × (b ≡ true)
both true b is = (refl, is)
both false b is = cc

joined : (a b : Bool) → a ≡ true → b ≡ true → (a && b) ≡ true
joined true b first second = second
joined false b first second = cc

-- a key is that of two verdicts where its lines are these
key_lines : (old new key before after : List ℕ) → list_any (λ b. b == 10) old ≡ false → cut_of 10 key ≡ Some (before, after)
    → bytes_eq (key_of old new) key ≡ (bytes_eq before old && bytes_eq after new)
key_lines old new key before after lacks cut =
    same_from_decides (bytes_eq (key_of old new) key) (bytes_eq before old && bytes_eq after new) (bytes_eq-Decides (key_of old new) key) (
      (λ same.
          let parts = both (bytes_eq before old) (bytes_eq after new) same in
          ap (λ (xs : List ℕ). xs ++ 10 ∷ new) (sym ((bytes_eq-Decides before old).0 parts.0))
          ∙ ap (λ (xs : List ℕ). before ++ 10 ∷ xs) (sym ((bytes_eq-Decides after new).0 parts.1))
          ∙ sym (IsCut-cut_of 10 key before after cut).whole),
      (λ same.
          let here : Some (before, after) ≡ Some (old, new) = sym cut ∙ ap (λ (xs : List ℕ). cut_of 10 xs) (sym same) ∙ cut_of-first 10 old new lacks in
          let lines : before ≡ old = ap (λ (found : Option (List ℕ × List ℕ)). (unwrap_or found ([], [])).0) here in
          let others : after ≡ new = ap (λ (found : Option (List ℕ × List ℕ)). (unwrap_or found ([], [])).1) here in
          joined (bytes_eq before old) (bytes_eq after new) ((bytes_eq-Decides before old).1 lines) ((bytes_eq-Decides after new).1 others)),
    )

entry_test : (old new : List ℕ) (entry : Vec ℕ Global × Count) → list_any (λ b. b == 10) old ≡ false → is_some (cut_of 10 entry.0.items) ≡ true
    → bytes_eq (key_of old new) entry.0.items ≡ has_verdicts old new (row_of entry)
entry_test old new entry lacks key = go (cut_of 10 entry.0.items) refl key
  where
    go : (cut : Option (List ℕ × List ℕ)) → cut_of 10 entry.0.items ≡ cut → is_some cut ≡ true
        → bytes_eq (key_of old new) entry.0.items ≡ has_verdicts old new (row_of entry)
    go None is some = absurd (true≢false (sym some))
    go (Some p) is some =
        key_lines old new entry.0.items p.0 p.1 lacks is
        ∙ ap (λ (xs : List ℕ). bytes_eq xs old && bytes_eq p.1 new) (cut_before 10 entry.0.items p.0 p.1 is)
        ∙ ap (λ (xs : List ℕ). bytes_eq (before_first (λ b. b == 10) entry.0.items) old && bytes_eq xs new) (cut_after 10 entry.0.items p.0 p.1 is)

keys_stay_step : (t : Bool) (entry : Vec ℕ Global × Count) (es rest : Entries) (w : Count) → is_some (cut_of 10 entry.0.items) ≡ true → AreKeys es → AreKeys rest
    → AreKeys (cond t ((entry.0, w) ∷ es) (entry ∷ rest))
keys_stay_step true entry es rest w key keys others = joined (is_some (cut_of 10 entry.0.items)) (list_all (λ e. is_some (cut_of 10 e.0.items)) es) key keys
keys_stay_step false entry es rest w key keys others = joined (is_some (cut_of 10 entry.0.items)) (list_all (λ e. is_some (cut_of 10 e.0.items)) rest) key others

keys_stay : (test : Vec ℕ Global → Bool) (es : Entries) (w : Count) → AreKeys es → AreKeys (set_value test es w)
keys_stay test [] w keys = keys
keys_stay test (entry ∷ es) w keys =
    let parts = both (is_some (cut_of 10 entry.0.items)) (list_all (λ e. is_some (cut_of 10 e.0.items)) es) keys in
    keys_stay_step (test entry.0) entry es (set_value test es w) w parts.0 parts.1 (keys_stay test es w parts.1)

-- keys have two lines after a count is written
pub keys_written : (test : Vec ℕ Global → Bool) (es es' : Entries) (w : Count) → es' ≡ set_value test es w → AreKeys es → AreKeys es'
keys_written test es es' w is keys = subst (λ (e : Entries). AreKeys e) (sym is) (keys_stay test es w keys)

-- a count with one more
abbrev pub more_of : Count → Count
more_of c = record { count = next_number c.count; first = c.first }

abbrev pub count_of : (count first : ℕ) → Count
count_of count first = record { count = count; first = first }

module _ (number : ℕ) (old new : List ℕ) (lacks : list_any (λ b. b == 10) old ≡ false) where
  -- the key is that of the verdicts
  abbrev is_key : Vec ℕ Global → Bool
  is_key key = bytes_eq (key_of old new) key.items

  counted_step : (t u : Bool) (entry : Vec ℕ Global × Count) (es : Entries) (c w : Count) (rest : List Row) → t ≡ u
      → cond t (Some entry.1) (lookup is_key es) ≡ Some c → w ≡ more_of c
      → (lookup is_key es ≡ Some c → rows_of (set_value is_key es w) ≡ rest)
      → rows_of (cond t ((entry.0, w) ∷ es) (entry ∷ set_value is_key es w))
      ≡ (if u then record (row_of entry) { count = next_number entry.1.count } ∷ rows_of es else row_of entry ∷ rest)
  counted_step true true entry es c w rest same found is later =
      let there : entry.1 ≡ c = cc in
      ap (λ (k : Count). row_of (entry.0, k) ∷ rows_of es) (is ∙ ap more_of (sym there))
  counted_step true false entry es c w rest same found is later = absurd (true≢false same)
  counted_step false true entry es c w rest same found is later = absurd (true≢false (sym same))
  counted_step false false entry es c w rest same found is later = ap (λ (rows : List Row). row_of entry ∷ rows) (later found)

  -- a request more in the row of its verdicts
  pub counted : (es : Entries) (c w : Count) → AreKeys es → lookup is_key es ≡ Some c → w ≡ more_of c
      → rows_of (set_value is_key es w) ≡ with_request number old new (rows_of es)
  counted [] c w keys found is = cc
  counted (entry ∷ es) c w keys found is =
      let parts = both (is_some (cut_of 10 entry.0.items)) (list_all (λ e. is_some (cut_of 10 e.0.items)) es) keys in
      counted_step (is_key entry.0) (has_verdicts old new (row_of entry)) entry es c w (with_request number old new (rows_of es))
      (entry_test old new entry lacks parts.0) found is (λ later. counted es c w parts.1 later is)

  added_step : (t u : Bool) (entry : Vec ℕ Global × Count) (es : Entries) (k : Vec ℕ Global) (w : Count) (rest : List Row) → t ≡ u
      → cond t (Some entry.1) (lookup is_key es) ≡ None
      → (lookup is_key es ≡ None → rows_of (insert_entry (λ x y. bytes_eq x.items y.items) es k w) ≡ rest)
      → rows_of (if t then (entry.0, w) ∷ es else entry ∷ insert_entry (λ x y. bytes_eq x.items y.items) es k w)
      ≡ (if u then record (row_of entry) { count = next_number entry.1.count } ∷ rows_of es else row_of entry ∷ rest)
  added_step true u entry es k w rest same none later = cc
  added_step false true entry es k w rest same none later = absurd (true≢false (sym same))
  added_step false false entry es k w rest same none later = ap (λ (rows : List Row). row_of entry ∷ rows) (later none)

  -- the first request of a new row
  pub added : (es : Entries) (k : Vec ℕ Global) → AreKeys es → lookup is_key es ≡ None → k.items ≡ key_of old new
      → rows_of (insert_entry (λ x y. bytes_eq x.items y.items) es k (count_of 1 number)) ≡ with_request number old new (rows_of es)
  added [] k keys none is =
      let lines = around 10 old new lacks in
      rw (is, lines.0, lines.1) refl
  added (entry ∷ es) k keys none is =
      let parts = both (is_some (cut_of 10 entry.0.items)) (list_all (λ e. is_some (cut_of 10 e.0.items)) es) keys in
      added_step (bytes_eq k.items entry.0.items) (has_verdicts old new (row_of entry)) entry es k (count_of 1 number)
      (with_request number old new (rows_of es)) (ap (λ (xs : List ℕ). bytes_eq xs entry.0.items) is ∙ entry_test old new entry lacks parts.0)
      (rw is none) (λ later. added es k parts.1 later is)

  pub keys_more : (es : Entries) (k : Vec ℕ Global) (w : Count) → AreKeys es → k.items ≡ key_of old new
      → AreKeys (insert_entry (λ x y. bytes_eq x.items y.items) es k w)
  keys_more [] k w keys is = rw (is, cut_of-first 10 old new lacks) refl
  keys_more (entry ∷ es) k w keys is =
      let parts = both (is_some (cut_of 10 entry.0.items)) (list_all (λ e. is_some (cut_of 10 e.0.items)) es) keys in
      keys_stay_step (bytes_eq k.items entry.0.items) entry es (insert_entry (λ x y. bytes_eq x.items y.items) es k w) w parts.0 parts.1 (keys_more es k w parts.1 is)

  -- the map after a count is written through a loan
  pub written : (key : List ℕ) (es es' : Entries) (c w : Count) → key ≡ key_of old new → AreKeys es → Some c ≡ lookup (λ k. bytes_eq key k.items) es
      → w ≡ more_of c → es' ≡ set_value (λ k. bytes_eq key k.items) es w → rows_of es' ≡ with_request number old new (rows_of es)
  written key es es' c w key_is keys found more is =
      ap (λ (e : Entries). rows_of e) is
      ∙ subst (λ (text : List ℕ). Some c ≡ lookup (λ k. bytes_eq text k.items) es → rows_of (set_value (λ k. bytes_eq text k.items) es w) ≡ with_request number old new (rows_of es))
      (sym key_is) (λ here. counted es c w keys (sym here) more) found

  -- the map after a key is inserted
  pub inserted : (key : List ℕ) (es mid es' : Entries) (k : Vec ℕ Global) → key ≡ key_of old new → AreKeys es → None ≡ lookup (λ x. bytes_eq key x.items) es
      → mid ≡ es → k.items ≡ key_of old new → es' ≡ insert_entry (λ x y. bytes_eq x.items y.items) mid k (count_of 1 number)
      → rows_of es' ≡ with_request number old new (rows_of es)
  inserted key es mid es' k key_is keys none same k_is is =
      ap (λ (e : Entries). rows_of e) (is ∙ ap (λ (e : Entries). insert_entry (λ x y. bytes_eq x.items y.items) e k (count_of 1 number)) same)
      ∙ added es k keys
      (subst (λ (text : List ℕ). None ≡ lookup (λ x. bytes_eq text x.items) es → lookup is_key es ≡ None) (sym key_is) (λ here. sym here) none) k_is

  pub keys_inserted : {A B : Type 0} (r : Result A B) (es mid es' : Entries) (k : Vec ℕ Global) (w : Count) → AreKeys es → mid ≡ es → k.items ≡ key_of old new
      → OnOk r (es' ≡ insert_entry (λ x y. bytes_eq x.items y.items) mid k w) → OnErr r (es' ≡ mid) → AreKeys es'
  keys_inserted (Ok done) es mid es' k w keys same k_is ok err =
      subst (λ (e : Entries). AreKeys e) (sym ok) (keys_more mid k w (subst (λ (e : Entries). AreKeys e) (sym same) keys) k_is)
  keys_inserted (Err failed) es mid es' k w keys same k_is ok err = subst (λ (e : Entries). AreKeys e) (sym (err ∙ same)) keys

-- the lines of rows from a position on begin with its row
pub next_row : (es : Entries) (at : ℕ) (entry : Vec ℕ Global × Count) → slice_get es at ≡ Some entry
    → rows_text (rows_of (drop at es)) ≡ row_text (row_of entry) ++ rows_text (rows_of (drop (at + 1) es))
next_row [] at entry is = cc
next_row (first ∷ es) zero entry is =
    let same : first ≡ entry = ap (λ (found : Option (Vec ℕ Global × Count)). unwrap_or found first) is in
    ap (λ (e : Vec ℕ Global × Count). row_text (row_of e) ++ rows_text (rows_of es)) same
next_row (first ∷ es) (suc at) entry is =
    let next : suc at + 1 ≡ suc (at + 1) = omega arith in
    rw next (next_row es at entry is)
