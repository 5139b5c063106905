-- What is found in a list of entries.
use Rattle.std.proofs.Common.{◌≡◌, ℕ, zero, suc, ◌<◌, ◌≤◌, max, Bool, true, false, cond, ◌&&◌, ◌==◌, List, [], ◌∷◌, Option, Some, None, refl, ap, sym, ◌∙◌, subst, arith, inl, inr, ◌||◌}
use Rattle.std.specs.Prelude.{length, slice_get}
use Rattle.std.specs.Option.{unwrap_or}
use Rattle.std.specs.List.{filter, find, list_any}
use Rattle.std.specs.Str.{bytes_eq}
use Rattle.std.proofs.lemmas.Bool.{cases_Bool, false≢true}
use Rattle.std.proofs.lemmas.Bool.Decides.{Decides-eqb}
use Rattle.std.proofs.lemmas.Slice.Eq.{bytes_eq-Decides}
use Rattle.hx_text.specs.declared.address.Ip.{Ip}
use Rattle.hx_text.specs.declared.kinds.By.{By}
use Rattle.hx_text.specs.declared.kinds.By.TheVariants as by
use Rattle.hx_sample.specs.declared.sample.Value.{Value}
use Rattle.hx_sample.specs.declared.sample.Value.TheVariants as value
use Rattle.hx_sample.specs.Find.{Entry, first_item, greatest, with_greatest, preferred_entries, hitting_entries, found_entry, by_network, prefix_width, nearness}
use Rattle.hx_sample.specs.Keys.{hits}
use Rattle.hx_sample.specs.Tables.{empty_heads, empty_lists, found_at}

-- ---- filters

first_of_cond : {A : Type 0} (b : Bool) (x : A) (xs : List A) (o : Option A) → first_item xs ≡ o → first_item (cond b (x ∷ xs) xs) ≡ cond b (Some x) o
first_of_cond true x xs o h = refl
first_of_cond false x xs o h = h

-- the first item that a filter leaves is the first that passes
pub first_filtered : {A : Type 0} (p : A → Bool) (xs : List A) → first_item (filter p xs) ≡ find p xs
first_filtered p [] = refl
first_filtered p (x ∷ xs) = first_of_cond (p x) x (filter p xs) (find p xs) (first_filtered p xs)

filter_cond : {A : Type 0} (b : Bool) (q : A → Bool) (x : A) (xs ys : List A) → filter q xs ≡ ys → filter q (cond b (x ∷ xs) xs) ≡ cond (b && q x) (x ∷ ys) ys
filter_cond true q x xs ys h = ap (λ zs. cond (q x) (x ∷ zs) zs) h
filter_cond false q x xs ys h = h

-- two filters are one by both tests
pub filtered_twice : {A : Type 0} (p q : A → Bool) (xs : List A) → filter q (filter p xs) ≡ filter (λ x. p x && q x) xs
filtered_twice p q [] = refl
filtered_twice p q (x ∷ xs) =
    filter_cond (p x) q x (filter p xs) (filter (λ x. p x && q x) xs) (filtered_twice p q xs)

nothing_passes : {A : Type 0} (b : Bool) (x : A) (xs : List A) → cond b (x ∷ xs) xs ≡ [] → (b ≡ false) × (xs ≡ [])
nothing_passes true x xs h = cc
nothing_passes false x xs h = (refl, h)

-- no item passes a test by which nothing is left
pub none_passes : {A : Type 0} (p : A → Bool) (xs : List A) → filter p xs ≡ [] → list_any p xs ≡ false
none_passes p [] h = refl
none_passes p (x ∷ xs) h =
    let parts = nothing_passes (p x) x (filter p xs) h in
    rw parts.0 (none_passes p xs parts.1)

both_fail : (a b : Bool) → (a || b) ≡ false → (a ≡ false) × (b ≡ false)
both_fail true b h = cc
both_fail false b h = (refl, h)

-- nothing is left by a test that no item passes
pub none_left_by : {A : Type 0} (p : A → Bool) (xs : List A) → list_any p xs ≡ false → filter p xs ≡ []
none_left_by p [] h = refl
none_left_by p (x ∷ xs) h =
    let parts = both_fail (p x) (list_any p xs) h in
    rw parts.0 (none_left_by p xs parts.1)

-- ---- the greatest measure

attained_or : {A : Type 0} (measure : A → ℕ) (x : A) (xs : List A) (n : ℕ) → n ≡ max (measure x) (greatest measure xs) → ¬ (measure x ≡ n) → (n ≡ greatest measure xs) × (zero < n)
attained_or measure x xs n is other = (omega (arith, is, other), omega (arith, is, other))

greatest_nil : {A : Type 0} (measure : A → ℕ) (xs : List A) → xs ≡ [] → greatest measure xs ≡ zero
greatest_nil measure [] h = refl
greatest_nil measure (x ∷ xs) h = cc

pub none_measures : {A : Type 0} (measure : A → ℕ) (xs : List A) (n : ℕ) → n ≡ greatest measure xs → find (λ x. measure x == n) xs ≡ None → xs ≡ []
none_measures measure [] n is none = refl
none_measures measure (x ∷ xs) n is none =
    elim (cases_Bool (measure x == n)) [
      | inl same ↦ let h : Some x ≡ None = rw same at none in cc
      | inr other ↦
          let differs : ¬ (measure x ≡ n) = λ e. false≢true (sym other ∙ (Decides-eqb (measure x) n).1 e) in
          let rest = attained_or measure x xs n is differs in
          let left : find (λ y. measure y == n) xs ≡ None = rw other at none in
          let nil = none_measures measure xs n rest.0 left in
          let zeros = greatest_nil measure xs nil in
          absurd (omega (arith, rest.0, rest.1, zeros))
    ]

-- where there are items, some have the greatest measure
pub none_greatest : {A : Type 0} (measure : A → ℕ) (xs : List A) → first_item (with_greatest measure xs) ≡ None → xs ≡ []
none_greatest measure xs none =
    none_measures measure xs (greatest measure xs) refl (sym (first_filtered (λ x. measure x == greatest measure xs) xs) ∙ none)

first_none : {A : Type 0} (xs : List A) → first_item xs ≡ None → xs ≡ []
first_none [] h = refl
first_none (x ∷ xs) h = cc

-- ---- the preferred entries

pub none_preferred : (method : By) (ci : Bool) (v : Value) (entries : List Entry) → first_item (preferred_entries method ci v entries) ≡ None → entries ≡ []
none_preferred by.Beg false v entries h = none_greatest (λ entry. length entry.key) entries h
none_preferred by.Ip ci (value.Ip ip) entries h =
    let near = none_greatest (by_network prefix_width) (with_greatest (by_network (nearness ip)) entries) h in
    none_greatest (by_network (nearness ip)) entries (ap first_item near)
none_preferred _ ci v entries h = first_none entries h

pub preferred_none : (method : By) (ci : Bool) (v : Value) → preferred_entries method ci v [] ≡ []
preferred_none by.Beg false v = refl
preferred_none by.Ip ci (value.Ip ip) = refl
preferred_none _ ci v = refl

-- ---- by keys

-- what is found is the first entry whose key passes a test, and keys that pass it hit
pub record FirstBy (method : By) (ci : Bool) (v : Value) (entries : List Entry) : Type 0 where
  pub test : List ℕ → Bool
  pub found : found_entry method ci entries v ≡ find (λ entry. test entry.key) entries
  pub hit : (key : List ℕ) → test key ≡ true → hits method ci key v ≡ true

first_both : (a b : Bool) → (a && b) ≡ true → a ≡ true
first_both true b h = refl
first_both false b h = cc

plain_first : (method : By) (ci : Bool) (v : Value) (entries : List Entry) → preferred_entries method ci v (hitting_entries method ci entries v) ≡ hitting_entries method ci entries v → FirstBy method ci v entries
plain_first method ci v entries is = record {
  test = λ key. hits method ci key v;
  found = ap first_item is ∙ first_filtered (λ entry. hits method ci entry.key v) entries;
  hit = λ key h. h;
}

measured_first : {A : Type 0} (p : A → Bool) (measure : A → ℕ) (xs : List A) (n : ℕ) → first_item (filter (λ x. measure x == n) (filter p xs)) ≡ find (λ x. p x && measure x == n) xs
measured_first p measure xs n =
    ap first_item (filtered_twice p (λ x. measure x == n) xs) ∙ first_filtered (λ x. p x && measure x == n) xs

twice_measured_first : {A : Type 0} (p : A → Bool) (f g : A → ℕ) (xs : List A) (m n : ℕ) → first_item (filter (λ x. g x == n) (filter (λ x. f x == m) (filter p xs))) ≡ find (λ x. (p x && f x == m) && g x == n) xs
twice_measured_first p f g xs m n =
    ap (λ ys. first_item (filter (λ x. g x == n) ys)) (filtered_twice p (λ x. f x == m) xs)
    ∙ measured_first (λ x. p x && f x == m) g xs n

pub first_by : (method : By) (ci : Bool) (v : Value) (entries : List Entry) → FirstBy method ci v entries
first_by by.Beg false v entries =
    let most = greatest (λ entry. length entry.key) (hitting_entries by.Beg false entries v) in
    record {
      test = λ key. hits by.Beg false key v && length key == most;
      found = measured_first (λ (entry : Entry). hits by.Beg false entry.key v) (λ entry. length entry.key) entries most;
      hit = λ key h. first_both (hits by.Beg false key v) _ h;
    }
first_by by.Ip ci (value.Ip ip) entries =
    let hitting = hitting_entries by.Ip ci entries (value.Ip ip) in
    let nearest = greatest (by_network (nearness ip)) hitting in
    let longest = greatest (by_network prefix_width) (with_greatest (by_network (nearness ip)) hitting) in
    record {
      test = λ key. (hits by.Ip ci key (value.Ip ip) && by_network (nearness ip) (record { number = 0; key = key; value = [] }) == nearest) && by_network prefix_width (record { number = 0; key = key; value = [] }) == longest;
      found = twice_measured_first (λ (entry : Entry). hits by.Ip ci entry.key (value.Ip ip)) (by_network (nearness ip)) (by_network prefix_width) entries nearest longest;
      hit = λ key h. first_both (hits by.Ip ci key (value.Ip ip)) _ (first_both _ _ h);
    }
first_by method ci v entries = plain_first method ci v entries refl

-- of the entries of one key, the first passes a test of keys first
first_of_key : (test : List ℕ → Bool) (entries : List Entry) (e : Entry) → find (λ entry. test entry.key) entries ≡ Some e → (test e.key ≡ true) × (find (λ entry. bytes_eq entry.key e.key) entries ≡ Some e)
first_of_key test [] e h = cc
first_of_key test (x ∷ xs) e h =
    elim (cases_Bool (test x.key)) [
      | inl passes ↦
          let some : Some x ≡ Some e = rw passes at h in
          let same : x ≡ e = ap (λ o. unwrap_or o x) some in
          let key = (bytes_eq-Decides x.key e.key).1 (ap (λ (entry : Entry). entry.key) same) in
          (subst (λ (entry : Entry). test entry.key ≡ true) same passes, rw key some)
      | inr fails ↦
          let left : find (λ entry. test entry.key) xs ≡ Some e = rw fails at h in
          let rest = first_of_key test xs e left in
          elim (cases_Bool (bytes_eq x.key e.key)) [
            | inl equal ↦
                absurd (false≢true (sym fails ∙ (ap test ((bytes_eq-Decides x.key e.key).0 equal) ∙ rest.0)))
            | inr other ↦ (rest.0, rw other rest.1)
          ]
    ]

pub found_hits : (method : By) (ci : Bool) (entries : List Entry) (v : Value) (e : Entry) → found_entry method ci entries v ≡ Some e → hits method ci e.key v ≡ true
found_hits method ci entries v e is =
    let by_test = first_by method ci v entries in
    by_test.hit e.key (first_of_key by_test.test entries e (sym by_test.found ∙ is)).0

pub found_first : (method : By) (ci : Bool) (entries : List Entry) (v : Value) (e : Entry) → found_entry method ci entries v ≡ Some e → find (λ entry. bytes_eq entry.key e.key) entries ≡ Some e
found_first method ci entries v e is =
    let by_test = first_by method ci v entries in
    (first_of_key by_test.test entries e (sym by_test.found ∙ is)).1

pub none_found : (method : By) (ci : Bool) (entries : List Entry) (v : Value) → found_entry method ci entries v ≡ None → list_any (λ entry. hits method ci entry.key v) entries ≡ false
none_found method ci entries v none =
    none_passes (λ entry. hits method ci entry.key v) entries (none_preferred method ci v (hitting_entries method ci entries v) none)

pub found_none : (method : By) (ci : Bool) (entries : List Entry) (v : Value) → list_any (λ entry. hits method ci entry.key v) entries ≡ false → found_entry method ci entries v ≡ None
found_none method ci entries v none =
    let nothing = none_left_by (λ (entry : Entry). hits method ci entry.key v) entries none in
    ap (λ es. first_item (preferred_entries method ci v es)) nothing ∙ ap first_item (preferred_none method ci v)

-- ---- what goes before the others

find_passes : {A : Type 0} (p : A → Bool) (xs : List A) (x : A) → find p xs ≡ Some x → p x ≡ true
find_passes p [] x is = cc
find_passes p (y ∷ ys) x is =
    elim (cases_Bool (p y)) [
      | inl passes ↦
          let some : Some y ≡ Some x = rw passes at is in
          subst (λ z. p z ≡ true) (ap (λ o. unwrap_or o y) some) passes
      | inr fails ↦ find_passes p ys x (rw fails at is)
    ]

-- of those that pass a test none has a measure above the greatest
bound_filtered : {A : Type 0} (p : A → Bool) (measure : A → ℕ) (xs : List A) (position : ℕ) (x : A) → slice_get xs position ≡ Some x → p x ≡ true → measure x ≤ greatest measure (filter p xs)
bound_filtered p measure [] position x here passes = cc
bound_filtered p measure (y ∷ ys) zero x here passes =
    let same : y ≡ x = ap (λ o. unwrap_or o y) here in
    rw (same, passes) (omega arith)
bound_filtered p measure (y ∷ ys) (suc position) x here passes =
    let rest = bound_filtered p measure ys position x here passes in
    elim (cases_Bool (p y)) [
      | inl first ↦ rw first (omega (arith, rest))
      | inr other ↦ rw other rest
    ]

test_parts : (a b : Bool) → (a && b) ≡ true → (a ≡ true) × (b ≡ true)
test_parts true b is = (refl, is)
test_parts false b is = cc

pub longest_found : (entries : List Entry) (v : Value) (e : Entry) (position : ℕ) (other : Entry) → found_entry by.Beg false entries v ≡ Some e → slice_get entries position ≡ Some other → hits by.Beg false other.key v ≡ true → length other.key ≤ length e.key
longest_found entries v e position other is here hit =
    let p : Entry → Bool = λ entry. hits by.Beg false entry.key v in
    let len : Entry → ℕ = λ entry. length entry.key in
    let most = greatest len (filter p entries) in
    let passes = find_passes (λ x. p x && len x == most) entries e (sym (measured_first p len entries most) ∙ is) in
    let same = (Decides-eqb (len e) most).0 (test_parts (p e) (len e == most) passes).1 in
    let bound = bound_filtered p len entries position other here hit in
    rw same bound

-- the three tests of what is found by the networks that are nearest and longest
ip_parts : (ip : Ip) (ci : Bool) (entries : List Entry) (e : Entry) → found_entry by.Ip ci entries (value.Ip ip) ≡ Some e → (by_network (nearness ip) e ≡ greatest (by_network (nearness ip)) (filter (λ x. hits by.Ip ci x.key (value.Ip ip)) entries)) × (by_network prefix_width e ≡ greatest (by_network prefix_width) (with_greatest (by_network (nearness ip)) (filter (λ x. hits by.Ip ci x.key (value.Ip ip)) entries)))
ip_parts ip ci entries e is =
    let p : Entry → Bool = λ x. hits by.Ip ci x.key (value.Ip ip) in
    let f = by_network (nearness ip) in
    let g = by_network prefix_width in
    let near = greatest f (filter p entries) in
    let long = greatest g (with_greatest f (filter p entries)) in
    let passes = find_passes (λ x. (p x && f x == near) && g x == long) entries e (sym (twice_measured_first p f g entries near long) ∙ is) in
    let outer = test_parts (p e && f e == near) (g e == long) passes in
    ((Decides-eqb (f e) near).0 (test_parts (p e) (f e == near) outer.0).1, (Decides-eqb (g e) long).0 outer.1)

pub nearest_found : (ci : Bool) (ip : Ip) (entries : List Entry) (e : Entry) (position : ℕ) (other : Entry) → found_entry by.Ip ci entries (value.Ip ip) ≡ Some e → slice_get entries position ≡ Some other → hits by.Ip ci other.key (value.Ip ip) ≡ true → by_network (nearness ip) other ≤ by_network (nearness ip) e
nearest_found ci ip entries e position other is here hit =
    rw (ip_parts ip ci entries e is).0
    (bound_filtered (λ (x : Entry). hits by.Ip ci x.key (value.Ip ip)) (by_network (nearness ip)) entries position other here hit)

pub longest_network_found : (ci : Bool) (ip : Ip) (entries : List Entry) (e : Entry) (position : ℕ) (other : Entry) → found_entry by.Ip ci entries (value.Ip ip) ≡ Some e → slice_get entries position ≡ Some other → hits by.Ip ci other.key (value.Ip ip) ≡ true → by_network (nearness ip) other ≡ by_network (nearness ip) e → by_network prefix_width other ≤ by_network prefix_width e
longest_network_found ci ip entries e position other is here hit near =
    let p : Entry → Bool = λ x. hits by.Ip ci x.key (value.Ip ip) in
    let f = by_network (nearness ip) in
    let nearest = greatest f (filter p entries) in
    let parts = ip_parts ip ci entries e is in
    let as_near : (f other == nearest) ≡ true = (Decides-eqb (f other) nearest).1 (near ∙ parts.0) in
    let passes : (p other && f other == nearest) ≡ true = rw hit as_near in
    let bound = bound_filtered (λ x. p x && f x == nearest) (by_network prefix_width) entries position other here passes in
    rw (parts.1, filtered_twice p (λ x. f x == nearest) entries) bound

-- ---- tables without entries

pub nothing_found : (head : ℕ) (v : Value) → found_at empty_heads empty_lists head v ≡ None
nothing_found zero v = refl
nothing_found (suc head) v = refl
