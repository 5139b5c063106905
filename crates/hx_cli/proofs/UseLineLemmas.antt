-- The uses of references, and the lines that tell what they find.
use Rattle.std.proofs.Common.{◌≡◌, ℕ, zero, suc, ◌+◌, ◌<◌, ◌≤◌, ◌==◌, Bool, List, [], ◌∷◌, length, drop, map, refl, sym, ap, ◌∙◌, arith, inl, inr}
use Rattle.std.specs.Prelude.{option_map, slice_get, Option, None, Some, IfSome, ⊤}
use Rattle.std.specs.List.{filter}
use Rattle.std.proofs.lemmas.Bool.{cases_Bool}
use Rattle.std.proofs.lemmas.Option.{slice_get_within}
use Rattle.hx_text.specs.declared.kinds.By.{By}
use Rattle.hx_sample.specs.Find.{first_item, Entry}
use Rattle.hx_sample.specs.Tables.{TableHead}
use Rattle.hx_refs.specs.References.{References}
use Rattle.hx_text.specs.Methods.{pattern_methods}
use Rattle.hx_refs.specs.Uses.{use_parts, use_with, uses_by, uses_from, uses_in_order, uses_of, with_cases, with_first, Use}
use Rattle.hx_cli.specs.Effects.{found_for, told_uses}
use Rattle.hx_cli.specs.Replies.{use_text, ReplyParts}
use Rattle.hx_cli.proofs.ReplyLemmas.{with_line_first, with_lines, with_no_lines}

-- ---- each use has a head

pub record HasHead (heads : List TableHead) (u : Use) : Type 0 where
  pub head : TableHead
  pub is : slice_get heads u.head ≡ Some head
  pub by : head.by ≡ u.by

abbrev Each : (Use → Type 0) → List Use → Type 0
Each P [] = ⊤
Each P (u ∷ uses) = P u × Each P uses

each_at : (P : Use → Type 0) (uses : List Use) (k : ℕ) (u : Use) → Each P uses → slice_get uses k ≡ Some u → P u
each_at P [] k u all is = absurd (cc)
each_at P (v ∷ uses) zero u all is =
    let same : v ≡ u = cc in rw same at all.0
each_at P (v ∷ uses) (suc k) u all is = each_at P uses k u all.1 is

first_chosen : (P : Use → Type 0) (test : Use → Bool) (uses : List Use) (u : Use) → Each P uses
    → first_item (filter test uses) ≡ Some u → P u
first_chosen P test [] u all is = absurd (cc)
first_chosen P test (v ∷ uses) u all is = elim (cases_Bool (test v)) [
  | inl this ↦
      let found : Some v ≡ Some u = rw this at is in
      let same : v ≡ u = cc in rw same at all.0
  | inr passed ↦ first_chosen P test uses u all.1 (rw passed at is)
]

each_first : (P : Use → Type 0) (found : Option Use) (uses : List Use) → ((u : Use) → found ≡ Some u → P u) → Each P uses
    → Each P (with_first found uses)
each_first P None uses first all = all
each_first P (Some u) uses first all = (first u refl, all)

each_by : (P : Use → Type 0) (ways : List (By × Bool)) (uses : List Use) → Each P uses → Each P (uses_by ways uses)
each_by P [] uses all = tt
each_by P (way ∷ ways) uses all =
    each_first P (use_with way.0 way.1 uses) (uses_by ways uses)
    (λ u is. first_chosen P _ uses u all is) (each_by P ways uses all)

-- heads from a number on
each_from : (heads rest : List TableHead) (number r : ℕ)
    → ((i : ℕ) → slice_get rest i ≡ slice_get heads (number + i))
    → Each (HasHead heads) (uses_from number rest r)
each_from heads [] number r same = tt
each_from heads (h ∷ rest) number r same =
    let more : (i : ℕ) → slice_get rest i ≡ slice_get heads (number + 1 + i) =
    λ i. let place : number + suc i ≡ number + 1 + i = omega arith in rw place at (same (suc i)) in
    let others = each_from heads rest (number + 1) r more in
    let here : slice_get heads number ≡ Some h =
    let place : number + 0 ≡ number = omega arith in sym (rw place at (same 0)) in
    elim (cases_Bool (h.list == r)) [
      | inl this ↦ rw this (record { head = h; is = here; by = refl }, others)
      | inr other ↦ rw other others
    ]

-- ---- the uses in their order

-- the definition by all methods, which is long, isn't seen through this
pub ordered_uses : References → ℕ → List Use
ordered_uses refs r = uses_in_order (uses_of refs.heads r)

pub ordered_is : (refs : References) (r : ℕ) → ordered_uses refs r ≡ uses_in_order (uses_of refs.heads r)
unfolding ordered_uses
ordered_is refs r = refl

ordered_heads : (refs : References) (r : ℕ) → Each (HasHead refs.heads) (ordered_uses refs r)
unfolding ordered_uses
ordered_heads refs r =
    each_by (HasHead refs.heads) (with_cases pattern_methods) (uses_of refs.heads r)
    (each_from refs.heads refs.heads 0 r (λ i. let place : 0 + i ≡ i = omega arith in rw place refl))

few_first : (found : Option Use) (uses : List Use) (n : ℕ) → length uses ≤ n → length (with_first found uses) ≤ suc n
few_first None uses n few = omega arith
few_first (Some u) uses n few = omega arith

few_by : (ways : List (By × Bool)) (uses : List Use) → length (uses_by ways uses) ≤ length ways
few_by [] uses = omega arith
few_by (way ∷ ways) uses = few_first (use_with way.0 way.1 uses) (uses_by ways uses) (length ways) (few_by ways uses)

pub few_ordered : (refs : References) (r : ℕ) → length (ordered_uses refs r) ≤ 22
unfolding ordered_uses
few_ordered refs r = few_by (with_cases pattern_methods) (uses_of refs.heads r)

-- ---- the use at a place

abbrev parts : By → Bool → ℕ → By × Bool × ℕ
parts method ci head = (method, ci, head)

pub record IsUseAt (refs : References) (r k : ℕ) (method : By) (ci : Bool) (head : ℕ) : Type 0 where
  pub u : Use
  pub at : slice_get (ordered_uses refs r) k ≡ Some u
  pub by : u.by ≡ method
  pub ci_is : u.ci ≡ ci
  pub head_is : u.head ≡ head

pub use_here : (refs : References) (r k : ℕ) (method : By) (ci : Bool) (head : ℕ)
    → Some (parts method ci head) ≡ option_map use_parts (slice_get (uses_in_order (uses_of refs.heads r)) k)
    → IsUseAt refs r k method ci head
use_here refs r k method ci head is = go (slice_get (ordered_uses refs r) k) refl (rw (← ordered_is refs r) at is)
  where
    go : (found : Option Use) → slice_get (ordered_uses refs r) k ≡ found
        → Some (parts method ci head) ≡ option_map use_parts found → IsUseAt refs r k method ci head
    go None at said = absurd (cc)
    go (Some u) at said =
        let same : parts method ci head ≡ use_parts u = cc in
        record {
          u = u;
          at = at;
          by = sym (ap (λ p. p.0) same);
          ci_is = sym (ap (λ p. p.1) same);
          head_is = sym (ap (λ p. p.2) same);
        }

pub no_use : (refs : References) (r k : ℕ)
    → None ≡ option_map use_parts (slice_get (uses_in_order (uses_of refs.heads r)) k)
    → slice_get (ordered_uses refs r) k ≡ None
no_use refs r k is = go (slice_get (ordered_uses refs r) k) (rw (← ordered_is refs r) at is)
  where
    go : (found : Option Use) → None ≡ option_map use_parts found → found ≡ None
    go None said = refl
    go (Some u) said = absurd (cc)

known_head : (heads : List TableHead) (number head : ℕ) (method : By) (h : TableHead) → slice_get heads number ≡ Some h
    → h.by ≡ method → number ≡ head → (head < length heads) × IfSome (slice_get heads head) (λ h. h.by ≡ method)
known_head heads number head method h is by same =
    let here : slice_get heads head ≡ Some h = rw same at is in
    (slice_get_within heads head h here, rw here by)

-- no use stands after the last
pub use_within : {refs : References} {r k : ℕ} {method : By} {ci : Bool} {head : ℕ} → IsUseAt refs r k method ci head
    → k < length (ordered_uses refs r)
use_within {refs = refs} {r = r} {k = k} here = slice_get_within (ordered_uses refs r) k here.u here.at

-- its head
pub use_head : {refs : References} {r k : ℕ} {method : By} {ci : Bool} {head : ℕ} → IsUseAt refs r k method ci head
    → (head < length refs.heads) × IfSome (slice_get refs.heads head) (λ h. h.by ≡ method)
use_head {refs = refs} {r = r} {k = k} {method = method} {head = head} here =
    let known = each_at (HasHead refs.heads) (ordered_uses refs r) k here.u (ordered_heads refs r) here.at in
    known_head refs.heads here.u.head head method known.head known.is (known.by ∙ here.by) here.head_is

-- ---- the lines

abbrev pub use_line : Bool → References → List ℕ → Use → List ℕ
use_line is_map refs text u = use_text is_map u.by u.ci (found_for refs text u.by u.head)

-- with the lines of the uses from a place on it is the reply
pub record Tells (is_map : Bool) (refs : References) (r : ℕ) (text : List ℕ) (reply : ReplyParts) (k : ℕ) : Type 0 where
  pub reply_is :
      with_lines reply (map (use_line is_map refs text) (drop k (ordered_uses refs r)))
      ≡ record { code = 0; lines = told_uses is_map refs r text }
  pub within : k ≤ length (ordered_uses refs r)

pub tells_none : (is_map : Bool) (refs : References) (r : ℕ) (text : List ℕ) (reply : ReplyParts) → reply ≡ record { code = 0; lines = [] }
    → Tells is_map refs r text reply 0
unfolding told_uses ordered_uses
tells_none is_map refs r text reply empty = record { reply_is = rw empty refl; within = omega arith }

split_at : {A : Type 0} (xs : List A) (k : ℕ) (x : A) → slice_get xs k ≡ Some x
    → (drop k xs ≡ x ∷ drop (k + 1) xs) × (k + 1 ≤ length xs)
split_at [] k x is = absurd (cc)
split_at (y ∷ xs) zero x is =
    let same : y ≡ x = cc in (rw same refl, omega arith)
split_at (y ∷ xs) (suc k) x is =
    let rest = split_at xs k x is in
    let next : suc k + 1 ≡ suc (k + 1) = omega arith in (rw next rest.0, omega (arith, rest.1))

line_here : (is_map : Bool) (refs : References) (text : List ℕ) (u : Use) (method : By) (ci : Bool) (head : ℕ) (line : List ℕ) (found : Option Entry)
    → u.by ≡ method → u.ci ≡ ci → u.head ≡ head → line ≡ use_text is_map method ci found → found ≡ found_for refs text method head
    → line ≡ use_line is_map refs text u
line_here is_map refs text u method ci head line found by ci_is head_is is finds =
    is ∙ ap (use_text is_map method ci) finds
    ∙ ap (λ (m : By). use_text is_map m ci (found_for refs text m head)) (sym by)
    ∙ ap (λ (b : Bool). use_text is_map u.by b (found_for refs text u.by head)) (sym ci_is)
    ∙ ap (λ (h : ℕ). use_text is_map u.by u.ci (found_for refs text u.by h)) (sym head_is)

pub tells_more : {is_map : Bool} {refs : References} {r : ℕ} {text : List ℕ} {reply : ReplyParts} {k : ℕ}
    {method : By} {ci : Bool} {head : ℕ} (line : List ℕ) (found : Option Entry)
    → Tells is_map refs r text reply k → IsUseAt refs r k method ci head
    → line ≡ use_text is_map method ci found → found ≡ found_for refs text method head
    → Tells is_map refs r text (with_lines reply (line ∷ [])) (k + 1)
tells_more {is_map = is_map} {refs = refs} {r = r} {text = text} {reply = reply} {k = k} {method = method} {ci = ci} {head = head} line found tells here is finds =
    let cut = split_at (ordered_uses refs r) k here.u here.at in
    let rest = map (use_line is_map refs text) (drop (k + 1) (ordered_uses refs r)) in
    let same : line ≡ use_line is_map refs text here.u =
    line_here is_map refs text here.u method ci head line found here.by here.ci_is here.head_is is finds in
    record {
      reply_is =
          with_line_first reply line rest
          ∙ ap (λ (t : List ℕ). with_lines reply (t ∷ rest)) same
          ∙ ap (λ (uses : List Use). with_lines reply (map (use_line is_map refs text) uses)) (sym cut.0)
          ∙ tells.reply_is;
      within = cut.1;
    }

none_from : {A : Type 0} (xs : List A) (k : ℕ) → slice_get xs k ≡ None → drop k xs ≡ []
none_from [] zero none = refl
none_from [] (suc k) none = refl
none_from (x ∷ xs) zero none = absurd (cc)
none_from (x ∷ xs) (suc k) none = none_from xs k none

pub tells_all : {is_map : Bool} {refs : References} {r : ℕ} {text : List ℕ} {reply : ReplyParts} {k : ℕ}
    → Tells is_map refs r text reply k → slice_get (ordered_uses refs r) k ≡ None
    → reply ≡ record { code = 0; lines = told_uses is_map refs r text }
tells_all {is_map = is_map} {refs = refs} {r = r} {text = text} {reply = reply} {k = k} tells none =
    sym (with_no_lines reply)
    ∙ ap (λ (uses : List Use). with_lines reply (map (use_line is_map refs text) uses)) (sym (none_from (ordered_uses refs r) k none))
    ∙ tells.reply_is
