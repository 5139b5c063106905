-- A text of std's grammar that has a dot ends in an IPv4 address, and with `0:0` instead of that
-- address it is one of the grammar too.
use Rattle.std.proofs.Common.{◌≡◌, ℕ, ◌+◌, ◌-◌, ◌<◌, true, false, eqb, List, [], ◌∷◌, ◌++◌, length, replicate, All, refl, sym, ap, ◌∙◌, subst, arith, append_assoc, append-nil, length-append, ◌⊎◌, inl, inr}
use Rattle.std.specs.Prelude.{codes}
use Rattle.std.specs.Char.{digit_value}
use Rattle.std.specs.Str.Parse.{AllDigits}
use Rattle.std.proofs.lemmas.Bool.{ne_eqb}
use Rattle.std.proofs.lemmas.List.{length-replicate}
use Rattle.std.proofs.lemmas.List.Elements.{All-nil, All-cons, All-append}
use Rattle.std.specs.Net.Addr.{segments_of}
use Rattle.std.specs.Net.Grammar.{IsDotted, IsGroup, IsGroupsAfter, IsColonHex}
use Rattle.hx_text.proofs.AddressLemmas.{IsOther}

-- ---- texts without a dot

digits_have_no_dot : (digits : List ℕ) → AllDigits 16 digits → All (IsOther 46) digits
digits_have_no_dot [] h = All-nil (IsOther 46)
digits_have_no_dot (c ∷ digits) h =
    let other : eqb c 46 ≡ false =
    ne_eqb c 46 (λ e. let low : 36 < 16 = subst (λ x. digit_value x < 16) e h.0 in omega arith) in
    All-cons (IsOther 46) c digits other (digits_have_no_dot digits h.1)

colon_is_no_dot : All (IsOther 46) (58 ∷ [])
colon_is_no_dot = All-cons (IsOther 46) 58 [] refl (All-nil (IsOther 46))

-- groups that may not end in an IPv4 address
groups_have_no_dot : (lead text segments : List ℕ) → All (IsOther 46) lead
    → IsGroupsAfter false lead text segments → All (IsOther 46) text
groups_have_no_dot lead text [] plain h =
    subst (All (IsOther 46)) (sym h) (All-nil (IsOther 46))
groups_have_no_dot lead text (s ∷ segments) plain (inl (group, rest, split, is_group, more)) =
    let digits = digits_have_no_dot group is_group.0.0.1 in
    let later = groups_have_no_dot (58 ∷ []) rest segments colon_is_no_dot more in
    subst (All (IsOther 46)) (sym split)
    (All-append (IsOther 46) (lead ++ group) rest (All-append (IsOther 46) lead group plain digits)
    later)
groups_have_no_dot lead text (s ∷ segments) plain (inr h) = let same : false ≡ true = h.2 in cc

-- ---- groups that end in an IPv4 address

abbrev pub EndsInColon : List ℕ → Type 0
EndsInColon text = (c : List ℕ) × (text ≡ c ++ 58 ∷ [])

-- what comes before the IPv4 address: what leads the groups, without a group, or a text up to a
-- colon
abbrev IsBeforeEnd : List ℕ → List ℕ → List ℕ → Type 0
IsBeforeEnd lead before first = ((before ≡ lead) × (first ≡ [])) ⊎ EndsInColon before

record EndsDotted (lead text segments : List ℕ) : Type 0 where
  before : List ℕ
  last : List ℕ
  octets : List ℕ
  first : List ℕ
  is_text : text ≡ before ++ last
  is_before : IsBeforeEnd lead before first
  dotted : IsDotted last octets
  is_segments : segments ≡ first ++ segments_of octets
  groups : IsGroupsAfter true lead (before ++ codes "0:0") (first ++ 0 ∷ 0 ∷ [])

zero_groups : (lead : List ℕ) → IsGroupsAfter true lead (lead ++ codes "0:0") (0 ∷ 0 ∷ [])
zero_groups lead =
    let zero_group : IsGroup (48 ∷ []) 0 = omega arith in
    inl (
      48 ∷ [],
      58 ∷ 48 ∷ [],
      sym (append_assoc lead (48 ∷ []) (58 ∷ 48 ∷ [])),
      zero_group,
      inl (48 ∷ [], [], refl, zero_group, refl),
    )

ends_in_colon : (text before first : List ℕ) → IsBeforeEnd (58 ∷ []) before first
    → EndsInColon (text ++ before)
ends_in_colon text before first (inl h) = (text, ap (λ t. text ++ t) h.0)
ends_in_colon text before first (inr (c, e)) =
    (text ++ c, ap (λ t. text ++ t) e ∙ sym (append_assoc text c (58 ∷ [])))

ends_dotted : (lead text segments : List ℕ) → All (IsOther 46) lead → (All (IsOther 46) text → ⊥)
    → IsGroupsAfter true lead text segments → EndsDotted lead text segments
ends_dotted lead text [] plain dot h =
    absurd (dot (subst (All (IsOther 46)) (sym h) (All-nil (IsOther 46))))
ends_dotted lead text (s ∷ segments) plain dot (inl (group, rest, split, is_group, more)) =
    let digits = digits_have_no_dot group is_group.0.0.1 in
    let rest_dot : All (IsOther 46) rest → ⊥ = λ none. dot (subst (All (IsOther 46)) (sym split)
    (All-append (IsOther 46) (lead ++ group) rest (All-append (IsOther 46) lead group plain digits)
    none)) in
    let later = ends_dotted (58 ∷ []) rest segments colon_is_no_dot rest_dot more in
    record {
      before = (lead ++ group) ++ later.before;
      last = later.last;
      octets = later.octets;
      first = s ∷ later.first;
      is_text =
          split ∙ ap (λ t. (lead ++ group) ++ t) later.is_text
          ∙ sym (append_assoc (lead ++ group) later.before later.last);
      is_before = inr (ends_in_colon (lead ++ group) later.before later.first later.is_before);
      dotted = later.dotted;
      is_segments = ap (λ t. s ∷ t) later.is_segments;
      groups = inl (
        group,
        later.before ++ codes "0:0",
        append_assoc (lead ++ group) later.before (codes "0:0"),
        is_group,
        later.groups,
      );
    }
ends_dotted lead text (s ∷ segments) plain dot (inr (last, octets, allowed, split, dotted, value)) =
    record {
      before = lead;
      last = last;
      octets = octets;
      first = [];
      is_text = split;
      is_before = inl (refl, refl);
      dotted = dotted;
      is_segments = value;
      groups = zero_groups lead;
    }

-- ---- whole texts

pub record EndsInDotted (text segments : List ℕ) : Type 0 where
  pub before : List ℕ
  pub last : List ℕ
  pub octets : List ℕ
  pub first : List ℕ
  pub is_text : text ≡ before ++ last
  pub is_before : EndsInColon before
  pub dotted : IsDotted last octets
  pub is_segments : segments ≡ first ++ segments_of octets
  pub six : length first ≡ 6
  pub plain : IsColonHex (before ++ codes "0:0") (first ++ 0 ∷ 0 ∷ [])

length-octets : (text octets : List ℕ) → IsDotted text octets → length (segments_of octets) ≡ 2
length-octets text octets h = ap (λ o. length (segments_of o)) h.value

not_alone : (before first : List ℕ) → length first ≡ 6 → IsBeforeEnd [] before first
    → EndsInColon before
not_alone before first six (inl h) = absurd (omega (arith, six, ap length h.1))
not_alone before first six (inr h) = h

after_gap : (head before first : List ℕ) → IsBeforeEnd [] before first
    → EndsInColon ((head ++ 58 ∷ 58 ∷ []) ++ before)
after_gap head before first (inl h) = (
  head ++ 58 ∷ [],
  ap (λ t. (head ++ 58 ∷ 58 ∷ []) ++ t) h.0 ∙ append-nil (head ++ 58 ∷ 58 ∷ [])
      ∙ sym (append_assoc head (58 ∷ []) (58 ∷ [])),
)
after_gap head before first (inr (c, e)) = (
  (head ++ 58 ∷ 58 ∷ []) ++ c,
  ap (λ t. (head ++ 58 ∷ 58 ∷ []) ++ t) e
      ∙ sym (append_assoc (head ++ 58 ∷ 58 ∷ []) c (58 ∷ [])),
)

pub ends_in_dotted : (text segments : List ℕ) → (All (IsOther 46) text → ⊥)
    → IsColonHex text segments
    → EndsInDotted text segments
ends_in_dotted text segments dot (inl (groups, eight)) =
    let none = All-nil (IsOther 46) in
    let e = ends_dotted [] text segments none dot groups in
    let two = length-octets e.last e.octets e.dotted in
    let all : length segments ≡ length e.first + length (segments_of e.octets) =
    ap length e.is_segments ∙ length-append e.first (segments_of e.octets) in
    let six : length e.first ≡ 6 = omega (arith, all, two, eight) in
    record {
      before = e.before;
      last = e.last;
      octets = e.octets;
      first = e.first;
      is_text = e.is_text;
      is_before = not_alone e.before e.first six e.is_before;
      dotted = e.dotted;
      is_segments = e.is_segments;
      six = six;
      plain = inl (e.groups, omega (arith, length-append e.first (0 ∷ 0 ∷ []), six));
    }
ends_in_dotted text segments dot (inr h) =
    let none = All-nil (IsOther 46) in
    let gap : All (IsOther 46) (58 ∷ 58 ∷ []) =
    All-cons (IsOther 46) 58 (58 ∷ []) refl colon_is_no_dot in
    let head_plain = groups_have_no_dot [] h.head_text h.head none h.head_groups in
    let tail_dot : All (IsOther 46) h.tail_text → ⊥ =
    λ plain. dot (subst (All (IsOther 46)) (sym h.spelled)
    (All-append (IsOther 46) (h.head_text ++ 58 ∷ 58 ∷ []) h.tail_text
    (All-append (IsOther 46) h.head_text (58 ∷ 58 ∷ []) head_plain gap) plain)) in
    let e = ends_dotted [] h.tail_text h.tail none tail_dot h.tail_groups in
    let two = length-octets e.last e.octets e.dotted in
    let all : length h.tail ≡ length e.first + length (segments_of e.octets) =
    ap length e.is_segments ∙ length-append e.first (segments_of e.octets) in
    let more = length-append e.first (0 ∷ 0 ∷ []) in
    let same : length h.tail ≡ length (e.first ++ 0 ∷ 0 ∷ []) = omega (arith, all, two, more) in
    let zeros : List ℕ = replicate (8 - length h.head - length h.tail) 0 in
    let count : length zeros ≡ 8 - length h.head - length h.tail = length-replicate _ 0 in
    let parts = length-append h.head zeros in
    let whole = length-append (h.head ++ zeros) e.first in
    record {
      before = (h.head_text ++ 58 ∷ 58 ∷ []) ++ e.before;
      last = e.last;
      octets = e.octets;
      first = (h.head ++ zeros) ++ e.first;
      is_text =
          h.spelled ∙ ap (λ t. (h.head_text ++ 58 ∷ 58 ∷ []) ++ t) e.is_text
          ∙ sym (append_assoc (h.head_text ++ 58 ∷ 58 ∷ []) e.before e.last);
      is_before = after_gap h.head_text e.before e.first e.is_before;
      dotted = e.dotted;
      is_segments =
          h.value ∙ ap (λ t. (h.head ++ zeros) ++ t) e.is_segments
          ∙ sym (append_assoc (h.head ++ zeros) e.first (segments_of e.octets));
      six = omega (arith, whole, parts, count, all, two, h.room);
      plain = inr (record {
        head_text = h.head_text;
        tail_text = e.before ++ codes "0:0";
        head = h.head;
        tail = e.first ++ 0 ∷ 0 ∷ [];
        spelled = append_assoc (h.head_text ++ 58 ∷ 58 ∷ []) e.before (codes "0:0");
        head_groups = h.head_groups;
        tail_groups = e.groups;
        room = omega (arith, same, h.room);
        value =
            append_assoc (h.head ++ zeros) e.first (0 ∷ 0 ∷ [])
            ∙ ap (λ n. (h.head ++ replicate (8 - length h.head - n) 0) ++ (e.first ++ 0 ∷ 0 ∷ []))
            same;
      });
    }
