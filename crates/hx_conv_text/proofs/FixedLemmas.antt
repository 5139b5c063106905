-- Matches that are replaced by one text: a replacement without a backslash, and the steps from one
-- match to the next.
use Rattle.std.proofs.Common.{◌≡◌, ℕ, ◌+◌, ◌-◌, ◌<◌, ◌≤◌, ◌==◌, Bool, true, false, List, [], ◌∷◌, ◌++◌, drop, take, length, Option, Some, None, option_map, refl, sym, ap, ◌∙◌, subst, inl, inr, ⊎_elim, arith, append_assoc, slice_range, IsTrue, not, true≢false}
use Rattle.std.proofs.lemmas.Bool.{cases_Bool, cases_lt, eqb-false}
use Rattle.std.proofs.lemmas.Option.{none-some, same_Some}
use Rattle.std.specs.List.{list_any}
use Rattle.std.specs.Option.{option_to_list}
use Rattle.regex.specs.Patterns.{Re, Match, find, find_all, span}
use Rattle.regex.specs.Replace.{replaced_by}
use Rattle.regex.specs.Search.{next_match, matches_after}
use Rattle.regex.proofs.SearchLemmas.{leftmost_within, next_same, next_later, next_within, matches_after_none, matches_after_some, matches_after_bytes}
use Rattle.regex_hir.proofs.OptionLemmas.{option_cases}
use Rattle.hx_conv_text.specs.Substitution.{expansion}
use Rattle.hx_conv_text.proofs.SubstitutionLemmas.{plain}

pub not_true : (b : Bool) → IsTrue (not b) → b ≡ false
not_true true h = absurd cc
not_true false h = refl

-- a replacement without a backslash stands for itself
pub expansion_of_plain : (group : ℕ → List ℕ) (sub : List ℕ) → list_any (λ b. b == 92) sub ≡ false
    → expansion group sub ≡ sub
expansion_of_plain group [] none = refl
expansion_of_plain group (b ∷ rest) none =
    elim (cases_Bool (b == 92)) [
      | inl is ↦ absurd (true≢false (rw is at none))
      | inr other ↦
          plain group b rest (inl (eqb-false b 92 other))
          ∙ ap (λ l. b ∷ l) (expansion_of_plain group rest (rw other at none))
    ]

-- of an option that is mapped: where it is none, and what it maps
none_of_option_map : (found : Option Match) → option_map span found ≡ None → found ≡ None
none_of_option_map None e = refl
none_of_option_map (Some m) e = absurd cc

value_of_option_map : (found : Option Match) (s : ℕ × ℕ) → option_map span found ≡ Some s
    → (m : Match) × (found ≡ Some m) × (span m ≡ s)
value_of_option_map None s e = absurd cc
value_of_option_map (Some m) s e = (m, refl, same_Some _ _ e)

-- how much of the input the next match leaves, a measure of the steps
abbrev pub left_after : List ℕ → Option (ℕ × ℕ) → ℕ
left_after input None = 0
left_after input (Some s) = length input + 1 - s.1

module _ (re : Re) (input : List ℕ) where
  -- past the end there is no match
  pub none_past_end : (after : ℕ) → length input < after → None ≡ option_map span (next_match false re input after)
  none_past_end after past =
      ⊎_elim
      (λ none. sym (ap (option_map span) none))
      (λ (some : (m : Match) × (_ ≡ Some m)).
      absurd (omega (arith, past, next_within re input false after some.0 some.1)))
      (option_cases (next_match false re input after))

  -- where nothing is found from the end of a match on
  pub next_none : (at : ℕ) → None ≡ option_map span (find re input at)
      → None ≡ option_map span (next_match false re input (at + 1))
  next_none at none =
      let back : at + 1 - 1 ≡ at = omega arith in
      let nothing : find re input (at + 1 - 1) ≡ None = ap (find re input) back ∙ none_of_option_map _ (sym none) in
      sym (ap (option_map span) (next_same re input false (at + 1) (λ m is. absurd (none-some m (sym nothing ∙ is))) ∙ nothing))

  -- where an empty match is found there
  pub next_after_empty : (at : ℕ) (s : ℕ × ℕ) (found : Option (ℕ × ℕ)) → Some s ≡ option_map span (find re input at)
      → s.1 ≡ at → found ≡ option_map span (find re input (at + 1))
      → found ≡ option_map span (next_match false re input (at + 1))
  next_after_empty at s found is empty later =
      let back : at + 1 - 1 ≡ at = omega arith in
      let (m, some, same) = value_of_option_map (find re input at) s (sym is) in
      let ends : m.trace.end ≡ s.1 = ap (λ (t : ℕ × ℕ). t.1) same in
      later
      ∙ ap (option_map span) (sym (next_later re input false (at + 1) m
      (ap (find re input) back ∙ some) (omega (arith, ends, empty))))

  -- and where another match is
  pub next_found : (at : ℕ) (s : ℕ × ℕ) → Some s ≡ option_map span (find re input at) → ¬ (s.1 ≡ at)
      → Some s ≡ option_map span (next_match false re input (at + 1))
  next_found at s is more =
      let back : at + 1 - 1 ≡ at = omega arith in
      let (m, some, same) = value_of_option_map (find re input at) s (sym is) in
      let here : find re input (at + 1 - 1) ≡ Some m = ap (find re input) back ∙ some in
      let ends : m.trace.end ≡ s.1 = ap (λ (t : ℕ × ℕ). t.1) same in
      let within = leftmost_within re input false at m some in
      let longer : at + 1 ≤ m.trace.end = omega (arith, within.0, within.1, ends, more) in
      let same_match = next_same re input false (at + 1)
      (λ x f. subst (λ (y : Match). at + 1 ≤ y.trace.end) (same_Some _ _ (sym here ∙ f)) longer) in
      is ∙ ap (option_map span) (sym (same_match ∙ ap (find re input) back))

  -- the next match begins where the last one ended, or later
  next_begins : (after : ℕ) (m : Match) → next_match false re input after ≡ Some m → after - 1 ≤ m.start
  next_begins after m is =
      ⊎_elim
      (λ none. (leftmost_within re input false (after - 1) m
      (sym (next_same re input false after (λ x f. absurd (none-some x (sym none ∙ f)))) ∙ is)).0)
      (λ (some : (x : Match) × (find re input (after - 1) ≡ Some x)). elim (cases_lt some.0.trace.end after) [
        | inl lt ↦ omega (
          arith,
          (leftmost_within re input false after m
              (sym (next_later re input false after some.0 some.1 lt) ∙ is)).0,
        )
        | inr ge ↦ (leftmost_within re input false (after - 1) m
            (sym (next_same re input false after (λ x f.
            subst (λ (y : Match). after ≤ y.trace.end) (same_Some _ _ (sym some.1 ∙ f)) ge)) ∙ is)).0
      ])
      (option_cases (find re input (after - 1)))

  module _ (text : List ℕ) where
    abbrev pub replaced : ℕ → List Match → List ℕ
    replaced = replaced_by (λ _. text) input

    -- the matches before some match are replaced; where the last of them ended, and that match
    pub record IsReplacedTo (last : ℕ) (next : Option (ℕ × ℕ)) (made : List ℕ) : Type 0 where
      pub after : ℕ
      pub at : last ≡ after - 1
      pub within : last ≤ length input
      pub found : next ≡ option_map span (next_match false re input after)
      pub so_far : made ++ replaced last (matches_after false re input after) ≡ replaced 0 (find_all re input)

    pub begun : (s : ℕ × ℕ) → Some s ≡ option_map span (find re input 0) → IsReplacedTo 0 (Some s) []
    unfolding next_match
    begun s is = record {
      after = 0;
      at = refl;
      within = omega arith;
      found = is;
      so_far = ap (replaced_by (λ _. text) input 0) (matches_after_bytes re input);
    }

    replaced_one : (at : ℕ) (m : Match) (matches : List Match)
        → replaced at (m ∷ matches) ≡ (slice_range input at m.start ++ text) ++ replaced m.trace.end matches
    unfolding replaced_by
    replaced_one at m matches = refl

    replaced_none : (at : ℕ) → replaced at [] ≡ drop at input
    unfolding replaced_by
    replaced_none at = refl

    -- where the next match lies
    pub next_lies : (last : ℕ) (s : ℕ × ℕ) (made : List ℕ) → IsReplacedTo last (Some s) made
        → (last ≤ s.0) × (s.1 ≤ length input)
    next_lies last s made is =
        let (m, some, same) = value_of_option_map (next_match false re input is.after) s (sym is.found) in
        let starts : m.start ≡ s.0 = ap (λ (t : ℕ × ℕ). t.0) same in
        let ends : m.trace.end ≡ s.1 = ap (λ (t : ℕ × ℕ). t.1) same in (
          omega (arith, is.at, next_begins is.after m some, starts),
          omega (arith, next_within re input false is.after m some, ends),
        )

    -- it is replaced, and the one after it found
    pub one_more : (last : ℕ) (s : ℕ × ℕ) (made now : List ℕ) (next : Option (ℕ × ℕ))
        → IsReplacedTo last (Some s) made → now ≡ made ++ (slice_range input last s.0 ++ text)
        → next ≡ option_map span (next_match false re input (s.1 + 1)) → IsReplacedTo s.1 next now
    one_more last s made now next is e found =
        let (m, some, same) = value_of_option_map (next_match false re input is.after) s (sym is.found) in
        let piece = slice_range input last m.start ++ text in
        let rest = matches_after false re input (m.trace.end + 1) in
        let whole : made ++ (piece ++ replaced m.trace.end rest) ≡ replaced 0 (find_all re input) =
        ap (λ l. made ++ l) (sym (replaced_one last m rest))
        ∙ ap (λ l. made ++ replaced last l) (sym (matches_after_some re input false is.after m some))
        ∙ is.so_far in
        let here : (made ++ (slice_range input last s.0 ++ text)) ++ replaced s.1 (matches_after false re input (s.1 + 1))
        ≡ (made ++ piece) ++ replaced m.trace.end rest =
        ap (λ (t : ℕ × ℕ). (made ++ (slice_range input last t.0 ++ text)) ++ replaced t.1 (matches_after false re input (t.1 + 1)))
        (sym same) in
        record {
          after = s.1 + 1;
          at = omega arith;
          within = (next_lies last s made is).1;
          found = found;
          so_far = ap (λ l. l ++ replaced s.1 (matches_after false re input (s.1 + 1))) e ∙ here
              ∙ append_assoc made piece (replaced m.trace.end rest) ∙ whole;
        }

    -- no match is left
    pub all_replaced : (last : ℕ) (made : List ℕ) → IsReplacedTo last None made
        → made ++ drop last input ≡ replaced_by (λ _. text) input 0 (find_all re input)
    all_replaced last made is =
        let none = matches_after_none re input false is.after (none_of_option_map _ (sym is.found)) in
        ap (λ l. made ++ l) (sym (ap (replaced last) none ∙ replaced_none last)) ∙ is.so_far

    pub fewer_left : (last : ℕ) (s : ℕ × ℕ) (made : List ℕ) (next : Option (ℕ × ℕ)) → IsReplacedTo last (Some s) made
        → next ≡ option_map span (next_match false re input (s.1 + 1)) → left_after input next < left_after input (Some s)
    fewer_left last s made None is found = omega (arith, (next_lies last s made is).1)
    fewer_left last s made (Some t) is found =
        let (m, some, same) = value_of_option_map (next_match false re input (s.1 + 1)) t (sym found) in
        let ends : m.trace.end ≡ t.1 = ap (λ (u : ℕ × ℕ). u.1) same in
        omega (arith, (next_lies last s made is).1, next_within re input false (s.1 + 1) m some, ends)

    -- the leftmost match alone is replaced
    pub one_replaced : (s : ℕ × ℕ) (found : Option Match) → Some s ≡ option_map span found
        → take s.0 input ++ text ++ drop s.1 input ≡ replaced_by (λ _. text) input 0 (option_to_list found)
    unfolding replaced_by
    one_replaced s None none = absurd cc
    one_replaced s (Some m) is =
        let start : m.start ≡ m.start - 0 = omega arith in
        ap (λ (t : ℕ × ℕ). take t.0 input ++ text ++ drop t.1 input) (same_Some _ _ is)
        ∙ ap (λ n. take n input ++ text ++ drop m.trace.end input) start

    -- without a match nothing is
    pub none_replaced_by : (found : Option Match) → None ≡ option_map span found
        → input ≡ replaced_by (λ _. text) input 0 (option_to_list found)
    unfolding replaced_by
    none_replaced_by None none = refl
    none_replaced_by (Some m) none = absurd cc

    no_match_at_all : find re input 0 ≡ None → find_all re input ≡ []
    unfolding next_match
    no_match_at_all none = sym (matches_after_bytes re input) ∙ matches_after_none re input false 0 none

    pub none_replaced_at_all : None ≡ option_map span (find re input 0)
        → input ≡ replaced_by (λ _. text) input 0 (find_all re input)
    unfolding replaced_by
    none_replaced_at_all none =
        sym (ap (replaced_by (λ _. text) input 0) (no_match_at_all (none_of_option_map _ (sym none))))
