-- The steps from one match to the next, where each is replaced by what a replacement stands for
-- there.
use Rattle.std.proofs.Common.{◌≡◌, ℕ, ◌+◌, ◌-◌, ◌<◌, ◌≤◌, false, List, [], ◌∷◌, ◌++◌, drop, length, Option, Some, None, option_map, refl, sym, ap, ap₂, ◌∙◌, subst, ⊎_elim, arith, append-nil, append_assoc, slice_range}
use Rattle.std.proofs.lemmas.Bool.{le-leb, lt-leb}
use Rattle.std.proofs.lemmas.Option.{none-some, same_Some}
use Rattle.std.specs.Option.{option_to_list}
use Rattle.regex.specs.Patterns.{Re, Match, find, find_all, span}
use Rattle.regex.specs.Replace.{replaced_by}
use Rattle.regex.specs.Search.{next_match, matches_after}
use Rattle.regex.proofs.SearchLemmas.{leftmost_within, next_same, next_later, next_within, matches_after_none, matches_after_some, matches_after_bytes}
use Rattle.regex_hir.proofs.OptionLemmas.{option_cases}
use Rattle.hx_conv_text.specs.Substitution.{expansion_at}
use Rattle.hx_conv_text.specs.Writing.{end_of, written_at}

-- of an option that is mapped: where it is none, and what it maps
none_of_end : (found : Option Match) → option_map end_of found ≡ None → found ≡ None
none_of_end None e = refl
none_of_end (Some m) e = absurd cc

some_of_end : (found : Option Match) (end : ℕ) → option_map end_of found ≡ Some end
    → (m : Match) × (found ≡ Some m) × (m.trace.end ≡ end)
some_of_end None end e = absurd cc
some_of_end (Some m) end e = (m, refl, same_Some _ _ e)

-- where the match ends that was found
pub end_found : (s : ℕ × ℕ) (m : Match) (found : Option Match) (end : ℕ) → end ≡ s.1 → s ≡ span m → found ≡ Some m
    → Some end ≡ option_map end_of found
end_found s m found end e is f = ap Some (e ∙ ap (λ (t : ℕ × ℕ). t.1) is) ∙ ap (option_map end_of) (sym f)

module _ (sub input : List ℕ) where
  -- what is written for an empty match right where the last one ended, and for another
  pub writes_nothing : (after : ℕ) (m : Match) → m.trace.end < after → written_at sub input after (Some m) ≡ []
  writes_nothing after m less = rw (lt-leb after m.trace.end less) refl

  pub writes : (after : ℕ) (m : Match) → after ≤ m.trace.end
      → written_at sub input after (Some m) ≡ slice_range input (after - 1) m.start ++ expansion_at sub input m
  writes after m more = rw (le-leb after m.trace.end more) refl

  pub skipped : (after : ℕ) (m : Match) (found : Option Match) (made : List ℕ) → m.trace.end < after → found ≡ Some m
      → made ≡ made ++ written_at sub input after found
  skipped after m found made less f =
      sym (append-nil made)
      ∙ ap (λ l. made ++ l) (sym (ap (written_at sub input after) f ∙ writes_nothing after m less))

  module _ (re : Re) where
    -- what is found begins where the last match ended, or later
    pub begins_later : (after from last start : ℕ) (s : ℕ × ℕ) (m : Match) → after - 1 ≤ from → last ≡ after - 1
        → start ≡ s.0 → s ≡ span m → find re input from ≡ Some m → last ≤ start
    begins_later after from last start s m low e f is found =
        let starts : s.0 ≡ m.start = ap (λ (t : ℕ × ℕ). t.0) is in
        omega (arith, low, e, f, starts, (leftmost_within re input false from m found).0)

    pub ends_within : (from end : ℕ) → Some end ≡ option_map end_of (find re input from) → end ≤ length input
    ends_within from end found =
        let (m, some, ends) = some_of_end (find re input from) end (sym found) in
        omega (arith, ends, (leftmost_within re input false from m some).2)

    -- past the end there is no match
    pub none_after_end : (after : ℕ) → length input < after → next_match false re input after ≡ None
    none_after_end after past =
        ⊎_elim
        (λ none. none)
        (λ (some : (m : Match) × (_ ≡ Some m)).
        absurd (omega (arith, past, next_within re input false after some.0 some.1)))
        (option_cases (next_match false re input after))

    -- nothing is found from where the last match ended on
    pub none_next : (after : ℕ) → None ≡ option_map end_of (find re input (after - 1))
        → next_match false re input after ≡ None
    none_next after none =
        let nothing : find re input (after - 1) ≡ None = none_of_end _ (sym none) in
        next_same re input false after (λ m is. absurd (none-some m (sym nothing ∙ is))) ∙ nothing

    pub none_writes : (after : ℕ) → None ≡ option_map end_of (find re input (after - 1))
        → written_at sub input after (find re input (after - 1))
        ≡ written_at sub input after (next_match false re input after)
    none_writes after none =
        ap (written_at sub input after) (none_of_end _ (sym none) ∙ sym (none_next after none))

    -- the match that is found there is the next, unless it is an empty one
    pub found_next : (after end : ℕ) → Some end ≡ option_map end_of (find re input (after - 1)) → after ≤ end
        → next_match false re input after ≡ find re input (after - 1)
    found_next after end found more =
        let (m, some, ends) = some_of_end (find re input (after - 1)) end (sym found) in
        let long : after ≤ m.trace.end = omega (arith, ends, more) in
        next_same re input false after
        (λ x f. subst (λ (y : Match). after ≤ y.trace.end) (same_Some _ _ (sym some ∙ f)) long)

    pub empty_next : (after end : ℕ) → Some end ≡ option_map end_of (find re input (after - 1)) → end < after
        → next_match false re input after ≡ find re input after
    empty_next after end found less =
        let (m, some, ends) = some_of_end (find re input (after - 1)) end (sym found) in
        next_later re input false after m some (omega (arith, ends, less))

    pub empty_writes : (after end : ℕ) → Some end ≡ option_map end_of (find re input (after - 1)) → end < after
        → written_at sub input after (find re input (after - 1)) ≡ []
    empty_writes after end found less =
        let (m, some, ends) = some_of_end (find re input (after - 1)) end (sym found) in
        ap (written_at sub input after) some ∙ writes_nothing after m (omega (arith, ends, less))

    -- the matches that end before a position are replaced
    pub record IsWrittenTo (after : ℕ) (made : List ℕ) : Type 0 where
      pub within : after ≤ length input + 1
      pub so_far : made ++ replaced_by (expansion_at sub input) input (after - 1) (matches_after false re input after)
          ≡ replaced_by (expansion_at sub input) input 0 (find_all re input)

    pub nothing_written : IsWrittenTo 0 []
    nothing_written = record {
      within = omega arith;
      so_far = ap (replaced_by (expansion_at sub input) input 0) (matches_after_bytes re input);
    }

    replaced_one : (at : ℕ) (m : Match) (matches : List Match)
        → replaced_by (expansion_at sub input) input at (m ∷ matches)
        ≡ (slice_range input at m.start ++ expansion_at sub input m)
        ++ replaced_by (expansion_at sub input) input m.trace.end matches
    unfolding replaced_by
    replaced_one at m matches = refl

    replaced_none : (at : ℕ) → replaced_by (expansion_at sub input) input at [] ≡ drop at input
    unfolding replaced_by
    replaced_none at = refl

    -- the next one is, too
    pub one_written : (after end : ℕ) (made now : List ℕ) → IsWrittenTo after made
        → Some end ≡ option_map end_of (next_match false re input after)
        → now ≡ made ++ written_at sub input after (next_match false re input after) → IsWrittenTo (end + 1) now
    one_written after end made now is found e =
        let (m, some, ends) = some_of_end (next_match false re input after) end (sym found) in
        let lies = next_within re input false after m some in
        let back : end + 1 - 1 ≡ end = omega arith in
        let piece = slice_range input (after - 1) m.start ++ expansion_at sub input m in
        let rest = replaced_by (expansion_at sub input) input m.trace.end (matches_after false re input (m.trace.end + 1)) in
        let put : now ≡ made ++ piece =
        e ∙ ap (λ l. made ++ l) (ap (written_at sub input after) some ∙ writes after m lies.0) in
        let whole : made ++ (piece ++ rest) ≡ replaced_by (expansion_at sub input) input 0 (find_all re input) =
        ap (λ l. made ++ l) (sym (replaced_one (after - 1) m (matches_after false re input (m.trace.end + 1))))
        ∙ ap (λ l. made ++ replaced_by (expansion_at sub input) input (after - 1) l)
        (sym (matches_after_some re input false after m some))
        ∙ is.so_far in
        record {
          within = omega (arith, lies.1, ends);
          so_far = ap₂ (λ l k. l ++ replaced_by (expansion_at sub input) input k (matches_after false re input (end + 1))) put back
              ∙ ap (λ k. (made ++ piece) ++ replaced_by (expansion_at sub input) input k (matches_after false re input (k + 1))) (sym ends)
              ∙ append_assoc made piece rest ∙ whole;
        }

    -- where the next match ends
    pub ends_later : (after end : ℕ) → Some end ≡ option_map end_of (next_match false re input after)
        → (after ≤ end) × (end ≤ length input)
    ends_later after end found =
        let (m, some, ends) = some_of_end (next_match false re input after) end (sym found) in
        let lies = next_within re input false after m some in
        (omega (arith, lies.0, ends), omega (arith, lies.1, ends))

    -- no match is left
    pub all_written : (after : ℕ) (made : List ℕ) → IsWrittenTo after made
        → None ≡ option_map end_of (next_match false re input after)
        → made ++ drop (after - 1) input ≡ replaced_by (expansion_at sub input) input 0 (find_all re input)
    all_written after made is none =
        let left = matches_after_none re input false after (none_of_end _ (sym none)) in
        ap (λ l. made ++ l)
        (sym (ap (replaced_by (expansion_at sub input) input (after - 1)) left ∙ replaced_none (after - 1)))
        ∙ is.so_far

    pub last_written : (after : ℕ) (made now : List ℕ) → IsWrittenTo after made
        → None ≡ option_map end_of (next_match false re input after)
        → now ≡ made ++ written_at sub input after (next_match false re input after)
        → now ++ drop (after - 1) input ≡ replaced_by (expansion_at sub input) input 0 (find_all re input)
    last_written after made now is none e =
        let kept : now ≡ made =
        e ∙ ap (λ o. made ++ written_at sub input after o) (none_of_end _ (sym none)) ∙ append-nil made in
        ap (λ l. l ++ drop (after - 1) input) kept ∙ all_written after made is none

    -- there was none
    pub none_at_all : None ≡ option_map end_of (next_match false re input 0)
        → input ≡ replaced_by (expansion_at sub input) input 0 (find_all re input)
    none_at_all none = all_written 0 [] nothing_written none

  -- the leftmost match alone
  pub first_written : (end : ℕ) (found : Option Match) (made now : List ℕ) → Some end ≡ option_map end_of found
      → made ≡ [] ++ written_at sub input 0 found → now ≡ made ++ drop end input
      → now ≡ replaced_by (expansion_at sub input) input 0 (option_to_list found)
  unfolding replaced_by
  first_written end None made now none e f = absurd cc
  first_written end (Some m) made now is e f =
      f ∙ ap₂ (λ l k. l ++ drop k input) (e ∙ writes 0 m (omega arith)) (same_Some _ _ is)

  pub none_first : (found : Option Match) → None ≡ option_map end_of found
      → input ≡ replaced_by (expansion_at sub input) input 0 (option_to_list found)
  unfolding replaced_by
  none_first None none = refl
  none_first (Some m) none = absurd cc
