-- What replaces the matches of an expression, and that expressions which match the same are
-- replaced the same.
use Rattle.std.proofs.Common.{◌≡◌, ℕ, zero, suc, ◌+◌, ◌*◌, ◌<◌, ◌≤◌, ◌==◌, ◌⊎◌, Bool, true, false, List, [], ◌∷◌, ◌++◌, map, get_or, drop, length, Option, Some, None, option_map, refl, sym, ap, ap₂, ◌∙◌, inl, inr, arith, append_assoc, slice_range, if◌then◌else◌}
use Rattle.std.proofs.lemmas.Bool.{ne_eqb}
use Rattle.std.proofs.lemmas.List.{drop_more, get_or_default}
use Rattle.std.proofs.lemmas.Option.{same_Some}
use mathlib.Core.Path.{fun_ext}
use Rattle.regex.specs.Bytes.{IsCapturesOf, captures_span}
use Rattle.regex.specs.Patterns.{Re, Match, SameCaptures, find, find_all, span}
use Rattle.regex.specs.Replace.{bytes_of, group_bytes, replaced_by}
use Rattle.regex.specs.Search.{group_span}
use Rattle.regex.specs.Writes.{both}
use Rattle.regex.specs.declared.bytes.captures.Captures.{Captures}
use Rattle.regex.proofs.ForCallers.{find_all_alike, spans}
use Rattle.regex_syntax.proofs.CapturesLemmas.{find_alike}
use Rattle.std.specs.Option.{option_to_list}
use Rattle.hx_outside.specs.Expressions.{expression}
use Rattle.hx_outside.specs.Makers.{ExpressionText}
use Rattle.hx_regex.specs.Searches.{IsPatternOf}
use Rattle.hx_conv_text.specs.Captured.{captured}
use Rattle.hx_conv_text.specs.Substitution.{expanded_of, expansion, expansion_at, substituted_text}

pub plain : (group : ℕ → List ℕ) (b : ℕ) (rest : List ℕ) → (b ≡ 92 → ⊥) ⊎ (rest ≡ [])
    → expansion group (b ∷ rest) ≡ b ∷ expansion group rest
plain group b [] h = refl
plain group b (next ∷ rest) (inl other) = rw (ne_eqb b 92 other) refl
plain group b (next ∷ rest) (inr none) = absurd cc

pub plain_step : (group : ℕ → List ℕ) (sub : List ℕ) (at : ℕ) (made now whole : List ℕ) → at < length sub
    → (get_or sub at 0 ≡ 92 → ⊥) ⊎ (drop (at + 1) sub ≡ []) → now ≡ made ++ get_or sub at 0 ∷ []
    → made ++ expansion group (drop at sub) ≡ whole
    → now ++ expansion group (drop (at + 1) sub) ≡ whole
plain_step group sub at made now whole h other e so_far =
    let b = get_or sub at 0 in
    let rest = drop (at + 1) sub in
    ap (λ l. l ++ expansion group rest) e
    ∙ append_assoc made (b ∷ []) (expansion group rest)
    ∙ ap (λ l. made ++ l) (sym (plain group b rest other))
    ∙ ap (λ l. made ++ expansion group l) (sym (drop_more sub at 0 h))
    ∙ so_far

group_zero : (input : List ℕ) (m : Match) (c : Captures) → IsCapturesOf input m c → captured c 0 ≡ group_bytes input m 0
unfolding group_span
group_zero input m c h = ap₂ bytes_of h.0 (ap Some h.1.whole_is)

group_some : (input : List ℕ) (m : Match) (c : Captures) → IsCapturesOf input m c → (n : ℕ) → 1 ≤ n
    → captured c n ≡ group_bytes input m n
group_some input m c h n le =
    let some : n == 0 ≡ false = ne_eqb n 0 (λ e. absurd (omega (arith, e))) in
    rw some (ap₂ bytes_of h.0 (h.2 n le))

group_at : (input : List ℕ) (m : Match) (c : Captures) → IsCapturesOf input m c → (n : ℕ) → captured c n ≡ group_bytes input m n
group_at input m c h zero = group_zero input m c h
group_at input m c h (suc n) = group_some input m c h (suc n) (omega arith)

pub expansion-captured : (sub input : List ℕ) (m : Match) (c : Captures) → IsCapturesOf input m c
    → expansion (captured c) sub ≡ expansion_at sub input m
expansion-captured sub input m c h = ap (λ (group : ℕ → List ℕ). expansion group sub) (fun_ext (group_at input m c h))

-- What a search tells of a match: where it starts and ends, and its groups. A replacement depends
-- on no more.
abbrev Seen : Type 0
Seen = ℕ × ℕ × (ℕ → Option ℕ)

expansion_seen : List ℕ → List ℕ → Seen → List ℕ
expansion_seen sub input s =
    expansion (λ n. bytes_of input (if n == 0 then Some (s.0, s.1) else both (s.2 (2 * n)) (s.2 (2 * n + 1)))) sub

expansion_at-seen : (sub input : List ℕ) (m : Match) → expansion_at sub input m ≡ expansion_seen sub input (spans m)
unfolding expansion_seen
expansion_at-seen sub input m = refl

expanded-seen : (sub input : List ℕ) (o : Option Match)
    → option_map (expansion_at sub input) o ≡ option_map (expansion_seen sub input) (option_map spans o)
expanded-seen sub input None = refl
expanded-seen sub input (Some m) = ap Some (expansion_at-seen sub input m)

all_alike : (sub input : List ℕ) (at : ℕ) (xs ys : List Match) → map spans xs ≡ map spans ys
    → replaced_by (expansion_at sub input) input at xs ≡ replaced_by (expansion_at sub input) input at ys
unfolding replaced_by
all_alike sub input at [] [] e = refl
all_alike sub input at [] (y ∷ ys) e = absurd cc
all_alike sub input at (x ∷ xs) [] e = absurd cc
all_alike sub input at (x ∷ xs) (y ∷ ys) e =
    let head : spans x ≡ spans y = cc in
    let tail : map spans xs ≡ map spans ys = cc in
    let written : expansion_at sub input x ≡ expansion_at sub input y =
    expansion_at-seen sub input x ∙ ap (expansion_seen sub input) head ∙ sym (expansion_at-seen sub input y) in
    ap₂ ◌++◌ (ap₂ (λ start w. slice_range input at start ++ w) (ap (λ (s : Seen). s.0) head) written)
    (all_alike sub input x.trace.end xs ys tail
    ∙ ap (λ (s : Seen). replaced_by (expansion_at sub input) input s.1 ys) head)

-- the spans of the match alone, if there is one
spans_alone : (o p : Option Match) → option_map spans o ≡ option_map spans p
    → map spans (option_to_list o) ≡ map spans (option_to_list p)
spans_alone None None e = refl
spans_alone None (Some y) e = absurd cc
spans_alone (Some x) None e = absurd cc
spans_alone (Some x) (Some y) e = cc

module _ {a b : Re} (same : SameCaptures a b) (input : List ℕ) (bytes : (k : ℕ) → get_or input k 0 < 256) where
  leftmost : option_map spans (find a input 0) ≡ option_map spans (find b input 0)
  leftmost = find_alike a b same input (λ k d h. rw (get_or_default input k d 0 h) (bytes k)) 0

  pub expanded_alike : (sub : List ℕ)
      → option_map (expansion_at sub input) (find a input 0) ≡ option_map (expansion_at sub input) (find b input 0)
  expanded_alike sub =
      expanded-seen sub input (find a input 0) ∙ ap (option_map (expansion_seen sub input)) leftmost
      ∙ sym (expanded-seen sub input (find b input 0))

  pub substituted_alike : (sub : List ℕ) (each : Bool) → substituted_text a sub each input ≡ substituted_text b sub each input
  substituted_alike sub true = all_alike sub input 0 (find_all a input) (find_all b input) (find_all_alike same input bytes false)
  substituted_alike sub false =
      all_alike sub input 0 (option_to_list (find a input 0)) (option_to_list (find b input 0))
      (spans_alone (find a input 0) (find b input 0) leftmost)

-- what searches for the expression of a text replaces as that expression
pub expanded_is : (asked : ExpressionText) (sub input : List ℕ) (searched : Re)
    → ((k : ℕ) → get_or input k 0 < 256) → IsPatternOf asked searched
    → option_map (expansion_at sub input) (find searched input 0) ≡ expanded_of asked.ci asked.text sub input
expanded_is asked sub input searched bytes is = rw is.is (expanded_alike is.same input bytes sub)

pub substituted_is : (asked : ExpressionText) (sub : List ℕ) (each : Bool) (input : List ℕ) (searched : Re)
    → ((k : ℕ) → get_or input k 0 < 256) → IsPatternOf asked searched
    → Some (substituted_text searched sub each input)
    ≡ option_map (λ pattern. substituted_text pattern sub each input) (expression asked.ci asked.text)
substituted_is asked sub each input searched bytes is =
    rw is.is (ap Some (substituted_alike is.same input bytes sub each))

-- the span of the match as its captures have it
pub whole_span : (input : List ℕ) (m : Match) (c : Captures) (s : ℕ × ℕ) → IsCapturesOf input m c → Some s ≡ captures_span c 0 → s ≡ span m
unfolding group_span
whole_span input m c s h e = same_Some _ _ e ∙ h.1.whole_is
