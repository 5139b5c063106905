-- Where the path of a target stands, by numbers.
use Rattle.std.proofs.Common.{◌≡◌, ℕ, ◌-◌, ◌≤◌, ◌==◌, ◌||◌, nat_lt, Bool, List, [], ◌∷◌, ◌++◌, Some, true, false, is_some, codes, length, take, drop, sym, ap, ◌∙◌, refl, arith, append_assoc, length-append}
use Rattle.std.proofs.lemmas.Bool.{eqb-false, lt-ltb}
use Rattle.std.proofs.lemmas.List.{append-nil, append_cancel_right, drop_all, drop_at, take-append-le, take_all}
use Rattle.std.specs.Str.{bytes_eq}
use Rattle.hx_base.specs.Bytes.{ascii}
use Rattle.hx_http.specs.Edits.{target_with_path, target_with_query}
use Rattle.hx_http.specs.Target.{before_query, path_of, query_of, query_text}
use Rattle.hx_http.proofs.TargetLemmas.{path_parts, query_whole}

-- the path is the end of what stands before the query
pub path_is_end : (target path : List ℕ) → path_of target ≡ Some path
    → (prefix : List ℕ) × (before_query target ≡ prefix ++ path)
path_is_end target path is =
    let parts = path_parts target path is in (
      parts.0,
      append_cancel_right (before_query target) (parts.0 ++ path) (query_text (query_of target))
          (sym (query_whole target) ∙ parts.1.whole
          ∙ sym (append_assoc parts.0 path (query_text (query_of target)))),
    )

pub path_fits : (target path : List ℕ) → path_of target ≡ Some path
    → length path ≤ length (before_query target)
path_fits target path is =
    let end = path_is_end target path is in
    omega (arith, ap length end.1 ∙ length-append end.0 path)

pub before_query_fits : (target : List ℕ) → length (before_query target) ≤ length target
before_query_fits target =
    omega (
      arith,
      ap length (query_whole target)
          ∙ length-append (before_query target) (query_text (query_of target)),
    )

-- what stands before the query, and from there on
pub take_before_query : (target : List ℕ) (n : ℕ) → n ≤ length (before_query target)
    → take n target ≡ take n (before_query target)
take_before_query target n within =
    ap (take n) (query_whole target)
    ∙ take-append-le n (before_query target) (query_text (query_of target)) within

pub drop_before_query : (target : List ℕ)
    → drop (length (before_query target)) target ≡ query_text (query_of target)
drop_before_query target =
    ap (drop (length (before_query target))) (query_whole target)
    ∙ drop_at (before_query target) (query_text (query_of target)) (length (before_query target)) refl

-- the target with another path, by the numbers at which its own stands
pub with_path_at : (target old path : List ℕ) → bytes_eq target (codes "*") ≡ false
    → path_of target ≡ Some old
    → target_with_path path target
    ≡ take (length (before_query target) - length old) target ++ path
    ++ drop (length (before_query target)) target
with_path_at target old path no_star is =
    let before = take_before_query target (length (before_query target) - length old) (omega arith) in
    let after = drop_before_query target in
    rw (no_star, is, before, after) refl

-- two texts of the same parts, the one with nothing between two of them
pub without_mark : (all front text back same : List ℕ) → all ≡ front ++ [] ++ text ++ back
    → same ≡ front ++ text ++ back → all ≡ same
without_mark all front text back same whole is = whole ∙ rw (append-nil, is) refl

-- a query is put in where there is one already, or it isn't empty
pub by_old_query : (target query : List ℕ) → is_some (query_of target) ≡ true
    → (is_some (query_of target) || nat_lt 0 (length query)) ≡ true
by_old_query target query some = rw some refl

pub by_new_query : (target query : List ℕ) → (length query == 0) ≡ false
    → (is_some (query_of target) || nat_lt 0 (length query)) ≡ true
by_new_query target query some =
    go (is_some (query_of target)) (nat_lt 0 (length query))
    (lt-ltb 0 (length query) (omega (arith, eqb-false (length query) 0 some)))
  where
    go : (a b : Bool) → b ≡ true → (a || b) ≡ true
    go true b is = refl
    go false b is = is

-- the target with another query, by the number at which its own ends
pub with_query_at : (target query : List ℕ)
    → (is_some (query_of target) || nat_lt 0 (length query)) ≡ true
    → take (length (before_query target)) target ++ ascii "?" ∷ [] ++ query
    ++ drop (length target) target
    ≡ target_with_query query target
with_query_at target query some =
    let before = take_before_query target (length (before_query target)) (omega arith) in
    let whole = take_all (length (before_query target)) (before_query target) (omega arith) in
    let none = drop_all (length target) target (omega arith) in
    rw (some, before, whole, none) (simp (append_assoc, append-nil))
