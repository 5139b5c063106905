-- The path and the query that a target has after an edit.
use Rattle.std.proofs.Common.{◌≡◌, ℕ, ◌-◌, ◌<◌, ◌&&◌, ◌||◌, nat_eq, Bool, true, false, List, ◌∷◌, ◌++◌, Option, Some, None, codes, length, drop, sym, ap, ◌∙◌, refl, arith, append_assoc, length-append}
use Rattle.std.specs.Prelude.{is_some, nat_lt, if◌then◌else◌, IsSome}
use Rattle.std.specs.Char.{is_ascii_graphic}
use Rattle.std.specs.List.{list_all, starts_with}
use Rattle.std.specs.Str.{bytes_eq}
use Rattle.std.specs.Cmp.Lexicographic.{bytes_decides}
use Rattle.std.proofs.lemmas.Bool.{and_parts, cond-true, cond-false, ne_eqb}
use Rattle.std.proofs.lemmas.List.{append_cancel_right, take_at}
use Rattle.std.proofs.lemmas.Option.{none-some}
use Rattle.hx_base.specs.Bytes.{ascii}
use Rattle.hx_text.specs.Cut.{cut_of}
use Rattle.hx_http.specs.declared.fault.EditFault.TheVariants.{BadBytes, NoPath}
use Rattle.hx_http.specs.Edits.{before_path, path_fault, target_with_path, target_with_query}
use Rattle.hx_http.specs.Target.{before_query, path_before_query, path_of, query_of, query_text, HasPath}
use Rattle.hx_http.proofs.PlaceLemmas.{by_new_query, by_old_query}
use Rattle.hx_http.proofs.TargetLemmas.{another_path, path_only, path_parts, query_first, query_only, query_whole, starts_slash}

-- ---- the path

-- what stands before the query, by the parts of the target
before_is : (target prefix old : List ℕ) (query : Option (List ℕ)) → HasPath target prefix old query
    → before_query target ≡ prefix ++ old
before_is target prefix old query h =
    let same = (path_only target prefix old query h).1 in
    append_cancel_right (before_query target) (prefix ++ old) (query_text query)
    (ap (λ (q : Option (List ℕ)). before_query target ++ query_text q) (sym same) ∙ sym (query_whole target)
    ∙ h.whole ∙ sym (append_assoc prefix old (query_text query)))

prefix_is : (target prefix old : List ℕ) (query : Option (List ℕ)) → HasPath target prefix old query
    → before_path target old ≡ prefix
prefix_is target prefix old query h =
    rw (before_is target prefix old query h)
    (take_at prefix old (length (prefix ++ old) - length old) (omega (arith, length-append prefix old)))

-- a target with a path isn't `*`
no_star : (target old : List ℕ) (star : Bool) → bytes_eq target (codes "*") ≡ star
    → path_of target ≡ Some old → star ≡ false
no_star target old true star is =
    absurd (none-some old (ap path_of (sym ((bytes_decides target (codes "*")).0 star)) ∙ is))
no_star target old false star is = refl

pub new_path_at : (target path prefix old : List ℕ) (query : Option (List ℕ))
    → HasPath target prefix old query
    → target_with_path path target ≡ prefix ++ (path ++ query_text query)
new_path_at target path prefix old query h =
    let is = path_only target prefix old query h in
    let plain = no_star target old (bytes_eq target (codes "*")) refl is.0 in
    let before = prefix_is target prefix old query h in
    rw (plain, is.0, before, is.1) (append_assoc prefix path (query_text query))

-- what stands before the query of a path begins with `/` too
slash_stays : (rest : List ℕ) (cut : Option (List ℕ × List ℕ)) → cut_of (ascii "?") rest ≡ cut
    → starts_with nat_eq (before_query (ascii "/" ∷ rest)) (codes "/") ≡ true
slash_stays rest None is = rw is refl
slash_stays rest (Some p) is = rw is refl

before_query_starts : (path : List ℕ) → starts_with nat_eq path (codes "/") ≡ true
    → starts_with nat_eq (before_query path) (codes "/") ≡ true
before_query_starts path starts =
    rw (starts_slash path starts) (slash_stays (drop 1 path) (cut_of (ascii "?") (drop 1 path)) refl)

-- a path is the path of itself, up to its first `?`
path_of_path : (path : List ℕ) → starts_with nat_eq path (codes "/") ≡ true
    → path_of path ≡ Some (before_query path)
path_of_path path starts = cond-true _ _ _ (before_query_starts path starts)

-- the query of a path, and then one more
joined_query : Option (List ℕ) → Option (List ℕ) → Option (List ℕ)
joined_query None query = query
joined_query (Some first) query = Some (first ++ query_text query)

joined_text : (first query : Option (List ℕ))
    → query_text first ++ query_text query ≡ query_text (joined_query first query)
unfolding joined_query
joined_text None query = refl
joined_text (Some first) query = refl

new_path_in_place : (target path prefix old : List ℕ) (query : Option (List ℕ))
    → HasPath target prefix old query → starts_with nat_eq path (codes "/") ≡ true
    → path_of (target_with_path path target) ≡ Some (before_query path)
new_path_in_place target path prefix old query h starts =
    let q = joined_query (query_of path) query in
    let front = before_query path in
    let moved : HasPath (prefix ++ (old ++ query_text q)) prefix old q
    = record { whole = refl; no_mark = h.no_mark; slash_first = h.slash_first; before = h.before } in
    let text : path ++ query_text query ≡ front ++ query_text q
    = ap (λ (xs : List ℕ). xs ++ query_text query) (query_whole path)
    ∙ append_assoc front (query_text (query_of path)) (query_text query)
    ∙ ap (λ (xs : List ℕ). front ++ xs) (joined_text (query_of path) query) in
    let placed = another_path (prefix ++ (old ++ query_text q)) front prefix old q moved
    (before_query_starts path starts) (query_first path) in
    ap path_of (new_path_at target path prefix old query h ∙ ap (λ (xs : List ℕ). prefix ++ xs) text)
    ∙ (path_only (prefix ++ (front ++ query_text q)) prefix front q placed).0

new_path_by : (target path : List ℕ) (star : Bool) (found : Option (List ℕ))
    → bytes_eq target (codes "*") ≡ star → path_of target ≡ found → (star || is_some found) ≡ true
    → starts_with nat_eq path (codes "/") ≡ true
    → path_of (target_with_path path target) ≡ Some (before_query path)
new_path_by target path true found star is takes starts =
    ap path_of (cond-true _ _ _ star) ∙ path_of_path path starts
new_path_by target path false None star is takes starts = absurd (cc)
new_path_by target path false (Some old) star is takes starts =
    let placed = path_parts target old is in
    new_path_in_place target path placed.0 old (query_of target) placed.1 starts

-- what isn't refused passes both tests
both_pass : (good takes : Bool)
    → (if good then (if takes then None else Some NoPath) else Some BadBytes) ≡ None
    → (good ≡ true) × (takes ≡ true)
both_pass true true none = (refl, refl)
both_pass true false none = absurd (none-some NoPath (sym none))
both_pass false takes none = absurd (none-some BadBytes (sym none))

pub path_of_new : (target path : List ℕ) → path_fault path target ≡ None
    → path_of (target_with_path path target) ≡ Some (before_query path)
path_of_new target path none =
    let pass = both_pass (starts_with nat_eq path (codes "/") && list_all is_ascii_graphic path)
    (bytes_eq target (codes "*") || is_some (path_of target)) none in
    new_path_by target path (bytes_eq target (codes "*")) (path_of target) refl refl pass.1
    (and_parts _ _ pass.0).0

-- ---- the query

new_query_by : (target query : List ℕ) (put : Bool)
    → (is_some (query_of target) || nat_lt 0 (length query)) ≡ put
    → (before_query (target_with_query query target) ≡ before_query target)
    × (put ≡ true → query_of (target_with_query query target) ≡ Some query)
new_query_by target query true put =
    let cut = query_only (before_query target) (Some query) (query_first target) in
    (ap before_query (cond-true _ _ _ put) ∙ cut.0, λ _. ap query_of (cond-true _ _ _ put) ∙ cut.1)
new_query_by target query false put = (ap before_query (cond-false _ _ _ put), λ yes. absurd (cc))

pub path_after_query : (target query : List ℕ)
    → path_of (target_with_query query target) ≡ path_of target
path_after_query target query =
    ap path_before_query (new_query_by target query
    (is_some (query_of target) || nat_lt 0 (length query)) refl).0

pub query_in_place : (target query : List ℕ) → IsSome (query_of target)
    → query_of (target_with_query query target) ≡ Some query
query_in_place target query some =
    (new_query_by target query (is_some (query_of target) || nat_lt 0 (length query)) refl).1
    (by_old_query target query some)

pub query_added : (target query : List ℕ) → 0 < length query
    → query_of (target_with_query query target) ≡ Some query
query_added target query some =
    (new_query_by target query (is_some (query_of target) || nat_lt 0 (length query)) refl).1
    (by_new_query target query (ne_eqb (length query) 0 (λ none. omega (arith, none))))
