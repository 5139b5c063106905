-- The parts of a target, by its path and its query.
use Rattle.std.proofs.Common.{◌≡◌, ℕ, ◌+◌, ◌<◌, ◌≤◌, Bool, true, false, nat_eq, if◌then◌else◌, ◌==◌, List, [], ◌∷◌, ◌++◌, Option, Some, None, codes, length, drop, refl, sym, ap, subst, ◌∙◌, inl, inr, ◌⊎◌, arith, append_assoc, append-nil, length-append}
use Rattle.std.specs.Prelude.{option_map, option_and_then}
use Rattle.std.specs.List.{starts_with, list_any}
use Rattle.std.proofs.lemmas.Bool.{cond-true, cond-false}
use Rattle.std.proofs.lemmas.List.{drop_at, get_or_append_left}
use Rattle.std.proofs.lemmas.List.Folds.{list_any-append}
use Rattle.std.proofs.lemmas.Bool.Decides.{Decides-eqb}
use Rattle.std.proofs.lemmas.Slice.Eq.{starts_is}
use Rattle.memchr.specs.Find.{FindsNeedle, OccursAt}
use Rattle.std.proofs.lemmas.Option.{none-some, same_Some, option_and_then_some}
use Rattle.hx_base.specs.Bytes.{ascii}
use Rattle.hx_text.specs.Cut.{cut_of}
use Rattle.hx_http.specs.Target.{before_query, query_of, query_text, from_slash, after_mark, path_before_query, path_of, HasPath, EndsWithAuthority}
use Rattle.hx_http.proofs.CutLemmas.{neither, IsCut-cut_of, lacks-cut_of, cut_of-first, cut_of-lacking}
use Rattle.hx_http.proofs.MarkLemmas.{after_mark_at, IsAfterFirst-after_mark}

-- ---- the query

-- a target is cut around its first `?`
record IsCutAtQuery (target before : List ℕ) (query : Option (List ℕ)) : Type 0 where
  whole : target ≡ before ++ query_text query
  first : list_any (λ b. b == ascii "?") before ≡ false

cut_at_query_by : (target : List ℕ) (cut : Option (List ℕ × List ℕ))
    → cut_of (ascii "?") target ≡ cut
    → IsCutAtQuery target (before_query target) (query_of target)
cut_at_query_by target None is =
    rw is (record { whole = sym (append-nil target); first = lacks-cut_of (ascii "?") target is })
cut_at_query_by target (Some p) is =
    let cut = IsCut-cut_of (ascii "?") target p.0 p.1 is in
    rw is (record { whole = cut.whole; first = cut.first })

cut_at_query : (target : List ℕ) → IsCutAtQuery target (before_query target) (query_of target)
cut_at_query target = cut_at_query_by target (cut_of (ascii "?") target) refl

pub query_whole : (target : List ℕ) → target ≡ before_query target ++ query_text (query_of target)
query_whole target = (cut_at_query target).whole

pub query_first : (target : List ℕ)
    → list_any (λ b. b == ascii "?") (before_query target) ≡ false
query_first target = (cut_at_query target).first

-- the cut is the only one
pub query_only : (before : List ℕ) (query : Option (List ℕ))
    → list_any (λ b. b == ascii "?") before ≡ false
    → (before_query (before ++ query_text query) ≡ before)
    × (query_of (before ++ query_text query) ≡ query)
query_only before None first =
    let none = ap (cut_of (ascii "?")) (append-nil before) ∙ cut_of-lacking (ascii "?") before first in
    (rw none (append-nil before), rw none refl)
query_only before (Some query) first =
    let some = cut_of-first (ascii "?") before query first in
    (rw some refl, rw some refl)

-- ---- the path

pub starts_slash : (path : List ℕ) → starts_with nat_eq path (codes "/") ≡ true
    → path ≡ ascii "/" ∷ drop 1 path
starts_slash path starts = (starts_is Decides-eqb path (codes "/") _ refl).0 starts

-- what stands before the first `/`, and the path from there on
record HasAuthority (text path : List ℕ) : Type 0 where
  authority : List ℕ
  whole : text ≡ authority ++ path
  no_slash : list_any (λ b. b == ascii "/") authority ≡ false
  slash_first : starts_with nat_eq path (codes "/") ≡ true

has_authority : (text path : List ℕ) (cut : Option (List ℕ × List ℕ)) → cut_of (ascii "/") text ≡ cut
    → option_map (λ p. ascii "/" ∷ p.1) cut ≡ Some path → HasAuthority text path
has_authority text path None at is = absurd (none-some path is)
has_authority text path (Some p) at is =
    let cut = IsCut-cut_of (ascii "/") text p.0 p.1 at in
    let same = same_Some (ascii "/" ∷ p.1) path is in
    record {
      authority = p.0;
      whole = cut.whole ∙ ap (λ (xs : List ℕ). p.0 ++ xs) same;
      no_slash = cut.first;
      slash_first = subst (λ (xs : List ℕ). starts_with nat_eq xs (codes "/") ≡ true) same refl;
    }

-- a path in what stands before the query
record IsPlaced (text path : List ℕ) : Type 0 where
  prefix : List ℕ
  whole : text ≡ prefix ++ path
  slash_first : starts_with nat_eq path (codes "/") ≡ true
  before : (prefix ≡ []) ⊎ EndsWithAuthority prefix path

regroup : (a b c d : List ℕ) → a ++ (b ++ (c ++ d)) ≡ (a ++ (b ++ c)) ++ d
regroup a b c d = simp append_assoc

placed_in_uri : (text path : List ℕ) → starts_with nat_eq text (codes "/") ≡ false
    → option_and_then from_slash (after_mark (codes "://") text) ≡ Some path → IsPlaced text path
placed_in_uri text path no_slash is =
    option_and_then_some from_slash (after_mark (codes "://") text) path is
    (λ rest found from.
    let after = IsAfterFirst-after_mark (codes "://") text rest found in
    let part = has_authority rest path (cut_of (ascii "/") rest) refl from in
    let prefix = after.before ++ (codes "://" ++ part.authority) in
    let whole : text ≡ prefix ++ path
    = after.whole ∙ ap (λ (xs : List ℕ). after.before ++ (codes "://" ++ xs)) part.whole
    ∙ regroup after.before (codes "://") part.authority path in
    record {
      prefix = prefix;
      whole = whole;
      slash_first = part.slash_first;
      before = inr (record {
        scheme = after.before;
        authority = part.authority;
        whole = refl;
        first = subst (λ (xs : List ℕ). FindsNeedle xs (codes "://") 0
            (Some (length after.before))) whole after.first;
        no_slash = part.no_slash;
        no_origin_form = subst (λ (xs : List ℕ). starts_with nat_eq xs
            (codes "/") ≡ false) whole no_slash;
      });
    })

placed_by : (text path : List ℕ) (origin : Bool) → starts_with nat_eq text (codes "/") ≡ origin
    → (if origin then Some text else option_and_then from_slash (after_mark (codes "://") text))
    ≡ Some path → IsPlaced text path
placed_by text path true starts is =
    let same = same_Some text path is in
    record {
      prefix = [];
      whole = same;
      slash_first = subst (λ (xs : List ℕ). starts_with nat_eq xs (codes "/") ≡ true) same starts;
      before = inl refl;
    }
placed_by text path false starts is = placed_in_uri text path starts is

pub path_parts : (target path : List ℕ) → path_of target ≡ Some path
    → (prefix : List ℕ) × HasPath target prefix path (query_of target)
path_parts target path is =
    let before = before_query target in
    let cut = cut_at_query target in
    let placed = placed_by before path (starts_with nat_eq before (codes "/")) refl is in (
      placed.prefix,
      record {
        whole = cut.whole ∙ ap (λ (xs : List ℕ). xs ++ query_text (query_of target)) placed.whole
            ∙ append_assoc placed.prefix path (query_text (query_of target));
        no_mark = subst (λ (xs : List ℕ). list_any (λ b. b == ascii "?") xs ≡ false) placed.whole cut.first;
        slash_first = placed.slash_first;
        before = placed.before;
      },
    )

-- from the prefix and the path to the function
from_slash_at : (authority path : List ℕ) → list_any (λ b. b == ascii "/") authority ≡ false
    → starts_with nat_eq path (codes "/") ≡ true → from_slash (authority ++ path) ≡ Some path
from_slash_at authority path no_slash starts =
    let slash_first = starts_slash path starts in
    ap (λ (xs : List ℕ). from_slash (authority ++ xs)) slash_first
    ∙ ap (option_map (λ (p : List ℕ × List ℕ). ascii "/" ∷ p.1)) (cut_of-first (ascii "/") authority
    (drop 1 path) no_slash)
    ∙ ap Some (sym slash_first)

path_at : (prefix path : List ℕ) → starts_with nat_eq path (codes "/") ≡ true
    → (prefix ≡ []) ⊎ EndsWithAuthority prefix path
    → path_before_query (prefix ++ path) ≡ Some path
path_at prefix path starts (inl none) = rw none (cond-true _ _ _ starts)
path_at prefix path starts (inr h) =
    let text = prefix ++ path in
    let whole : text ≡ (h.scheme ++ codes "://") ++ (h.authority ++ path)
    = ap (λ (xs : List ℕ). xs ++ path) h.whole
    ∙ sym (regroup h.scheme (codes "://") h.authority path)
    ∙ sym (append_assoc h.scheme (codes "://") (h.authority ++ path)) in
    let rest : drop (length h.scheme + length (codes "://")) text ≡ h.authority ++ path
    = ap (λ (xs : List ℕ). drop (length h.scheme + length (codes "://")) xs) whole
    ∙ drop_at (h.scheme ++ codes "://") (h.authority ++ path)
    (length h.scheme + length (codes "://")) (length-append h.scheme (codes "://")) in
    cond-false _ _ _ h.no_origin_form
    ∙ ap (option_and_then from_slash) (after_mark_at (codes "://") text (length h.scheme)
    (omega arith) h.first ∙ ap Some rest)
    ∙ from_slash_at h.authority path h.no_slash starts

pub path_only : (target prefix path : List ℕ) (query : Option (List ℕ))
    → HasPath target prefix path query
    → (path_of target ≡ Some path) × (query_of target ≡ query)
path_only target prefix path query h =
    let cut = query_only (prefix ++ path) query h.no_mark in
    let same : target ≡ (prefix ++ path) ++ query_text query
    = h.whole ∙ sym (append_assoc prefix path (query_text query)) in (
      ap path_of same ∙ ap path_before_query cut.0 ∙ path_at prefix path h.slash_first h.before,
      ap query_of same ∙ cut.1,
    )

-- ---- another path

occurs_in_prefix : (prefix a b mark : List ℕ) (k : ℕ) → k + length mark ≤ length prefix
    → OccursAt (prefix ++ a) mark k → OccursAt (prefix ++ b) mark k
occurs_in_prefix prefix a b mark k within occurs = record {
  fits = omega (arith, length-append prefix b);
  reads = λ j below.
      get_or_append_left prefix b 0 (k + j) (omega arith)
      ∙ sym (get_or_append_left prefix a 0 (k + j) (omega arith)) ∙ occurs.reads j below;
}

starts_in_prefix : (prefix a b : List ℕ) → 0 < length prefix
    → starts_with nat_eq (prefix ++ a) (codes "/") ≡ starts_with nat_eq (prefix ++ b) (codes "/")
starts_in_prefix [] a b some = absurd (omega arith)
starts_in_prefix (x ∷ xs) a b some = refl

authority_stays : (prefix old path : List ℕ) → EndsWithAuthority prefix old
    → EndsWithAuthority prefix path
authority_stays prefix old path h =
    let at = length h.scheme in
    let long : at + 3 ≤ length prefix
    = omega (
      arith,
      ap length h.whole ∙ length-append h.scheme (codes "://" ++ h.authority),
      length-append (codes "://") h.authority,
    ) in
    let first = h.first.0 in
    record {
      scheme = h.scheme;
      authority = h.authority;
      whole = h.whole;
      first = (
        record {
          low = first.low;
          high = omega (arith, length-append prefix path);
          before = λ k from below occurs.
              first.before k from below (occurs_in_prefix prefix path old (codes "://") k
              (omega arith) occurs);
        },
        occurs_in_prefix prefix old path (codes "://") at (omega arith) h.first.1,
      );
      no_slash = h.no_slash;
      no_origin_form = starts_in_prefix prefix path old (omega arith) ∙ h.no_origin_form;
    }

before_stays : (prefix old path : List ℕ) → (prefix ≡ []) ⊎ EndsWithAuthority prefix old
    → (prefix ≡ []) ⊎ EndsWithAuthority prefix path
before_stays prefix old path (inl none) = inl none
before_stays prefix old path (inr h) = inr (authority_stays prefix old path h)

pub another_path : (target path prefix old : List ℕ) (query : Option (List ℕ))
    → HasPath target prefix old query
    → starts_with nat_eq path (codes "/") ≡ true → list_any (λ b. b == ascii "?") path ≡ false
    → HasPath (prefix ++ (path ++ query_text query)) prefix path query
another_path target path prefix old query h starts none =
    let test = λ (b : ℕ). b == ascii "?" in
    let parts = neither (list_any test prefix) (list_any test old)
    (sym (list_any-append test prefix old) ∙ h.no_mark) in
    record {
      whole = refl;
      no_mark = list_any-append test prefix path ∙ rw (parts.0, none) refl;
      slash_first = starts;
      before = before_stays prefix old path h.before;
    }
