-- The path and the query of a request's target, as HAProxy's samples `path` and `query` have them
-- (configuration manual 2.4, section 7.3.6).
use Rattle.std.specs.Prelude.{◌≡◌, ◌⊎◌, ℕ, true, false, List, [], ◌∷◌, ◌++◌, Option, None, Some, if◌then◌else◌, ◌==◌, nat_eq, length, drop, codes, option_map, option_and_then}
use Rattle.std.specs.Option.{option_map_or}
use Rattle.std.specs.List.{starts_with, list_any}
use Rattle.memchr.specs.Find.{FindsNeedle}
use Rattle.hx_base.specs.Bytes.{ascii}
use Rattle.hx_text.specs.Cut.{cut_of}

-- ---- as functions

-- What stands before the first `?`, which is all of the target where it has none.
abbrev pub before_query : List ℕ → List ℕ
before_query target = option_map_or (λ cut. cut.0) (cut_of (ascii "?") target) target

-- The query: what follows the first `?`, absent without one (RFC 3986, section 3.4).
abbrev pub query_of : List ℕ → Option (List ℕ)
query_of target = option_map (λ cut. cut.1) (cut_of (ascii "?") target)

-- The bytes from the first `/` on, absent without one.
abbrev pub from_slash : List ℕ → Option (List ℕ)
from_slash text = option_map (λ cut. ascii "/" ∷ cut.1) (cut_of (ascii "/") text)

-- What follows the first occurrence of the mark, absent where it occurs nowhere.
abbrev pub after_mark : List ℕ → List ℕ → Option (List ℕ)
after_mark mark [] = None
after_mark mark (b ∷ text) =
    if starts_with nat_eq (b ∷ text) mark then Some (drop (length mark) (b ∷ text))
    else after_mark mark text

-- The path in what stands before the query: all of it where it begins with `/` (RFC 9112, section
-- 3.2.1); of an absolute URI, the part from the first `/` after the `://` on (section 3.2.2), which
-- is absent where the URI ends with its authority; and absent in any other target, such as `*`.
abbrev pub path_before_query : List ℕ → Option (List ℕ)
path_before_query text =
    if starts_with nat_eq text (codes "/") then Some text
    else option_and_then from_slash (after_mark (codes "://") text)

-- The path of a target, which ends before the first `?`.
abbrev pub path_of : List ℕ → Option (List ℕ)
path_of target = path_before_query (before_query target)

-- ---- as a relation

-- `?` and the query, or nothing where there is no query.
abbrev pub query_text : Option (List ℕ) → List ℕ
query_text query = option_map_or (λ text. ascii "?" ∷ text) query []

-- What stands before the path of an absolute URI: a scheme, `://`, which occurs nowhere before, and
-- an authority, in which no `/` stands.
pub record EndsWithAuthority (prefix path : List ℕ) : Type 0 where
  pub scheme : List ℕ
  pub authority : List ℕ
  pub whole : prefix ≡ scheme ++ (codes "://" ++ authority)
  pub first : FindsNeedle (prefix ++ path) (codes "://") 0 (Some (length scheme))
  pub no_slash : list_any (λ b. b == ascii "/") authority ≡ false
  pub no_origin_form : starts_with nat_eq (prefix ++ path) (codes "/") ≡ false

-- The parts of a target that has a path: what stands before the path, the path, and its query.
pub record HasPath (target prefix path : List ℕ) (query : Option (List ℕ)) : Type 0 where
  pub whole : target ≡ prefix ++ (path ++ query_text query)
  pub no_mark : list_any (λ b. b == ascii "?") (prefix ++ path) ≡ false
  pub slash_first : starts_with nat_eq path (codes "/") ≡ true
  pub before : (prefix ≡ []) ⊎ EndsWithAuthority prefix path
