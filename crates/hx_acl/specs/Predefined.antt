-- When a predefined ACL holds (HAProxy configuration manual 2.4, section 7.4).
use Rattle.std.specs.Prelude.{ℕ, Bool, false, List}
use Rattle.std.specs.List.{list_any}
use Rattle.std.specs.Option.{option_map_or}
use Rattle.hx_ast.specs.Predefined.{KeyedAcl, predefined_acls}
use Rattle.hx_base.specs.Pairs.{entry_at}
use Rattle.hx_fetch.specs.Fetches.{occurrences_of}
use Rattle.hx_fetch.specs.World.{Context}
use Rattle.hx_sample.specs.Keys.{hits}
use Rattle.hx_acl.specs.Matching.{occurrence_matches}

-- whether the ACL matches, as one that is declared with these patterns would
abbrev pub keyed_matches : Context → KeyedAcl → Bool
keyed_matches context acl =
    list_any (occurrence_matches acl.by (λ v. list_any (λ key. hits acl.by acl.ci key v) acl.keys))
    (occurrences_of acl.fetch context)

-- whether the predefined ACL of a name matches; that of another name doesn't
abbrev pub predefined_matches : Context → List ℕ → Bool
predefined_matches context name =
    option_map_or (keyed_matches context) (entry_at predefined_acls name) false
