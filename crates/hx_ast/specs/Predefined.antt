-- The predefined ACLs (HAProxy configuration manual 2.4, section 7.4).
use Rattle.std.specs.Prelude.{ℕ, Bool, true, false, List, [], ◌∷◌, ◌++◌, codes, map}
use Rattle.hx_ast.specs.declared.fetch.Fetch.{Fetch}
use Rattle.hx_ast.specs.declared.fetch.Fetch.TheVariants as fetch
use Rattle.hx_text.specs.declared.kinds.By.{By}
use Rattle.hx_text.specs.declared.kinds.By.TheVariants as method

-- an ACL whose patterns are these keys: its fetch, its match method, and whether case is ignored
pub record KeyedAcl : Type 0 where
  pub fetch : Fetch
  pub by : By
  pub ci : Bool
  pub keys : List (List ℕ)

-- the ACL of a fetch by a method, which ignores case or not, with these keys
abbrev pub acl_by : Fetch → By → Bool → List (List ℕ) → KeyedAcl
acl_by f by ci keys = record { fetch = f; by = by; ci = ci; keys = keys }

-- the method of the request is one of these, which are compared as strings without case
abbrev pub is_method : List (List ℕ) → KeyedAcl
is_method names = acl_by fetch.Method method.Str true names

-- the predefined ACLs, each with its name
unfoldable pub predefined_acls : List (List ℕ × KeyedAcl)
predefined_acls =
    (codes "TRUE", acl_by fetch.AlwaysTrue method.Bool false [])
    ∷ (codes "FALSE", acl_by fetch.AlwaysFalse method.Bool false [])
    ∷ (codes "HTTP_1.0", acl_by fetch.ReqVer method.Str false (codes "1.0" ∷ []))
    ∷ (codes "HTTP_1.1", acl_by fetch.ReqVer method.Str false (codes "1.1" ∷ []))
    ∷ (codes "HTTP_URL_SLASH", acl_by fetch.Url method.Beg false (codes "/" ∷ []))
    ∷ (codes "HTTP_URL_STAR", acl_by fetch.Url method.Str false (codes "*" ∷ []))
    ∷ (codes "LOCALHOST", acl_by fetch.Src method.Ip false (codes "127.0.0.1/8" ∷ []))
    ∷ (codes "METH_GET", is_method (codes "GET" ∷ codes "HEAD" ∷ []))
    ∷ map (λ name. (codes "METH_" ++ name, is_method (name ∷ [])))
    (codes "HEAD" ∷ codes "POST" ∷ codes "PUT" ∷ codes "DELETE" ∷ codes "OPTIONS" ∷ codes "CONNECT"
    ∷ codes "TRACE" ∷ [])

-- the names of the predefined ACLs
abbrev pub predefined_names : List (List ℕ)
predefined_names = map (λ row. row.0) predefined_acls
