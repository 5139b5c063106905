-- How the code names the predefined ACLs.
use Rattle.std.specs.Prelude.{false, [], ◌∷◌, codes}
use Rattle.hx_ast.specs.declared.fetch.Fetch.TheVariants as fetch
use Rattle.hx_text.specs.declared.kinds.By.TheVariants as method
use Rattle.hx_acl.specs.declared.predefined.MethodAcl.{MethodAcl}
use Rattle.hx_acl.specs.declared.predefined.MethodAcl.TheVariants as of_method
use Rattle.hx_acl.specs.declared.predefined.Predefined.{Predefined}
use Rattle.hx_acl.specs.declared.predefined.Predefined.TheVariants as acl
use Rattle.hx_ast.specs.Predefined.{KeyedAcl, acl_by, is_method}

abbrev pub method_acl : MethodAcl → KeyedAcl
method_acl of_method.Get = is_method (codes "GET" ∷ codes "HEAD" ∷ [])
method_acl of_method.Head = is_method (codes "HEAD" ∷ [])
method_acl of_method.Post = is_method (codes "POST" ∷ [])
method_acl of_method.Put = is_method (codes "PUT" ∷ [])
method_acl of_method.Delete = is_method (codes "DELETE" ∷ [])
method_acl of_method.Options = is_method (codes "OPTIONS" ∷ [])
method_acl of_method.Connect = is_method (codes "CONNECT" ∷ [])
method_acl of_method.Trace = is_method (codes "TRACE" ∷ [])

abbrev pub keyed_acl : Predefined → KeyedAcl
keyed_acl acl.True = acl_by fetch.AlwaysTrue method.Bool false []
keyed_acl acl.False = acl_by fetch.AlwaysFalse method.Bool false []
keyed_acl acl.Http10 = acl_by fetch.ReqVer method.Str false (codes "1.0" ∷ [])
keyed_acl acl.Http11 = acl_by fetch.ReqVer method.Str false (codes "1.1" ∷ [])
keyed_acl acl.UrlSlash = acl_by fetch.Url method.Beg false (codes "/" ∷ [])
keyed_acl acl.UrlStar = acl_by fetch.Url method.Str false (codes "*" ∷ [])
keyed_acl acl.Localhost = acl_by fetch.Src method.Ip false (codes "127.0.0.1/8" ∷ [])
keyed_acl (acl.Method name) = method_acl name
