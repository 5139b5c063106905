-- What contracts see of the head of a request.
use Rattle.std.specs.Prelude.{ℕ, List, [], map}
use Rattle.httparse.specs.Grammar.{RequestHead}
use Rattle.httparse.specs.Spans.{name_and_value}

-- The head of a request: the method, the target, the minor number of its version `HTTP/1.x`, and
-- the header lines in their order, each as its name and its value.
pub record Parts : Type 0 where
  pub method : List ℕ
  pub target : List ℕ
  pub minor : ℕ
  pub headers : List (List ℕ × List ℕ)

-- The parts of a head of the grammar (RFC 9112, sections 3 and 5). A value has no spaces and tabs
-- at its ends, as section 5.1 leaves them out.
abbrev pub parts : RequestHead → Parts
parts h =
    let headers = map name_and_value h.fields in
    record { method = h.method; target = h.target; minor = h.minor; headers = headers }

-- Empty parts. No head has them.
abbrev pub no_parts : Parts
no_parts = record { method = []; target = []; minor = 0; headers = [] }
