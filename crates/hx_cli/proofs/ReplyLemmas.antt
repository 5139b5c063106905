-- Replies to which lines are still to be appended.
use Rattle.std.proofs.Common.{◌≡◌, ℕ, List, [], ◌∷◌, ◌++◌, ap, append_assoc, append-nil}
use Rattle.hx_cli.specs.Replies.{ReplyParts}

-- a reply with more lines
abbrev pub with_lines : ReplyParts → List (List ℕ) → ReplyParts
with_lines reply lines = record reply { lines = reply.lines ++ lines }

pub with_no_lines : (reply : ReplyParts) → with_lines reply [] ≡ reply
with_no_lines reply = ap (λ (lines : List (List ℕ)). record reply { lines = lines }) (append-nil reply.lines)

-- a line that is appended was the first of those that were still to be
pub with_line_first : (reply : ReplyParts) (line : List ℕ) (lines : List (List ℕ))
    → with_lines (with_lines reply (line ∷ [])) lines ≡ with_lines reply (line ∷ lines)
with_line_first reply line lines =
    ap (λ (all : List (List ℕ)). record reply { lines = all }) (append_assoc reply.lines (line ∷ []) lines)
