-- The lines of a head, each with its mark and its end, are those lines with both between each two.
use Rattle.std.proofs.Common.{◌≡◌, ℕ, List, [], ◌∷◌, ◌++◌, refl, ◌∙◌, ap, append_assoc}
use Rattle.std.specs.Prelude.{codes}
use Rattle.std.specs.List.{flat_map}
use Rattle.hx_http.specs.Parts.{Parts}
use Rattle.hx_http.specs.Text.{head_lines, header_line, request_line}
use Rattle.hx_core.specs.Answers.{head_text, header_text}

abbrev after_end : List ℕ × List ℕ → List ℕ
after_end line = codes "\n| " ++ header_line line

one_line : (line : List ℕ × List ℕ) (rest : List ℕ)
    → after_end line ++ (codes "\n" ++ rest) ≡ codes "\n" ++ (header_text line ++ rest)
one_line line rest = simp append_assoc

lines_by_ends : (lines : List (List ℕ × List ℕ))
    → flat_map after_end lines ++ codes "\n" ≡ codes "\n" ++ flat_map header_text lines
lines_by_ends [] = refl
lines_by_ends (line ∷ lines) =
    append_assoc (after_end line) (flat_map after_end lines) (codes "\n")
    ∙ ap (λ (t : List ℕ). after_end line ++ t) (lines_by_ends lines)
    ∙ one_line line (flat_map header_text lines)

pub marked_lines : (old : List ℕ) (head : Parts)
    → old ++ codes "| " ++ head_lines (codes "\n| ") head ++ codes "\n" ≡ old ++ head_text head
marked_lines old head =
    append_assoc (old ++ codes "| ") (head_lines (codes "\n| ") head) (codes "\n")
    ∙ ap (λ (t : List ℕ). old ++ codes "| " ++ t)
    (append_assoc (request_line head) (flat_map after_end head.headers) (codes "\n")
    ∙ ap (λ (t : List ℕ). request_line head ++ t) (lines_by_ends head.headers))
    ∙ simp append_assoc
