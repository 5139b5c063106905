-- `http-request set-var(NAME,ifnotset) EXPR` and `set-var(NAME,ifset) EXPR` as `set-var(NAME) EXPR`
-- under a condition on the variable (HAProxy configuration manual 2.6, section 4.2).
use Rattle.std.specs.Prelude.{ℕ, Bool, true, false, List, [], ◌∷◌, ◌++◌, codes, Option, None, Some, option_and_then, if◌then◌else◌}
use Rattle.std.specs.Str.{bytes_eq}
use Rattle.hx_base.specs.Bytes.{ascii}
use Rattle.hx_text.specs.Cut.{cut_of}
use Rattle.hx_config.specs.Guards.{found_in, with_guard}

-- what ends the arguments: the variable has a value, or has none
abbrev pub is_set_in : List ℕ → Option Bool
is_set_in text =
    if bytes_eq text (codes "ifset)") then Some true
    else (if bytes_eq text (codes "ifnotset)") then Some false else None)

-- the rule for a variable of this name, which is set only where it has a value, or only where it has
-- none
abbrev pub set_where : (name : List ℕ) → (is_set : Bool) → List (List ℕ)
    → Option (List (List ℕ))
set_where name is_set [] = None
set_where name is_set (expression ∷ condition) =
    Some (codes "http-request" ∷ (codes "set-var(" ++ name ++ codes ")") ∷ expression
    ∷ with_guard (found_in (codes "var(" ++ name ++ codes ")")) is_set condition)

-- the arguments of `set-var(`, with its closing parenthesis, and the words after it
abbrev pub arguments_said : List ℕ → List (List ℕ) → Option (List (List ℕ))
arguments_said arguments words =
    option_and_then (λ cut. option_and_then (λ is_set. set_where cut.0 is_set words)
    (is_set_in cut.1)) (cut_of (ascii ",") arguments)

-- what stands for an action with these words after it, where it is such a `set-var`
abbrev pub setting_said : (action : List ℕ) → List (List ℕ) → Option (List (List ℕ))
setting_said action words =
    option_and_then (λ cut. if bytes_eq cut.0 (codes "set-var")
    then arguments_said cut.1 words else None) (cut_of (ascii "(") action)
