-- A text in double quotes is read as one argument, and as that text.
use Rattle.std.proofs.Common.{◌≡◌, ℕ, ◌==◌, ◌||◌, Bool, true, false, cond, List, [], ◌∷◌, ◌++◌, codes, flat_map, Some, refl, sym, ap, ◌∙◌, subst, append_assoc, append-nil}
use Rattle.std.proofs.lemmas.Bool.{eqb-true}
use Rattle.std.specs.List.{list_any}
use Rattle.hx_base.specs.Bytes.{ascii}
use Rattle.hx_words.specs.Arguments.{argument_item}
use Rattle.hx_words.specs.Calls.{ends_name}
use Rattle.hx_words.specs.Quoting.{escape_of}
use Rattle.hx_words.specs.Spelling.{SpellsArguments}
use Rattle.hx_words.specs.Spelling.SpellsArguments.{LastArgument, NextArgument, PartOfArgument}
use Rattle.hx_words.specs.Spelling.SpellsCall.{NameAlone, WithArguments}
use Rattle.hx_words.specs.Spelling.SpellsCalls.{FirstCall, LastCall}
use Rattle.hx_words.specs.TextItems.QuoteState.{Outside, Double}
use Rattle.hx_words.specs.TextItems.TextItem.{Part}
use Rattle.hx_config.specs.Quoted.{quoted, quoted_byte}
use Rattle.hx_config.specs.Reading.{SpellsReplacement}
use Rattle.hx_config.specs.Replacing.{replaced, whole_expression}

-- ---- a byte

plain_part : (b : ℕ) (rest : List ℕ) → (b == ascii "\\") ≡ false → (b == ascii "\"") ≡ false
    → argument_item Double b rest ≡ Part 0 (b ∷ []) Double
unfolding argument_item
plain_part b rest no_backslash no_quote = rw (no_quote, no_backslash) refl

backslash_part : (b : ℕ) → b ≡ ascii "\\" → (rest : List ℕ)
    → argument_item Double (ascii "\\") (b ∷ rest) ≡ Part 1 (b ∷ []) Double
unfolding argument_item escape_of
backslash_part b is rest =
    subst (λ x. argument_item Double (ascii "\\") (x ∷ rest) ≡ Part 1 (x ∷ []) Double)
    (sym is) refl

quote_part : (b : ℕ) → b ≡ ascii "\"" → (rest : List ℕ)
    → argument_item Double (ascii "\\") (b ∷ rest) ≡ Part 1 (b ∷ []) Double
unfolding argument_item escape_of
quote_part b is rest =
    subst (λ x. argument_item Double (ascii "\\") (x ∷ rest) ≡ Part 1 (x ∷ []) Double)
    (sym is) refl

byte_spelled : (b : ℕ) (text : List ℕ) (args : List (List ℕ)) (more tail : List ℕ) (c d : Bool)
    → (b == ascii "\\") ≡ c → (b == ascii "\"") ≡ d
    → SpellsArguments Double (text ∷ args) (more ++ tail)
    → SpellsArguments Double ((b ∷ text) ∷ args)
    ((cond (c || d) (ascii "\\" ∷ b ∷ []) (b ∷ []) ++ more) ++ tail)
byte_spelled b text args more tail true d is_backslash is_quote spelled =
    PartOfArgument Double Double (ascii "\\") (b ∷ []) (b ∷ []) text args (more ++ tail)
    (backslash_part b (eqb-true b (ascii "\\") is_backslash)) spelled
byte_spelled b text args more tail false true is_backslash is_quote spelled =
    PartOfArgument Double Double (ascii "\\") (b ∷ []) (b ∷ []) text args (more ++ tail)
    (quote_part b (eqb-true b (ascii "\"") is_quote)) spelled
byte_spelled b text args more tail false false is_backslash is_quote spelled =
    PartOfArgument Double Double b [] (b ∷ []) text args (more ++ tail)
    (λ rest. plain_part b rest is_backslash is_quote) spelled

-- ---- a text

inside : (text : List ℕ) (args : List (List ℕ)) (tail : List ℕ)
    → SpellsArguments Outside ([] ∷ args) tail
    → SpellsArguments Double (text ∷ args) (flat_map quoted_byte text ++ (ascii "\"" ∷ tail))
unfolding argument_item
inside [] args tail spelled = PartOfArgument Double Outside (ascii "\"") [] [] [] args tail
    (λ rest. refl) spelled
inside (b ∷ text) args tail spelled =
    byte_spelled b text args (flat_map quoted_byte text) (ascii "\"" ∷ tail) (b == ascii "\\")
    (b == ascii "\"") refl refl (inside text args tail spelled)

quoted_spelled : (text : List ℕ) (args : List (List ℕ)) (tail : List ℕ)
    → SpellsArguments Outside ([] ∷ args) tail
    → SpellsArguments Outside (text ∷ args) (quoted text ++ tail)
unfolding argument_item
quoted_spelled text args tail spelled =
    subst (λ (t : List ℕ). SpellsArguments Outside (text ∷ args) (ascii "\"" ∷ t))
    (sym (append_assoc (flat_map quoted_byte text) (ascii "\"" ∷ []) tail))
    (PartOfArgument Outside Double (ascii "\"") [] [] text args
    (flat_map quoted_byte text ++ (ascii "\"" ∷ tail)) (λ rest. refl)
    (inside text args tail spelled))

last_spelled : (text : List ℕ) → SpellsArguments Outside (text ∷ []) (quoted text)
last_spelled text =
    subst (λ (t : List ℕ). SpellsArguments Outside (text ∷ []) t) (append-nil (quoted text))
    (quoted_spelled text [] [] LastArgument)

two_spelled : (first second : List ℕ) → SpellsArguments Outside (first ∷ second ∷ [])
    (quoted first ++ (ascii "," ∷ quoted second))
two_spelled first second =
    quoted_spelled first (second ∷ []) (ascii "," ∷ quoted second)
    (NextArgument (second ∷ []) (quoted second) (last_spelled second))

-- ---- a replacement

end_joined : (first second : List ℕ)
    → ((first ++ (ascii "," ∷ second)) ++ (ascii ")" ∷ [])) ++ (ascii "]" ∷ [])
    ≡ first ++ (ascii "," ∷ (second ++ (ascii ")" ∷ ascii "]" ∷ [])))
end_joined first second =
    append_assoc (first ++ (ascii "," ∷ second)) (ascii ")" ∷ []) (ascii "]" ∷ [])
    ∙ append_assoc first (ascii "," ∷ second) (ascii ")" ∷ ascii "]" ∷ [])

all_joined : (a f k q m r z : List ℕ)
    → (((((a ++ f) ++ k) ++ q) ++ m) ++ r) ++ z ≡ a ++ (f ++ (k ++ (q ++ (m ++ (r ++ z)))))
all_joined a f k q m r z =
    append_assoc ((((a ++ f) ++ k) ++ q) ++ m) r z
    ∙ append_assoc (((a ++ f) ++ k) ++ q) m (r ++ z)
    ∙ append_assoc ((a ++ f) ++ k) q (m ++ (r ++ z))
    ∙ append_assoc (a ++ f) k (q ++ (m ++ (r ++ z)))
    ∙ append_assoc a f (k ++ (q ++ (m ++ (r ++ z))))

-- what the calls spell, up to the bracket
abbrev calls_text : (fetch first second : List ℕ) → List ℕ
calls_text fetch first second =
    let arguments = first ++ (ascii "," ∷ second) in
    let call = codes "regsub" ++ (ascii "(" ∷ (arguments ++ (ascii ")" ∷ []))) in
    fetch ++ (ascii "," ∷ (call ++ (ascii "]" ∷ [])))

replaced_joined : (fetch first second : List ℕ)
    → (((((codes "%[" ++ fetch) ++ codes ",regsub(") ++ first) ++ codes ",") ++ second)
    ++ codes ")]"
    ≡ codes "%[" ++ calls_text fetch first second
replaced_joined fetch first second =
    all_joined (codes "%[") fetch (codes ",regsub(") first (codes ",") second (codes ")]")
    ∙ ap (λ (t : List ℕ). codes "%[" ++ (fetch ++ (codes ",regsub(" ++ t)))
    (sym (end_joined first second))

pub replaced_spelled : (fetch expression replacement : List ℕ)
    → list_any (ends_name (Some (ascii "]"))) fetch ≡ false
    → SpellsReplacement fetch expression replacement (replaced fetch expression replacement)
replaced_spelled fetch expression replacement name = record {
  text = calls_text fetch (quoted (whole_expression expression)) (quoted replacement);
  is = replaced_joined fetch (quoted (whole_expression expression)) (quoted replacement);
  calls = FirstCall _ _ fetch _ (NameAlone fetch name) refl
      (LastCall _ _ (WithArguments (codes "regsub") (whole_expression expression ∷ replacement ∷ [])
      (quoted (whole_expression expression) ++ (ascii "," ∷ quoted replacement))
      refl refl (two_spelled (whole_expression expression) replacement)));
}
