-- The items of a replacement: a text is written of one list of them, and expands to their values.
use Rattle.std.proofs.Common.{◌≡◌, ℕ, ◌+◌, ◌-◌, ◌≤◌, ◌==◌, ◌&&◌, true, List, [], ◌∷◌, ◌++◌, refl, sym, ap, ap₂, ◌∙◌, inl, inr, arith, eqb-true, if◌then◌else◌}
use Rattle.std.proofs.lemmas.Bool.{cases_Bool, eqb-false, ne_eqb}
use Rattle.std.proofs.lemmas.Bool.Decides.{nat_tests}
use Rattle.std.specs.Char.{is_ascii_digit}
use Rattle.std.specs.List.{flat_map}
use Rattle.hx_conv_text.specs.Replacements.{ReplacementItem, Group, Backslash, KeptPair, Byte, AreReplacementItems, IsWrittenOf, item_text, item_value}
use Rattle.hx_conv_text.specs.Substitution.{expansion}

-- the items of a text
abbrev pub items_of : List ℕ → List ReplacementItem
items_of (b ∷ next ∷ rest) =
    if b == 92 && is_ascii_digit next then Group (next - 48) ∷ items_of rest
    else if b == 92 && next == 92 then Backslash ∷ items_of rest
    else if b == 92 then KeptPair next ∷ items_of rest
    else Byte b ∷ items_of (next ∷ rest)
items_of (b ∷ []) = Byte b ∷ []
items_of [] = []

digit_value : (b : ℕ) → is_ascii_digit b ≡ true → (48 + (b - 48) ≡ b) × (b - 48 ≤ 9)
digit_value b is = grind (arith, nat_tests)

digit_of : (n : ℕ) → n ≤ 9 → (is_ascii_digit (48 + n) ≡ true) × (48 + n - 48 ≡ n)
digit_of n le = grind (arith, nat_tests)

-- what a text is expanded to
pub expansion_of_items : (group : ℕ → List ℕ) (text : List ℕ)
    → expansion group text ≡ flat_map (item_value group) (items_of text)
expansion_of_items group [] = refl
expansion_of_items group (b ∷ []) = refl
expansion_of_items group (b ∷ next ∷ rest) =
    elim (cases_Bool (b == 92)) [
      | inl is ↦
          elim (cases_Bool (is_ascii_digit next)) [
            | inl digit ↦ rw (is, digit) (ap (λ l. group (next - 48) ++ l) (expansion_of_items group rest))
            | inr other ↦
                elim (cases_Bool (next == 92)) [
                  | inl pair ↦ rw (is, other, pair) (ap (λ l. 92 ∷ l) (expansion_of_items group rest))
                  | inr kept ↦
                      let first : b ≡ 92 = eqb-true b 92 is in
                      rw (is, other, kept) (ap₂ (λ x l. x ∷ next ∷ l) first (expansion_of_items group rest))
                ]
          ]
      | inr other ↦ rw other (ap (λ l. b ∷ l) (expansion_of_items group (next ∷ rest)))
    ]

-- the items of a text are those that it is written of
items_are : (text : List ℕ) → AreReplacementItems (items_of text)
items_are [] = tt
items_are (b ∷ []) = (inr refl, tt)
items_are (b ∷ next ∷ rest) =
    elim (cases_Bool (b == 92)) [
      | inl is ↦
          elim (cases_Bool (is_ascii_digit next)) [
            | inl digit ↦ rw (is, digit) ((digit_value next digit).1, items_are rest)
            | inr other ↦
                elim (cases_Bool (next == 92)) [
                  | inl pair ↦ rw (is, other, pair) (items_are rest)
                  | inr kept ↦ rw (is, other, kept) (other, eqb-false next 92 kept, items_are rest)
                ]
          ]
      | inr other ↦ rw other (inl (eqb-false b 92 other), items_are (next ∷ rest))
    ]

items_text : (text : List ℕ) → flat_map item_text (items_of text) ≡ text
items_text [] = refl
items_text (b ∷ []) = refl
items_text (b ∷ next ∷ rest) =
    elim (cases_Bool (b == 92)) [
      | inl is ↦
          let first : 92 ≡ b = sym (eqb-true b 92 is) in
          elim (cases_Bool (is_ascii_digit next)) [
            | inl digit ↦ rw (is, digit)
                (ap₂ (λ x l. x ∷ l) first (ap₂ (λ x l. x ∷ l) (digit_value next digit).0 (items_text rest)))
            | inr other ↦
                elim (cases_Bool (next == 92)) [
                  | inl pair ↦ rw (is, other, pair)
                      (ap₂ (λ x l. x ∷ l) first (ap₂ (λ x l. x ∷ l) (sym (eqb-true next 92 pair)) (items_text rest)))
                  | inr kept ↦ rw (is, other, kept) (ap₂ (λ x l. x ∷ next ∷ l) first (items_text rest))
                ]
          ]
      | inr other ↦ rw other (ap (λ l. b ∷ l) (items_text (next ∷ rest)))
    ]

pub items_written : (text : List ℕ) → IsWrittenOf (items_of text) text
items_written text = record { allowed = items_are text; joined = items_text text }

-- a byte that stands for itself
byte_read : (b : ℕ) (rest : List ℕ) → ¬ (b ≡ 92) → items_of (b ∷ rest) ≡ Byte b ∷ items_of rest
byte_read b [] other = refl
byte_read b (next ∷ rest) other = rw (ne_eqb b 92 other) refl

-- items that may stand in a replacement are read from their text
items_read : (items : List ReplacementItem) → AreReplacementItems items → items_of (flat_map item_text items) ≡ items
items_read [] h = refl
items_read (Group number ∷ items) h =
    let digit = digit_of number h.0 in
    rw digit.0 (ap₂ (λ n l. Group n ∷ l) digit.1 (items_read items h.1))
items_read (Backslash ∷ items) h = ap (λ l. Backslash ∷ l) (items_read items h)
items_read (KeptPair b ∷ items) h =
    rw (h.0, ne_eqb b 92 h.1) (ap (λ l. KeptPair b ∷ l) (items_read items h.2))
items_read (Byte b ∷ items) (inl other, h) =
    byte_read b (flat_map item_text items) other ∙ ap (λ l. Byte b ∷ l) (items_read items h)
items_read (Byte b ∷ items) (inr last, h) =
    ap (λ l. items_of (b ∷ flat_map item_text l)) last ∙ ap (λ l. Byte b ∷ l) (sym last)

pub only_items : (items : List ReplacementItem) (text : List ℕ) → IsWrittenOf items text
    → items_of text ≡ items
only_items items text h = ap items_of (sym h.joined) ∙ items_read items h.allowed
