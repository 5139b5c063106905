-- What pins how a replacement is expanded: the items that its text is written of.
use Rattle.std.specs.Prelude.{◌≡◌, ◌≢◌, ◌⊎◌, ℕ, ◌+◌, ◌≤◌, false, List, [], ◌∷◌, ⊤}
use Rattle.std.specs.Char.{is_ascii_digit}
use Rattle.std.specs.List.{flat_map}
use Rattle.hx_base.specs.Bytes.{ascii}

-- An item of a replacement: the number of a group, a backslash that is written as two, a backslash
-- with the byte after it, or a byte that stands for itself.
pub data ReplacementItem : Type 0 where
  Group : ℕ → ReplacementItem
  Backslash : ReplacementItem
  KeptPair : ℕ → ReplacementItem
  Byte : ℕ → ReplacementItem

-- how an item is written
abbrev pub item_text : ReplacementItem → List ℕ
item_text (Group number) = ascii "\\" ∷ (ascii "0" + number) ∷ []
item_text Backslash = ascii "\\" ∷ ascii "\\" ∷ []
item_text (KeptPair b) = ascii "\\" ∷ b ∷ []
item_text (Byte b) = b ∷ []

-- what stands for an item, where the groups matched these bytes
abbrev pub item_value : (ℕ → List ℕ) → ReplacementItem → List ℕ
item_value group (Group number) = group number
item_value group Backslash = ascii "\\" ∷ []
item_value group (KeptPair b) = ascii "\\" ∷ b ∷ []
item_value group (Byte b) = b ∷ []

-- Which items a replacement may have: groups of one digit, a backslash kept before a byte that is
-- no digit and no backslash, and one that stands for itself as the last item alone.
abbrev pub AreReplacementItems : List ReplacementItem → Type 0
AreReplacementItems [] = ⊤
AreReplacementItems (Group number ∷ items) = (number ≤ 9) × AreReplacementItems items
AreReplacementItems (Backslash ∷ items) = AreReplacementItems items
AreReplacementItems (KeptPair b ∷ items) =
    (is_ascii_digit b ≡ false) × (b ≢ ascii "\\") × AreReplacementItems items
AreReplacementItems (Byte b ∷ items) = ((b ≢ ascii "\\") ⊎ (items ≡ [])) × AreReplacementItems items

-- the text of a replacement is these items in a row
pub record IsWrittenOf (items : List ReplacementItem) (text : List ℕ) : Type 0 where
  pub allowed : AreReplacementItems items
  pub joined : flat_map item_text items ≡ text
