-- Prefixes of texts that were written, and of bytes that were left to read.
use Rattle.std.specs.Prelude.{◌≡◌, ℕ, Option, List, ◌++◌}
use Rattle.std.specs.Io.KnownBytes.{Appends, Consumes}

-- exactly a prefix of the text was appended, and a rest of it was not
pub record AppendsPrefix (old new : Option (List ℕ)) (text : List ℕ) : Type 0 where
  pub prefix : List ℕ
  pub rest : List ℕ
  pub whole : text ≡ prefix ++ rest
  pub appended : Appends old new prefix

-- the same within a longer text: where `before` was appended earlier and `after` is to follow, what
-- is appended by then is a prefix of all of it
abbrev pub StaysPrefix : Option (List ℕ) → Option (List ℕ) → List ℕ → Type 0
StaysPrefix old new bytes =
    (start : Option (List ℕ)) (before after text : List ℕ)
    → Appends start old before → text ≡ before ++ bytes ++ after → AppendsPrefix start new text

-- exactly some prefix of what was left is gone, and its bytes have the property P
pub record TakesPrefix (old new : Option (List ℕ)) (P : List ℕ → Type 0) : Type 0 where
  pub prefix : List ℕ
  pub consumed : Consumes old new prefix
  pub fact : P prefix
