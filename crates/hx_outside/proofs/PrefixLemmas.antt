-- A text that is written piece by piece, and bytes that are read piece by piece.
use Rattle.std.proofs.Common.{◌≡◌, ℕ, Option, List, ◌++◌, take, drop, sym, ap, ◌∙◌, append_assoc, take-append-drop}
use Rattle.std.specs.Io.KnownBytes.{Appends, Consumes}
use Rattle.std.proofs.KnownBytes.{Appends-trans, Consumes-trans}
use Rattle.hx_outside.specs.Prefixes.{TakesPrefix}

-- the text but for this rest was appended
pub record AppendsAllBut (old new : Option (List ℕ)) (text rest : List ℕ) : Type 0 where
  pub prefix : List ℕ
  pub whole : text ≡ prefix ++ rest
  pub appended : Appends old new prefix

pub more_appended : (old now new : Option (List ℕ)) (text rest : List ℕ) (n : ℕ)
    → AppendsAllBut old now text rest → Appends now new (take n rest)
    → AppendsAllBut old new text (drop n rest)
more_appended old now new text rest n before appended = record {
  prefix = before.prefix ++ take n rest;
  whole =
      before.whole ∙ ap (λ l. before.prefix ++ l) (sym (take-append-drop n rest))
      ∙ sym (append_assoc before.prefix (take n rest) (drop n rest));
  appended = Appends-trans old now new before.prefix (take n rest) before.appended appended;
}

-- what one read took after another is a prefix
pub took_more : (old now new : Option (List ℕ)) (first more : List ℕ) (P : List ℕ → Type 0)
    → Consumes old now first → Consumes now new more → P (first ++ more)
    → TakesPrefix old new P
took_more old now new first more P before after fact = record {
  prefix = first ++ more;
  consumed = Consumes-trans old now new first more before after;
  fact = fact;
}
