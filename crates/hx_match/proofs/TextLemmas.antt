-- Texts that begin or end with a key in whatever case, and the places at which a key stands.
use Rattle.std.proofs.Common.{◌≡◌, ℕ, zero, suc, ◌+◌, ◌-◌, ◌<◌, ◌≤◌, Bool, true, false, ◌||◌, List, [], ◌∷◌, length, map, take, drop, refl, sym, ap, ◌∙◌, arith}
use Rattle.std.specs.Prelude.{IsTrue, ◌↔◌, nat_eq}
use Rattle.std.specs.Char.{to_ascii_lowercase}
use Rattle.std.specs.List.{ends_with, starts_with}
use Rattle.std.specs.Str.{bytes_eq}
use Rattle.std.proofs.lemmas.Bool.{false≢true}
use Rattle.std.proofs.lemmas.Bool.Decides.{Decides-eqb}
use Rattle.std.proofs.lemmas.List.{drop-map, length-append, length-drop, length-map, take-map}
use Rattle.std.proofs.lemmas.List.Prefix.{at_from_reads, at_reads}
use Rattle.std.proofs.lemmas.Slice.Eq.{bytes_eq-Decides, starts_is}
use Rattle.memchr.specs.Find.{OccursAt}
use Rattle.hx_sample.specs.Keys.{folded, is_part}

abbrev lower : List ℕ → List ℕ
lower text = map to_ascii_lowercase text

same_test : (r : Bool) (a b : List ℕ) → (r ≡ true → a ≡ b) → (a ≡ b → r ≡ true) → r ≡ bytes_eq b a
same_test true a b same test = sym ((bytes_eq-Decides b a).1 (sym (same refl)))
same_test false a b same test = differs (bytes_eq b a) refl
  where
    differs : (s : Bool) → bytes_eq b a ≡ s → false ≡ s
    differs true is = test (sym ((bytes_eq-Decides b a).0 is))
    differs false is = refl

-- a text begins with a key in whatever case where as many bytes as the key has are the same but for
-- their case
pub begins_folded : (text key : List ℕ) (r : Bool)
    → (IsTrue r ↔ (lower (take (length key) text) ≡ lower key))
    → r ≡ starts_with nat_eq (lower text) (lower key)
begins_folded text key r test =
    rw (length-map key to_ascii_lowercase, take-map to_ascii_lowercase (length key) text)
    (same_test r (lower (take (length key) text)) (lower key) test.0 test.1)

-- the same of the end
pub ends_folded : (text key : List ℕ) (r : Bool)
    → (IsTrue r ↔ (lower (drop (length text - length key) text) ≡ lower key))
    → r ≡ ends_with nat_eq (lower text) (lower key)
ends_folded text key r test =
    rw (length-map key to_ascii_lowercase, length-map text to_ascii_lowercase, drop-map to_ascii_lowercase (length text - length key) text)
    (same_test r (lower (drop (length text - length key) text)) (lower key) test.0 test.1)

-- ---- where a key stands

pub or_right : (a b : Bool) → b ≡ true → (a || b) ≡ true
or_right true b h = refl
or_right false b h = h

or_none : (a b : Bool) → a ≡ false → b ≡ false → (a || b) ≡ false
or_none a b p q = rw p q

pub or_left : (a b : Bool) → a ≡ true → (a || b) ≡ true
or_left a b h = rw h refl

-- a key that begins what follows some bytes of a text is a part of it
pub part_at : (key text : List ℕ) (k : ℕ) → k ≤ length text
    → starts_with nat_eq (drop k text) key ≡ true → is_part key text ≡ true
part_at key [] zero le starts = starts
part_at key [] (suc k) le starts = absurd (omega arith)
part_at key (b ∷ text) zero le starts = or_left _ (is_part key text) starts
part_at key (b ∷ text) (suc k) le starts =
    or_right (starts_with nat_eq (b ∷ text) key) _ (part_at key text k (omega arith) starts)

-- a key that nowhere begins what follows is no part
pub no_part : (key text : List ℕ)
    → ((k : ℕ) → k ≤ length text → starts_with nat_eq (drop k text) key ≡ false)
    → is_part key text ≡ false
no_part key [] none = none zero (omega arith)
no_part key (b ∷ text) none =
    or_none _ (is_part key text) (none zero (omega arith))
    (no_part key text (λ k le. none (suc k) (omega arith)))

pub occurs_starts : (text key : List ℕ) (k : ℕ) → OccursAt text key k → starts_with nat_eq (drop k text) key ≡ true
occurs_starts text key k occurs =
    (starts_is Decides-eqb (drop k text) key (starts_with nat_eq (drop k text) key) refl).1
    (drop (k + length key) text)
    (at_from_reads 0 text key k occurs.fits occurs.reads)

pub starts_occurs : (text key : List ℕ) (k : ℕ) → k ≤ length text
    → starts_with nat_eq (drop k text) key ≡ true → OccursAt text key k
starts_occurs text key k le starts =
    let split = (starts_is Decides-eqb (drop k text) key (starts_with nat_eq (drop k text) key) refl).0 starts in
    record {
      fits = omega (arith, length-drop k text, ap length split, length-append key (drop (length key) (drop k text)));
      reads = at_reads 0 text key k (drop (length key) (drop k text)) split;
    }

-- what a search for the key answers says whether it is a part
pub found_part : (text key : List ℕ) (k : ℕ) → OccursAt text key k → true ≡ is_part key text
found_part text key k occurs =
    sym (part_at key text k (omega (arith, occurs.fits)) (occurs_starts text key k occurs))

pub found_nowhere : (text key : List ℕ)
    → ((k : ℕ) → 0 ≤ k → k < length text + 1 → ¬ (OccursAt text key k))
    → false ≡ is_part key text
found_nowhere text key none =
    sym (no_part key text (λ k le. not_true _ (λ starts. none k (omega arith) (omega arith) (starts_occurs text key k le starts))))
  where
    not_true : (b : Bool) → (b ≡ true → ⊥) → b ≡ false
    not_true true never = absurd (never refl)
    not_true false never = refl

-- a key that begins a text is a part of it
pub begins_part : (text key : List ℕ) → starts_with nat_eq text key ≡ true → true ≡ is_part key text
begins_part text key starts = sym (part_at key text zero (omega arith) starts)

-- a needle of the key with small letters is a part where the key is, in whatever case
pub part_of_key : (ci : Bool) (key part text : List ℕ) (hit : Bool) → hit ≡ is_part part (folded true text)
    → ci ≡ true → part ≡ folded ci key → hit ≡ is_part (folded ci key) (folded ci text)
part_of_key true key part text hit is ignored read = is ∙ ap (λ p. is_part p (folded true text)) read
part_of_key false key part text hit is ignored read = absurd (false≢true ignored)
