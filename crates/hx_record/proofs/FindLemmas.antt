-- The first position of a byte, as a search from a later one finds it.
use Rattle.std.proofs.Common.{◌≡◌, ℕ, ◌+◌, ◌-◌, ◌<◌, ◌≤◌, Bool, false, not, List, length, get_or, drop, sym, arith, length-drop, inl, inr}
use Rattle.std.specs.List.{position_or_len}
use Rattle.std.proofs.lemmas.List.{get_or-drop}
use Rattle.std.proofs.lemmas.List.Sums.{position_or_len_is, fails_before_first, prefix_len-le-length}
use Rattle.std.proofs.lemmas.Bool.{cases_lt, false_from_ne_true}
use Rattle.memchr.specs.Find.{NoneBefore, Passes, Nowhere, is_byte}

-- no position below `from`, and none of so many from there on
none_below : (test : ℕ → Bool) (bytes : List ℕ) (from n : ℕ) → from ≤ position_or_len test bytes → Nowhere (Passes test (drop from bytes)) 0 n → (k : ℕ) → k < from + n → test (get_or bytes k 0) ≡ false
none_below test bytes from n later no_pass k h = elim (cases_lt k from) [
  | inl below ↦ fails_before_first test bytes k 0 (omega arith)
  | inr above ↦
      let same : from + (k - from) ≡ k = omega arith in
      let here = false_from_ne_true _ (no_pass (k - from) (omega arith) (omega arith)) in
      rw (get_or-drop, same) at here
]

-- a position before the first one is within the bytes
pub position_within : (byte : ℕ) (bytes : List ℕ) (from : ℕ) → from ≤ position_or_len (is_byte byte) bytes → from ≤ length bytes
position_within byte bytes from h = omega (arith, prefix_len-le-length (λ x. not (is_byte byte x)) bytes)

-- what a search from there on finds is the first position
pub found_from : (byte : ℕ) (bytes : List ℕ) (from at : ℕ) → from ≤ position_or_len (is_byte byte) bytes → NoneBefore (Passes (is_byte byte) (drop from bytes)) 0 (length (drop from bytes)) at → Passes (is_byte byte) (drop from bytes) at → from + at ≡ position_or_len (is_byte byte) bytes
found_from byte bytes from at later first here =
    let inside : from + at < length bytes = omega (arith, length-drop from bytes, first.high) in
    sym (position_or_len_is (is_byte byte) bytes (from + at) 0 (omega arith) (none_below (is_byte byte) bytes from at later first.before) (λ _. rw get_or-drop at here))

-- and where it finds none there is none
pub none_from : (byte : ℕ) (bytes : List ℕ) (from : ℕ) → from ≤ position_or_len (is_byte byte) bytes → Nowhere (Passes (is_byte byte) (drop from bytes)) 0 (length (drop from bytes)) → length bytes ≡ position_or_len (is_byte byte) bytes
none_from byte bytes from later no_pass =
    let inside = position_within byte bytes from later in
    sym (position_or_len_is (is_byte byte) bytes (length bytes) 0 (omega arith) (λ k h. none_below (is_byte byte) bytes from (length (drop from bytes)) later no_pass k (omega (arith, length-drop from bytes))) (λ h. absurd (omega arith)))
