-- Rows as the code keeps them: counts by a key of both verdicts.
use Rattle.std.specs.Prelude.{◌≡◌, ℕ, ◌==◌, true, List, ◌∷◌, ◌++◌, map, is_some}
use Rattle.std.specs.List.{after_first, before_first, list_all}
use Rattle.std.specs.declared.alloc.Global.{Global}
use Rattle.std.specs.declared.vec.Vec.{Vec}
use Rattle.hx_base.specs.Bytes.{ascii}
use Rattle.hx_text.specs.Cut.{cut_of}
use Rattle.hx_diff.specs.Verdicts.{Row}
use Rattle.hx_diff.specs.declared.rows.Count.{Count}

-- both verdicts, each a line, the last one without a line feed
abbrev pub key_of : (old_verdict new_verdict : List ℕ) → List ℕ
key_of old_verdict new_verdict = old_verdict ++ (ascii "\n" ∷ new_verdict)

-- the row of a key and its count
abbrev pub row_at : List ℕ → Count → Row
row_at key count = record {
  old_verdict = before_first (λ b. b == ascii "\n") key;
  new_verdict = after_first (λ b. b == ascii "\n") key;
  count = count.count;
  first = count.first;
}

abbrev pub row_of : Vec ℕ Global × Count → Row
row_of entry = row_at entry.0.items entry.1

abbrev pub rows_of : List (Vec ℕ Global × Count) → List Row
rows_of entries = map row_of entries

-- a key has two lines
abbrev pub AreKeys : List (Vec ℕ Global × Count) → Type 0
AreKeys entries = list_all (λ entry. is_some (cut_of (ascii "\n") entry.0.items)) entries ≡ true
