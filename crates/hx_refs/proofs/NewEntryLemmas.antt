-- Entries that pairs become: ready for each use, and one after another.
use Rattle.std.proofs.Common.{◌≡◌, ℕ, ◌+◌, ◌-◌, ◌≤◌, Bool, List, [], ◌∷◌, ◌++◌, length, take, drop, ap, sym, subst, ◌∙◌, arith, append_assoc, inr}
use Rattle.std.specs.Prelude.{Option, None, IfOk, Result, Ok, Err, slice_index_or}
use Rattle.std.proofs.lemmas.List.{take_rest}
use Rattle.hx_text.specs.declared.kinds.By.{By}
use Rattle.hx_outside.specs.Makers.{ExpressionText}
use Rattle.hx_match.specs.Patterns.{PatternText}
use Rattle.hx_sample.specs.Find.{Entry}
use Rattle.hx_refs.specs.Additions.{new_entries, new_entry, pair_fault, pairs_fault, Demands, Pair, PairsAskFor}
use Rattle.hx_versions.specs.NewEntries.{added_entry, prepared_patterns, IsReadyFor}
use Rattle.hx_versions.specs.declared.content.NewEntry.{NewEntry}
use Rattle.hx_refs.specs.declared.fault.RefFault.{RefFault}
use Rattle.hx_refs.proofs.AdditionLemmas.{ready_entry}

-- an entry that is answered is ready
pub ready_answer : (ways : List (By × Bool)) (r : Result NewEntry RefFault) (number : ℕ) (key value : List ℕ) (prepared : List PatternText)
    → IfOk r (λ new. added_entry new ≡ record { number = number; key = key; value = value })
    → IfOk r (λ new. new.prepared.items ≡ prepared) → IfOk r (λ new. length new.nodes ≡ length prepared)
    → prepared ≡ prepared_patterns key ways → IfOk r (IsReadyFor ways)
ready_answer ways (Ok new) number key value prepared entry same nodes patterns =
    ready_entry ways new number key value prepared entry same nodes patterns
ready_answer ways (Err fault) number key value prepared entry same nodes patterns = tt

-- the pair that is taken from those that are left
pub taken_pair : (rest : List Pair) (pair : Pair) → 1 ≤ length rest → pair ≡ slice_index_or rest 0 pair
    → rest ≡ pair ∷ take (length rest - 1) (drop 1 rest)
taken_pair [] pair some is = absurd (omega (arith, some))
taken_pair (x ∷ rest) pair some is =
    ap (λ y. y ∷ rest) (sym is) ∙ ap (λ ys. pair ∷ ys) (sym (take_rest (x ∷ rest) 1))

module _ (rest : List Pair) (pair : Pair) (some : 1 ≤ length rest) (is : pair ≡ slice_index_or rest 0 pair) where
  -- so many are left
  pub fewer_left : (so_far all : ℕ) → so_far + length rest ≡ all
      → so_far + 1 + length (take (length rest - 1) (drop 1 rest)) ≡ all
  fewer_left so_far all before =
      let same = ap length (taken_pair rest pair some is) in
      omega (arith, before, same)

  -- the entries of those that are left are the last of all
  pub entries_left : (version serial : ℕ) (entry : Entry) (old new all : List Entry) → new ≡ old ++ entry ∷ []
      → entry ≡ new_entry version (serial + 1, pair) → old ++ new_entries version serial rest ≡ all
      → new ++ new_entries version (serial + 1) (take (length rest - 1) (drop 1 rest)) ≡ all
  entries_left version serial entry old new all more this before =
      let ys = new_entries version (serial + 1) (take (length rest - 1) (drop 1 rest)) in
      ap (λ xs. xs ++ ys) (more ∙ ap (λ x. old ++ x ∷ []) this)
      ∙ append_assoc old (new_entry version (serial + 1, pair) ∷ []) ys
      ∙ ap (λ xs. old ++ new_entries version serial xs) (sym (taken_pair rest pair some is)) ∙ before

  -- the fault of those that are left is that of all
  pub fault_left : (demands : Demands) (count serial : ℕ) (all : Option RefFault) → pair_fault demands count serial pair ≡ None
      → pairs_fault demands count serial rest ≡ all
      → pairs_fault demands (count + 1) (serial + 1) (take (length rest - 1) (drop 1 rest)) ≡ all
  fault_left demands count serial all none before =
      let whole = subst (λ xs. pairs_fault demands count serial xs ≡ all) (taken_pair rest pair some is) before in
      rw none at whole

  -- what those that are left ask for is asked for
  pub asked_left : (demands : Demands) (count serial : ℕ) (Asked : ExpressionText → Type 0)
      → pair_fault demands count serial pair ≡ None
      → ((text : ExpressionText) → PairsAskFor demands count serial rest text → Asked text)
      → (text : ExpressionText)
      → PairsAskFor demands (count + 1) (serial + 1) (take (length rest - 1) (drop 1 rest)) text → Asked text
  asked_left demands count serial Asked none before text asked =
      before text
      (subst (λ xs. PairsAskFor demands count serial xs text) (sym (taken_pair rest pair some is)) (inr (none, asked)))
