-- Entries are appended to a content, one after another.
use Rattle.std.proofs.Common.{◌≡◌, ℕ, List, [], ◌∷◌, ◌++◌, length, All, refl, sym, ap, subst, ◌∙◌, arith, append-nil, append_assoc, reverse}
use Rattle.std.proofs.lemmas.List.{map-append, reverse-append, reverse-reverse}
use Rattle.std.proofs.lemmas.List.Elements.{All-append, All-cons, All-head, All-nil, All-tail}
use Rattle.hx_index.specs.Index.{NodePool}
use Rattle.hx_versions.specs.declared.content.Content.{Content}
use Rattle.hx_versions.specs.declared.content.NewEntry.{NewEntry}
use Rattle.hx_versions.specs.Contents.{EntryPool, IsContent, PlacedEntry, entries_of}
use Rattle.hx_versions.specs.NewEntries.{added_entries, added_entry}

-- the content stands for the entries that were there and those that were appended so far; the others
-- are left, the last first
pub record Appended (e : EntryPool) (n : NodePool) (v : ℕ) (c : Content) (placed : List PlacedEntry) (added left : List NewEntry) : Type 0 where
  pub done : List NewEntry
  pub more : List PlacedEntry
  pub whole : added ≡ done ++ reverse left
  pub shown : entries_of more ≡ added_entries done
  pub content : IsContent e n v c (placed ++ more)

pub appended_none : (e : EntryPool) (n : NodePool) (v : ℕ) (c : Content) (placed : List PlacedEntry) (added left : List NewEntry) → left ≡ reverse added → added ≡ reverse (reverse added) → IsContent e n v c placed → Appended e n v c placed added left
appended_none e n v c placed added left is twice h = record {
  done = [];
  more = [];
  whole = twice ∙ ap reverse (sym is);
  shown = refl;
  content = subst (IsContent e n v c) (sym (append-nil placed)) h;
}

pub reverse_twice : (xs : List NewEntry) → xs ≡ reverse (reverse xs)
reverse_twice xs = sym (reverse-reverse xs)

pub appended_more : (e e' : EntryPool) (n n' : NodePool) (v : ℕ) (c c' : Content) (placed : List PlacedEntry) (added left rest : List NewEntry) (new : NewEntry) (p : PlacedEntry) (a : Appended e n v c placed added left) → left ≡ rest ++ new ∷ [] → p.entry ≡ added_entry new → IsContent e' n' v c' ((placed ++ a.more) ++ p ∷ []) → Appended e' n' v c' placed added rest
appended_more e e' n n' v c c' placed added left rest new p a last entry h = record {
  done = a.done ++ new ∷ [];
  more = a.more ++ p ∷ [];
  whole =
      a.whole ∙ ap (λ xs. a.done ++ reverse xs) last ∙ ap (λ xs. a.done ++ xs) (reverse-append rest (new ∷ []))
      ∙ sym (append_assoc a.done (new ∷ []) (reverse rest));
  shown =
      map-append (λ (q : PlacedEntry). q.entry) a.more (p ∷ [])
      ∙ ap (λ xs. xs ++ p.entry ∷ []) a.shown ∙ ap (λ x. added_entries a.done ++ x ∷ []) entry
      ∙ sym (map-append added_entry a.done (new ∷ []));
  content = subst (IsContent e' n' v c') (append_assoc placed a.more (p ∷ [])) h;
}

-- at the end none is left
pub appended_all : (e : EntryPool) (n : NodePool) (v : ℕ) (c : Content) (placed : List PlacedEntry) (added left : List NewEntry) (a : Appended e n v c placed added left) → length left ≡ 0 → entries_of a.more ≡ added_entries added
appended_all e n v c placed added [] a none =
    a.shown ∙ ap added_entries (sym (a.whole ∙ append-nil a.done))
appended_all e n v c placed added (x ∷ left) a none = absurd (omega (arith, none))

-- ---- what holds of each that is left

pub all_reversed : (P : NewEntry → Type 0) (xs : List NewEntry) → All P xs → All P (reverse xs)
all_reversed P [] all = All-nil P
all_reversed P (x ∷ xs) all =
    subst (All P) (sym (reverse-append (x ∷ []) xs))
    (All-append P (reverse xs) (x ∷ []) (all_reversed P xs (All-tail P x xs all)) (All-cons P x [] (All-head P x xs all) (All-nil P)))

pub all_rest : (P : NewEntry → Type 0) (rest : List NewEntry) (x : NewEntry) → All P (rest ++ x ∷ []) → All P rest × P x
all_rest P [] x all = (All-nil P, All-head P x [] all)
all_rest P (y ∷ rest) x all =
    let more = all_rest P rest x (All-tail P y (rest ++ x ∷ []) all) in
    (All-cons P y rest (All-head P y (rest ++ x ∷ []) all) more.0, more.1)
