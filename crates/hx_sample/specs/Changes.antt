-- What a change makes of the lists of tables (HAProxy configuration manual 2.4, section 4.2,
-- `http-request add-acl`, `del-acl`, `del-map`, `set-map`).
use Rattle.std.specs.Prelude.{◌≡◌, ℕ, ◌&&◌, nat_lt, Bool, true, false, not, List, [], ◌∷◌, ◌++◌, length, map, slice_set, Result, Err, if◌then◌else◌, ◌⊎◌}
use Rattle.std.specs.List.{filter, list_any}
use Rattle.std.specs.Str.{bytes_eq}
use Rattle.hx_base.specs.Bytes.{is_bad_value_byte}
use Rattle.hx_outside.specs.Makers.{CountsLarge, ExpressionText, MakerState}
use Rattle.hx_text.specs.declared.kinds.By.TheVariants as method
use Rattle.hx_sample.specs.declared.tables.Change.{Change}
use Rattle.hx_sample.specs.declared.tables.Change.TheVariants as change
use Rattle.hx_sample.specs.declared.tables.TableFault.{TableFault}
use Rattle.hx_sample.specs.declared.tables.TableFault.TheVariants.{TooLarge}
use Rattle.hx_sample.specs.Find.{Entry}
use Rattle.hx_sample.specs.Tables.{entries_at, TableHead}

-- a change of a list
pub data ListChange : Type 0 where
  -- a key is added, where no entry has it
  Addition : List ℕ → ListChange
  -- the entries with a key are removed
  Removal : List ℕ → ListChange
  -- the entries with a key get a value; where there is none, one is added
  NewValue : List ℕ → List ℕ → ListChange

-- the change that is asked for
abbrev pub change_of : Change → ListChange
change_of (change.Add key) = Addition key.now
change_of (change.Del key) = Removal key.now
change_of (change.SetMap key value) = NewValue key.now value.now
change_of (change.DelMap key) = Removal key.now

-- bytes that a key or a value may have
abbrev pub is_entry_text : List ℕ → Bool
is_entry_text bytes = not (list_any is_bad_value_byte bytes)

abbrev pub is_entry_key : List ℕ → Bool
is_entry_key key = nat_lt 0 (length key) && is_entry_text key

-- the key and the value of the change are such as an entry may have; any other change does nothing
abbrev pub is_fit : ListChange → Bool
is_fit (Addition key) = is_entry_key key
is_fit (Removal key) = is_entry_key key
is_fit (NewValue key value) = is_entry_key key && is_entry_text value

-- ---- entries

-- the entry has the key
abbrev pub has_key : List ℕ → Entry → Bool
has_key key entry = bytes_eq entry.key key

-- the entries without those that a test chooses
abbrev pub without_chosen : (Entry → Bool) → List Entry → List Entry
without_chosen test entries = filter (λ entry. not (test entry)) entries

-- the entry, with the value if a test chooses it; its number and its key stay
abbrev pub with_value : (Entry → Bool) → List ℕ → Entry → Entry
with_value test value entry = if test entry then record entry { value = value } else entry

-- ---- what a change makes of a list

-- the same entries, or with a last one more, which has the key and the value
abbrev pub HasOneMore : List ℕ → List ℕ → List Entry → List Entry → Type 0
HasOneMore key value before after =
    (after ≡ before)
    ⊎ (number : ℕ)
    × (after ≡ before ++ record { number = number; key = key; value = value } ∷ [])

-- the same entries, of which those with the key may have the value now
abbrev pub HasNewValue : List ℕ → List ℕ → List Entry → List Entry → Type 0
HasNewValue key value before after =
    (after ≡ before) ⊎ (after ≡ map (with_value (has_key key) value) before)

-- what an addition makes of a list in which an entry has the key, or none has it
abbrev pub HasAddition : Bool → List ℕ → List Entry → List Entry → Type 0
HasAddition true key before after = after ≡ before
HasAddition false key before after = HasOneMore key [] before after

-- what a change of a value makes of a list in which an entry has the key, or none has it
abbrev pub HasValue : Bool → List ℕ → List ℕ → List Entry → List Entry → Type 0
HasValue true key value before after = HasNewValue key value before after
HasValue false key value before after = HasOneMore key value before after

-- What a change makes of a list. An addition may be refused, as where the key is no pattern, and so
-- may a value: nothing is changed then.
abbrev pub IsChanged : ListChange → List Entry → List Entry → Type 0
IsChanged (Addition key) before after =
    HasAddition (list_any (has_key key) before) key before after
IsChanged (Removal key) before after = after ≡ without_chosen (has_key key) before
IsChanged (NewValue key value) before after =
    HasValue (list_any (has_key key) before) key value before after

-- what a change that is fit, or isn't, makes of the list at a position; all others stay
abbrev pub ChangesFit : Bool → ℕ → ListChange → List (List Entry) → List (List Entry) → Type 0
ChangesFit false list asked before after = after ≡ before
ChangesFit true list asked before after =
    (after ≡ slice_set before list (entries_at after list))
    × IsChanged asked (entries_at before list) (entries_at after list)

abbrev pub ChangesList : ℕ → ListChange → List (List Entry) → List (List Entry) → Type 0
ChangesList list asked before after = ChangesFit (is_fit asked) list asked before after

-- ---- regular expressions that are too large

-- a head by `reg` of the list reads the key as this expression
abbrev pub IsReadBy : List TableHead → ℕ → List ℕ → ExpressionText → Type 0
IsReadBy [] list key text = ⊥
IsReadBy (h ∷ heads) list key text =
    ((h.by ≡ method.Reg) × (h.list ≡ list) × (text ≡ record { text = key; ci = h.ci }))
    ⊎ IsReadBy heads list key text

-- the key of a change that may append it, which a removal doesn't
abbrev pub IsAppendedKey : ListChange → List ℕ → Type 0
IsAppendedKey (Addition key) appended = appended ≡ key
IsAppendedKey (Removal key) appended = ⊥
IsAppendedKey (NewValue key value) appended = appended ≡ key

-- A change of a list appends its key, and a head reads it as this expression: the change is fit,
-- and no entry has the key.
pub record ChangeAsksFor (heads : List TableHead) (lists : List (List Entry)) (list : ℕ)
    (asked : ListChange) (text : ExpressionText) : Type 0 where
  pub key : List ℕ
  pub appended : IsAppendedKey asked key
  pub fit : is_fit asked ≡ true
  pub absent : list_any (has_key key) (entries_at lists list) ≡ false
  pub read : IsReadBy heads list key text

-- what a maker of regular expressions knows before and after a change that asks for such texts
abbrev pub ChangeCountsLarge : {T : Type 0} → Result T TableFault → (ExpressionText → Type 0)
    → MakerState → MakerState → Type 0
ChangeCountsLarge (Err TooLarge) Asked before now = CountsLarge true Asked before now
ChangeCountsLarge _ Asked before now = CountsLarge false Asked before now
