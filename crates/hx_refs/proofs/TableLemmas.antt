-- What changes of lists, as rules ask for them, make of the references, and what they answer.
use Rattle.std.proofs.Common.{◌≡◌, ℕ, ◌+◌, ◌*◌, ◌^◌, ◌<◌, ◌==◌, Bool, true, false, List, [], ◌∷◌, length, map, refl, ap, sym, ◌∙◌, arith, inl, inr}
use Rattle.std.specs.Prelude.{Option, None, Some, not, slice_get, slice_set, Result, Ok, Err, IfErr, OnOk, OnErr, if◌then◌else◌, ⊤}
use Rattle.std.specs.List.{list_any}
use Rattle.std.specs.Option.{option_map_or, option_or}
use Rattle.std.proofs.lemmas.Bool.{cases_Bool, eqb-true}
use Rattle.std.proofs.lemmas.List.{map-set, set-get_or}
use Rattle.std.proofs.lemmas.Option.{slice_get-map, slice_get_cases, get_or_from_slice_get}
use Rattle.hx_outside.specs.Makers.{ExpressionText, MakerState}
use Rattle.hx_sample.specs.Changes.{has_key, is_fit, with_value, without_chosen, ChangeAsksFor, ChangeCountsLarge, ChangesFit, ChangesList, HasNewValue, HasOneMore, IsAppendedKey, IsChanged, IsReadBy, ListChange, Addition, Removal, NewValue}
use Rattle.hx_sample.specs.Find.{Entry}
use Rattle.hx_sample.specs.Tables.{entries_at, TableHead}
use Rattle.hx_sample.specs.declared.tables.TableFault.{TableFault}
use Rattle.hx_sample.specs.declared.tables.TableFault.TheVariants.{TooLarge as TooLargeChange, NoMemory as NoMemoryChange}
use Rattle.hx_refs.specs.Additions.{addition_fault, after_addition, demands_on, with_pairs, AdditionAsksFor, AdditionCountsLarge, Demands, IsReadAs, Pair, VersionAsksFor}
use Rattle.hx_refs.specs.Changes.{after_change_of_value, after_deletion, answer, deletion_fault, fault_at, fault_unless, value_fault, with_entries, MayFail}
use Rattle.hx_refs.specs.References.{changed_at, entries_in, refuses_value, RefsState, searched_lists, version_entries, version_of, with_reference, Reference, References, Version}
use Rattle.hx_refs.specs.TableAnswers.{lacks_key, table_answer}
use Rattle.hx_refs.specs.TableChanges.{after_fit_change, is_key_of, unless_refused, with_pair}
use Rattle.hx_refs.specs.Uses.{uses_from}
use Rattle.hx_versions.specs.Rows.{changed_entries}
use Rattle.hx_refs.specs.Versions.{with_new_entries}
use Rattle.hx_refs.specs.declared.fault.RefFault.{RefFault}
use Rattle.hx_refs.specs.declared.fault.RefFault.TheVariants.{UnknownRef, BadVersion, KeyNotFound, BadPattern, BadValue, NeedsMap, UsedAsMap, VersionFull, VersionWorn, NoMoreVersions, TooLarge, NoMemory}
use Rattle.hx_refs.proofs.ListLemmas.{get_set_same}

-- ---- the reference at a position

reference_at : (refs : References) (r : ℕ) → r < length refs.references
    → (reference : Reference) × (slice_get refs.references r ≡ Some reference)
reference_at refs r within = elim (slice_get_cases refs.references r).1 [
  | inl w ↦ (w.0, w.2)
  | inr past ↦ absurd (omega (arith, past.0))
]

-- ---- what a call answers to a change

counted_answered : (a : Result ⊤ RefFault) (A B : ExpressionText → Type 0) (before now : MakerState)
    → ((text : ExpressionText) → A text → B text) → AdditionCountsLarge a A before now
    → ChangeCountsLarge (table_answer a) B before now
counted_answered (Ok x) A B before now wider counts = counts
counted_answered (Err TooLarge) A B before now wider counts = (
  counts.0,
  record {
    text = counts.1.text;
    is = counts.1.is;
    asked = wider counts.1.text counts.1.asked;
  },
)
counted_answered (Err NoMemory) A B before now wider counts = counts
counted_answered (Err UnknownRef) A B before now wider counts = counts
counted_answered (Err BadVersion) A B before now wider counts = counts
counted_answered (Err KeyNotFound) A B before now wider counts = counts
counted_answered (Err BadPattern) A B before now wider counts = counts
counted_answered (Err BadValue) A B before now wider counts = counts
counted_answered (Err NeedsMap) A B before now wider counts = counts
counted_answered (Err UsedAsMap) A B before now wider counts = counts
counted_answered (Err VersionFull) A B before now wider counts = counts
counted_answered (Err VersionWorn) A B before now wider counts = counts
counted_answered (Err NoMoreVersions) A B before now wider counts = counts

-- ---- what reads a key

read_by : (heads : List TableHead) (number r : ℕ) (key : List ℕ) (text : ExpressionText)
    → IsReadAs (uses_from number heads r) key text → IsReadBy heads r key text
read_by [] number r key text asked = asked
read_by (h ∷ heads) number r key text asked = elim (cases_Bool (h.list == r)) [
  | inl same ↦ elim (rw same at asked) [
    | inl here ↦ inl (here.0, eqb-true h.list r same, here.1)
    | inr later ↦ inr (read_by heads (number + 1) r key text later)
  ]
  | inr other ↦ inr (read_by heads (number + 1) r key text (rw other at asked))
]

lone_asks : (demands : Demands) (version : Option Version) (pair : Pair) (text : ExpressionText)
    → VersionAsksFor demands version (pair ∷ []) text → IsReadAs demands.uses pair.key text
lone_asks demands None pair text asked = absurd asked
lone_asks demands (Some version) pair text asked = elim asked [
  | inl read ↦ read
  | inr after ↦ absurd after.1
]

-- what an addition of a pair reads is its key, by a head of the list
asked_by : (refs : References) (r : ℕ) (pair : Pair) → r < length refs.references → (text : ExpressionText)
    → AdditionAsksFor refs r None (pair ∷ []) text → IsReadBy refs.heads r pair.key text
asked_by refs r pair within text asked =
    let found = reference_at refs r within in
    read_by refs.heads 0 r pair.key text
    (lone_asks (demands_on refs r found.0) (version_of found.0 None) pair text (rw found.1 at asked))

-- the maker's count, by what an addition answers
pub addition_counts : (a : Result ⊤ RefFault) (refs : References) (r : ℕ) (pair : Pair) (before now : MakerState)
    → r < length refs.references → AdditionCountsLarge a (AdditionAsksFor refs r None (pair ∷ [])) before now
    → ChangeCountsLarge (table_answer a) (IsReadBy refs.heads r pair.key) before now
addition_counts a refs r pair before now within counts =
    counted_answered a (AdditionAsksFor refs r None (pair ∷ [])) (IsReadBy refs.heads r pair.key) before now
    (asked_by refs r pair within) counts

-- ---- lists

-- the list of the reference at a position
pub list_at : (refs : References) (r : ℕ) (reference : Reference) → slice_get refs.references r ≡ Some reference
    → slice_get (searched_lists refs) r ≡ Some (version_entries reference None)
list_at refs r reference is =
    rw (slice_get-map {A = Reference} {B = List Entry} (λ x. version_entries x None) refs.references r, is) refl

-- the lists with that of a changed reference
pub lists_with : (refs : References) (r : ℕ) (reference : Reference) (change : Reference → Reference)
    → slice_get refs.references r ≡ Some reference
    → searched_lists (with_reference r change refs)
    ≡ slice_set (searched_lists refs) r (version_entries (change reference) None)
lists_with refs r reference change is =
    rw is (map-set {A = Reference} {B = List Entry} (λ x. version_entries x None) refs.references r (change reference))

pub set_same : {A : Type 0} → (xs : List A) (r : ℕ) (x : A) → slice_get xs r ≡ Some x → slice_set xs r x ≡ xs
set_same xs r x is = rw (get_or_from_slice_get xs r x x is) at (set-get_or xs r x)

changed_list : (asked : ListChange) (xs : List (List Entry)) (r : ℕ) (before after : List Entry) → slice_get xs r ≡ Some before
    → IsChanged asked before after → ChangesFit true r asked xs (slice_set xs r after)
changed_list asked xs r before after is changed = rw (get_set_same xs r before after is, is) (refl, changed)

same_list : (asked : ListChange) (xs : List (List Entry)) (r : ℕ) (before : List Entry) → slice_get xs r ≡ Some before
    → IsChanged asked before before → ChangesFit true r asked xs xs
same_list asked xs r before is changed = rw (set_same xs r before is) at (changed_list asked xs r before before is changed)

-- the entries of the first of these versions
abbrev first_of : List Version → List Entry
first_of versions = option_map_or (λ version. version.entries) (slice_get versions 0) []

one_more : (number : ℕ) (pair : Pair) (versions : List Version)
    → HasOneMore pair.key pair.value (first_of versions) (first_of (changed_at 0 (with_new_entries number (pair ∷ [])) versions))
one_more number pair [] = inl refl
one_more number pair (version ∷ versions) = inr (number * 2 ^ 32 + (version.serial + 1), refl)

new_values : (key value : List ℕ) (versions : List Version)
    → HasNewValue key value (first_of versions) (first_of (changed_at 0 (changed_entries (map (with_value (has_key key) value))) versions))
new_values key value [] = inl refl
new_values key value (version ∷ versions) = inr refl

fewer : (key : List ℕ) (versions : List Version)
    → first_of (changed_at 0 (changed_entries (without_chosen (has_key key))) versions) ≡ without_chosen (has_key key) (first_of versions)
fewer key [] = refl
fewer key (version ∷ versions) = refl

none_chosen : (test : Entry → Bool) (entries : List Entry) → list_any test entries ≡ false → entries ≡ without_chosen test entries
none_chosen test [] none = refl
none_chosen test (entry ∷ entries) none = elim (cases_Bool (test entry)) [
  | inl this ↦ absurd (true_isnt (rw this at none))
  | inr other ↦
      let rest = none_chosen test entries (rw other at none) in
      rw other (ap (λ (es : List Entry). entry ∷ es) rest)
]
  where
    true_isnt : true ≡ false → ⊥
    true_isnt is = cc

-- ---- what each change makes of the list

-- a list with a pair more, or the same where the pair is refused
paired : (refs : References) (r : ℕ) (asked : ListChange) (pair : Pair) (reference : Reference)
    → slice_get refs.references r ≡ Some reference
    → ((after : List Entry) → HasOneMore pair.key pair.value (version_entries reference None) after
    → IsChanged asked (version_entries reference None) after)
    → ChangesFit true r asked (searched_lists refs) (searched_lists (with_pair refs r pair))
paired refs r asked pair reference is suits = go (addition_fault refs r None (pair ∷ []))
  where
    go : (own : Option RefFault)
        → ChangesFit true r asked (searched_lists refs)
        (searched_lists (unless_refused own (after_addition refs r None (pair ∷ [])) refs))
    go (Some fault) =
        same_list asked (searched_lists refs) r (version_entries reference None) (list_at refs r reference is)
        (suits (version_entries reference None) (inl refl))
    go None =
        rw (lists_with refs r reference (with_pairs None (pair ∷ [])) is)
        (changed_list asked (searched_lists refs) r (version_entries reference None)
        (version_entries (with_pairs None (pair ∷ []) reference) None) (list_at refs r reference is)
        (suits (version_entries (with_pairs None (pair ∷ []) reference) None)
        (one_more reference.curr pair reference.versions)))

-- an entry has the key where one of the reference has it
key_here : (refs : References) (r : ℕ) (key : List ℕ) (reference : Reference) → slice_get refs.references r ≡ Some reference
    → is_key_of refs r key ≡ list_any (has_key key) (version_entries reference None)
key_here refs r key reference is = rw is refl

added : (refs : References) (r : ℕ) (key : List ℕ) (reference : Reference) → slice_get refs.references r ≡ Some reference
    → ChangesFit true r (Addition key) (searched_lists refs) (searched_lists (after_fit_change refs r (Addition key)))
added refs r key reference is = go (is_key_of refs r key) (key_here refs r key reference is)
  where
    go : (here : Bool) → here ≡ list_any (has_key key) (version_entries reference None)
        → ChangesFit true r (Addition key) (searched_lists refs)
        (searched_lists (if here then refs else with_pair refs r (record { key = key; value = [] })))
    go true here =
        same_list (Addition key) (searched_lists refs) r (version_entries reference None) (list_at refs r reference is)
        (rw (← here) refl)
    go false none =
        paired refs r (Addition key) (record { key = key; value = [] }) reference is (λ after more. rw (← none) more)

none_by : (here : Bool) (fault : RefFault) → Some fault ≡ fault_unless here KeyNotFound → here ≡ false
none_by true fault is = absurd (cc)
none_by false fault is = refl

-- a removal that chooses no entry changes nothing
none_deleted : (test : Entry → Bool) (versions : List Version) → list_any test (first_of versions) ≡ false
    → changed_at 0 (changed_entries (without_chosen test)) versions ≡ versions
none_deleted test [] none = refl
none_deleted test (version ∷ versions) none =
    ap (λ (entries : List Entry). record version { entries = entries } ∷ versions) (sym (none_chosen test version.entries none))

unchanged : (refs : References) (r : ℕ) (test : Entry → Bool) (found : Option Reference) (fault : RefFault) → slice_get refs.references r ≡ found
    → Some fault ≡ fault_at refs r (deletion_fault None test) → refs ≡ after_deletion refs r None test
unchanged refs r test None fault is refused = absurd (cc (rw is at refused))
unchanged refs r test (Some reference) fault is refused =
    let none = none_by (list_any test (version_entries reference None)) fault (rw is at refused) in
    let same : with_entries None (without_chosen test) reference ≡ reference =
    ap (λ (versions : List Version). record reference { versions = versions }) (none_deleted test reference.versions none) in
    rw (is, same) (ap (λ (references : List Reference). record refs { references = references }) (sym (set_same refs.references r reference is)))

refusal : {T : Type 0} (x : T) (own : Option RefFault) (fault : RefFault) → Err fault ≡ answer x own → Some fault ≡ own
refusal x None fault is = absurd (cc)
refusal x (Some other) fault is = cc

-- so a removal is done, whatever is answered
pub deleted : (a : Result ⊤ RefFault) (old new : References) (r : ℕ) (test : Entry → Bool)
    → a ≡ answer tt (fault_at old r (deletion_fault None test)) → OnOk a (new ≡ after_deletion old r None test) → OnErr a (new ≡ old)
    → new ≡ after_deletion old r None test
deleted (Ok x) old new r test is done kept = done
deleted (Err fault) old new r test is done kept =
    let x : ⊤ = tt in
    kept ∙ unchanged old r test (slice_get old.references r) fault refl (refusal x (fault_at old r (deletion_fault None test)) fault is)

removed : (refs : References) (r : ℕ) (key : List ℕ) (reference : Reference) → slice_get refs.references r ≡ Some reference
    → ChangesFit true r (Removal key) (searched_lists refs) (searched_lists (after_fit_change refs r (Removal key)))
removed refs r key reference is =
    rw (lists_with refs r reference (with_entries None (without_chosen (has_key key))) is)
    (changed_list (Removal key) (searched_lists refs) r (version_entries reference None)
    (version_entries (with_entries None (without_chosen (has_key key)) reference) None) (list_at refs r reference is)
    (fewer key reference.versions))

valued : (refs : References) (r : ℕ) (key value : List ℕ) (reference : Reference) → slice_get refs.references r ≡ Some reference
    → list_any (has_key key) (version_entries reference None) ≡ true
    → ChangesFit true r (NewValue key value) (searched_lists refs)
    (searched_lists (unless_refused (fault_at refs r (value_fault None (has_key key) value)) (after_change_of_value refs r None (has_key key) value) refs))
valued refs r key value reference is here = go (fault_at refs r (value_fault None (has_key key) value))
  where
    go : (own : Option RefFault)
        → ChangesFit true r (NewValue key value) (searched_lists refs)
        (searched_lists (unless_refused own (after_change_of_value refs r None (has_key key) value) refs))
    go (Some fault) =
        same_list (NewValue key value) (searched_lists refs) r (version_entries reference None) (list_at refs r reference is)
        (rw here (inl refl))
    go None =
        rw (lists_with refs r reference (with_entries None (map (with_value (has_key key) value))) is)
        (changed_list (NewValue key value) (searched_lists refs) r (version_entries reference None)
        (version_entries (with_entries None (map (with_value (has_key key) value)) reference) None) (list_at refs r reference is)
        (rw here (new_values key value reference.versions)))

set_or_added : (refs : References) (r : ℕ) (key value : List ℕ) (reference : Reference) → slice_get refs.references r ≡ Some reference
    → ChangesFit true r (NewValue key value) (searched_lists refs) (searched_lists (after_fit_change refs r (NewValue key value)))
set_or_added refs r key value reference is = go (is_key_of refs r key) (key_here refs r key reference is)
  where
    go : (here : Bool) → here ≡ list_any (has_key key) (version_entries reference None)
        → ChangesFit true r (NewValue key value) (searched_lists refs)
        (searched_lists (if here then unless_refused (fault_at refs r (value_fault None (has_key key) value)) (after_change_of_value refs r None (has_key key) value) refs
        else with_pair refs r (record { key = key; value = value })))
    go true here = valued refs r key value reference is (sym here)
    go false none =
        paired refs r (NewValue key value) (record { key = key; value = value }) reference is (λ after more. rw (← none) more)

fit_lists : (refs : References) (r : ℕ) (asked : ListChange) → r < length refs.references
    → ChangesFit true r asked (searched_lists refs) (searched_lists (after_fit_change refs r asked))
fit_lists refs r (Addition key) within =
    let found = reference_at refs r within in added refs r key found.0 found.1
fit_lists refs r (Removal key) within =
    let found = reference_at refs r within in removed refs r key found.0 found.1
fit_lists refs r (NewValue key value) within =
    let found = reference_at refs r within in set_or_added refs r key value found.0 found.1

-- what a change that is fit makes of all lists
pub changed_lists : (refs new : References) (r : ℕ) (asked : ListChange) → r < length refs.references → is_fit asked ≡ true
    → new ≡ after_fit_change refs r asked → ChangesList r asked (searched_lists refs) (searched_lists new)
changed_lists refs new r asked within fit is = rw (fit, is) (fit_lists refs r asked within)

-- ---- keys that are appended

list_is : (refs : References) (r : ℕ) → entries_at (searched_lists refs) r ≡ entries_in refs r None
list_is refs r = go (slice_get refs.references r) refl
  where
    go : (found : Option Reference) → slice_get refs.references r ≡ found
        → entries_at (searched_lists refs) r ≡ entries_in refs r None
    go None is =
        rw (slice_get-map {A = Reference} {B = List Entry} (λ x. version_entries x None) refs.references r, is) refl
    go (Some reference) is =
        rw (slice_get-map {A = Reference} {B = List Entry} (λ x. version_entries x None) refs.references r, is) refl

-- a key that is appended is asked for by its change
pub asked_for : (a : Result ⊤ TableFault) (refs : References) (r : ℕ) (asked : ListChange) (key : List ℕ) (before now : MakerState)
    → IsAppendedKey asked key → is_fit asked ≡ true → is_key_of refs r key ≡ false
    → ChangeCountsLarge a (IsReadBy refs.heads r key) before now
    → ChangeCountsLarge a (ChangeAsksFor refs.heads (searched_lists refs) r asked) before now
asked_for (Ok x) refs r asked key before now appended fit absent counts = counts
asked_for (Err NoMemoryChange) refs r asked key before now appended fit absent counts = counts
asked_for (Err TooLargeChange) refs r asked key before now appended fit absent counts = (
  counts.0,
  record {
    text = counts.1.text;
    is = counts.1.is;
    asked = record {
      key = key;
      appended = appended;
      fit = fit;
      absent = rw (list_is refs r) absent;
      read = counts.1.asked;
    };
  },
)

absent_by : (here fine : Bool) → option_or (fault_unless here KeyNotFound) (fault_unless fine BadValue) ≡ Some KeyNotFound
    → here ≡ false
absent_by false fine is = refl
absent_by true true is = absurd (cc)
absent_by true false is = absurd (cc)

-- no entry has the key where a change of its value is refused for that
pub key_absent : (refs : References) (r : ℕ) (key value : List ℕ) → r < length refs.references
    → fault_at refs r (value_fault None (has_key key) value) ≡ Some KeyNotFound → is_key_of refs r key ≡ false
key_absent refs r key value within refused =
    let found = reference_at refs r within in
    key_here refs r key found.0 found.1
    ∙ absent_by (list_any (has_key key) (version_entries found.0 None)) (not (refuses_value found.0.outputs value))
    (rw found.1 at refused)

-- what stays of references of which nothing changes is their content, too
pub same_content : {T : Type 0} (a : Result T RefFault) (old new : RefsState) → OnErr a (new ≡ old)
    → OnErr a (new.content ≡ old.content)
same_content (Ok x) old new same = tt
same_content (Err fault) old new same = ap (λ state. state.content) same

there_by : (here fine : Bool) (fault : RefFault) → ¬ (fault ≡ KeyNotFound)
    → option_or (fault_unless here KeyNotFound) (fault_unless fine BadValue) ≡ Some fault → here ≡ true
there_by true fine fault other is = refl
there_by false fine fault other is = absurd (other (cc))

there_where_fine : (here fine : Bool)
    → option_or (fault_unless here KeyNotFound) (fault_unless fine BadValue) ≡ None → here ≡ true
there_where_fine true fine is = refl
there_where_fine false fine is = absurd (cc)

-- an entry has the key where a change of its value is refused for something else, or isn't refused
key_there : (refs : References) (r : ℕ) (key value : List ℕ) (fault : RefFault) → r < length refs.references
    → ¬ (fault ≡ KeyNotFound) → fault_at refs r (value_fault None (has_key key) value) ≡ Some fault → is_key_of refs r key ≡ true
key_there refs r key value fault within other refused =
    let found = reference_at refs r within in
    key_here refs r key found.0 found.1
    ∙ there_by (list_any (has_key key) (version_entries found.0 None)) (not (refuses_value found.0.outputs value)) fault other
    (rw found.1 at refused)

key_changed : (refs : References) (r : ℕ) (key value : List ℕ) → r < length refs.references
    → fault_at refs r (value_fault None (has_key key) value) ≡ None → is_key_of refs r key ≡ true
key_changed refs r key value within none =
    let found = reference_at refs r within in
    key_here refs r key found.0 found.1
    ∙ there_where_fine (list_any (has_key key) (version_entries found.0 None)) (not (refuses_value found.0.outputs value))
    (rw found.1 at none)

stays_where_refused : (old new : References) (r : ℕ) (key value : List ℕ) (fault : RefFault) → r < length old.references
    → ¬ (fault ≡ KeyNotFound) → fault_at old r (value_fault None (has_key key) value) ≡ Some fault → new ≡ old
    → new ≡ after_fit_change old r (NewValue key value)
stays_where_refused old new r key value fault within other refused same =
    rw (key_there old r key value fault within other refused, refused) same

-- what a change of a value makes of the references, where an entry has the key
pub value_answered : (a : Result ⊤ RefFault) (old new : RefsState) (r : ℕ) (key value : List ℕ) → r < length old.content.references
    → lacks_key a ≡ false → OnOk a (new.content ≡ after_change_of_value old.content r None (has_key key) value)
    → OnOk a (fault_at old.content r (value_fault None (has_key key) value) ≡ None)
    → IfErr a (MayFail (fault_at old.content r (value_fault None (has_key key) value))) → OnErr a (new ≡ old)
    → OnOk (table_answer a) (new.content ≡ after_fit_change old.content r (NewValue key value))
value_answered (Ok x) old new r key value within other done fine refused kept =
    rw (key_changed old.content r key value within fine, fine) done
value_answered (Err TooLarge) old new r key value within other done fine refused kept = tt
value_answered (Err NoMemory) old new r key value within other done fine refused kept = tt
value_answered (Err KeyNotFound) old new r key value within other done fine refused kept = absurd (cc)
value_answered (Err UnknownRef) old new r key value within other done fine refused kept =
    stays_where_refused old.content new.content r key value UnknownRef within (λ is. cc) refused (ap (λ state. state.content) kept)
value_answered (Err BadVersion) old new r key value within other done fine refused kept =
    stays_where_refused old.content new.content r key value BadVersion within (λ is. cc) refused (ap (λ state. state.content) kept)
value_answered (Err BadPattern) old new r key value within other done fine refused kept =
    stays_where_refused old.content new.content r key value BadPattern within (λ is. cc) refused (ap (λ state. state.content) kept)
value_answered (Err BadValue) old new r key value within other done fine refused kept =
    stays_where_refused old.content new.content r key value BadValue within (λ is. cc) refused (ap (λ state. state.content) kept)
value_answered (Err NeedsMap) old new r key value within other done fine refused kept =
    stays_where_refused old.content new.content r key value NeedsMap within (λ is. cc) refused (ap (λ state. state.content) kept)
value_answered (Err UsedAsMap) old new r key value within other done fine refused kept =
    stays_where_refused old.content new.content r key value UsedAsMap within (λ is. cc) refused (ap (λ state. state.content) kept)
value_answered (Err VersionFull) old new r key value within other done fine refused kept =
    stays_where_refused old.content new.content r key value VersionFull within (λ is. cc) refused (ap (λ state. state.content) kept)
value_answered (Err VersionWorn) old new r key value within other done fine refused kept =
    stays_where_refused old.content new.content r key value VersionWorn within (λ is. cc) refused (ap (λ state. state.content) kept)
value_answered (Err NoMoreVersions) old new r key value within other done fine refused kept =
    stays_where_refused old.content new.content r key value NoMoreVersions within (λ is. cc) refused (ap (λ state. state.content) kept)

-- where a call lacks the key, that is its fault
pub lacked : (a : Result ⊤ RefFault) (own : Option RefFault) → lacks_key a ≡ true → IfErr a (MayFail own) → own ≡ Some KeyNotFound
lacked (Ok x) own is refused = absurd (cc)
lacked (Err KeyNotFound) own is refused = refused
lacked (Err TooLarge) own is refused = absurd (cc)
lacked (Err NoMemory) own is refused = absurd (cc)
lacked (Err UnknownRef) own is refused = absurd (cc)
lacked (Err BadVersion) own is refused = absurd (cc)
lacked (Err BadPattern) own is refused = absurd (cc)
lacked (Err BadValue) own is refused = absurd (cc)
lacked (Err NeedsMap) own is refused = absurd (cc)
lacked (Err UsedAsMap) own is refused = absurd (cc)
lacked (Err VersionFull) own is refused = absurd (cc)
lacked (Err VersionWorn) own is refused = absurd (cc)
lacked (Err NoMoreVersions) own is refused = absurd (cc)

pub lacked_kept : (a : Result ⊤ RefFault) (old new : RefsState) → lacks_key a ≡ true → OnErr a (new ≡ old) → new ≡ old
lacked_kept (Ok x) old new is kept = absurd (cc)
lacked_kept (Err fault) old new is kept = kept

never_large : (here fine : Bool) → option_or (fault_unless here KeyNotFound) (fault_unless fine BadValue) ≡ Some TooLarge → ⊥
never_large true true is = cc
never_large true false is = cc
never_large false fine is = cc

-- a change of a value asks no maker
pub value_counts : (a : Result ⊤ RefFault) (refs : References) (r : ℕ) (key value : List ℕ) (Asked : ExpressionText → Type 0)
    (state : MakerState) → r < length refs.references → IfErr a (MayFail (fault_at refs r (value_fault None (has_key key) value)))
    → ChangeCountsLarge (table_answer a) Asked state state
value_counts (Ok x) refs r key value Asked state within refused = (refl, refl)
value_counts (Err TooLarge) refs r key value Asked state within refused =
    let found = reference_at refs r within in
    absurd (never_large (list_any (has_key key) (version_entries found.0 None)) (not (refuses_value found.0.outputs value))
    (rw found.1 at refused))
value_counts (Err NoMemory) refs r key value Asked state within refused = (refl, refl)
value_counts (Err KeyNotFound) refs r key value Asked state within refused = (refl, refl)
value_counts (Err UnknownRef) refs r key value Asked state within refused = (refl, refl)
value_counts (Err BadVersion) refs r key value Asked state within refused = (refl, refl)
value_counts (Err BadPattern) refs r key value Asked state within refused = (refl, refl)
value_counts (Err BadValue) refs r key value Asked state within refused = (refl, refl)
value_counts (Err NeedsMap) refs r key value Asked state within refused = (refl, refl)
value_counts (Err UsedAsMap) refs r key value Asked state within refused = (refl, refl)
value_counts (Err VersionFull) refs r key value Asked state within refused = (refl, refl)
value_counts (Err VersionWorn) refs r key value Asked state within refused = (refl, refl)
value_counts (Err NoMoreVersions) refs r key value Asked state within refused = (refl, refl)
