-- The references of a configuration before they have entries.
use Rattle.std.proofs.Common.{◌≡◌, ◌≢◌, ℕ, zero, suc, ◌+◌, ◌≤◌, ◌==◌, Bool, true, false, List, [], ◌∷◌, ◌++◌, length, map, refl, sym, ap, ◌∙◌, arith, inl, inr, append-nil}
use Rattle.std.specs.Prelude.{Option, None, Some, IfSome, drop, slice_get, slice_set, unwrap_or, ⊤}
use Rattle.std.specs.List.{All}
use Rattle.std.specs.Bool.{beq}
use Rattle.std.proofs.lemmas.Bool.{cases_Bool, eqb-true, eq-eqb}
use Rattle.std.proofs.lemmas.List.Elements.{All-append, All-cons, All-head, All-nil, All-tail}
use Rattle.hx_text.specs.declared.Out.{Out}
use Rattle.hx_text.specs.declared.Out.TheVariants as out
use Rattle.hx_text.specs.declared.kinds.By.{By}
use Rattle.hx_sample.specs.Tables.{TableHead}
use Rattle.hx_refs.specs.References.{AreEmpty, HasHadNone, Outputs, Reference, References, Version, after_output, changed_at, empty_version, new_reference, no_references, with_new, with_output}
use Rattle.hx_refs.specs.Uses.{Use, after_use, use_place, use_with, uses_from, uses_of}
use Rattle.hx_filling.specs.Declaring.{AreDistinct, HasRoomForAll}
use Rattle.hx_filling.specs.References.{declared_references, numbers_of, table_head, with_heads, with_outputs, with_table, with_tables}
use Rattle.hx_filling.proofs.UseLemmas.{use_is}
use Rattle.hx_refs.specs.declared.Limits.{Limits}
use Rattle.hx_calls.specs.declared.HeadSpec.{HeadSpec}
use Rattle.hx_calls.specs.declared.TableSpec.{TableSpec}
use Rattle.hx_text.specs.Methods.{method_number}
use Rattle.hx_calls.specs.Known.{is_head, most_references}
use Rattle.hx_calls.specs.TableSpecs.{HaveDistinctFiles, HaveDistinctHeads, IsHeadOf}

-- ---- heads

-- a use that there was none of is none after a head of another
no_use_more : (method : By) (ci : Bool) (r number : ℕ) (heads : List TableHead) (h : TableHead)
    → use_with method ci (uses_from number heads r) ≡ None
    → ((h.list == r) ≡ true → (use_place h.by h.ci == use_place method ci) ≡ false)
    → use_with method ci (uses_from number (heads ++ h ∷ []) r) ≡ None
no_use_more method ci r number [] h none other =
    elim (cases_Bool (h.list == r)) [
      | inl same ↦ rw (same, other same) refl
      | inr passed ↦ rw passed refl
    ]
no_use_more method ci r number (g ∷ heads) h none other =
    elim (cases_Bool (g.list == r)) [
      | inr differ ↦ rw differ (no_use_more method ci r (number + 1) heads h (rw differ at none) other)
      | inl same ↦ elim (cases_Bool (use_place g.by g.ci == use_place method ci)) [
        | inl this ↦ absurd (cc (rw (same, this) at none))
        | inr passed ↦ rw (same, passed)
            (no_use_more method ci r (number + 1) heads h (rw (same, passed) at none) other)
      ]
    ]

beq_same : (b : Bool) → beq b b ≡ true
beq_same true = refl
beq_same false = refl

same_head : (head other : HeadSpec) → head.table ≡ other.table → head.by ≡ other.by
    → head.ci ≡ other.ci → is_head head other ≡ true
same_head head other table method case =
    rw (
      table,
      method,
      case,
      eq-eqb other.table other.table refl,
      eq-eqb (method_number other.by) (method_number other.by) refl,
      beq_same other.ci,
    ) refl

differs : (head other : HeadSpec) → is_head head other ≡ false → (head.table == other.table) ≡ true
    → (use_place head.by head.ci == use_place other.by other.ci) ≡ false
differs head other apart same = elim (cases_Bool (use_place head.by head.ci == use_place other.by other.ci)) [
  | inr passed ↦ passed
  | inl this ↦
      let u : Use = record { by = head.by; ci = head.ci; head = 0 } in
      let found : use_with other.by other.ci (u ∷ []) ≡ Some u = rw this refl in
      let is = use_is other.by other.ci (u ∷ []) u found in
      let equal : is_head head other ≡ true =
      same_head head other (eqb-true head.table other.table same) is.0 is.1 in
      absurd (cc (equal, apart))
]

-- none of these uses is known
abbrev AreNew : List HeadSpec → List TableHead → Type 0
AreNew [] known = ⊤
AreNew (head ∷ heads) known =
    (use_with head.by head.ci (uses_of known head.table) ≡ None) × AreNew heads known

all_new : (heads : List HeadSpec) → AreNew heads []
all_new [] = tt
all_new (head ∷ heads) = (refl, all_new heads)

new_after : (head : HeadSpec) (heads : List HeadSpec) (known : List TableHead)
    → All (λ other. is_head head other ≡ false) heads → AreNew heads known
    → AreNew heads (known ++ table_head head ∷ [])
new_after head [] known apart new = tt
new_after head (other ∷ heads) known apart new = (
  no_use_more other.by other.ci other.table 0 known (table_head head) new.0
      (differs head other (All-head (λ o. is_head head o ≡ false) other heads apart)),
  new_after head heads known (All-tail (λ o. is_head head o ≡ false) other heads apart) new.1,
)

more_after : {A : Type 0} (xs : List A) (y : A) (zs : List A) → (xs ++ y ∷ []) ++ zs ≡ xs ++ y ∷ zs
more_after [] y zs = refl
more_after (x ∷ xs) y zs = ap (λ l. x ∷ l) (more_after xs y zs)

heads_after : (heads : List HeadSpec) (refs : References) → HaveDistinctHeads heads
    → AreNew heads refs.heads → (with_heads heads refs).heads ≡ refs.heads ++ map table_head heads
heads_after [] refs distinct new = sym (append-nil refs.heads)
heads_after (head ∷ heads) refs distinct new =
    let next : References = after_use refs head.table head.by head.ci in
    let step : next.heads ≡ refs.heads ++ table_head head ∷ [] = rw new.0 refl in
    let later : AreNew heads next.heads = rw step (new_after head heads refs.heads distinct.0 new.1) in
    heads_after heads next distinct.1 later ∙ ap (λ hs. hs ++ map table_head heads) step
    ∙ more_after refs.heads (table_head head) (map table_head heads)

pub heads_made : (heads : List HeadSpec) (refs : References) → HaveDistinctHeads heads
    → refs.heads ≡ [] → (with_heads heads refs).heads ≡ map table_head heads
heads_made heads refs distinct none =
    let new : AreNew heads refs.heads = rw none (all_new heads) in
    heads_after heads refs distinct new ∙ ap (λ hs. hs ++ map table_head heads) none

pub heads_keep : (heads : List HeadSpec) (refs : References)
    → (with_heads heads refs).references ≡ refs.references
heads_keep [] refs = refl
heads_keep (head ∷ heads) refs = heads_keep heads (after_use refs head.table head.by head.ci)

-- ---- what stays of the references

abbrev id_of : Reference → ℕ
id_of reference = reference.id

abbrev file_in : Reference → Option (List ℕ)
file_in reference = reference.file

abbrev versions_of : Reference → List Version
versions_of reference = reference.versions

-- what a reference shows beside its outputs
abbrev IsFreeOfOutputs : {B : Type 0} → (Reference → B) → Type 0
IsFreeOfOutputs g = (o : Outputs) (x : Reference) → g (record x { outputs = o }) ≡ g x

pub map_changed : {B : Type 0} (g : Reference → B) (change : Reference → Reference)
    → ((x : Reference) → g (change x) ≡ g x) → (i : ℕ) (xs : List Reference)
    → map g (changed_at i change xs) ≡ map g xs
map_changed g change same zero [] = refl
map_changed g change same (suc i) [] = refl
map_changed g change same zero (x ∷ xs) = ap (λ y. y ∷ map g xs) (same x)
map_changed g change same (suc i) (x ∷ xs) =
    go (slice_get xs i) refl (map_changed g change same i xs)
  where
    go : (o : Option Reference) → slice_get xs i ≡ o → map g (changed_at i change xs) ≡ map g xs
        → map g (changed_at (suc i) change (x ∷ xs)) ≡ map g (x ∷ xs)
    go None is before = rw is refl
    go (Some y) is before =
        let later : map g (slice_set xs i (change y)) ≡ map g xs = rw is at before in
        rw is (ap (λ ys. g x ∷ ys) later)

output_keeps : {B : Type 0} (g : Reference → B) → IsFreeOfOutputs g → (refs : References) (r : ℕ) (o : Out)
    → map g (after_output refs r o).references ≡ map g refs.references
output_keeps g free refs r o =
    map_changed g (λ x. record x { outputs = with_output o x.outputs })
    (λ x. free (with_output o x.outputs) x) r refs.references

outputs_keep : {B : Type 0} (g : Reference → B) → IsFreeOfOutputs g → (r : ℕ) (spec : TableSpec) (refs : References)
    → map g (with_outputs r spec refs).references ≡ map g refs.references
outputs_keep g free r spec refs =
    elim (cases_Bool spec.out_int) [
      | inl int ↦ elim (cases_Bool spec.out_ip) [
        | inl ip ↦ rw (int, ip) (output_keeps g free (after_output refs r out.Int) r out.Ip
            ∙ output_keeps g free refs r out.Int)
        | inr text ↦ rw (int, text) (output_keeps g free refs r out.Int)
      ]
      | inr none ↦ elim (cases_Bool spec.out_ip) [
        | inl ip ↦ rw (none, ip) (output_keeps g free refs r out.Ip)
        | inr text ↦ rw (none, text) refl
      ]
    ]

map_more : {A B : Type 0} (g : A → B) (xs : List A) (y : A) → map g (xs ++ y ∷ []) ≡ map g xs ++ g y ∷ []
map_more g [] y = refl
map_more g (x ∷ xs) y = ap (λ l. g x ∷ l) (map_more g xs y)

map_count : {A B : Type 0} (g : A → B) (xs : List A) → length (map g xs) ≡ length xs
map_count g [] = refl
map_count g (x ∷ xs) = ap suc (map_count g xs)

one_count : {A : Type 0} (xs : List A) (y : A) → length (xs ++ y ∷ []) ≡ length xs + 1
one_count [] y = refl
one_count (x ∷ xs) y = let more = one_count xs y in omega (arith, more)

pub table_shown : {B : Type 0} (g : Reference → B) → IsFreeOfOutputs g → (n : ℕ) (spec : TableSpec) (refs : References)
    → map g (with_table n spec refs).references
    ≡ map g refs.references ++ g (new_reference refs.first n spec.file spec.two_column spec.acl) ∷ []
table_shown g free n spec refs =
    outputs_keep g free (length refs.references) spec (with_new refs n spec.file spec.two_column spec.acl)
    ∙ map_more g refs.references (new_reference refs.first n spec.file spec.two_column spec.acl)

table_count : (n : ℕ) (spec : TableSpec) (refs : References)
    → length (with_table n spec refs).references ≡ length refs.references + 1
table_count n spec refs =
    sym (map_count id_of (with_table n spec refs).references)
    ∙ ap length (table_shown id_of (λ o x. refl) n spec refs)
    ∙ one_count (map id_of refs.references) n
    ∙ ap (λ k. k + 1) (map_count id_of refs.references)

pub tables_count : (numbers : List ℕ) (specs : List TableSpec) (refs : References)
    → length (with_tables numbers specs refs).references ≡ length refs.references + length specs
tables_count numbers [] refs = omega arith
tables_count numbers (spec ∷ specs) refs =
    let one = table_count (unwrap_or (slice_get numbers 0) 0) spec refs in
    let more = tables_count (drop 1 numbers) specs (with_table (unwrap_or (slice_get numbers 0) 0) spec refs) in
    omega (arith, one, more)

only_these : (numbers : List ℕ) (specs : List TableSpec) (limits : Limits)
    → length (with_tables numbers specs (no_references limits)).references ≡ length specs
only_these numbers specs limits =
    let count : length (with_tables numbers specs (no_references limits)).references ≡ 0 + length specs =
    tables_count numbers specs (no_references limits) in
    omega (arith, count)

pub tables_heads : (numbers : List ℕ) (specs : List TableSpec) (refs : References)
    → (with_tables numbers specs refs).heads ≡ refs.heads
tables_heads numbers [] refs = refl
tables_heads numbers (spec ∷ specs) refs =
    tables_heads (drop 1 numbers) specs (with_table (unwrap_or (slice_get numbers 0) 0) spec refs)
    ∙ table_heads
  where
    table_heads : (with_table (unwrap_or (slice_get numbers 0) 0) spec refs).heads ≡ refs.heads
    table_heads = elim (cases_Bool spec.out_int) [
      | inl int ↦ elim (cases_Bool spec.out_ip) [
        | inl ip ↦ rw (int, ip) refl
        | inr text ↦ rw (int, text) refl
      ]
      | inr none ↦ elim (cases_Bool spec.out_ip) [
        | inl ip ↦ rw (none, ip) refl
        | inr text ↦ rw (none, text) refl
      ]
    ]

-- ---- nothing was added

abbrev AllEmpty : List (List Version) → Type 0
AllEmpty [] = ⊤
AllEmpty (versions ∷ more) = AreEmpty versions × AllEmpty more

empty_more : (all : List (List Version)) → AllEmpty all → AllEmpty (all ++ (empty_version ∷ []) ∷ [])
empty_more [] empty = ((refl, tt), tt)
empty_more (v ∷ all) empty = (empty.0, empty_more all empty.1)

tables_empty : (numbers : List ℕ) (specs : List TableSpec) (refs : References)
    → AllEmpty (map versions_of refs.references)
    → AllEmpty (map versions_of (with_tables numbers specs refs).references)
tables_empty numbers [] refs empty = empty
tables_empty numbers (spec ∷ specs) refs empty =
    let shown = table_shown versions_of (λ o x. refl) (unwrap_or (slice_get numbers 0) 0) spec refs in
    tables_empty (drop 1 numbers) specs (with_table (unwrap_or (slice_get numbers 0) 0) spec refs)
    (rw shown (empty_more (map versions_of refs.references) empty))

had_none : (xs : List Reference) (r : ℕ) → AllEmpty (map versions_of xs)
    → IfSome (slice_get xs r) (λ reference. AreEmpty reference.versions)
had_none [] r empty = tt
had_none (x ∷ xs) zero empty = empty.0
had_none (x ∷ xs) (suc r) empty = had_none xs r empty.1

pub tables_had_none : (limits : Limits) (numbers : List ℕ) (specs : List TableSpec) (r : ℕ)
    → HasHadNone (with_tables numbers specs (no_references limits)) r
tables_had_none limits numbers specs r =
    had_none (with_tables numbers specs (no_references limits)).references r
    (tables_empty numbers specs (no_references limits) tt)

-- ---- there is room

abbrev AreFree : List ℕ → List ℕ → Type 0
AreFree [] taken = ⊤
AreFree (n ∷ numbers) taken = All (λ m. m ≢ n) taken × AreFree numbers taken

free_more : (n : ℕ) (numbers taken : List ℕ) → All (λ m. n ≢ m) numbers → AreFree numbers taken
    → AreFree numbers (taken ++ n ∷ [])
free_more n [] taken apart free = tt
free_more n (k ∷ numbers) taken apart free = (
  All-append (λ m. m ≢ k) taken (n ∷ []) free.0
      (All-cons (λ m. m ≢ k) n [] (All-head (λ m. n ≢ m) k numbers apart) (All-nil (λ m. m ≢ k))),
  free_more n numbers taken (All-tail (λ m. n ≢ m) k numbers apart) free.1,
)

all_free : (numbers : List ℕ) → AreFree numbers []
all_free [] = tt
all_free (n ∷ numbers) = (All-nil (λ m. m ≢ n), all_free numbers)

abbrev IsNoFile : List (Option (List ℕ)) → Option (List ℕ) → Type 0
IsNoFile files file = IfSome file (λ name. All (λ held. held ≢ Some name) files)

abbrev AreNoFiles : List TableSpec → List (Option (List ℕ)) → Type 0
AreNoFiles [] files = ⊤
AreNoFiles (spec ∷ specs) files = IsNoFile files spec.file × AreNoFiles specs files

other_file : (f o : Option (List ℕ)) → IfSome f (λ name. o ≢ Some name) → IfSome o (λ name. f ≢ Some name)
other_file f None apart = tt
other_file None (Some m) apart = λ is. absurd (cc (is))
other_file (Some n) (Some m) apart = λ is. apart (sym is)

no_file_more : (f o : Option (List ℕ)) (files : List (Option (List ℕ))) → IfSome f (λ name. o ≢ Some name)
    → IsNoFile files o → IsNoFile (files ++ f ∷ []) o
no_file_more f None files apart free = tt
no_file_more f (Some m) files apart free =
    All-append (λ held. held ≢ Some m) files (f ∷ []) free
    (All-cons (λ held. held ≢ Some m) f [] (other_file f (Some m) apart) (All-nil (λ held. held ≢ Some m)))

first_apart : (f : Option (List ℕ)) (spec : TableSpec) (specs : List TableSpec)
    → IfSome f (λ name. All (λ other. other.file ≢ Some name) (spec ∷ specs))
    → IfSome f (λ name. spec.file ≢ Some name)
first_apart None spec specs apart = tt
first_apart (Some name) spec specs apart = All-head (λ (other : TableSpec). other.file ≢ Some name) spec specs apart

rest_apart : (f : Option (List ℕ)) (spec : TableSpec) (specs : List TableSpec)
    → IfSome f (λ name. All (λ other. other.file ≢ Some name) (spec ∷ specs))
    → IfSome f (λ name. All (λ other. other.file ≢ Some name) specs)
rest_apart None spec specs apart = tt
rest_apart (Some name) spec specs apart = All-tail (λ (other : TableSpec). other.file ≢ Some name) spec specs apart

no_files_more : (f : Option (List ℕ)) (specs : List TableSpec) (files : List (Option (List ℕ)))
    → IfSome f (λ name. All (λ other. other.file ≢ Some name) specs) → AreNoFiles specs files
    → AreNoFiles specs (files ++ f ∷ [])
no_files_more f [] files apart free = tt
no_files_more f (spec ∷ specs) files apart free = (
  no_file_more f spec.file files (first_apart f spec specs apart) free.0,
  no_files_more f specs files (rest_apart f spec specs apart) free.1,
)

no_file_is : (file : Option (List ℕ)) → IsNoFile [] file
no_file_is None = tt
no_file_is (Some name) = All-nil (λ held. held ≢ Some name)

no_files : (specs : List TableSpec) → AreNoFiles specs []
no_files [] = tt
no_files (spec ∷ specs) = (no_file_is spec.file, no_files specs)

unmapped : {A B : Type 0} (P : B → Type 0) (f : A → B) (xs : List A) → All P (map f xs) → All (λ x. P (f x)) xs
unmapped P f [] all = All-nil (λ x. P (f x))
unmapped P f (x ∷ xs) all =
    All-cons (λ x. P (f x)) x xs (All-head P (f x) (map f xs) all)
    (unmapped P f xs (All-tail P (f x) (map f xs) all))

unmapped_file : (file : Option (List ℕ)) (xs : List Reference) → IsNoFile (map file_in xs) file
    → IfSome file (λ name. All (λ reference. reference.file ≢ Some name) xs)
unmapped_file None xs free = tt
unmapped_file (Some name) xs free = unmapped (λ held. held ≢ Some name) file_in xs free

room_for_all : (numbers : List ℕ) (specs : List TableSpec) (refs : References)
    → length numbers ≡ length specs → length refs.references + length specs ≤ most_references
    → AreDistinct numbers → AreFree numbers (map id_of refs.references)
    → HaveDistinctFiles specs → AreNoFiles specs (map file_in refs.references)
    → HasRoomForAll numbers specs refs
room_for_all numbers [] refs count few distinct free files held = tt
room_for_all [] (spec ∷ specs) refs count few distinct free files held = absurd (omega (arith, count))
room_for_all (n ∷ numbers) (spec ∷ specs) refs count few distinct free files held =
    let next : References = with_table n spec refs in
    let ids : map id_of next.references ≡ map id_of refs.references ++ n ∷ [] =
    table_shown id_of (λ o x. refl) n spec refs in
    let names : map file_in next.references ≡ map file_in refs.references ++ spec.file ∷ [] =
    table_shown file_in (λ o x. refl) n spec refs in
    let one : length next.references ≡ length refs.references + 1 = table_count n spec refs in (
      record {
        id = unmapped (λ m. m ≢ n) id_of refs.references free.0;
        file = unmapped_file spec.file refs.references held.0;
        few = omega (arith, few);
      },
      room_for_all numbers specs next (omega (arith, count)) (omega (arith, few, one)) distinct.1
          (rw ids (free_more n numbers (map id_of refs.references) distinct.0 free.1)) files.1
          (rw names (no_files_more spec.file specs (map file_in refs.references) files.0 held.1)),
    )

pub there_is_room : (limits : Limits) (numbers : List ℕ) (specs : List TableSpec)
    → length numbers ≡ length specs → length specs ≤ most_references → AreDistinct numbers
    → HaveDistinctFiles specs → HasRoomForAll numbers specs (no_references limits)
there_is_room limits numbers specs count few distinct files =
    room_for_all numbers specs (no_references limits) count (omega (arith, few)) distinct
    (all_free numbers) files (no_files specs)

-- ---- what is declared

pub heads_fit : (limits : Limits) (numbers : List ℕ) (specs : List TableSpec) (heads : List HeadSpec)
    → All (IsHeadOf (length specs)) heads
    → All (IsHeadOf (length (with_tables numbers specs (no_references limits)).references)) heads
heads_fit limits numbers specs heads fit =
    let count : length (with_tables numbers specs (no_references limits)).references ≡ length specs =
    only_these numbers specs limits in
    rw count fit

pub declared_heads : (limits : Limits) (specs : List TableSpec) (heads : List HeadSpec) → HaveDistinctHeads heads
    → (declared_references limits specs heads).heads ≡ map table_head heads
declared_heads limits specs heads distinct =
    heads_made heads (with_tables (numbers_of specs) specs (no_references limits)) distinct
    (tables_heads (numbers_of specs) specs (no_references limits))

pub declared_count : (limits : Limits) (specs : List TableSpec) (heads : List HeadSpec)
    → length (declared_references limits specs heads).references ≡ length specs
declared_count limits specs heads =
    ap length (heads_keep heads (with_tables (numbers_of specs) specs (no_references limits)))
    ∙ only_these (numbers_of specs) specs limits
