-- Lemmas on the files that are read when references are filled, and on the logs of reads.
use Rattle.std.proofs.Common.{◌≡◌, ◌≢◌, ℕ, ◌+◌, ◌≤◌, List, [], ◌∷◌, ◌++◌, length, take, Option, None, Some, Ok, Err, refl, sym, ap, ◌∙◌, subst, arith, append_assoc, append-nil, length-append}
use Rattle.std.specs.Prelude.{IfSome, drop}
use Rattle.std.specs.List.{All, AllPairs, cons_option}
use Rattle.std.proofs.lemmas.List.{take-append-drop, take_all, take_at}
use Rattle.std.proofs.lemmas.List.Elements.{All-cons, All-head, All-nil, All-tail, filter_map-append}
use Rattle.std.proofs.lemmas.List.Kept.{AllPairs-cons}
use Rattle.hx_base.specs.Pairs.{NamedBytes}
use Rattle.hx_outside.specs.Log.{FileLog, HoldsSince}
use Rattle.hx_refs.specs.Additions.{addition_fault}
use Rattle.hx_refs.specs.References.{References}
use Rattle.hx_calls.specs.TableSpecs.{HaveDistinctFiles}
use Rattle.hx_calls.specs.declared.TableSpec.{TableSpec}
use Rattle.hx_filling.specs.Files.{FillsUpTo, IsLastRead, files_of}
use Rattle.hx_filling.specs.FillResult.{FillReads}
use Rattle.hx_filling.specs.Filling.{Filling, IsFileOf, LogsFile, RefusesOne}
use Rattle.hx_filling.specs.References.{AreFilled, Filled, HoldsUnder, Whole, filled_from}
use Rattle.hx_filling.specs.declared.load_fault.LoadFault.{LoadFault}
use Rattle.hx_filling.specs.declared.load_fault.LoadFault.TheVariants as load
use Rattle.hx_filling.proofs.FillLemmas.{reach}
use Rattle.hx_filling.proofs.FilledLemmas.{FillAs, fill_as}

-- ---- logs

-- where nothing is read, what holds of no reads holds
pub none_since : {T : Type 0} (log : Option (List T)) (P : List T → Type 0) → P [] → HoldsSince log log P
none_since None P none = tt
none_since (Some log) P none = ([], sym (append-nil log), none)

-- what holds of the reads up to now and what holds of those after it
pub since_both : {T : Type 0} (old now new : Option (List T)) (P Q R : List T → Type 0)
    → ((first more : List T) → P first → Q more → R (first ++ more))
    → HoldsSince old now P → HoldsSince now new Q → HoldsSince old new R
since_both None now None P Q R both first more = tt
since_both (Some old) now None P Q R both first more = tt
since_both old None (Some new) P Q R both first more = absurd more
since_both None (Some now) (Some new) P Q R both first more = absurd first
since_both {T} (Some old) (Some now) (Some new) P Q R both first more = (
  first.0 ++ more.0,
  more.1 ∙ ap (λ (log : List T). log ++ more.0) first.1 ∙ append_assoc old first.0 more.0,
  both first.0 more.0 first.2 more.2,
)

pub since_weaker : {T : Type 0} (old new : Option (List T)) (P Q : List T → Type 0) → ((reads : List T) → P reads → Q reads)
    → HoldsSince old new P → HoldsSince old new Q
since_weaker None None P Q weaker since = tt
since_weaker (Some old) None P Q weaker since = tt
since_weaker None (Some new) P Q weaker since = absurd since
since_weaker (Some old) (Some new) P Q weaker since = (since.0, since.1, weaker since.0 since.2)

-- the file of a reference, where it has one, is all that was read
file_since : (file : Option (List ℕ)) (old new : Option FileLog) → LogsFile file old new
    → HoldsSince old new (λ names. names ≡ cons_option file [])
file_since None old new is =
    subst (λ (log : Option FileLog). HoldsSince old log (λ names. names ≡ [])) (sym is) (none_since old (λ names. names ≡ []) refl)
file_since (Some name) None None is = tt
file_since (Some name) (Some old) None is = tt
file_since (Some name) None (Some new) is = absurd is
file_since (Some name) (Some old) (Some new) is = (name ∷ [], is, refl)

-- ---- the files of the first references

files_of_both : (before after : List TableSpec) → files_of (before ++ after) ≡ files_of before ++ files_of after
files_of_both before after = filter_map-append (λ (spec : TableSpec). spec.file) before after

-- after the files of the first references, as many as `r`, that of the next one
pub up_to : (specs before : List TableSpec) (r : ℕ) (spec : TableSpec) (others : List TableSpec) (old now new : Option FileLog)
    → specs ≡ before ++ spec ∷ others → r ≡ length before
    → HoldsSince old now (λ names. names ≡ files_of (take r specs)) → LogsFile spec.file now new
    → HoldsSince old new (λ names. names ≡ files_of (before ++ spec ∷ []))
up_to specs before r spec others old now new are count first one =
    let taken : take r specs ≡ before = ap (take r) are ∙ take_at before (spec ∷ others) r (sym count) in
    since_both old now new (λ names. names ≡ files_of (take r specs)) (λ names. names ≡ cons_option spec.file []) (λ names. names ≡ files_of (before ++ spec ∷ []))
    (λ names more names_are more_are.
    ap (λ (xs : List (List ℕ)). xs ++ more) (names_are ∙ ap files_of taken)
    ∙ ap (λ (xs : List (List ℕ)). files_of before ++ xs) more_are
    ∙ sym (files_of_both before (spec ∷ [])))
    first (file_since spec.file now new one)

-- the same, where there is one more
pub one_read : (held : Option NamedBytes) (specs : List TableSpec) (refs : References) (r : ℕ) (left : List TableSpec) (spec : TableSpec) (others : List TableSpec) (filled : References)
    (old now new : Option FileLog) → Filling held specs refs r left filled → left ≡ spec ∷ others
    → HoldsSince old now (λ names. names ≡ files_of (take r specs)) → LogsFile spec.file now new
    → HoldsSince old new (λ names. names ≡ files_of (take (r + 1) specs))
one_read held specs refs r left spec others filled old now new f is first one =
    let are : specs ≡ f.before ++ spec ∷ others = f.are ∙ ap (λ (l : List TableSpec). f.before ++ l) is in
    let size : length (f.before ++ spec ∷ []) ≡ r + 1 = let joined = length-append f.before (spec ∷ []) in omega (arith, joined, f.count) in
    let taken : take (r + 1) specs ≡ f.before ++ spec ∷ [] =
    ap (take (r + 1)) (are ∙ sym (append_assoc f.before (spec ∷ []) others)) ∙ take_at (f.before ++ spec ∷ []) others (r + 1) size in
    since_weaker old new (λ names. names ≡ files_of (f.before ++ spec ∷ [])) (λ names. names ≡ files_of (take (r + 1) specs))
    (λ names is_up_to. is_up_to ∙ ap files_of (sym taken))
    (up_to specs f.before r spec others old now new are f.count first one)

-- the same, where none is left
pub all_read : (held : Option NamedBytes) (specs : List TableSpec) (refs : References) (r : ℕ) (left : List TableSpec) (last : Option (List ℕ)) (old now : Option FileLog)
    → HoldsSince old now (λ names. names ≡ files_of (take r specs)) → r + length left ≡ length specs → length left ≤ 0
    → HoldsSince old now (FillReads held specs refs (Ok tt) last)
all_read held specs refs r left last old now first size none =
    let whole : take r specs ≡ specs = take_all r specs (omega (arith, size, none)) in
    since_weaker old now (λ names. names ≡ files_of (take r specs)) (FillReads held specs refs (Ok tt) last) (λ names names_are. names_are ∙ ap files_of whole) first

-- ---- filling

are_filled : (files : NamedBytes) (specs : List TableSpec) (refs filled : References) → filled_from files 0 specs refs ≡ Whole filled
    → AreFilled files 0 specs refs filled
are_filled files specs refs filled is = subst (λ (f : Filled). FillAs files 0 specs refs f) is (fill_as files 0 specs refs)

-- the references before this one have all their entries
fills_up_to : (held : Option NamedBytes) (specs : List TableSpec) (refs : References) (r : ℕ) (left : List TableSpec) (spec : TableSpec) (others : List TableSpec) (filled : References)
    (f : Filling held specs refs r left filled) → left ≡ spec ∷ others
    → (names : List (List ℕ)) → names ≡ files_of (f.before ++ spec ∷ []) → HoldsUnder held (λ files. FillsUpTo files specs refs names)
fills_up_to held specs refs r left spec others filled f is names names_are = record {
  files = f.files;
  of_files = f.of_files;
  is = record {
    before = f.before;
    spec = spec;
    after = others;
    specs_are = f.are ∙ ap (λ (l : List TableSpec). f.before ++ l) is;
    filled = filled;
    accepted = are_filled f.files f.before refs filled f.whole;
    names_are = names_are;
  };
}

last_read : (last : Option (List ℕ)) (before : List TableSpec) (spec : TableSpec) (names : List (List ℕ)) → IsFileOf spec last
    → names ≡ files_of (before ++ spec ∷ []) → IsLastRead last names
last_read None before spec names is are = absurd is
last_read (Some name) before spec names is are =
    (files_of before, are ∙ files_of_both before (spec ∷ []) ∙ ap (λ (file : Option (List ℕ)). files_of before ++ cons_option file []) is)

-- a reference has a fault
pub fault_reads : (held : Option NamedBytes) (specs : List TableSpec) (refs : References) (r : ℕ) (left : List TableSpec) (spec : TableSpec) (others : List TableSpec) (filled : References)
    (fault : LoadFault) (last : Option (List ℕ)) (old now new : Option FileLog)
    → Filling held specs refs r left filled → left ≡ spec ∷ others → HaveDistinctFiles specs
    → ((line code : ℕ) → fault ≡ load.Refused line code → RefusesOne held spec r filled line code)
    → (fault ≡ load.Failed → IsFileOf spec last)
    → HoldsSince old now (λ names. names ≡ files_of (take r specs)) → LogsFile spec.file now new
    → HoldsSince old new (FillReads held specs refs (Err fault) last)
fault_reads held specs refs r left spec others filled (load.Refused line code) last old now new f is distinct refused failed first one =
    let entry = refused line code refl in
    let s = reach held specs refs r left spec others filled entry.pairs f is distinct entry.of_spec in
    since_weaker old new (λ names. names ≡ files_of (s.before ++ spec ∷ [])) (FillReads held specs refs (Err (load.Refused line code)) last)
    (λ names names_are. record {
      files = s.files;
      of_files = s.of_files;
      is = (
        record {
          before = s.before;
          spec = spec;
          after = others;
          specs_are = s.are;
          filled = filled;
          accepted = are_filled s.files s.before refs filled s.whole;
          pairs = entry.pairs;
          pairs_are = s.read;
          fault = entry.fault;
          refused = subst (λ (n : ℕ). addition_fault filled n None entry.pairs ≡ Some entry.fault) (omega (arith, s.count)) entry.is;
          line = entry.line_is;
          code = entry.code_is;
        },
        names_are,
      );
    })
    (up_to specs s.before r spec others old now new s.are s.count first one)
fault_reads held specs refs r left spec others filled load.Failed last old now new f is distinct refused failed first one =
    let are : specs ≡ f.before ++ spec ∷ others = f.are ∙ ap (λ (l : List TableSpec). f.before ++ l) is in
    since_weaker old new (λ names. names ≡ files_of (f.before ++ spec ∷ [])) (FillReads held specs refs (Err load.Failed) last)
    (λ names names_are. (fills_up_to held specs refs r left spec others filled f is names names_are, last_read last f.before spec names (failed refl) names_are))
    (up_to specs f.before r spec others old now new are f.count first one)
fault_reads held specs refs r left spec others filled load.TooLarge last old now new f is distinct refused failed first one =
    let are : specs ≡ f.before ++ spec ∷ others = f.are ∙ ap (λ (l : List TableSpec). f.before ++ l) is in
    since_weaker old new (λ names. names ≡ files_of (f.before ++ spec ∷ [])) (FillReads held specs refs (Err load.TooLarge) last)
    (fills_up_to held specs refs r left spec others filled f is)
    (up_to specs f.before r spec others old now new are f.count first one)
fault_reads held specs refs r left spec others filled load.NoMemory last old now new f is distinct refused failed first one =
    let are : specs ≡ f.before ++ spec ∷ others = f.are ∙ ap (λ (l : List TableSpec). f.before ++ l) is in
    since_weaker old new (λ names. names ≡ files_of (f.before ++ spec ∷ [])) (FillReads held specs refs (Err load.NoMemory) last)
    (fills_up_to held specs refs r left spec others filled f is)
    (up_to specs f.before r spec others old now new are f.count first one)

-- ---- no file is read twice

-- a name that no reference has is none of their files
apart_or_none : (name : List ℕ) (file : Option (List ℕ)) (names : List (List ℕ)) → file ≢ Some name
    → All (λ n. name ≢ n) names → All (λ n. name ≢ n) (cons_option file names)
apart_or_none name None names differs all = all
apart_or_none name (Some n) names differs all = All-cons (λ n. name ≢ n) n names (λ same. differs (ap Some (sym same))) all

apart_from : (name : List ℕ) (before after : List TableSpec) → All (λ other. other.file ≢ Some name) (before ++ after)
    → All (λ n. name ≢ n) (files_of before)
apart_from name [] after all = All-nil (λ n. name ≢ n)
apart_from name (spec ∷ before) after all =
    apart_or_none name spec.file (files_of before)
    (All-head (λ (other : TableSpec). other.file ≢ Some name) spec (before ++ after) all)
    (apart_from name before after (All-tail (λ (other : TableSpec). other.file ≢ Some name) spec (before ++ after) all))

distinct_with : (file : Option (List ℕ)) (before after : List TableSpec)
    → IfSome file (λ name. All (λ other. other.file ≢ Some name) (before ++ after))
    → AllPairs (λ n m. n ≢ m) (files_of before) → AllPairs (λ n m. n ≢ m) (cons_option file (files_of before))
distinct_with None before after own distinct = distinct
distinct_with (Some name) before after own distinct =
    AllPairs-cons (λ n m. n ≢ m) name (files_of before) (apart_from name before after own) distinct

none_twice : AllPairs (λ (n m : List ℕ). n ≢ m) []
none_twice = λ i j d below within. absurd (omega (arith, within))

-- the files of the first references of a configuration
distinct_files : (before after : List TableSpec) → HaveDistinctFiles (before ++ after) → AllPairs (λ n m. n ≢ m) (files_of before)
distinct_files [] after distinct = none_twice
distinct_files (spec ∷ before) after distinct = distinct_with spec.file before after distinct.0 (distinct_files before after distinct.1)

-- where nothing is read
pub none_read_twice : (log : Option FileLog) → HoldsSince log log (AllPairs (λ n m. n ≢ m))
none_read_twice log = none_since log (AllPairs (λ (n m : List ℕ). n ≢ m)) none_twice

-- up to a reference
pub fault_reads_once : (held : Option NamedBytes) (specs : List TableSpec) (refs : References) (r : ℕ) (left : List TableSpec) (spec : TableSpec) (others : List TableSpec) (filled : References)
    (old now new : Option FileLog) → Filling held specs refs r left filled → left ≡ spec ∷ others → HaveDistinctFiles specs
    → HoldsSince old now (λ names. names ≡ files_of (take r specs)) → LogsFile spec.file now new
    → HoldsSince old new (AllPairs (λ n m. n ≢ m))
fault_reads_once held specs refs r left spec others filled old now new f is distinct first one =
    let are : specs ≡ f.before ++ spec ∷ others = f.are ∙ ap (λ (l : List TableSpec). f.before ++ l) is in
    let both : specs ≡ (f.before ++ spec ∷ []) ++ others = are ∙ sym (append_assoc f.before (spec ∷ []) others) in
    since_weaker old new (λ names. names ≡ files_of (f.before ++ spec ∷ [])) (AllPairs (λ (n m : List ℕ). n ≢ m))
    (λ names names_are. subst (AllPairs (λ (n m : List ℕ). n ≢ m)) (sym names_are)
    (distinct_files (f.before ++ spec ∷ []) others (subst HaveDistinctFiles both distinct)))
    (up_to specs f.before r spec others old now new are f.count first one)

-- of all
pub all_read_once : (specs : List TableSpec) (r : ℕ) (old now : Option FileLog) → HaveDistinctFiles specs
    → HoldsSince old now (λ names. names ≡ files_of (take r specs)) → HoldsSince old now (AllPairs (λ n m. n ≢ m))
all_read_once specs r old now distinct first =
    since_weaker old now (λ names. names ≡ files_of (take r specs)) (AllPairs (λ (n m : List ℕ). n ≢ m))
    (λ names names_are. subst (AllPairs (λ (n m : List ℕ). n ≢ m)) (sym names_are)
    (distinct_files (take r specs) (drop r specs) (subst HaveDistinctFiles (sym (take-append-drop r specs)) distinct)))
    first
