-- Lemmas on what a configuration loads as, by what its lines, its numbers and its files come to.
use Rattle.std.proofs.Common.{◌≡◌, ℕ, ◌+◌, suc, List, [], ◌∷◌, Option, None, Some, Result, Ok, Err, IsSomeAnd, inl, inr, length, refl, sym, ap, ◌∙◌, subst}
use Rattle.hx_ast.specs.declared.Statement.{Statement}
use Rattle.hx_base.specs.Pairs.{NamedBytes}
use Rattle.hx_outside.specs.Makers.{ExpressionText}
use Rattle.hx_refs.specs.References.{References, RefsState}
use Rattle.hx_refs.specs.declared.Limits.{Limits}
use Rattle.hx_rules.specs.Programs.{Rules}
use Rattle.hx_rules.specs.Tables.{HasHeads, HasLists}
use Rattle.hx_sample.specs.Tables.{TableHead}
use Rattle.hx_calls.specs.Known.{Known, Reading, ReferenceForm, nothing_known}
use Rattle.hx_calls.specs.TableSpecs.{ReferenceSpecs, reference_specs, table_specs, table_specs_from}
use Rattle.hx_calls.specs.declared.TableSpec.{TableSpec}
use Rattle.hx_words.specs.Variable.{Env}
use Rattle.hx_filling.specs.Refusals.{Refusal}
use Rattle.hx_filling.specs.FillResult.{FillAsksLast, FillReadsLast, FillsHeld}
use Rattle.hx_filling.specs.References.{Filled, FillingAsksFor, FillingReads, HasFiles, HaveDistinctNumbers, declared_references, filled_from, first_unknown, id_taken, repeated_after, unknown_table}
use Rattle.hx_filling.specs.References as filled
use Rattle.hx_filling.specs.declared.load_fault.LoadFault.{LoadFault}
use Rattle.hx_filling.specs.declared.load_fault.LoadFault.TheVariants as load
use Rattle.hx_filling.proofs.FilledLemmas.{FillAs, fill_as, fill_is}
use Rattle.hx_filling.proofs.FirstLemmas.{all_known, is_repeated, is_unknown, none_repeated, none_unknown, repeated_is, unknown_is}
use Rattle.hx_filling.proofs.NumberLemmas.{given_distinct}
use Rattle.hx_load.specs.Configuration.{GiveStatements, IsFirstRefused, LinesGive, lines_of, statements_from}
use Rattle.hx_load.specs.LineReading.{IsReadAs}
use Rattle.hx_load.specs.LoadResult.{LoadJudgesLast, LoadReadsLast, LoadsHeld}
use Rattle.hx_load.specs.Loads.{GivesProgram, GivesReferences, Judges, LineReads, LinesBring, Loading, Loads, declared, loaded, loading_filled, loading_named, loading_numbered, loading_of}
use Rattle.hx_load.specs.Loads as loading
use Rattle.hx_load.proofs.LoadingLemmas.{first_refused_is, given_are, lines_give}

-- ---- the relation

entries_load : (env : Env) (limits : Limits) (files : NamedBytes) (config : List ℕ) (read : Reading (List Statement)) (f : Filled)
    → GivesReferences env config read → FillAs files 0 (table_specs read.known) (declared limits read.known) f
    → Loads env limits files config (loading_filled read.value f)
entries_load env limits files config read (filled.Whole references) lines f = (read, lines, f, refl)
entries_load env limits files config read (filled.Refused refusal) lines f =
    inr (record { read = read; lines = lines; refused = f })
entries_load env limits files config read (filled.Missing name) lines f = record { read = read; lines = lines; missing = f }

names_load : (env : Env) (limits : Limits) (files : NamedBytes) (config : List ℕ) (read : Reading (List Statement)) (unknown : Option ℕ)
    → GiveStatements env 1 (lines_of config) nothing_known read → HaveDistinctNumbers (table_specs read.known)
    → first_unknown (table_specs read.known) ≡ unknown → Loads env limits files config (loading_named limits files read unknown)
names_load env limits files config read (Some line) given once is =
    inl (inr (inr (record { read = read; given = given; once = once; unknown = is_unknown (table_specs read.known) line is; code = refl })))
names_load env limits files config read None given once is =
    entries_load env limits files config read (filled_from files 0 (table_specs read.known) (declared limits read.known))
    (record { given = given; once = once; named = none_unknown (table_specs read.known) is })
    (fill_as files 0 (table_specs read.known) (declared limits read.known))

numbers_load : (env : Env) (limits : Limits) (files : NamedBytes) (config : List ℕ) (read : Reading (List Statement)) (repeated : Option ℕ)
    → GiveStatements env 1 (lines_of config) nothing_known read → repeated_after [] (table_specs read.known) ≡ repeated
    → Loads env limits files config (loading_numbered limits files read repeated)
numbers_load env limits files config read (Some line) given is =
    inl (inr (inl (record { read = read; given = given; twice = is_repeated (table_specs read.known) line is; code = refl })))
numbers_load env limits files config read None given is =
    names_load env limits files config read (first_unknown (table_specs read.known)) given
    (given_distinct [] (table_specs read.known) is) refl

lines_load : (env : Env) (limits : Limits) (files : NamedBytes) (config : List ℕ) (said : Result (Reading (List Statement)) Refusal)
    → LinesGive env 1 (lines_of config) nothing_known said → Loads env limits files config (loading_of limits files said)
lines_load env limits files config (Ok read) given =
    numbers_load env limits files config read (repeated_after [] (table_specs read.known)) given refl
lines_load env limits files config (Err refusal) refused = inl (inl refused)

-- a configuration loads as the function says
pub loads : (env : Env) (limits : Limits) (files : NamedBytes) (config : List ℕ)
    → Loads env limits files config (loaded env limits files config)
unfolding loaded
loads env limits files config =
    lines_load env limits files config (statements_from env 1 (lines_of config) nothing_known) (lines_give env 1 (lines_of config) nothing_known)

-- ---- nothing else does it load as

-- the lines give statements, and this comes of the numbers that they give
of_numbers : (env : Env) (limits : Limits) (files : NamedBytes) (config : List ℕ) (read : Reading (List Statement)) (repeated : Option ℕ)
    → GiveStatements env 1 (lines_of config) nothing_known read → repeated_after [] (table_specs read.known) ≡ repeated
    → loaded env limits files config ≡ loading_numbered limits files read repeated
unfolding loaded
of_numbers env limits files config read repeated given is =
    ap (loading_of limits files) (given_are env 1 (lines_of config) nothing_known read given)
    ∙ ap (loading_numbered limits files read) is

-- no number is given twice, and this comes of the files that rules change
of_names : (env : Env) (limits : Limits) (files : NamedBytes) (config : List ℕ) (read : Reading (List Statement)) (unknown : Option ℕ)
    → GiveStatements env 1 (lines_of config) nothing_known read → HaveDistinctNumbers (table_specs read.known)
    → first_unknown (table_specs read.known) ≡ unknown → loaded env limits files config ≡ loading_named limits files read unknown
of_names env limits files config read unknown given once is =
    of_numbers env limits files config read None given (none_repeated (table_specs read.known) once)
    ∙ ap (loading_named limits files read) is

-- each of these is known, and this comes of filling the references
of_filling : (env : Env) (limits : Limits) (files : NamedBytes) (config : List ℕ) (read : Reading (List Statement)) (f : Filled)
    → GivesReferences env config read → FillAs files 0 (table_specs read.known) (declared limits read.known) f
    → loaded env limits files config ≡ loading_filled read.value f
of_filling env limits files config read f lines is =
    of_names env limits files config read None lines.given lines.once (all_known (table_specs read.known) lines.named)
    ∙ ap (loading_filled read.value) (fill_is files 0 (table_specs read.known) (declared limits read.known) f is)

of_first_refused : (env : Env) (limits : Limits) (files : NamedBytes) (config : List ℕ) (refusal : Refusal)
    → IsFirstRefused env 1 (lines_of config) nothing_known refusal → loaded env limits files config ≡ loading.Refused refusal
unfolding loaded
of_first_refused env limits files config refusal f =
    ap (loading_of limits files) (first_refused_is env 1 (lines_of config) nothing_known refusal f)

-- a refusal with a code of its own
coded : (line : ℕ) (refusal : Refusal) (code : ℕ) → line ≡ refusal.line → refusal.code ≡ code
    → loading.Refused (record { line = line; code = code }) ≡ loading.Refused refusal
coded line refusal code same is =
    ap (λ (l : ℕ). loading.Refused (record { line = l; code = code })) same
    ∙ ap (λ (c : ℕ). loading.Refused (record { line = refusal.line; code = c })) (sym is)

of_refused : (env : Env) (limits : Limits) (files : NamedBytes) (config : List ℕ) (refusal : Refusal)
    → Loads env limits files config (loading.Refused refusal) → loaded env limits files config ≡ loading.Refused refusal
of_refused env limits files config refusal (inl (inl f)) = of_first_refused env limits files config refusal f
of_refused env limits files config refusal (inl (inr (inl f))) =
    of_numbers env limits files config f.read (Some refusal.line) f.given
    (repeated_is (table_specs f.read.known) refusal.line f.twice)
    ∙ coded refusal.line refusal id_taken refl f.code
of_refused env limits files config refusal (inl (inr (inr f))) =
    of_names env limits files config f.read (Some refusal.line) f.given f.once
    (unknown_is (table_specs f.read.known) refusal.line f.unknown)
    ∙ coded refusal.line refusal unknown_table refl f.code
of_refused env limits files config refusal (inr f) =
    of_filling env limits files config f.read (filled.Refused refusal) f.lines f.refused

-- a configuration loads as nothing but what the function says
pub loads_only : (env : Env) (limits : Limits) (files : NamedBytes) (config : List ℕ) (l : Loading)
    → Loads env limits files config l → l ≡ loaded env limits files config
loads_only env limits files config (loading.Accepted program references) (read, lines, whole, is) =
    ap (λ (p : Rules). loading.Accepted p references) is
    ∙ sym (of_filling env limits files config read (filled.Whole references) lines whole)
loads_only env limits files config (loading.Refused refusal) is = sym (of_refused env limits files config refusal is)
loads_only env limits files config (loading.Missing name) f =
    sym (of_filling env limits files config f.read (filled.Missing name) f.lines f.missing)

-- so it gives one program at most
pub loads_one : (env : Env) (limits : Limits) (files : NamedBytes) (config : List ℕ) (program other : Rules) (references others : References)
    → GivesProgram env limits files config program references → GivesProgram env limits files config other others
    → (program ≡ other) × (references ≡ others)
loads_one env limits files config program other references others given again =
    let same : loading.Accepted program references ≡ loading.Accepted other others =
    loads_only env limits files config (loading.Accepted program references) given
    ∙ sym (loads_only env limits files config (loading.Accepted other others) again) in
    (cc same, cc same)

-- ---- what `load` answers

-- files, as far as it is known what they hold
abbrev pub files_in : Option NamedBytes → NamedBytes
files_in None = []
files_in (Some files) = files

pub files_in_are : (held : Option NamedBytes) → HasFiles held (files_in held)
files_in_are None = tt
files_in_are (Some files) = refl

-- a fault that says nothing of the configuration, or its refusal
refused_or_not : (held : Option NamedBytes) (env : Env) (limits : Limits) (config : List ℕ) (fault : LoadFault)
    → ((line code : ℕ) → fault ≡ load.Refused line code
    → (files : NamedBytes) → loaded env limits files config ≡ loading.Refused (record { line = line; code = code }))
    → LoadsHeld held env limits config (Err fault)
refused_or_not held env limits config (load.Refused line code) refused =
    record { files = files_in held; of_files = files_in_are held; is = refused line code refl (files_in held) }
refused_or_not held env limits config load.Failed refused = record { files = files_in held; of_files = files_in_are held; is = tt }
refused_or_not held env limits config load.TooLarge refused = record { files = files_in held; of_files = files_in_are held; is = tt }
refused_or_not held env limits config load.NoMemory refused = record { files = files_in held; of_files = files_in_are held; is = tt }

-- the lines have a fault
pub line_fault : (held : Option NamedBytes) (env : Env) (limits : Limits) (config : List ℕ) (fault : LoadFault)
    → ((line code : ℕ) → fault ≡ load.Refused line code
    → statements_from env 1 (lines_of config) nothing_known ≡ Err (record { line = line; code = code }))
    → LoadsHeld held env limits config (Err fault)
unfolding loaded
line_fault held env limits config fault refused =
    refused_or_not held env limits config fault (λ line code is files. ap (loading_of limits files) (refused line code is))

-- the lines give statements and what is known after them, and these are the references of that
pub record Brings (env : Env) (config : List ℕ) (known : Known) (program : Rules) (specs : ReferenceSpecs) : Type 0 where
  pub lines : IsReadAs env config known program
  pub specs_are : specs ≡ reference_specs known

abbrev pub reading_of : (env : Env) (config : List ℕ) (known : Known) (program : Rules)
    → IsReadAs env config known program → Reading (List Statement)
reading_of env config known program lines = record { value = lines.statements; known = known }

-- what holds of the references holds of what is known
pub of_known : (env : Env) (config : List ℕ) (known : Known) (program : Rules) (specs : ReferenceSpecs) (f : List TableSpec → Option ℕ) (o : Option ℕ)
    → Brings env config known program specs → f specs.specs ≡ o → f (table_specs known) ≡ o
of_known env config known program specs f o b is = sym (ap (λ (s : ReferenceSpecs). f s.specs) b.specs_are) ∙ is

-- a number is given twice
pub number_fault : (held : Option NamedBytes) (env : Env) (limits : Limits) (config : List ℕ) (known : Known) (program : Rules) (specs : ReferenceSpecs)
    (fault : LoadFault) → Brings env config known program specs
    → ((line code : ℕ) → fault ≡ load.Refused line code → (repeated_after [] specs.specs ≡ Some line) × (code ≡ id_taken))
    → LoadsHeld held env limits config (Err fault)
unfolding loaded
number_fault held env limits config known program specs fault b refused =
    refused_or_not held env limits config fault (λ line code is files.
    let (repeated, taken) = refused line code is in
    let read = reading_of env config known program b.lines in
    let again : repeated_after [] (table_specs known) ≡ Some line =
    of_known env config known program specs (repeated_after []) (Some line) b repeated in
    ap (loading_of limits files) b.lines.given ∙ ap (loading_numbered limits files read) again
    ∙ ap (λ (c : ℕ). loading.Refused (record { line = line; code = c })) (sym taken))

-- no number is, and a rule changes a file that is named nowhere else
pub unknown_fault : (held : Option NamedBytes) (env : Env) (limits : Limits) (config : List ℕ) (known : Known) (program : Rules) (specs : ReferenceSpecs)
    (fault : LoadFault) → Brings env config known program specs → repeated_after [] specs.specs ≡ None
    → ((line code : ℕ) → fault ≡ load.Refused line code → (first_unknown specs.specs ≡ Some line) × (code ≡ unknown_table))
    → LoadsHeld held env limits config (Err fault)
unfolding loaded
unknown_fault held env limits config known program specs fault b none refused =
    refused_or_not held env limits config fault (λ line code is files.
    let (unnamed, coded) = refused line code is in
    let read = reading_of env config known program b.lines in
    let once : repeated_after [] (table_specs known) ≡ None =
    of_known env config known program specs (repeated_after []) None b none in
    let unknown : first_unknown (table_specs known) ≡ Some line =
    of_known env config known program specs first_unknown (Some line) b unnamed in
    ap (loading_of limits files) b.lines.given ∙ ap (loading_numbered limits files read) once
    ∙ ap (loading_named limits files read) unknown
    ∙ ap (λ (c : ℕ). loading.Refused (record { line = line; code = c })) (sym coded))

-- The lines give statements, and the references of these are declared. No number is given twice,
-- and each file that a rule changes is named elsewhere.
pub record Declares (env : Env) (limits : Limits) (config : List ℕ) (known : Known) (program : Rules) (specs : ReferenceSpecs) (refs : References)
    : Type 0 where
  pub brings : Brings env config known program specs
  pub once : repeated_after [] specs.specs ≡ None
  pub named : first_unknown specs.specs ≡ None
  pub refs_are : refs ≡ declared_references limits specs.specs specs.heads

-- what it loads as, by what comes of filling the references
filled_loaded : (env : Env) (limits : Limits) (files : NamedBytes) (config : List ℕ) (known : Known) (program : Rules) (specs : ReferenceSpecs)
    (refs : References) (f : Filled) (d : Declares env limits config known program specs refs) → filled_from files 0 specs.specs refs ≡ f
    → loaded env limits files config ≡ loading_filled d.brings.lines.statements f
unfolding loaded
filled_loaded env limits files config known program specs refs f d is =
    let read = reading_of env config known program d.brings.lines in
    let once : repeated_after [] (table_specs known) ≡ None =
    of_known env config known program specs (repeated_after []) None d.brings d.once in
    let named : first_unknown (table_specs known) ≡ None =
    of_known env config known program specs first_unknown None d.brings d.named in
    let filling : filled_from files 0 (table_specs known) (declared limits known) ≡ f =
    sym (ap (λ (s : ReferenceSpecs). filled_from files 0 s.specs (declared_references limits s.specs s.heads)) d.brings.specs_are)
    ∙ sym (ap (filled_from files 0 specs.specs) d.refs_are) ∙ is in
    ap (loading_of limits files) d.brings.lines.given ∙ ap (loading_numbered limits files read) once
    ∙ ap (loading_named limits files read) named ∙ ap (loading_filled d.brings.lines.statements) filling

-- the references aren't filled
pub fill_fault : (held : Option NamedBytes) (env : Env) (limits : Limits) (config : List ℕ) (known : Known) (program : Rules) (specs : ReferenceSpecs)
    (refs after : References) (fault : LoadFault) → Declares env limits config known program specs refs
    → FillsHeld held specs.specs refs after (Err fault) → LoadsHeld held env limits config (Err fault)
fill_fault held env limits config known program specs refs after (load.Refused line code) d f = record {
  files = f.files;
  of_files = f.of_files;
  is = filled_loaded env limits f.files config known program specs refs (filled.Refused (record { line = line; code = code })) d f.is;
}
fill_fault held env limits config known program specs refs after load.Failed d f = record { files = f.files; of_files = f.of_files; is = tt }
fill_fault held env limits config known program specs refs after load.TooLarge d f = record { files = f.files; of_files = f.of_files; is = tt }
fill_fault held env limits config known program specs refs after load.NoMemory d f = record { files = f.files; of_files = f.of_files; is = tt }

-- they are
pub fill_whole : (held : Option NamedBytes) (env : Env) (limits : Limits) (config : List ℕ) (known : Known) (program : Rules) (specs : ReferenceSpecs)
    (refs : References) (after : RefsState) → Declares env limits config known program specs refs
    → FillsHeld held specs.specs refs after.content (Ok tt)
    → LoadsHeld held env limits config (Ok (program, after))
fill_whole held env limits config known program specs refs after d f = record {
  files = f.files;
  of_files = f.of_files;
  is = filled_loaded env limits f.files config known program specs refs (filled.Whole after.content) d f.is
      ∙ ap (λ (p : Rules). loading.Accepted p after.content) (sym d.brings.lines.is);
}

-- ---- files and texts

-- the statements and what is known, as the relation has them
pub gives_references : (env : Env) (limits : Limits) (config : List ℕ) (known : Known) (program : Rules) (specs : ReferenceSpecs) (refs : References)
    → (d : Declares env limits config known program specs refs) → GivesReferences env config (reading_of env config known program d.brings.lines)
gives_references env limits config known program specs refs d = record {
  given = subst (λ (said : Result (Reading (List Statement)) Refusal). LinesGive env 1 (lines_of config) nothing_known said) d.brings.lines.given
      (lines_give env 1 (lines_of config) nothing_known);
  once = given_distinct [] (table_specs known) (of_known env config known program specs (repeated_after []) None d.brings d.once);
  named = none_unknown (table_specs known) (of_known env config known program specs first_unknown None d.brings d.named);
}

-- the references as they are declared are those of what is known
pub same_declared : (env : Env) (limits : Limits) (config : List ℕ) (known : Known) (program : Rules) (specs : ReferenceSpecs) (refs : References)
    → Declares env limits config known program specs refs → (P : List TableSpec → References → Type 0) → P specs.specs refs
    → P (table_specs known) (declared limits known)
same_declared env limits config known program specs refs d P p =
    subst (λ (s : ReferenceSpecs). P s.specs (declared_references limits s.specs s.heads)) d.brings.specs_are
    (subst (P specs.specs) d.refs_are p)

-- what the lines bring
pub lines_bring : (env : Env) (limits : Limits) (config : List ℕ) (known : Known) (program : Rules) (specs : ReferenceSpecs) (refs : References)
    → Declares env limits config known program specs refs → LinesBring env limits config program refs
lines_bring env limits config known program specs refs d = (
  reading_of env config known program d.brings.lines,
  gives_references env limits config known program specs refs d,
  d.brings.lines.is,
  d.refs_are ∙ ap (λ (s : ReferenceSpecs). declared_references limits s.specs s.heads) d.brings.specs_are,
)

-- the file that wasn't read is one to which the configuration comes
pub fill_reads : (held : Option NamedBytes) (env : Env) (limits : Limits) (config : List ℕ) (known : Known) (program : Rules) (specs : ReferenceSpecs)
    (refs : References) (last : Option (List ℕ)) → Declares env limits config known program specs refs → FillReadsLast held specs.specs refs last
    → LoadReadsLast held env limits config last
fill_reads held env limits config known program specs refs last d f = record {
  files = f.files;
  of_files = f.of_files;
  reads = rw f.is (record {
    read = reading_of env config known program d.brings.lines;
    lines = gives_references env limits config known program specs refs d;
    reads = same_declared env limits config known program specs refs d (λ (s : List TableSpec) (r : References). FillingReads f.files 0 s r f.name) f.reads;
  });
}

-- the text that was too large is one that the configuration reads
asked : (env : Env) (limits : Limits) (files : NamedBytes) (config : List ℕ) (known : Known) (program : Rules) (specs : ReferenceSpecs)
    (refs : References) (large : Option ExpressionText) → Declares env limits config known program specs refs
    → IsSomeAnd large (FillingAsksFor files 0 specs.specs refs) → IsSomeAnd large (Judges env limits files config)
asked env limits files config known program specs refs None d is = absurd is
asked env limits files config known program specs refs (Some text) d is = inr (record {
  read = reading_of env config known program d.brings.lines;
  lines = gives_references env limits config known program specs refs d;
  asked = same_declared env limits config known program specs refs d (λ (s : List TableSpec) (r : References). FillingAsksFor files 0 s r text) is;
})

pub fill_asks : (held : Option NamedBytes) (env : Env) (limits : Limits) (config : List ℕ) (known : Known) (program : Rules) (specs : ReferenceSpecs)
    (refs : References) (large : Option ExpressionText) → Declares env limits config known program specs refs → FillAsksLast held specs.specs refs large
    → LoadJudgesLast held env limits config large
fill_asks held env limits config known program specs refs large d f =
    record { files = f.files; of_files = f.of_files; judged = asked env limits f.files config known program specs refs large d f.asked }

line_read : (env : Env) (limits : Limits) (files : NamedBytes) (config : List ℕ) (large : Option ExpressionText) → IsSomeAnd large (LineReads env config)
    → IsSomeAnd large (Judges env limits files config)
line_read env limits files config None is = absurd is
line_read env limits files config (Some text) is = inl is

pub line_asks : (held : Option NamedBytes) (env : Env) (limits : Limits) (config : List ℕ) (large : Option ExpressionText) → IsSomeAnd large (LineReads env config)
    → LoadJudgesLast held env limits config large
line_asks held env limits config large is =
    record { files = files_in held; of_files = files_in_are held; judged = line_read env limits (files_in held) config large is }

-- ---- heads and lists

-- the heads that a program names are those of the references
pub has_heads : (heads : List TableHead) (program : Rules) (refs : References) → HasHeads heads program
    → refs.heads ≡ heads → HasHeads refs.heads program
has_heads heads program refs has is = rw is has

table_count : (known : Known) (r : ℕ) (forms : List ReferenceForm)
    → length (table_specs_from known r forms) ≡ length forms
table_count known r [] = refl
table_count known r (form ∷ forms) = ap suc (table_count known (r + 1) forms)

-- there are as many references as are known
pub has_lists : (known : Known) (program : Rules) (specs : ReferenceSpecs) (refs : References) → HasLists (length known.references) program
    → specs ≡ reference_specs known → length refs.references ≡ length specs.specs → HasLists (length refs.references) program
has_lists known program specs refs has are count =
    let same : length specs.specs ≡ length known.references =
    ap (λ (s : ReferenceSpecs). length s.specs) are ∙ table_count known 0 known.references in
    subst (λ (n : ℕ). HasLists n program) (sym (count ∙ same)) has
