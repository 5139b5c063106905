-- Lemmas on the files that are read when a configuration is loaded.
use Rattle.std.proofs.Common.{◌≡◌, ℕ, List, [], Option, None, Some, Ok, Err, inl, inr, refl, ap, ◌∙◌, subst}
use Rattle.hx_base.specs.Pairs.{NamedBytes}
use Rattle.hx_outside.specs.Log.{FileLog, HoldsSince}
use Rattle.hx_refs.specs.References.{References, RefsState}
use Rattle.hx_refs.specs.declared.Limits.{Limits}
use Rattle.hx_rules.specs.Programs.{Rules}
use Rattle.hx_calls.specs.Known.{Known, nothing_known}
use Rattle.hx_calls.specs.TableSpecs.{ReferenceSpecs, table_specs}
use Rattle.hx_calls.specs.declared.TableSpec.{TableSpec}
use Rattle.hx_words.specs.Variable.{Env}
use Rattle.hx_filling.specs.Refusals.{Refusal}
use Rattle.hx_filling.specs.Files.{FillsUpTo, files_of}
use Rattle.hx_filling.specs.FillResult.{FillReads, FillsUpToRefusal}
use Rattle.hx_filling.specs.References.{HoldsUnder, first_unknown, id_taken, repeated_after, unknown_table}
use Rattle.hx_filling.specs.declared.load_fault.LoadFault.{LoadFault}
use Rattle.hx_filling.specs.declared.load_fault.LoadFault.TheVariants as load
use Rattle.hx_filling.proofs.FirstLemmas.{is_repeated, is_unknown}
use Rattle.hx_filling.proofs.NumberLemmas.{given_distinct}
use Rattle.hx_filling.proofs.ReadLemmas.{none_since, since_weaker}
use Rattle.hx_load.specs.Configuration.{LinesGive, lines_of, statements_from}
use Rattle.hx_load.specs.Files.{ReadsFirstFiles, ReadsUpToRefusal}
use Rattle.hx_load.specs.LoadResult.{LoadReads}
use Rattle.hx_load.specs.Loads.{IsRefusedByLines}
use Rattle.hx_load.proofs.LoadedLemmas.{Brings, Declares, files_in, files_in_are, gives_references, of_known, reading_of, same_declared}
use Rattle.hx_load.proofs.LoadingLemmas.{lines_give}

-- ---- what loading has read, where its lines alone are refused

-- no file, whatever the fault
pub unread : (held : Option NamedBytes) (env : Env) (limits : Limits) (config : List ℕ) (fault : LoadFault) (last : Option (List ℕ)) (log : Option FileLog)
    → ((line code : ℕ) → fault ≡ load.Refused line code → IsRefusedByLines env config (record { line = line; code = code }))
    → (fault ≡ load.Failed → ⊥) → HoldsSince log log (LoadReads held env limits config (Err fault) last)
unread held env limits config (load.Refused line code) last log refused never =
    none_since log (LoadReads held env limits config (Err (load.Refused line code)) last)
    (record { files = files_in held; of_files = files_in_are held; is = inl (refused line code refl, refl) })
unread held env limits config load.Failed last log refused never = absurd (never refl)
unread held env limits config load.TooLarge last log refused never =
    none_since log (LoadReads held env limits config (Err load.TooLarge) last)
    (record { files = files_in held; of_files = files_in_are held; is = inl refl })
unread held env limits config load.NoMemory last log refused never =
    none_since log (LoadReads held env limits config (Err load.NoMemory) last)
    (record { files = files_in held; of_files = files_in_are held; is = inl refl })

-- a line is refused
pub line_is_refused : (env : Env) (config : List ℕ) (refusal : Refusal)
    → statements_from env 1 (lines_of config) nothing_known ≡ Err refusal → IsRefusedByLines env config refusal
line_is_refused env config refusal is =
    inl (subst (LinesGive env 1 (lines_of config) nothing_known) is (lines_give env 1 (lines_of config) nothing_known))

-- a number is given twice
pub number_is_taken : (env : Env) (config : List ℕ) (known : Known) (program : Rules) (specs : ReferenceSpecs) (line code : ℕ)
    → Brings env config known program specs → (repeated_after [] specs.specs ≡ Some line) × (code ≡ id_taken)
    → IsRefusedByLines env config (record { line = line; code = code })
number_is_taken env config known program specs line code b is =
    inr (inl (record {
      read = reading_of env config known program b.lines;
      given = subst (LinesGive env 1 (lines_of config) nothing_known) b.lines.given (lines_give env 1 (lines_of config) nothing_known);
      twice = is_repeated (table_specs known) line (of_known env config known program specs (repeated_after []) (Some line) b is.0);
      code = is.1;
    }))

-- a rule changes a file that is named nowhere else
pub file_is_unknown : (env : Env) (config : List ℕ) (known : Known) (program : Rules) (specs : ReferenceSpecs) (line code : ℕ)
    → Brings env config known program specs → repeated_after [] specs.specs ≡ None
    → (first_unknown specs.specs ≡ Some line) × (code ≡ unknown_table)
    → IsRefusedByLines env config (record { line = line; code = code })
file_is_unknown env config known program specs line code b once is =
    inr (inr (record {
      read = reading_of env config known program b.lines;
      given = subst (LinesGive env 1 (lines_of config) nothing_known) b.lines.given (lines_give env 1 (lines_of config) nothing_known);
      once = given_distinct [] (table_specs known) (of_known env config known program specs (repeated_after []) None b once);
      unknown = is_unknown (table_specs known) line (of_known env config known program specs first_unknown (Some line) b is.0);
      code = is.1;
    }))

-- ---- what it has read, where its references are declared

-- the first files, up to a reference
first_files : (held : Option NamedBytes) (env : Env) (limits : Limits) (config : List ℕ) (known : Known) (program : Rules) (specs : ReferenceSpecs) (refs : References)
    → Declares env limits config known program specs refs → (names : List (List ℕ)) → HoldsUnder held (λ files. FillsUpTo files specs.specs refs names)
    → HoldsUnder held (λ files. ReadsFirstFiles env limits files config names)
first_files held env limits config known program specs refs d names up = record {
  files = up.files;
  of_files = up.of_files;
  is = inr (
    reading_of env config known program d.brings.lines,
    gives_references env limits config known program specs refs d,
    same_declared env limits config known program specs refs d (λ (s : List TableSpec) (r : References). FillsUpTo up.files s r names) up.is,
  );
}

-- those up to the entry that is refused
refused_files : (held : Option NamedBytes) (env : Env) (limits : Limits) (config : List ℕ) (known : Known) (program : Rules) (specs : ReferenceSpecs) (refs : References)
    → Declares env limits config known program specs refs → (refusal : Refusal) (names : List (List ℕ))
    → HoldsUnder held (λ files. FillsUpToRefusal files specs.specs refs refusal names)
    → HoldsUnder held (λ files. ReadsUpToRefusal env limits files config refusal names)
refused_files held env limits config known program specs refs d refusal names up =
    let here = same_declared env limits config known program specs refs d (λ (s : List TableSpec) (r : References). FillsUpToRefusal up.files s r refusal names) up.is in
    record {
      files = up.files;
      of_files = up.of_files;
      is = inr (
        record {
          read = reading_of env config known program d.brings.lines;
          lines = gives_references env limits config known program specs refs d;
          refused = here.0;
        },
        here.1,
      );
    }

-- the references aren't filled
pub unfilled_reads : (held : Option NamedBytes) (env : Env) (limits : Limits) (config : List ℕ) (known : Known) (program : Rules) (specs : ReferenceSpecs) (refs : References)
    (fault : LoadFault) (last : Option (List ℕ)) (old new : Option FileLog) → Declares env limits config known program specs refs
    → HoldsSince old new (FillReads held specs.specs refs (Err fault) last) → HoldsSince old new (LoadReads held env limits config (Err fault) last)
unfilled_reads held env limits config known program specs refs (load.Refused line code) last old new d since =
    since_weaker old new (FillReads held specs.specs refs (Err (load.Refused line code)) last) (LoadReads held env limits config (Err (load.Refused line code)) last)
    (refused_files held env limits config known program specs refs d (record { line = line; code = code })) since
unfilled_reads held env limits config known program specs refs load.Failed last old new d since =
    since_weaker old new (FillReads held specs.specs refs (Err load.Failed) last) (LoadReads held env limits config (Err load.Failed) last)
    (λ names is. (first_files held env limits config known program specs refs d names is.0, is.1)) since
unfilled_reads held env limits config known program specs refs load.TooLarge last old new d since =
    since_weaker old new (FillReads held specs.specs refs (Err load.TooLarge) last) (LoadReads held env limits config (Err load.TooLarge) last)
    (first_files held env limits config known program specs refs d) since
unfilled_reads held env limits config known program specs refs load.NoMemory last old new d since =
    since_weaker old new (FillReads held specs.specs refs (Err load.NoMemory) last) (LoadReads held env limits config (Err load.NoMemory) last)
    (first_files held env limits config known program specs refs d) since

-- they are
pub filled_reads : (held : Option NamedBytes) (env : Env) (limits : Limits) (config : List ℕ) (known : Known) (program : Rules) (specs : ReferenceSpecs) (refs : References)
    (after : RefsState) (filled_last last : Option (List ℕ)) (old new : Option FileLog) → Declares env limits config known program specs refs
    → HoldsSince old new (FillReads held specs.specs refs (Ok tt) filled_last)
    → HoldsSince old new (LoadReads held env limits config (Ok (program, after)) last)
filled_reads held env limits config known program specs refs after filled_last last old new d since =
    since_weaker old new (FillReads held specs.specs refs (Ok tt) filled_last) (LoadReads held env limits config (Ok (program, after)) last)
    (λ names names_are. (
      reading_of env config known program d.brings.lines,
      gives_references env limits config known program specs refs d,
      names_are ∙ ap (λ (s : ReferenceSpecs). files_of s.specs) d.brings.specs_are,
    ))
    since
