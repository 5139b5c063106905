-- What a person reads on standard error of a run that ended. The names and reasons of codes are
-- tables of the library: what is defined here is the sentence in which they stand.
use Rattle.std.specs.Prelude.{ℕ, ◌==◌, List, ◌++◌, codes, length, map, Option, if◌then◌else◌}
use Rattle.std.specs.Fmt.{decimal}
use Rattle.hx_outside.specs.Prefixes.{AppendsPrefix}
use Rattle.hx_program.specs.Tables.{meaning_of}
use Rattle.hx_program.specs.declared.codes.TheConstants.{CONFIG_CODES, RECORD_CODES}
use Rattle.hx_replay.specs.declared.ending.Ending.{Ending}
use Rattle.hx_replay.specs.declared.ending.Ending.TheVariants.{ConfigRefused, RecordRefused, UnreadFile, TooLarge, Other}
use Rattle.hx_replay.specs.declared.explanation.Told.{Told}

-- what is told of a run beside its ending: the name of its configuration, where the fault is and
-- what is wrong there, as far as that is known, the file that was read last, and the last regular
-- expression that was too large
pub record ToldTexts : Type 0 where
  pub name : List ℕ
  pub place : List ℕ
  pub reason : List ℕ
  pub file : List ℕ
  pub large : List ℕ

-- the same as the code keeps it
abbrev pub told_of : Told → ToldTexts
told_of told = record {
  name = told.name.now;
  place = told.place.now;
  reason = told.reason.now;
  file = told.file.now;
  large = told.large.now;
}

-- the reason that is known; without one, that of the code
abbrev pub reason_of : (known of_code : List ℕ) → List ℕ
reason_of known of_code = if length known == 0 then of_code else known

-- `PROGRAM: SUBJECT NUMBER: PLACE REASON (CODE NAME)`, with a separator for the second blank; a
-- place brings its own
abbrev pub refusal_text : (program subject separator number : List ℕ) → ToldTexts
    → (code : List ℕ) → List ℕ × List ℕ → List ℕ
refusal_text program subject separator number told code meaning =
    program ++ (codes ": " ++ (subject ++ (separator ++ (number ++ (codes ": " ++ (told.place
    ++ (reason_of told.reason meaning.1
    ++ (codes " (" ++ (code ++ (codes " " ++ (meaning.0 ++ codes ")\n")))))))))))

-- `PROGRAM: NAME:LINE: PLACE REASON (CODE NAME)`
abbrev pub config_refused : (program : List ℕ) → ToldTexts → (line code : List ℕ) → List ℕ
config_refused program told line code =
    refusal_text program told.name (codes ":") line told code
    (meaning_of (map (λ row. (row.0.now, row.1.now, row.2.now)) CONFIG_CODES) code)

-- `PROGRAM: record, byte OFFSET: PLACE REASON (CODE NAME)`
abbrev pub record_refused : (program : List ℕ) → ToldTexts → (offset code : List ℕ) → List ℕ
record_refused program told offset code =
    refusal_text program (codes "record") (codes ", byte ") offset told code
    (meaning_of (map (λ row. (row.0.now, row.1.now, row.2.now)) RECORD_CODES) code)

-- what is said of a file that can't be read, which was the last to be read
abbrev pub unread_text : (program : List ℕ) → ToldTexts → List ℕ
unread_text program told =
    program ++ (codes ": " ++ (told.place ++ (told.file ++ codes " can't be read\n")))

-- what is said of a regular expression that is too large
abbrev pub too_large_text : (program : List ℕ) → ToldTexts → List ℕ
too_large_text program told =
    program ++ (codes ": this regular expression is too large: " ++ (told.large ++ codes "\n"))

-- what is said of an ending, where its numbers are written so
unfoldable pub ending_text : (program : List ℕ) → Ending → (of_status : List ℕ) → ToldTexts
    → (number code : List ℕ) → List ℕ
ending_text program (ConfigRefused line c) of_status told number code =
    config_refused program told number code
ending_text program (RecordRefused offset c) of_status told number code =
    record_refused program told number code
ending_text program UnreadFile of_status told number code = unread_text program told
ending_text program TooLarge of_status told number code = too_large_text program told
ending_text program Other of_status told number code = of_status

-- what was written begins the text that is told with some texts beside the fault
pub record TellsSome (text_with : ToldTexts → List ℕ) (old new : Option (List ℕ)) : Type 0 where
  pub told : ToldTexts
  pub written : AppendsPrefix old new (text_with told)

-- the line or the offset of a refusal, and its code
abbrev pub number_of : Ending → ℕ
number_of (ConfigRefused line code) = line
number_of (RecordRefused offset code) = offset
number_of _ = 0

abbrev pub code_of : Ending → ℕ
code_of (ConfigRefused line code) = code
code_of (RecordRefused offset code) = code
code_of _ = 0

-- what is said of an ending, with its numbers in decimal
abbrev pub explanation : (program : List ℕ) → Ending → (of_status : List ℕ) → ToldTexts → List ℕ
explanation program ending of_status told =
    ending_text program ending of_status told (decimal (number_of ending)) (decimal (code_of ending))
