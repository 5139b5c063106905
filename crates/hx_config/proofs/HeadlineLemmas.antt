-- The text of a configuration has what stands for each line.
use Rattle.std.proofs.Common.{rules, ◌≡◌, ◌≢◌, ◌==◌, ◌&&◌, ℕ, length, Bool, true, false, not, cond, List, [], ◌∷◌, ◌++◌, codes, map, flat_map, Option, None, Some, refl, sym, ap, ◌∙◌, subst, append-nil, arith}
use Rattle.std.specs.Io.KnownBytes.{Appends}
use Rattle.std.specs.Str.{bytes_eq}
use Rattle.std.proofs.lemmas.Grind.{flat_map-append}
use Rattle.std.proofs.lemmas.Option.{same_Some}
use Rattle.hx_words.specs.Variable.{Env}
use Rattle.hx_lint.specs.Report.{lint_text}
use Rattle.hx_config.specs.Command.{Question, WhatTakesTraffic, ConfigurationOf, WhatToTell}
use Rattle.hx_config.specs.Configuration.{configuration_text, selection_of, text_at, text_below, texts_below, texts_here}
use Rattle.hx_config.specs.Fates.{Selection, Fate, Elsewhere, Own, LeftOut, Otherwise, Below, below_or, fate_of, is_set_anew, known_at, left_out_or, said_fate, same_words, statement_fate, title_fate, words_of_hxeval}
use Rattle.hx_config.specs.Headline.{Part, StandsFor, NotHeld, Title, SetAnew, RowLeavesOut, OwnBackend, InOtherWords, AsLastRule, Itself, StandFor, IsConfiguration, IsWritten, Tells, WritesConfiguration, as_lines}
use Rattle.hx_config.specs.LeftOut.{reason_left_out}
use Rattle.hx_config.specs.Lines.{Line, lines_of}
use Rattle.hx_config.specs.Proxies.{holds}
use Rattle.hx_config.specs.Run.{HasContent, Outcome, Setting, configuration_outcome, is_amiss, outcome_by, notes_of, status_of, text_of, written_status}
use Rattle.hx_config.specs.Addresses.{address_words}
use Rattle.hx_config.specs.Conditions.{Tls}
use Rattle.hx_config.specs.Said.{Words}
use Rattle.hx_lint.specs.Spelling.{line_text}
use Rattle.hx_config.specs.Titles.{is_title, word_at}
use Rattle.hx_config.specs.declared.fate.TheConstants.{LISTENS, NAMES, SET_ANEW, WORDS_OF_HXEVAL}

-- what stands below for a fate
abbrev later_of : Fate → List (List ℕ)
later_of (Below words reason) = line_text words ∷ []
later_of _ = []

abbrev part_of : Line → Fate → Part
part_of line fate = record { here = text_at line fate; later = later_of fate }

-- ---- a line

title_stands : (chosen : Selection) (below : List Line) (line : Line) (b : Bool) → is_title line.words ≡ true
    → (bytes_eq (word_at 0 line.words) (codes "listen") && not chosen.has_default) ≡ b
    → StandsFor chosen below line (part_of line (cond b (Otherwise (codes "default_backend" ∷ word_at 1 line.words ∷ []) LISTENS.now) (LeftOut NAMES.now)))
title_stands chosen below line true title is = OwnBackend title is
title_stands chosen below line false title is = Title title

same_stands : (chosen : Selection) (below : List Line) (line : Line) (b : Bool) → holds chosen.sections line ≡ true
    → is_title line.words ≡ false → same_words (words_of_hxeval (known_at chosen line) line.words) line.words ≡ b
    → StandsFor chosen below line (part_of line (cond b Own (Otherwise (words_of_hxeval (known_at chosen line) line.words) WORDS_OF_HXEVAL.now)))
same_stands chosen below line true held title is = Itself held title
same_stands chosen below line false held title is = InOtherWords is

left_out_stands : (chosen : Selection) (below : List Line) (line : Line) (reason : Option (List ℕ)) → holds chosen.sections line ≡ true
    → is_title line.words ≡ false → reason_left_out line.words ≡ reason
    → StandsFor chosen below line (part_of line (left_out_or reason (said_fate (words_of_hxeval (known_at chosen line) line.words) line.words)))
left_out_stands chosen below line None held title is = same_stands chosen below line (same_words (words_of_hxeval (known_at chosen line) line.words) line.words) held title refl
left_out_stands chosen below line (Some reason) held title is = RowLeavesOut reason is

address_stands : (chosen : Selection) (below : List Line) (line : Line) (rule : Option Words) → holds chosen.sections line ≡ true
    → is_title line.words ≡ false → address_words line.words ≡ rule
    → StandsFor chosen below line (part_of line (below_or rule (left_out_or (reason_left_out line.words) (said_fate (words_of_hxeval (known_at chosen line) line.words) line.words))))
address_stands chosen below line None held title is = left_out_stands chosen below line (reason_left_out line.words) held title refl
address_stands chosen below line (Some words) held title is = AsLastRule words is

anew_stands : (chosen : Selection) (below : List Line) (line : Line) (b : Bool) → holds chosen.sections line ≡ true → is_title line.words ≡ false
    → is_set_anew chosen.sections below line.words ≡ b
    → StandsFor chosen below line (part_of line (cond b (LeftOut SET_ANEW.now) (statement_fate (known_at chosen line) line.words)))
anew_stands chosen below line true held title is = SetAnew is
anew_stands chosen below line false held title is = address_stands chosen below line (address_words line.words) held title refl

held_stands : (chosen : Selection) (below : List Line) (line : Line) (b : Bool) → holds chosen.sections line ≡ true → is_title line.words ≡ b
    → StandsFor chosen below line (part_of line (cond b (title_fate chosen line.words)
    (cond (is_set_anew chosen.sections below line.words) (LeftOut SET_ANEW.now) (statement_fate (known_at chosen line) line.words))))
held_stands chosen below line true held title =
    title_stands chosen below line (bytes_eq (word_at 0 line.words) (codes "listen") && not chosen.has_default) title refl
held_stands chosen below line false held title = anew_stands chosen below line (is_set_anew chosen.sections below line.words) held title refl

line_stands : (chosen : Selection) (below : List Line) (line : Line) (b : Bool) → holds chosen.sections line ≡ b
    → StandsFor chosen below line (part_of line (cond b (cond (is_title line.words) (title_fate chosen line.words)
    (cond (is_set_anew chosen.sections below line.words) (LeftOut SET_ANEW.now) (statement_fate (known_at chosen line) line.words))) Elsewhere))
line_stands chosen below line true held = held_stands chosen below line (is_title line.words) held refl
line_stands chosen below line false held = NotHeld held

stands : (chosen : Selection) (below : List Line) (line : Line) → StandsFor chosen below line (part_of line (fate_of chosen below line))
unfolding fate_of
stands chosen below line = line_stands chosen below line (holds chosen.sections line) refl

-- ---- all lines

parts_of : Selection → List Line → List Part
parts_of chosen [] = []
parts_of chosen (line ∷ below) = part_of line (fate_of chosen below line) ∷ parts_of chosen below

stand : (chosen : Selection) (lines : List Line) → StandFor chosen lines (parts_of chosen lines)
unfolding parts_of
stand chosen [] = tt
stand chosen (line ∷ below) = (stands chosen below line, stand chosen below)

here_is : (chosen : Selection) (lines : List Line) → texts_here chosen lines ≡ as_lines (map (λ part. part.here) (parts_of chosen lines))
unfolding parts_of
here_is chosen [] = refl
here_is chosen (line ∷ below) = ap (λ t. (text_at line (fate_of chosen below line) ++ codes "\n") ++ t) (here_is chosen below)

later_is : (fate : Fate) → text_below fate ≡ as_lines (later_of fate)
later_is Elsewhere = refl
later_is Own = refl
later_is (LeftOut reason) = refl
later_is (Otherwise words reason) = refl
later_is (Below words reason) = sym (append-nil (line_text words ++ codes "\n"))

below_is : (chosen : Selection) (lines : List Line) → texts_below chosen lines ≡ as_lines (flat_map (λ part. part.later) (parts_of chosen lines))
unfolding parts_of
below_is chosen [] = refl
below_is chosen (line ∷ below) =
    ap (λ t. t ++ texts_below chosen below) (later_is (fate_of chosen below line))
    ∙ ap (λ t. as_lines (later_of (fate_of chosen below line)) ++ t) (below_is chosen below)
    ∙ sym (flat_map-append (λ text. text ++ codes "\n") (later_of (fate_of chosen below line)) (flat_map (λ part. part.later) (parts_of chosen below)))

pub is_configuration : (chosen : Selection) (lines : List Line) → IsConfiguration chosen lines (configuration_text chosen lines)
is_configuration chosen lines = record {
  parts = parts_of chosen lines;
  stand = stand chosen lines;
  is = ap (λ t. t ++ texts_below chosen lines) (here_is chosen lines)
      ∙ ap (λ t. as_lines (map (λ part. part.here) (parts_of chosen lines)) ++ t) (below_is chosen lines);
}

-- ---- what a question asks for

configuration_written : (name : List ℕ) (tls : Tls) (file : List ℕ) (lines : List Line) (old new notes notes' : Option (List ℕ)) (outcome : Outcome) (found : Option Selection)
    → selection_of name tls lines ≡ found → outcome ≡ configuration_outcome file lines found → status_of outcome ≡ Some 0
    → Appends old new (text_of outcome) → Appends notes notes' (notes_of outcome)
    → WritesConfiguration name tls file lines old new notes notes'
configuration_written name tls file lines old new notes notes' outcome None found is status text noted =
    absurd (let three : 3 ≡ 0 = same_Some 3 0 (sym (ap status_of is) ∙ status) in omega (arith, three))
configuration_written name tls file lines old new notes notes' outcome (Some chosen) found is status text noted = record {
  chosen = chosen;
  of_file = found;
  text = configuration_text chosen lines;
  is = is_configuration chosen lines;
  written = subst (λ (o : Outcome). Appends old new (text_of o)) is text;
  told = subst (λ (o : Outcome). Appends notes notes' (notes_of o)) is noted;
}

nothing_told : (told : List ℕ) → written_status (is_amiss told) ≡ 0 → told ≡ []
nothing_told [] is = refl
nothing_told (b ∷ bytes) is =
    let some : (length (b ∷ bytes) == 0) ≡ false = search rules in
    let one : written_status (is_amiss (b ∷ bytes)) ≡ 1 = rw some refl in absurd (omega (arith, one, is))

pub is_written : (question : Question) (env : Env) (file content : List ℕ) (old new notes notes' : Option (List ℕ)) (outcome : Outcome)
    → outcome ≡ outcome_by question env file content → status_of outcome ≡ Some 0 → Appends old new (text_of outcome) → Appends notes notes' (notes_of outcome)
    → IsWritten question env file content old new notes notes'
is_written WhatTakesTraffic env file content old new notes notes' outcome is status text noted =
    (subst (λ (o : Outcome). Appends old new (text_of o)) is text, subst (λ (o : Outcome). Appends notes notes' (notes_of o)) is noted)
is_written (ConfigurationOf name tls) env file content old new notes notes' outcome is status text noted =
    configuration_written name tls file (lines_of env content) old new notes notes' outcome (selection_of name tls (lines_of env content)) refl is status text noted
is_written WhatToTell env file content old new notes notes' outcome is status text noted =
    let none : lint_text env content ≡ [] = nothing_told (lint_text env content) (same_Some _ 0 (sym (ap status_of is) ∙ status)) in
    record {
      is = none;
      written = subst (λ (t : List ℕ). Appends old new t) none (subst (λ (o : Outcome). Appends old new (text_of o)) is text);
      noted = subst (λ (o : Outcome). Appends notes notes' (notes_of o)) is noted;
    }

-- ---- what is told at status 1

something_told : (told : List ℕ) → written_status (is_amiss told) ≡ 1 → told ≢ []
something_told told is none =
    let zero : written_status (is_amiss []) ≡ 1 = subst (λ (t : List ℕ). written_status (is_amiss t) ≡ 1) none is in omega (arith, zero)

no_configuration : (file : List ℕ) (lines : List Line) (outcome : Outcome) (found : Option Selection)
    → outcome ≡ configuration_outcome file lines found → status_of outcome ≡ Some 1 → ⊥
no_configuration file lines outcome None is status =
    let three : 3 ≡ 1 = same_Some 3 1 (sym (ap status_of is) ∙ status) in omega (arith, three)
no_configuration file lines outcome (Some chosen) is status =
    let zero : 0 ≡ 1 = same_Some 0 1 (sym (ap status_of is) ∙ status) in omega (arith, zero)

pub tells_by : (s : Setting) (content : List ℕ) (question : Question) (old new notes notes' : Option (List ℕ)) (outcome : Outcome)
    → HasContent s (Some content) → s.request.question ≡ question → outcome ≡ outcome_by question s.env s.request.file content → status_of outcome ≡ Some 1
    → Appends old new (text_of outcome) → Appends notes notes' (notes_of outcome) → Tells s old new notes notes'
tells_by s content WhatTakesTraffic old new notes notes' outcome has asked is status text noted =
    absurd (let zero : 0 ≡ 1 = same_Some 0 1 (sym (ap status_of is) ∙ status) in omega (arith, zero))
tells_by s content (ConfigurationOf name tls) old new notes notes' outcome has asked is status text noted =
    absurd (no_configuration s.request.file (lines_of s.env content) outcome (selection_of name tls (lines_of s.env content)) is status)
tells_by s content WhatToTell old new notes notes' outcome has asked is status text noted = record {
  content = content;
  of_file = has;
  asked = asked;
  some = something_told (lint_text s.env content) (same_Some _ 1 (sym (ap status_of is) ∙ status));
  written = subst (λ (o : Outcome). Appends old new (text_of o)) is text;
  noted = subst (λ (o : Outcome). Appends notes notes' (notes_of o)) is noted;
}
