-- Words that are read as an action begin with those that spell it.
use Rattle.std.proofs.Common.{◌≡◌, ℕ, Bool, true, false, List, [], ◌∷◌, ◌++◌, Option, None, Some, Ok, Err, refl, sym, ◌∙◌, ap, subst, append_assoc, inl, inr}
use Rattle.std.specs.Prelude.{◌||◌, Result, codes, option_map}
use Rattle.std.specs.Option.{ok_or}
use Rattle.std.specs.Str.{bytes_eq}
use Rattle.std.proofs.lemmas.Bool.{cases_Bool}
use Rattle.std.proofs.lemmas.Option.{cond_some}
use Rattle.httparse.specs.Grammar.{is_token}
use Rattle.hx_text.specs.declared.VarName.{VarName}
use Rattle.hx_words.specs.Calls.{step_of}
use Rattle.hx_ast.specs.declared.Action.{Action}
use Rattle.hx_ast.specs.declared.Action.TheVariants as action
use Rattle.hx_ast.specs.declared.Part.{Part}
use Rattle.hx_ast.specs.declared.RedirectKind.{RedirectKind}
use Rattle.hx_spell.specs.declared.action_table.BareAction.TheVariants as bare
use Rattle.hx_spell.specs.declared.action_table.FileAction.TheVariants as file
use Rattle.hx_spell.specs.declared.action_table.VariableAction.TheVariants as variable
use Rattle.hx_calls.specs.declared.fault.SpellFault.{SpellFault}
use Rattle.hx_spell.specs.ActionRelation.{IsCall, IsName, IsStatusWord, SpellAction, SpellNumber, SpellRedirect, TakesFileFormat, TakesFormat, TakesHeaderFormat, TakesReplacement, kind_text}
use Rattle.hx_spell.specs.ActionRelation.SpellAction.{AllowWords, DenyWords, FormatWords, HeaderFormatWords, DelHeaderWords, ReplacementWords, SetVarWords, UnsetVarWords, FileFormatWords, SetMapWords, RedirectWords, StrictModeWords}
use Rattle.hx_spell.specs.Actions.{ActionHead, BareAction, Bare, OfFile, OfVariable, Taken, action_words, bare_words, first_word, head_of_step, is_status_word, kind_table, optional_word, plain_word, redirect_status_of, redirect_taken, status_of, switch_table, taken, with_expr, with_format, with_header_format, with_name_of_header, with_redirect, with_replacement, with_status, with_switch, with_two_formats, word_and_value, format_word}
use Rattle.hx_base.specs.Results.{◌>>=◌}
use Rattle.hx_calls.specs.Codes.{bad_argument, bad_name}
use Rattle.hx_calls.specs.Criteria.{expr_of}
use Rattle.hx_calls.specs.FormatRelation.{WritesFormat}
use Rattle.hx_calls.specs.Formats.{format_of}
use Rattle.hx_calls.specs.Known.{Known, Reading, reading, with_file}
use Rattle.hx_calls.specs.Tables.{entry_at}
use Rattle.hx_calls.specs.Forms.Form.{Variable}
use Rattle.hx_calls.specs.Values.{header_of, variable_name_of}
use Rattle.hx_spell.proofs.ActionHeadLemmas.{HeadSpelled, bare_text, head_spells}
use Rattle.hx_spell.proofs.ActionReadLemmas.{switch_text, word_if}
use Rattle.hx_spell.proofs.ActionSteps.{IsCodeWord, after_format, after_header, after_kind, after_status, drop_query}
use Rattle.hx_spell.proofs.ConditionWordLemmas.{same_bytes}
use Rattle.hx_calls.proofs.ExpressionLemmas.{expr_law}
use Rattle.hx_calls.proofs.CallMeaningLemmas.{file_position}
use Rattle.hx_calls.proofs.FormLemmas.{header_such, value_writes}
use Rattle.hx_calls.proofs.FormatSpellLemmas.{format_writes}
use Rattle.hx_calls.proofs.ResultLemmas.{and_then_ok, ok_or_is, some_map}
use Rattle.hx_spell.proofs.RowLemmas.{◌&◌, EachRow, found_row}

-- Words begin with those of an action, which are such.
pub record ActionSpelled (IsActionOf : List (List ℕ) → Reading Action → Type 0)
    (words : List (List ℕ)) (act : Reading (Taken Action)) : Type 0 where
  pub own : List (List ℕ)
  pub words_are : words ≡ own ++ act.value.words
  pub such : IsActionOf own (reading act.value.item act.known)

spelled_as : (IsActionOf : List (List ℕ) → Reading Action → Type 0) (own rest words : List (List ℕ))
    (item : Action) (known : Known) (act : Reading (Taken Action)) → taken item rest known ≡ act
    → words ≡ own ++ rest → IsActionOf own (reading item known) → ActionSpelled IsActionOf words act
spelled_as IsActionOf own rest words item known act same words_are is =
    subst (λ (a : Reading (Taken Action)). ActionSpelled IsActionOf words a) same
    (record { own = own; words_are = words_are; such = is })

-- ---- the first words, and what is read after them

record FirstThen (A B : Type 0) (read : List ℕ → Known → Result (Reading A) SpellFault)
    (words : List (List ℕ)) (before : Known) (f : Reading (Taken A) → Result B SpellFault) (y : B)
    : Type 0 where
  word : List ℕ
  rest : List (List ℕ)
  found : Reading A
  words_are : words ≡ word ∷ rest
  reads : read word before ≡ Ok found
  after : f (taken found.value rest found.known) ≡ Ok y

first_then : {A B : Type 0} (read : List ℕ → Known → Result (Reading A) SpellFault)
    (words : List (List ℕ)) (before : Known) (f : Reading (Taken A) → Result B SpellFault) (y : B)
    → (first_word read words before >>= f) ≡ Ok y → FirstThen A B read words before f y
first_then {A} {B} read [] before f y is =
    absurd (let bad : Err bad_argument ≡ Ok y = is in let no : ⊥ = cc in no)
first_then {A} {B} read (word ∷ words) before f y is =
    let (all, first, after) = and_then_ok (first_word read (word ∷ words) before) f y is in
    let (found, reads, whole) =
    and_then_ok (read word before) (λ found. Ok (taken found.value words found.known)) all first in
    let same : taken found.value words found.known ≡ all = cc in
    record {
      word = word;
      rest = words;
      found = found;
      words_are = refl;
      reads = reads;
      after = subst (λ (t : Reading (Taken A)). f t ≡ Ok y) (sym same) after;
    }

record PlainThen (A B : Type 0) (read : List ℕ → Option A) (words : List (List ℕ))
    (before : Known) (f : Reading (Taken A) → Result B SpellFault) (y : B) : Type 0 where
  word : List ℕ
  rest : List (List ℕ)
  value : A
  words_are : words ≡ word ∷ rest
  reads : read word ≡ Some value
  after : f (taken value rest before) ≡ Ok y

plain_then : {A B : Type 0} (read : List ℕ → Option A) (fault : SpellFault)
    (words : List (List ℕ)) (before : Known) (f : Reading (Taken A) → Result B SpellFault) (y : B)
    → (plain_word read fault words before >>= f) ≡ Ok y → PlainThen A B read words before f y
plain_then {A} {B} read fault words before f y is =
    let t = first_then (λ word known. ok_or (read word) fault
    >>= (λ x. Ok (record { value = x; known = known }))) words before f y is in
    let (value, found, whole) =
    and_then_ok (ok_or (read t.word) fault) (λ x. Ok (record { value = x; known = before })) t.found
    t.reads in
    let same : record { value = value; known = before } ≡ t.found = cc in
    record {
      word = t.word;
      rest = t.rest;
      value = value;
      words_are = t.words_are;
      reads = ok_or_is (read t.word) fault value found;
      after = subst (λ (r : Reading A). f (taken r.value t.rest r.known) ≡ Ok y) (sym same) t.after;
    }

pub record FormatThen (B : Type 0) (line : ℕ) (words : List (List ℕ)) (before : Known)
    (f : Reading (Taken (List Part)) → Result B SpellFault) (y : B) : Type 0 where
  pub text : List ℕ
  pub rest : List (List ℕ)
  pub format : Reading (List Part)
  pub words_are : words ≡ text ∷ rest
  pub writes : WritesFormat line before text format
  pub after : f (taken format.value rest format.known) ≡ Ok y

pub format_then : {B : Type 0} (line : ℕ) (words : List (List ℕ)) (before : Known)
    (f : Reading (Taken (List Part)) → Result B SpellFault) (y : B)
    → (format_word line words before >>= f) ≡ Ok y → FormatThen B line words before f y
format_then {B} line words before f y is =
    let t = first_then (format_of line) words before f y is in
    record {
      text = t.word;
      rest = t.rest;
      format = t.found;
      words_are = t.words_are;
      writes = format_writes line before t.word t.found t.reads;
      after = t.after;
    }

record NumberThen (B : Type 0) (IsWord : List ℕ → Type 0) (read : List ℕ → Option ℕ)
    (words : List (List ℕ)) (before : Known) (f : Reading (Taken (Option ℕ)) → Result B SpellFault)
    (y : B) : Type 0 where
  number : Option ℕ
  own : List (List ℕ)
  rest : List (List ℕ)
  words_are : words ≡ own ++ rest
  such : SpellNumber IsWord read number own
  after : f (taken number rest before) ≡ Ok y

number_then : {B : Type 0} (IsWord : List ℕ → Type 0) (is : List ℕ → Bool)
    → ((word : List ℕ) → is word ≡ true → IsWord word) → (read : List ℕ → Option ℕ)
    (words : List (List ℕ)) (before : Known) (f : Reading (Taken (Option ℕ)) → Result B SpellFault)
    (y : B) → (word_and_value is read words before >>= f) ≡ Ok y
    → NumberThen B IsWord read words before f y
number_then {B} IsWord is all read [] before f y then' = record {
  number = None;
  own = [];
  rest = [];
  words_are = refl;
  such = refl;
  after = then';
}
number_then {B} IsWord is all read (word ∷ words) before f y then' =
    elim (cases_Bool (is word)) [
      | inl wanted ↦
          let p = plain_then (λ text. option_map Some (read text)) bad_argument words before f y
          (rw wanted at then') in
          let (n, n_is, same) = some_map Some (read p.word) p.value p.reads in
          record {
            number = Some n;
            own = word ∷ p.word ∷ [];
            rest = p.rest;
            words_are = ap (λ w. word ∷ w) p.words_are;
            such = (word, p.word, refl, all word wanted, n_is);
            after = subst (λ (o : Option ℕ). f (taken o p.rest before) ≡ Ok y) (sym same) p.after;
          }
      | inr other ↦ record {
        number = None;
        own = [];
        rest = word ∷ words;
        words_are = refl;
        such = refl;
        after = rw other at then';
      }
    ]

-- ---- words after one another

-- a word that stands for a value, and one or two after it
one_more : (first word value : List ℕ) (words rest : List (List ℕ)) → words ≡ word ∷ rest
    → word ≡ value → first ∷ words ≡ first ∷ value ∷ rest
one_more first word value words rest are same =
    ap (λ w. first ∷ w) are ∙ ap (λ w. first ∷ w ∷ rest) same

two_more : (first word value text : List ℕ) (words rest later : List (List ℕ))
    → words ≡ word ∷ rest → word ≡ value → rest ≡ text ∷ later
    → first ∷ words ≡ first ∷ value ∷ text ∷ later
two_more first word value text words rest later are same more =
    one_more first word value words rest are same ∙ ap (λ w. first ∷ value ∷ w) more

three_more : (first word value other expression text : List ℕ)
    (words rest later last : List (List ℕ)) → words ≡ word ∷ rest → word ≡ value
    → rest ≡ other ∷ later → other ≡ expression → later ≡ text ∷ last
    → first ∷ words ≡ first ∷ value ∷ expression ∷ text ∷ last
three_more first word value other expression text words rest later last are same more also end =
    one_more first word value words rest are same
    ∙ ap (λ w. first ∷ w) (two_more value other expression text rest later last more also end)

-- the words of a redirect with the words after it
redirect_words : (word kind text : List ℕ)
    (words after_word after_text status after_number drops rest : List (List ℕ))
    → words ≡ word ∷ after_word → word ≡ kind → after_word ≡ text ∷ after_text
    → after_text ≡ status ++ after_number → after_number ≡ drops ++ rest
    → words ≡ ((kind ∷ text ∷ status) ++ drops) ++ rest
redirect_words word kind text words after_word after_text status after_number drops rest are same texts numbers last =
    let number : after_text ≡ (status ++ drops) ++ rest =
    numbers ∙ (ap (λ w. status ++ w) last ∙ sym (append_assoc status drops rest)) in
    are ∙ (ap (λ w. w ∷ after_word) same ∙ (ap (λ w. kind ∷ w) texts
    ∙ ap (λ w. kind ∷ text ∷ w) number))

-- ---- actions that take the same words

format_spells : (line : ℕ) (before : Known) (name word : List ℕ) (words : List (List ℕ))
    (make : List Part → Action) (act : Reading (Taken Action)) → TakesFormat name make
    → IsName name word → with_format line make words before ≡ Ok act
    → ActionSpelled (SpellAction line before) (word ∷ words) act
format_spells line before name word words make act takes named is =
    let t = format_then line words before
    (λ format. Ok (taken (make format.value.item) format.value.words format.known)) act is in
    let same : taken (make t.format.value) t.rest t.format.known ≡ act = let last = t.after in cc in
    spelled_as (SpellAction line before) (word ∷ t.text ∷ []) t.rest (word ∷ words)
    (make t.format.value) t.format.known act same (ap (λ w. word ∷ w) t.words_are)
    (FormatWords name word t.text make t.format takes named t.writes)

header_format_spells : (line : ℕ) (before : Known) (name word : List ℕ) (words : List (List ℕ))
    (make : List ℕ → List Part → Action) (act : Reading (Taken Action))
    → TakesHeaderFormat name make → IsName name word
    → with_header_format line make words before ≡ Ok act
    → ActionSpelled (SpellAction line before) (word ∷ words) act
header_format_spells line before name word words make act takes named is =
    let h = plain_then header_of bad_name words before
    (λ header. with_format line (make header.value.item) header.value.words header.known) act is in
    let t = format_then line h.rest before
    (λ format. Ok (taken (make h.value format.value.item) format.value.words format.known)) act
    h.after in
    let same : taken (make h.value t.format.value) t.rest t.format.known ≡ act =
    let last = t.after in cc in
    let (test, header) = cond_some (is_token h.word) h.word h.value h.reads in
    spelled_as (SpellAction line before) (word ∷ h.value ∷ t.text ∷ []) t.rest (word ∷ words)
    (make h.value t.format.value) t.format.known act same
    (two_more word h.word h.value t.text words h.rest t.rest h.words_are header t.words_are)
    (HeaderFormatWords name word h.value t.text make t.format takes named
    (header_such h.word h.value h.reads) t.writes)

header_spells : (line : ℕ) (before : Known) (word : List ℕ) (words : List (List ℕ))
    (act : Reading (Taken Action)) → IsName (codes "del-header") word
    → with_name_of_header words before ≡ Ok act
    → ActionSpelled (SpellAction line before) (word ∷ words) act
header_spells line before word words act named is =
    let h = plain_then header_of bad_name words before
    (λ header. Ok (taken (action.DelHeader header.value.item) header.value.words header.known)) act
    is in
    let same : taken (action.DelHeader h.value) h.rest before ≡ act = let last = h.after in cc in
    let (test, header) = cond_some (is_token h.word) h.word h.value h.reads in
    spelled_as (SpellAction line before) (word ∷ h.value ∷ []) h.rest (word ∷ words)
    (action.DelHeader h.value) before act same
    (one_more word h.word h.value words h.rest h.words_are header)
    (DelHeaderWords word h.value named (header_such h.word h.value h.reads))

replacement_spells : (line : ℕ) (before : Known) (name word : List ℕ) (words : List (List ℕ))
    (make : List ℕ → List ℕ → List Part → Action) (act : Reading (Taken Action))
    → TakesReplacement name make → IsName name word
    → with_replacement line make words before ≡ Ok act
    → ActionSpelled (SpellAction line before) (word ∷ words) act
replacement_spells line before name word words make act takes named is =
    let h = plain_then header_of bad_name words before (after_header line make) act is in
    let e = plain_then Some bad_argument h.rest before
    (λ found. with_format line (make h.value found.value.item) found.value.words found.known) act
    h.after in
    let t = format_then line e.rest before
    (λ format. Ok (taken (make h.value e.value format.value.item) format.value.words format.known))
    act e.after in
    let same : taken (make h.value e.value t.format.value) t.rest t.format.known ≡ act =
    let last = t.after in cc in
    let (test, header) = cond_some (is_token h.word) h.word h.value h.reads in
    let expression : e.word ≡ e.value = let some = e.reads in cc in
    spelled_as (SpellAction line before) (word ∷ h.value ∷ e.value ∷ t.text ∷ []) t.rest
    (word ∷ words) (make h.value e.value t.format.value) t.format.known act same
    (three_more word h.word h.value e.word e.value t.text words h.rest e.rest t.rest h.words_are
    header e.words_are expression t.words_are)
    (ReplacementWords name word h.value e.value t.text make t.format takes named
    (header_such h.word h.value h.reads) t.writes)

file_format_spells : (line : ℕ) (before after : Known) (place : ℕ) (name arg word : List ℕ)
    (two : Bool) (words : List (List ℕ)) (make : ℕ → List Part → Action)
    (act : Reading (Taken Action)) → TakesFileFormat name two make → IsCall name arg word
    → with_file line arg two before ≡ Ok (record { value = place; known = after })
    → with_format line (make place) words after ≡ Ok act
    → ActionSpelled (SpellAction line before) (word ∷ words) act
file_format_spells line before after place name arg word two words make act takes called brings is =
    let t = format_then line words after
    (λ format. Ok (taken (make place format.value.item) format.value.words format.known)) act is in
    let same : taken (make place t.format.value) t.rest t.format.known ≡ act =
    let last = t.after in cc in
    spelled_as (SpellAction line before) (word ∷ t.text ∷ []) t.rest (word ∷ words)
    (make place t.format.value) t.format.known act same (ap (λ w. word ∷ w) t.words_are)
    (FileFormatWords name arg word t.text two make (record { value = place; known = after }) t.format
    takes called
    (file_position line arg two before (record { value = place; known = after }) brings) t.writes)

set_map_spells : (line : ℕ) (before after : Known) (place : ℕ) (arg word : List ℕ)
    (words : List (List ℕ)) (act : Reading (Taken Action)) → IsCall (codes "set-map") arg word
    → with_file line arg true before ≡ Ok (record { value = place; known = after })
    → with_two_formats line (action.SetMap place) words after ≡ Ok act
    → ActionSpelled (SpellAction line before) (word ∷ words) act
set_map_spells line before after place arg word words act called brings is =
    let k = format_then line words after
    (λ key. with_format line (action.SetMap place key.value.item) key.value.words key.known) act
    is in
    let t = format_then line k.rest k.format.known
    (λ format. Ok (taken (action.SetMap place k.format.value format.value.item) format.value.words
    format.known)) act k.after in
    let same : taken (action.SetMap place k.format.value t.format.value) t.rest t.format.known
    ≡ act = let last = t.after in cc in
    spelled_as (SpellAction line before) (word ∷ k.text ∷ t.text ∷ []) t.rest (word ∷ words)
    (action.SetMap place k.format.value t.format.value) t.format.known act same
    (two_more word k.text k.text t.text words k.rest t.rest k.words_are refl t.words_are)
    (SetMapWords arg word k.text t.text (record { value = place; known = after }) k.format t.format
    called (file_position line arg true before (record { value = place; known = after }) brings)
    k.writes t.writes)

set_var_spells : (line : ℕ) (before : Known) (arg word : List ℕ) (name : VarName)
    (words : List (List ℕ)) (act : Reading (Taken Action)) → IsCall (codes "set-var") arg word
    → variable_name_of arg ≡ Some name → with_expr line name words before ≡ Ok act
    → ActionSpelled (SpellAction line before) (word ∷ words) act
set_var_spells line before arg word name words act called named is =
    let t = first_then (expr_of None line) words before
    (λ expr. Ok (taken (action.SetVar name expr.value.item) expr.value.words expr.known)) act is in
    let same : taken (action.SetVar name t.found.value) t.rest t.found.known ≡ act =
    let last = t.after in cc in
    spelled_as (SpellAction line before) (word ∷ t.word ∷ []) t.rest (word ∷ words)
    (action.SetVar name t.found.value) t.found.known act same (ap (λ w. word ∷ w) t.words_are)
    (SetVarWords arg word t.word name t.found called (value_writes Variable arg name named)
    ((expr_law line t.word before t.found).0 t.reads))

status_word : (word : List ℕ) → is_status_word word ≡ true → IsStatusWord word
status_word word is = by_word (bytes_eq word (codes "status")) refl is
  where
    by_word : (same : Bool) → bytes_eq word (codes "status") ≡ same
        → (same || bytes_eq word (codes "deny_status")) ≡ true → IsStatusWord word
    by_word true same is = inl (same_bytes word (codes "status") same)
    by_word false same is = inr (same_bytes word (codes "deny_status") is)

deny_spells : (line : ℕ) (before : Known) (word : List ℕ) (words : List (List ℕ))
    (act : Reading (Taken Action)) → IsName (codes "deny") word → with_status words before ≡ Ok act
    → ActionSpelled (SpellAction line before) (word ∷ words) act
deny_spells line before word words act named is =
    let n = number_then IsStatusWord is_status_word status_word status_of words before
    (λ status. Ok (taken (action.Deny status.value.item) status.value.words status.known)) act is in
    let same : taken (action.Deny n.number) n.rest before ≡ act = let last = n.after in cc in
    spelled_as (SpellAction line before) (word ∷ n.own) n.rest (word ∷ words)
    (action.Deny n.number) before act same (ap (λ w. word ∷ w) n.words_are)
    (DenyWords word n.number n.own named n.such)

abbrev SwitchWord : List ℕ → Bool → Type 0
SwitchWord word on = word ≡ switch_text on

switches : EachRow SwitchWord switch_table
unfolding switch_table
switches = refl & refl & tt

switch_spells : (line : ℕ) (before : Known) (word : List ℕ) (words : List (List ℕ))
    (act : Reading (Taken Action)) → IsName (codes "strict-mode") word
    → with_switch words before ≡ Ok act
    → ActionSpelled (SpellAction line before) (word ∷ words) act
switch_spells line before word words act named is =
    let s = plain_then (entry_at switch_table) bad_argument words before
    (λ on. Ok (taken (action.StrictMode on.value.item) on.value.words on.known)) act is in
    let same : taken (action.StrictMode s.value) s.rest before ≡ act = let last = s.after in cc in
    let text : s.word ≡ switch_text s.value =
    found_row SwitchWord switch_table s.word s.value switches s.reads in
    spelled_as (SpellAction line before) (word ∷ switch_text s.value ∷ []) s.rest (word ∷ words)
    (action.StrictMode s.value) before act same
    (one_more word s.word (switch_text s.value) words s.rest s.words_are text)
    (StrictModeWords word s.value named)

-- ---- redirects

abbrev KindWord : List ℕ → RedirectKind → Type 0
KindWord word kind = word ≡ kind_text kind

kinds : EachRow KindWord kind_table
unfolding kind_table
kinds = refl & refl & refl & tt

code_word : (word : List ℕ) → bytes_eq (codes "code") word ≡ true → IsCodeWord word
code_word word is = sym (same_bytes (codes "code") word is)

record DropsThen (B : Type 0) (words : List (List ℕ)) (before : Known)
    (f : Reading (Taken Bool) → Result B SpellFault) (y : B) : Type 0 where
  drops : Bool
  rest : List (List ℕ)
  words_are : words ≡ word_if drops drop_query ++ rest
  after : f (taken drops rest before) ≡ Ok y

drops_then : {B : Type 0} (words : List (List ℕ)) (before : Known)
    (f : Reading (Taken Bool) → Result B SpellFault) (y : B)
    → (optional_word drop_query words before >>= f) ≡ Ok y → DropsThen B words before f y
drops_then {B} [] before f y then' =
    record { drops = false; rest = []; words_are = refl; after = then' }
drops_then {B} (word ∷ words) before f y then' =
    elim (cases_Bool (bytes_eq word drop_query)) [
      | inl wanted ↦ record {
        drops = true;
        rest = words;
        words_are = ap (λ w. w ∷ words) (same_bytes word drop_query wanted);
        after = rw wanted at then';
      }
      | inr other ↦ record {
        drops = false;
        rest = word ∷ words;
        words_are = refl;
        after = rw other at then';
      }
    ]

redirect_spelled : (line : ℕ) (before : Known) (kind : RedirectKind) (text : List ℕ)
    (format : Reading (List Part)) (status : Option ℕ) (status_words : List (List ℕ)) (drops : Bool)
    → WritesFormat line before text format
    → SpellNumber IsCodeWord redirect_status_of status status_words
    → SpellRedirect line before
    ((kind_text kind ∷ text ∷ status_words) ++ word_if drops drop_query)
    (reading (action.Redirect kind format.value status drops) format.known)
redirect_spelled line before kind text format status status_words drops writes such = record {
  kind = kind;
  text = text;
  format = format;
  written = writes;
  status = status;
  status_words = status_words;
  with_status = such;
  drops = drops;
  words_are = refl;
  is = refl;
}

pub redirect_spells : (line : ℕ) (before : Known) (words : List (List ℕ))
    (act : Reading (Taken Action)) → with_redirect line words before ≡ Ok act
    → ActionSpelled (SpellRedirect line before) words act
redirect_spells line before words act is =
    let k = plain_then (entry_at kind_table) bad_argument words before (after_kind line) act is in
    let t = format_then line k.rest before (after_format k.value) act k.after in
    let n = number_then IsCodeWord (bytes_eq (codes "code")) code_word redirect_status_of t.rest
    t.format.known (after_status k.value t.format.value) act t.after in
    let d = drops_then n.rest t.format.known (redirect_taken k.value t.format.value n.number) act
    n.after in
    let item = action.Redirect k.value t.format.value n.number d.drops in
    let same : taken item d.rest t.format.known ≡ act = let last = d.after in cc in
    let kind : k.word ≡ kind_text k.value =
    found_row KindWord kind_table k.word k.value kinds k.reads in
    let drop = word_if d.drops drop_query in
    let own = (kind_text k.value ∷ t.text ∷ n.own) ++ drop in
    let whole : words ≡ own ++ d.rest =
    redirect_words k.word (kind_text k.value) t.text words k.rest t.rest n.own n.rest drop d.rest
    k.words_are kind t.words_are n.words_are d.words_are in
    spelled_as (SpellRedirect line before) own d.rest words item t.format.known act same whole
    (redirect_spelled line before k.value t.text t.format n.number n.own d.drops t.writes n.such)

redirect_action_spells : (line : ℕ) (before : Known) (word : List ℕ) (words : List (List ℕ))
    (act : Reading (Taken Action)) → IsName (codes "redirect") word
    → with_redirect line words before ≡ Ok act
    → ActionSpelled (SpellAction line before) (word ∷ words) act
redirect_action_spells line before word words act named is =
    let r = redirect_spells line before words act is in
    record {
      own = word ∷ r.own;
      words_are = ap (λ w. word ∷ w) r.words_are;
      such = RedirectWords word r.own (reading act.value.item act.known) named r.such;
    }

-- ---- all actions

bare_spells : (line : ℕ) (before : Known) (word : List ℕ) (words : List (List ℕ))
    (name : BareAction) (act : Reading (Taken Action)) → IsName (bare_text name) word
    → bare_words line name words before ≡ Ok act
    → ActionSpelled (SpellAction line before) (word ∷ words) act
bare_spells line before word words bare.Allow act named is =
    let same : taken action.Allow words before ≡ act = cc in
    spelled_as (SpellAction line before) (word ∷ []) words (word ∷ words) action.Allow before act
    same refl (AllowWords word named)
bare_spells line before word words bare.Deny act named is =
    deny_spells line before word words act named is
bare_spells line before word words bare.SetHeader act named is =
    header_format_spells line before (codes "set-header") word words action.SetHeader act
    TakesHeaderFormat.SetHeader named is
bare_spells line before word words bare.AddHeader act named is =
    header_format_spells line before (codes "add-header") word words action.AddHeader act
    TakesHeaderFormat.AddHeader named is
bare_spells line before word words bare.DelHeader act named is =
    header_spells line before word words act named is
bare_spells line before word words bare.ReplaceHeader act named is =
    replacement_spells line before (codes "replace-header") word words action.ReplaceHeader act
    TakesReplacement.ReplaceHeader named is
bare_spells line before word words bare.ReplaceValue act named is =
    replacement_spells line before (codes "replace-value") word words action.ReplaceValue act
    TakesReplacement.ReplaceValue named is
bare_spells line before word words bare.SetMethod act named is =
    format_spells line before (codes "set-method") word words action.SetMethod act
    TakesFormat.SetMethod named is
bare_spells line before word words bare.SetUri act named is =
    format_spells line before (codes "set-uri") word words action.SetUri act TakesFormat.SetUri named
    is
bare_spells line before word words bare.SetPath act named is =
    format_spells line before (codes "set-path") word words action.SetPath act TakesFormat.SetPath
    named is
bare_spells line before word words bare.SetQuery act named is =
    format_spells line before (codes "set-query") word words action.SetQuery act
    TakesFormat.SetQuery named is
bare_spells line before word words bare.Redirect act named is =
    redirect_action_spells line before word words act named is
bare_spells line before word words bare.StrictMode act named is =
    switch_spells line before word words act named is

head_and_words : (line : ℕ) (before : Known) (word : List ℕ) (words : List (List ℕ))
    (head : ActionHead) (after : Known) (act : Reading (Taken Action))
    → HeadSpelled line before word head after → action_words line head words after ≡ Ok act
    → ActionSpelled (SpellAction line before) (word ∷ words) act
head_and_words line before word words (Bare name) after act (named, same) is =
    bare_spells line before word words name act named
    (subst (λ (k : Known). bare_words line name words k ≡ Ok act) same is)
head_and_words line before word words (OfVariable variable.Set v) after act (arg, called, named, same) is =
    set_var_spells line before arg word v words act called named
    (subst (λ (k : Known). with_expr line v words k ≡ Ok act) same is)
head_and_words line before word words (OfVariable variable.Unset v) after act (arg, called, named, same) is =
    let whole : taken (action.UnsetVar v) words after ≡ act = cc in
    spelled_as (SpellAction line before) (word ∷ []) words (word ∷ words) (action.UnsetVar v) before
    act (ap (λ k. taken (action.UnsetVar v) words k) (sym same) ∙ whole) refl
    (UnsetVarWords arg word v called (value_writes Variable arg v named))
head_and_words line before word words (OfFile file.AddAcl place) after act (arg, called, brings) is =
    file_format_spells line before after place (codes "add-acl") arg word false words action.AddAcl
    act TakesFileFormat.AddAcl called brings is
head_and_words line before word words (OfFile file.DelAcl place) after act (arg, called, brings) is =
    file_format_spells line before after place (codes "del-acl") arg word false words action.DelAcl
    act TakesFileFormat.DelAcl called brings is
head_and_words line before word words (OfFile file.DelMap place) after act (arg, called, brings) is =
    file_format_spells line before after place (codes "del-map") arg word true words action.DelMap
    act TakesFileFormat.DelMap called brings is
head_and_words line before word words (OfFile file.SetMap place) after act (arg, called, brings) is =
    set_map_spells line before after place arg word words act called brings is

pub action_spells : (line : ℕ) (before : Known) (word : List ℕ) (words : List (List ℕ))
    (head : Reading ActionHead) (act : Reading (Taken Action))
    → head_of_step line (step_of None word) before ≡ Ok head
    → action_words line head.value words head.known ≡ Ok act
    → ActionSpelled (SpellAction line before) (word ∷ words) act
action_spells line before word words head act head_is is =
    head_and_words line before word words head.value head.known act
    (head_spells line before word head head_is) is
