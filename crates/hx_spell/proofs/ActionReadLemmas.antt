-- Words that spell an action are read as it, and the words after them are left.
use Rattle.std.proofs.Common.{◌≡◌, ℕ, Bool, true, false, List, [], ◌∷◌, ◌++◌, Option, None, Some, Ok, refl, sym, ◌∙◌, ap, subst, append_assoc, inl, inr}
use Rattle.std.specs.Prelude.{Result, codes, if◌then◌else◌, option_map}
use Rattle.std.specs.Option.{ok_or}
use Rattle.std.specs.Str.{bytes_eq}
use Rattle.httparse.specs.Grammar.{IsToken}
use Rattle.hx_words.specs.Calls.{step_of}
use Rattle.hx_ast.specs.declared.Action.{Action}
use Rattle.hx_ast.specs.declared.Action.TheVariants as action
use Rattle.hx_ast.specs.declared.Part.{Part}
use Rattle.hx_ast.specs.declared.RedirectKind.{RedirectKind}
use Rattle.hx_ast.specs.declared.RedirectKind.TheVariants as kind
use Rattle.hx_spell.specs.declared.action_table.BareAction.TheVariants as bare
use Rattle.hx_spell.specs.declared.action_table.FileAction.TheVariants as file
use Rattle.hx_spell.specs.declared.action_table.VariableAction.TheVariants as variable
use Rattle.hx_calls.specs.declared.fault.SpellFault.{SpellFault}
use Rattle.hx_spell.specs.ActionRelation.{IsCall, IsName, IsStatusWord, SpellAction, SpellNumber, SpellRedirect, TakesFileFormat, TakesFormat, TakesHeaderFormat, TakesReplacement, kind_text}
use Rattle.hx_spell.specs.ActionRelation.SpellAction.{AllowWords, DenyWords, FormatWords, HeaderFormatWords, DelHeaderWords, ReplacementWords, SetVarWords, UnsetVarWords, FileFormatWords, SetMapWords, RedirectWords, StrictModeWords}
use Rattle.hx_spell.specs.Actions.{ActionHead, BareAction, FileAction, Bare, OfFile, OfVariable, action_words, bare_words, changes_map, expr_word, file_words, first_word, format_word, head_of_step, head_reading, header_word, is_status_word, kind_table, kind_word, optional_word, plain_word, redirect_status_of, redirect_taken, status_of, switch_table, taken, text_word, with_format, with_header_format, with_redirect, with_replacement, with_status, with_two_formats, word_and_value}
use Rattle.hx_base.specs.Results.{◌>>=◌}
use Rattle.hx_calls.specs.Codes.{bad_argument, bad_name}
use Rattle.hx_calls.specs.Criteria.{expr_of}
use Rattle.hx_calls.specs.FormatRelation.{WritesFormat}
use Rattle.hx_calls.specs.Formats.{format_of}
use Rattle.hx_calls.specs.Known.{Known, Reading, with_file}
use Rattle.hx_calls.specs.Tables.{entry_at}
use Rattle.hx_calls.specs.Forms.Form.{HeaderName, Variable}
use Rattle.hx_calls.specs.Values.{header_of}
use Rattle.hx_calls.proofs.CallMeaningLemmas.{position_file}
use Rattle.hx_calls.proofs.FormLemmas.{writes_value}
use Rattle.hx_spell.proofs.ActionHeadLemmas.{bare_read, bare_text, file_read, file_text, variable_read}
use Rattle.hx_spell.proofs.ActionSteps.{IsCodeWord, after_format, after_header, after_kind, after_status, drop_query}
use Rattle.hx_calls.proofs.ExpressionLemmas.{expr_law}
use Rattle.hx_calls.proofs.FormatReadLemmas.{format_read}
use Rattle.hx_calls.proofs.ResultLemmas.{then_ok}

-- ---- words that may be there

abbrev pub word_if : Bool → List ℕ → List (List ℕ)
word_if there word = if there then word ∷ [] else []

abbrev pub switch_text : Bool → List ℕ
switch_text on = if on then codes "on" else codes "off"

-- ---- words that may follow an action

abbrev pub BeginUnless : (List ℕ → Bool) → List (List ℕ) → Type 0
BeginUnless is [] = Unit {0}
BeginUnless is (word ∷ words) = is word ≡ false

-- no word is left, or one that is no option of an action
pub record NoOption (words : List (List ℕ)) : Type 0 where
  pub status : BeginUnless is_status_word words
  pub code : BeginUnless (bytes_eq (codes "code")) words
  pub drops : BeginUnless (λ word. bytes_eq word (codes "drop-query")) words

-- ---- the first words

first_read : {A : Type 0} (read : List ℕ → Known → Result (Reading A) SpellFault) (word : List ℕ)
    (words : List (List ℕ)) (before : Known) (found : Reading A) → read word before ≡ Ok found
    → first_word read (word ∷ words) before ≡ Ok (taken found.value words found.known)
first_read read word words before found is =
    then_ok (read word before) (λ found. Ok (taken found.value words found.known)) found
    (taken found.value words found.known) is refl

plain_read : {A : Type 0} (read : List ℕ → Option A) (fault : SpellFault) (word : List ℕ)
    (words : List (List ℕ)) (before : Known) (x : A) → read word ≡ Some x
    → plain_word read fault (word ∷ words) before ≡ Ok (taken x words before)
plain_read {A} read fault word words before x is =
    let found : Reading A = record { value = x; known = before } in
    first_read (λ word known. ok_or (read word) fault
    >>= (λ x. Ok (record { value = x; known = known }))) word words before found
    (ap (λ o. ok_or o fault >>= (λ x. Ok (record { value = x; known = before }))) is)

header_read : (name : List ℕ) (words : List (List ℕ)) (before : Known) → IsToken name
    → header_word (name ∷ words) before ≡ Ok (taken name words before)
header_read name words before token =
    plain_read header_of bad_name name words before name (writes_value HeaderName name name (refl, token))

pub format_word_read : (line : ℕ) (text : List ℕ) (words : List (List ℕ)) (before : Known)
    (format : Reading (List Part)) → WritesFormat line before text format
    → format_word line (text ∷ words) before ≡ Ok (taken format.value words format.known)
format_word_read line text words before format writes =
    first_read (format_of line) text words before format
    (format_read line before text format writes)

with_format_read : (line : ℕ) (make : List Part → Action) (text : List ℕ)
    (words : List (List ℕ)) (before : Known) (format : Reading (List Part))
    → WritesFormat line before text format
    → with_format line make (text ∷ words) before
    ≡ Ok (taken (make format.value) words format.known)
with_format_read line make text words before format writes =
    then_ok (format_word line (text ∷ words) before)
    (λ format. Ok (taken (make format.value.item) format.value.words format.known))
    (taken format.value words format.known) (taken (make format.value) words format.known)
    (format_word_read line text words before format writes) refl

-- ---- the words of actions

header_format_read : (line : ℕ) (make : List ℕ → List Part → Action) (name text : List ℕ)
    (words : List (List ℕ)) (before : Known) (format : Reading (List Part)) → IsToken name
    → WritesFormat line before text format
    → with_header_format line make (name ∷ text ∷ words) before
    ≡ Ok (taken (make name format.value) words format.known)
header_format_read line make name text words before format token writes =
    then_ok (header_word (name ∷ text ∷ words) before)
    (λ name. with_format line (make name.value.item) name.value.words name.known)
    (taken name (text ∷ words) before) (taken (make name format.value) words format.known)
    (header_read name (text ∷ words) before token)
    (with_format_read line (make name) text words before format writes)

replacement_read : (line : ℕ) (make : List ℕ → List ℕ → List Part → Action)
    (name expression text : List ℕ) (words : List (List ℕ)) (before : Known)
    (format : Reading (List Part)) → IsToken name → WritesFormat line before text format
    → with_replacement line make (name ∷ expression ∷ text ∷ words) before
    ≡ Ok (taken (make name expression format.value) words format.known)
replacement_read line make name expression text words before format token writes =
    then_ok (header_word (name ∷ expression ∷ text ∷ words) before) (after_header line make)
    (taken name (expression ∷ text ∷ words) before)
    (taken (make name expression format.value) words format.known)
    (header_read name (expression ∷ text ∷ words) before token)
    (then_ok (text_word (expression ∷ text ∷ words) before)
    (λ found. with_format line (make name found.value.item) found.value.words found.known)
    (taken expression (text ∷ words) before)
    (taken (make name expression format.value) words format.known)
    (plain_read Some bad_argument expression (text ∷ words) before expression refl)
    (with_format_read line (make name expression) text words before format writes))

two_formats_read : (line : ℕ) (make : List Part → List Part → Action) (key_text text : List ℕ)
    (words : List (List ℕ)) (before : Known) (key value : Reading (List Part))
    → WritesFormat line before key_text key → WritesFormat line key.known text value
    → with_two_formats line make (key_text ∷ text ∷ words) before
    ≡ Ok (taken (make key.value value.value) words value.known)
two_formats_read line make key_text text words before key value key_writes writes =
    then_ok (format_word line (key_text ∷ text ∷ words) before)
    (λ key. with_format line (make key.value.item) key.value.words key.known)
    (taken key.value (text ∷ words) key.known)
    (taken (make key.value value.value) words value.known)
    (format_word_read line key_text (text ∷ words) before key key_writes)
    (with_format_read line (make key.value) text words key.known value writes)

number_read : (IsWord : List ℕ → Type 0) (is : List ℕ → Bool)
    → ((word : List ℕ) → IsWord word → is word ≡ true) → (read : List ℕ → Option ℕ)
    (n : Option ℕ) (words others : List (List ℕ)) (before : Known)
    → SpellNumber IsWord read n words → BeginUnless is others
    → word_and_value is read (words ++ others) before ≡ Ok (taken n others before)
number_read IsWord is all read None words [] before none begin = rw none refl
number_read IsWord is all read None words (word ∷ others) before none begin =
    rw (none, begin) refl
number_read IsWord is all read (Some n) words others before (word, text, words_are, wanted, n_is) begin =
    rw (words_are, all word wanted)
    (plain_read (λ text. option_map Some (read text)) bad_argument text others before (Some n)
    (ap (λ o. option_map Some o) n_is))

status_word : (word : List ℕ) → IsStatusWord word → is_status_word word ≡ true
status_word word (inl is) = rw is refl
status_word word (inr is) = rw is refl

status_read : (n : Option ℕ) (words others : List (List ℕ)) (before : Known)
    → SpellNumber IsStatusWord status_of n words → NoOption others
    → with_status (words ++ others) before ≡ Ok (taken (action.Deny n) others before)
status_read n words others before spelled none =
    then_ok (word_and_value is_status_word status_of (words ++ others) before)
    (λ status. Ok (taken (action.Deny status.value.item) status.value.words status.known))
    (taken n others before) (taken (action.Deny n) others before)
    (number_read IsStatusWord is_status_word status_word status_of n words others before spelled
    none.status) refl

-- ---- redirects

kind_row : (kind : RedirectKind) → entry_at kind_table (kind_text kind) ≡ Some kind
unfolding kind_table
kind_row kind.Location = refl
kind_row kind.Prefix = refl
kind_row kind.Scheme = refl

drops_read : (drops : Bool) (others : List (List ℕ)) (before : Known) → NoOption others
    → optional_word drop_query (word_if drops drop_query ++ others) before
    ≡ Ok (taken drops others before)
drops_read true others before none = refl
drops_read false [] before none = refl
drops_read false (word ∷ words) before none = rw none.drops refl

code_begins : (drops : Bool) (others : List (List ℕ)) → NoOption others
    → BeginUnless (bytes_eq (codes "code")) (word_if drops drop_query ++ others)
code_begins true others none = refl
code_begins false others none = none.code

code_is : (word : List ℕ) → IsCodeWord word → bytes_eq (codes "code") word ≡ true
code_is word is = rw is refl

options_read : (line : ℕ) (kind : RedirectKind) (text : List ℕ) (status_words : List (List ℕ))
    (status : Option ℕ) (drops : Bool) (others : List (List ℕ)) (before : Known)
    (format : Reading (List Part)) → WritesFormat line before text format
    → SpellNumber IsCodeWord redirect_status_of status status_words → NoOption others
    → with_redirect line
    (kind_text kind ∷ text ∷ (status_words ++ (word_if drops drop_query ++ others))) before
    ≡ Ok (taken (action.Redirect kind format.value status drops) others format.known)
options_read line kind text status_words status drops others before format writes spelled none =
    let rest = word_if drops drop_query ++ others in
    let words = status_words ++ rest in
    let read = taken (action.Redirect kind format.value status drops) others format.known in
    then_ok (kind_word (kind_text kind ∷ text ∷ words) before) (after_kind line)
    (taken kind (text ∷ words) before) read
    (plain_read (entry_at kind_table) bad_argument (kind_text kind) (text ∷ words) before kind
    (kind_row kind))
    (then_ok (format_word line (text ∷ words) before) (after_format kind)
    (taken format.value words format.known) read
    (format_word_read line text words before format writes)
    (then_ok
    (word_and_value (bytes_eq (codes "code")) redirect_status_of words format.known)
    (after_status kind format.value) (taken status rest format.known) read
    (number_read IsCodeWord (bytes_eq (codes "code")) code_is redirect_status_of status status_words
    rest format.known spelled (code_begins drops others none))
    (then_ok (optional_word drop_query rest format.known)
    (redirect_taken kind format.value status) (taken drops others format.known) read
    (drops_read drops others format.known none) refl)))

pub redirect_reads : (line : ℕ) (before : Known) (words : List (List ℕ)) (read : Reading Action)
    → SpellRedirect line before words read → (others : List (List ℕ)) → NoOption others
    → with_redirect line (words ++ others) before
    ≡ Ok (taken read.value others read.known)
redirect_reads line before words read s others none =
    let whole : words ++ others
    ≡ kind_text s.kind ∷ s.text ∷ (s.status_words ++ (word_if s.drops drop_query ++ others)) =
    ap (λ w. w ++ others) s.words_are
    ∙ ap (λ w. kind_text s.kind ∷ s.text ∷ w)
    (append_assoc s.status_words (word_if s.drops drop_query) others) in
    ap (λ w. with_redirect line w before) whole
    ∙ (options_read line s.kind s.text s.status_words s.status s.drops others before s.format
    s.written s.with_status none
    ∙ ap (λ (r : Reading Action). Ok (taken r.value others r.known)) (sym s.is))

-- ---- actions that take the same words

abbrev FormatAction : List ℕ → (List Part → Action) → Type 0
FormatAction name make =
    (act : BareAction) × (name ≡ bare_text act)
    × ((line : ℕ) (words : List (List ℕ)) (known : Known)
    → bare_words line act words known ≡ with_format line make words known)

format_action : (name : List ℕ) (make : List Part → Action) → TakesFormat name make
    → FormatAction name make
format_action _ _ TakesFormat.SetMethod = (bare.SetMethod, refl, λ line words known. refl)
format_action _ _ TakesFormat.SetUri = (bare.SetUri, refl, λ line words known. refl)
format_action _ _ TakesFormat.SetPath = (bare.SetPath, refl, λ line words known. refl)
format_action _ _ TakesFormat.SetQuery = (bare.SetQuery, refl, λ line words known. refl)

abbrev HeaderFormatAction : List ℕ → (List ℕ → List Part → Action) → Type 0
HeaderFormatAction name make =
    (act : BareAction) × (name ≡ bare_text act)
    × ((line : ℕ) (words : List (List ℕ)) (known : Known)
    → bare_words line act words known ≡ with_header_format line make words known)

header_format_action : (name : List ℕ) (make : List ℕ → List Part → Action)
    → TakesHeaderFormat name make → HeaderFormatAction name make
header_format_action _ _ TakesHeaderFormat.SetHeader =
    (bare.SetHeader, refl, λ line words known. refl)
header_format_action _ _ TakesHeaderFormat.AddHeader =
    (bare.AddHeader, refl, λ line words known. refl)

abbrev ReplacementAction : List ℕ → (List ℕ → List ℕ → List Part → Action) → Type 0
ReplacementAction name make =
    (act : BareAction) × (name ≡ bare_text act)
    × ((line : ℕ) (words : List (List ℕ)) (known : Known)
    → bare_words line act words known ≡ with_replacement line make words known)

replacement_action : (name : List ℕ) (make : List ℕ → List ℕ → List Part → Action)
    → TakesReplacement name make → ReplacementAction name make
replacement_action _ _ TakesReplacement.ReplaceHeader =
    (bare.ReplaceHeader, refl, λ line words known. refl)
replacement_action _ _ TakesReplacement.ReplaceValue =
    (bare.ReplaceValue, refl, λ line words known. refl)

abbrev FileFormatAction : List ℕ → Bool → (ℕ → List Part → Action) → Type 0
FileFormatAction name two make =
    (act : FileAction) × (name ≡ file_text act) × (two ≡ changes_map act)
    × ((line place : ℕ) (words : List (List ℕ)) (known : Known)
    → file_words line act place words known ≡ with_format line (make place) words known)

file_format_action : (name : List ℕ) (two : Bool) (make : ℕ → List Part → Action)
    → TakesFileFormat name two make → FileFormatAction name two make
file_format_action _ _ _ TakesFileFormat.AddAcl =
    (file.AddAcl, refl, refl, λ line place words known. refl)
file_format_action _ _ _ TakesFileFormat.DelAcl =
    (file.DelAcl, refl, refl, λ line place words known. refl)
file_format_action _ _ _ TakesFileFormat.DelMap =
    (file.DelMap, refl, refl, λ line place words known. refl)

-- ---- all actions

switch_row : (on : Bool) → entry_at switch_table (switch_text on) ≡ Some on
unfolding switch_table
switch_row true = refl
switch_row false = refl

-- how words are read as an action with these after them
abbrev pub ReadsAction : ℕ → Known → List (List ℕ) → Reading Action → List (List ℕ) → Type 0
ReadsAction line before [] read others = ⊥
ReadsAction line before (word ∷ words) read others =
    (head : Reading ActionHead) × (head_of_step line (step_of None word) before ≡ Ok head)
    × (action_words line head.value (words ++ others) head.known
    ≡ Ok (taken read.value others read.known))

pub action_reads : (line : ℕ) (before : Known) (words : List (List ℕ)) (read : Reading Action)
    → SpellAction line before words read → (others : List (List ℕ)) → NoOption others
    → ReadsAction line before words read others
action_reads line before _ _ (AllowWords word named) others none =
    (head_reading before (Bare bare.Allow), bare_read line before bare.Allow word named, refl)
action_reads line before _ _ (DenyWords word status words named spelled) others none = (
  head_reading before (Bare bare.Deny),
  bare_read line before bare.Deny word named,
  status_read status words others before spelled none,
)
action_reads line before _ _ (FormatWords name word text make format takes named writes) others none =
    let (act, is, same) = format_action name make takes in (
      head_reading before (Bare act),
      bare_read line before act word (subst (λ (n : List ℕ). IsName n word) is named),
      same line (text ∷ others) before
          ∙ with_format_read line make text others before format writes,
    )
action_reads line before _ _ (HeaderFormatWords name word header text make format takes named token writes) others none =
    let (act, is, same) = header_format_action name make takes in (
      head_reading before (Bare act),
      bare_read line before act word (subst (λ (n : List ℕ). IsName n word) is named),
      same line (header ∷ text ∷ others) before
          ∙ header_format_read line make header text others before format token writes,
    )
action_reads line before _ _ (DelHeaderWords word header named token) others none = (
  head_reading before (Bare bare.DelHeader),
  bare_read line before bare.DelHeader word named,
  then_ok (header_word (header ∷ others) before)
      (λ name. Ok (taken (action.DelHeader name.value.item) name.value.words name.known))
      (taken header others before) (taken (action.DelHeader header) others before)
      (header_read header others before token) refl,
)
action_reads line before _ _ (ReplacementWords name word header expression text make format takes named token writes) others none =
    let (act, is, same) = replacement_action name make takes in (
      head_reading before (Bare act),
      bare_read line before act word (subst (λ (n : List ℕ). IsName n word) is named),
      same line (header ∷ expression ∷ text ∷ others) before
          ∙ replacement_read line make header expression text others before format token writes,
    )
action_reads line before _ _ (SetVarWords arg word text name expr called is writes) others none = (
  head_reading before (OfVariable variable.Set name),
  variable_read line before variable.Set arg word name called (writes_value Variable arg name is),
  then_ok (expr_word line (text ∷ others) before)
      (λ expr. Ok (taken (action.SetVar name expr.value.item) expr.value.words expr.known))
      (taken expr.value others expr.known)
      (taken (action.SetVar name expr.value) others expr.known)
      (first_read (expr_of None line) text others before expr
      ((expr_law line text before expr).1 writes)) refl,
)
action_reads line before _ _ (UnsetVarWords arg word name called is) others none = (
  head_reading before (OfVariable variable.Unset name),
  variable_read line before variable.Unset arg word name called (writes_value Variable arg name is),
  refl,
)
action_reads line before _ _ (FileFormatWords name arg word text two make place format takes called is writes) others none =
    let (act, named, columns, same) = file_format_action name two make takes in (
      head_reading place.known (OfFile act place.value),
      file_read line before act arg word place (subst (λ (n : List ℕ). IsCall n arg word) named called)
          (subst (λ (t : Bool). with_file line arg t before ≡ Ok place) columns
          (position_file line arg two before place is)),
      same line place.value (text ∷ others) place.known
          ∙ with_format_read line (make place.value) text others place.known format writes,
    )
action_reads line before _ _ (SetMapWords arg word key_text text place key value called is key_writes writes) others none = (
  head_reading place.known (OfFile file.SetMap place.value),
  file_read line before file.SetMap arg word place called
      (position_file line arg true before place is),
  two_formats_read line (action.SetMap place.value) key_text text others place.known key value
      key_writes writes,
)
action_reads line before _ _ (RedirectWords word words read named spelled) others none = (
  head_reading before (Bare bare.Redirect),
  bare_read line before bare.Redirect word named,
  redirect_reads line before words read spelled others none,
)
action_reads line before _ _ (StrictModeWords word on named) others none = (
  head_reading before (Bare bare.StrictMode),
  bare_read line before bare.StrictMode word named,
  then_ok (plain_word (entry_at switch_table) bad_argument (switch_text on ∷ others) before)
      (λ found. Ok (taken (action.StrictMode found.value.item) found.value.words found.known))
      (taken on others before) (taken (action.StrictMode on) others before)
      (plain_read (entry_at switch_table) bad_argument (switch_text on) others before on
      (switch_row on)) refl,
)
