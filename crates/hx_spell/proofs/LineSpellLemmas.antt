-- Words that are read as a statement spell it.
use Rattle.std.proofs.Common.{◌≡◌, ℕ, Bool, true, false, List, [], ◌∷◌, Option, None, Some, Ok, Err, refl, sym, ◌∙◌, ap, subst, inl, inr}
use Rattle.std.specs.Prelude.{Result, codes, if◌then◌else◌}
use Rattle.std.specs.List.{list_any}
use Rattle.std.specs.Option.{ok_or}
use Rattle.std.specs.Str.{bytes_eq}
use Rattle.std.proofs.lemmas.Bool.{cases_Bool}
use Rattle.hx_words.specs.Calls.{step_of}
use Rattle.hx_ast.specs.declared.Action.{Action}
use Rattle.hx_ast.specs.declared.Rule.{Rule}
use Rattle.hx_ast.specs.declared.Statement.{Statement}
use Rattle.hx_ast.specs.declared.Statement.TheVariants as statement
use Rattle.hx_calls.specs.declared.fault.SpellFault.{SpellFault}
use Rattle.hx_spell.specs.ActionRelation.{SpellAction, SpellRedirect}
use Rattle.hx_spell.specs.Actions.{Taken, action_words, head_of_step, taken, with_redirect}
use Rattle.hx_base.specs.Results.{◌>>=◌}
use Rattle.hx_calls.specs.Codes.{bad_argument, bad_name, misplaced, unsupported}
use Rattle.hx_spell.specs.ConditionRelation.{SpellWhen}
use Rattle.hx_spell.specs.ConditionRelation.SpellWhen.{Always, Conditionally}
use Rattle.hx_spell.specs.Conditions.{cond_of, is_acl_name, is_name}
use Rattle.hx_spell.specs.Declarations.{decl_of}
use Rattle.hx_calls.specs.Known.{Known, Reading, reading, with_fallback}
use Rattle.hx_spell.specs.Lines.{Keyword, When, acl_after_name, acl_of, acl_statement, backend_of, fallback_named, fallback_of, keyword_statement, keyword_table, line_of, mode_fault, option_fault, placed_frontend_fault, plain_options, plain_unless, polarity_table, redirect_of, rule_of, rule_reading, rule_statement, then_begun, when_of, when_reading}
use Rattle.hx_spell.specs.Lines.Keyword.{Frontend, Mode, Options, Ignored, Acl, HttpRequest, Redirect, UseBackend, DefaultBackend}
use Rattle.hx_spell.specs.Relation.{SpellAcl, SpellBackend, SpellFallback, SpellLine, SpellPlain, SpellRule, SpellStatement}
use Rattle.hx_spell.specs.Relation.SpellPlain.{FrontendLine, ModeLine, OptionLine, BindLine, DescriptionLine, LogLine, LogFormatLine, MaxconnLine, TimeoutLine}
use Rattle.hx_calls.specs.Tables.{entry_at}
use Rattle.hx_spell.proofs.ActionSpellLemmas.{ActionSpelled, action_spells, format_then, redirect_spells}
use Rattle.hx_spell.proofs.ConditionLemmas.{cond_law}
use Rattle.hx_spell.proofs.ConditionWordLemmas.{name_is, same_bytes}
use Rattle.hx_spell.proofs.DeclarationLemmas.{decl_law}
use Rattle.hx_spell.proofs.LineReadLemmas.{SpellHttpRequest, SpellRedirectLine, polarity_text}
use Rattle.hx_spell.proofs.LineSteps.{backend_when, made, rule_when}
use Rattle.hx_calls.proofs.ResultLemmas.{and_then_ok, ok_or_is}
use Rattle.hx_spell.proofs.RowLemmas.{◌&◌, EachRow, found_row}

-- ---- rows of tables

-- what the first word of a statement is
abbrev Begins : List ℕ → Keyword → Type 0
Begins word Frontend = word ≡ codes "frontend"
Begins word Mode = word ≡ codes "mode"
Begins word Options = word ≡ codes "option"
Begins word Ignored = (before : Known) (words : List (List ℕ)) → SpellPlain before (word ∷ words)
Begins word Acl = word ≡ codes "acl"
Begins word HttpRequest = word ≡ codes "http-request"
Begins word Redirect = word ≡ codes "redirect"
Begins word UseBackend = word ≡ codes "use_backend"
Begins word DefaultBackend = word ≡ codes "default_backend"

keywords : EachRow Begins keyword_table
unfolding keyword_table
keywords =
    refl
    & refl
    & refl
    & (λ before words. BindLine words)
    & (λ before words. DescriptionLine words)
    & (λ before words. LogLine words)
    & (λ before words. LogFormatLine words)
    & (λ before words. MaxconnLine words)
    & (λ before words. TimeoutLine words)
    & refl
    & refl
    & refl
    & refl
    & refl
    & tt

polarities : EachRow (λ word unless. word ≡ polarity_text unless) polarity_table
unfolding polarity_table
polarities = refl & refl & tt

-- ---- statements without a part in the rules

plain_is : (fault : Option SpellFault) (known : Known) (read : Reading Statement)
    → plain_unless fault known ≡ Ok read
    → (fault ≡ None) × (read ≡ record { value = statement.Plain; known = known })
plain_is None known read is =
    let same : record { value = statement.Plain; known = known } ≡ read = cc in (refl, sym same)
plain_is (Some fault) known read is = absurd (let bad : ⊥ = cc in bad)

one_or : (b : Bool) (fault : SpellFault) → (if b then None else Some fault) ≡ None → b ≡ true
one_or true fault is = refl
one_or false fault is = absurd (let bad : Some fault ≡ None = is in cc)

never_some : (b : Bool) (fault other : SpellFault)
    → (if b then Some fault else Some other) ≡ None → ⊥
never_some true fault other is = let bad : Some fault ≡ None = is in cc
never_some false fault other is = let bad : Some other ≡ None = is in cc

frontend_spells : (known : Known) (words : List (List ℕ)) (begun : Bool) → known.begun ≡ begun
    → placed_frontend_fault begun words ≡ None → SpellPlain known (codes "frontend" ∷ words)
frontend_spells known words true is none = absurd (let bad : Some misplaced ≡ None = none in cc)
frontend_spells known [] false is none = absurd (let bad : Some bad_argument ≡ None = none in cc)
frontend_spells known (name ∷ []) false is none =
    FrontendLine name is (one_or (is_name name) bad_name none)
frontend_spells known (name ∷ next ∷ more) false is none =
    absurd (never_some (is_name name) bad_argument bad_name none)

mode_spells : (known : Known) (words : List (List ℕ)) → mode_fault words ≡ None
    → SpellPlain known (codes "mode" ∷ words)
mode_spells known [] none = absurd (let bad : Some bad_argument ≡ None = none in cc)
mode_spells known (word ∷ []) none =
    let same : word ≡ codes "http" =
    same_bytes word (codes "http") (one_or (bytes_eq word (codes "http")) bad_argument none) in
    rw same ModeLine
mode_spells known (word ∷ next ∷ more) none =
    absurd (let bad : Some bad_argument ≡ None = none in cc)

option_spells : (known : Known) (words : List (List ℕ)) → option_fault words ≡ None
    → SpellPlain known (codes "option" ∷ words)
option_spells known [] none = absurd (let bad : Some bad_argument ≡ None = none in cc)
option_spells known (name ∷ words) none =
    OptionLine name words (one_or (list_any (bytes_eq name) plain_options) unsupported none)

-- ---- ACLs

acl_spells : (line : ℕ) (words : List (List ℕ)) (known : Known) (read : Reading Statement)
    → acl_of line words known ≡ Ok read → SpellAcl line known (codes "acl" ∷ words) read
acl_spells line [] known read is = absurd (let bad : Err bad_argument ≡ Ok read = is in cc)
acl_spells line (name ∷ words) known read is =
    elim (cases_Bool (is_acl_name name)) [
      | inl named ↦ after_name line name words known read named (rw named at is)
      | inr other ↦ absurd (let bad : Err bad_name ≡ Ok read = rw other at is in cc)
    ]
  where
    after_name : (line : ℕ) (name : List ℕ) (words : List (List ℕ)) (known : Known)
        (read : Reading Statement) → is_acl_name name ≡ true
        → acl_after_name line name words known ≡ Ok read
        → SpellAcl line known (codes "acl" ∷ name ∷ words) read
    after_name line name [] known read named is =
        absurd (let bad : Err bad_argument ≡ Ok read = is in cc)
    after_name line name (text ∷ words) known read named is =
        let (decl, decl_is, whole) = and_then_ok (decl_of line text words known)
        (λ decl. Ok (acl_statement line name decl)) read is in
        let same : acl_statement line name decl ≡ read = cc in
        record {
          name = name;
          text = text;
          others = words;
          words_are = refl;
          named = name_is name named;
          decl = decl;
          spelled = (decl_law line text words known decl).0 decl_is;
          is = sym same;
        }

-- ---- rules

when_spells : (line : ℕ) (words : List (List ℕ)) (known : Known) (when : Reading When)
    → when_of line words known ≡ Ok when → SpellWhen line known words when
when_spells line [] known when is =
    let same : when_reading false None known ≡ when = cc in
    subst (λ (w : Reading When). SpellWhen line known [] w) same Always
when_spells line (word ∷ words) known when is =
    let (unless, unless_is, after) = and_then_ok (ok_or (entry_at polarity_table word) bad_argument)
    (λ unless. cond_of line words known
    >>= (λ cond. Ok (when_reading unless (Some cond.value) cond.known))) when is in
    let (cond, cond_is, whole) = and_then_ok (cond_of line words known)
    (λ cond. Ok (when_reading unless (Some cond.value) cond.known)) when after in
    let same : when_reading unless (Some cond.value) cond.known ≡ when = cc in
    let first : word ≡ polarity_text unless =
    found_row (λ word unless. word ≡ polarity_text unless) polarity_table word unless polarities
    (ok_or_is (entry_at polarity_table word) bad_argument unless unless_is) in
    subst (λ (w : Reading When). SpellWhen line known (word ∷ words) w) same
    (subst (λ (w : List ℕ). SpellWhen line known (w ∷ words)
    (when_reading unless (Some cond.value) cond.known)) (sym first)
    (Conditionally unless words cond ((cond_law line words known cond).0 cond_is)))

-- a rule that is read of an action and the words after it
record RuleSpelled (line : ℕ) (make : Rule → Statement) (act : Reading (Taken Action))
    (read : Reading Statement) : Type 0 where
  when : Reading When
  with_cond : SpellWhen line act.known act.value.words when
  rule : Reading Rule
  rule_is : rule ≡ rule_when line act.value.item when
  is : read ≡ made make rule

rule_spells : (line : ℕ) (make : Rule → Statement) (act : Reading (Taken Action))
    (read : Reading Statement) → rule_statement line make act ≡ Ok read
    → RuleSpelled line make act read
rule_spells line make act read is =
    let (rule, rule_is, whole) =
    and_then_ok (rule_reading line act.value.item act.value.words act.known)
    (λ rule. Ok (made make rule)) read is in
    let (when, when_is, parts) =
    and_then_ok (when_of line act.value.words act.known)
    (λ when. Ok (rule_when line act.value.item when)) rule rule_is in
    record {
      when = when;
      with_cond = when_spells line act.value.words act.known when when_is;
      rule = rule;
      rule_is = cc;
      is = cc;
    }

-- words of an action, and those of a condition
words_spell : (line : ℕ) (before : Known) (words : List (List ℕ)) (keyword : List ℕ)
    (make : Rule → Statement) (act : Reading (Taken Action)) (read : Reading Statement)
    (IsActionOf : ℕ → Known → List (List ℕ) → Reading Action → Type 0)
    → ActionSpelled (IsActionOf line before) words act
    → RuleSpelled line make act read
    → SpellRule line before (keyword ∷ words) read keyword make IsActionOf
words_spell line before words keyword make act read IsActionOf a r = record {
  action_words = a.own;
  others = act.value.words;
  words_are = ap (λ w. keyword ∷ w) a.words_are;
  action = reading act.value.item act.known;
  spelled = a.such;
  when = r.when;
  with_cond = r.with_cond;
  is = r.is ∙ ap (λ rule. made make rule) r.rule_is;
}

request_spells : (line : ℕ) (words : List (List ℕ)) (known : Known) (read : Reading Statement)
    → rule_of line words known ≡ Ok read
    → SpellHttpRequest line known (codes "http-request" ∷ words) read
request_spells line [] known read is = absurd (let bad : Err bad_argument ≡ Ok read = is in cc)
request_spells line (word ∷ words) known read is =
    let (head, head_is, after) = and_then_ok (head_of_step line (step_of None word) known)
    (λ head. action_words line head.value words head.known
    >>= (λ act. rule_statement line statement.Rule act)) read is in
    let (act, act_is, whole) = and_then_ok (action_words line head.value words head.known)
    (λ act. rule_statement line statement.Rule act) read after in
    let a = action_spells line known word words head act head_is act_is in
    let r = rule_spells line statement.Rule act read whole in
    words_spell line known (word ∷ words) (codes "http-request") statement.Rule act read
    SpellAction a r

redirect_line_spells : (line : ℕ) (words : List (List ℕ)) (known : Known)
    (read : Reading Statement) → redirect_of line words known ≡ Ok read
    → SpellRedirectLine line known (codes "redirect" ∷ words) read
redirect_line_spells line words known read is =
    let (act, act_is, whole) = and_then_ok (with_redirect line words known)
    (λ act. rule_statement line statement.Redirect act) read is in
    let a = redirect_spells line known words act act_is in
    let r = rule_spells line statement.Redirect act read whole in
    words_spell line known words (codes "redirect") statement.Redirect act read
    SpellRedirect a r

-- ---- backends

backend_spells : (line : ℕ) (words : List (List ℕ)) (known : Known) (read : Reading Statement)
    → backend_of line words known ≡ Ok read
    → SpellBackend line known (codes "use_backend" ∷ words) read
backend_spells line words known read is =
    let t = format_then line words known
    (λ format. when_of line format.value.words format.known
    >>= (λ when. Ok (backend_when line format when))) read is in
    let format = taken t.format.value t.rest t.format.known in
    let (when, when_is, whole) = and_then_ok (when_of line t.rest t.format.known)
    (λ when. Ok (backend_when line format when)) read t.after in
    let same : backend_when line format when ≡ read = cc in
    record {
      text = t.text;
      others = t.rest;
      words_are = ap (λ w. codes "use_backend" ∷ w) t.words_are;
      format = t.format;
      written = t.writes;
      when = when;
      with_cond = when_spells line t.rest t.format.known when when_is;
      is = sym same;
    }

abbrev fallback_reading : ℕ → List ℕ → Known → Reading Statement
fallback_reading line name known =
    record { value = statement.Fallback line name; known = with_fallback known }

abbrev reads : Reading Statement → Result (Reading Statement) SpellFault
reads read = Ok read

named_spells : (line : ℕ) (words : List (List ℕ)) (known : Known) (read : Reading Statement)
    → known.fallback ≡ false → fallback_named line words known ≡ Ok read
    → SpellFallback line known (codes "default_backend" ∷ words) read
named_spells line [] known read first is =
    absurd (let bad : Err bad_argument ≡ Ok read = is in cc)
named_spells line (name ∷ []) known read first is =
    elim (cases_Bool (is_name name)) [
      | inl named ↦
          let whole : reads (fallback_reading line name known) ≡ reads read = rw named at is in
          let same : fallback_reading line name known ≡ read = cc in
          record { name = name; words_are = refl; named = named; first = first; is = sym same }
      | inr other ↦ absurd (let bad : Err bad_name ≡ Ok read = rw other at is in cc)
    ]
named_spells line (name ∷ next ∷ more) known read first is =
    elim (cases_Bool (is_name name)) [
      | inl named ↦ absurd (let bad : Err bad_argument ≡ Ok read = rw named at is in cc)
      | inr other ↦ absurd (let bad : Err bad_name ≡ Ok read = rw other at is in cc)
    ]

fallback_spells : (line : ℕ) (words : List (List ℕ)) (known : Known) (read : Reading Statement)
    → fallback_of line words known ≡ Ok read
    → SpellFallback line known (codes "default_backend" ∷ words) read
fallback_spells line words known read is = by_first known.fallback refl is
  where
    by_first : (there : Bool) → known.fallback ≡ there
        → (if there then Err misplaced else fallback_named line words known) ≡ Ok read
        → SpellFallback line known (codes "default_backend" ∷ words) read
    by_first true first is = absurd (let bad : Err misplaced ≡ Ok read = is in cc)
    by_first false first is = named_spells line words known read first is

-- ---- all statements

keyword_spells : (line : ℕ) (word : List ℕ) (keyword : Keyword) (words : List (List ℕ))
    (known : Known) (read : Reading Statement) → Begins word keyword
    → keyword_statement line (Some keyword) words known ≡ Ok read
    → SpellStatement line known (word ∷ words) read
keyword_spells line word Frontend words known read begins is =
    let (none, plain) = plain_is (placed_frontend_fault known.begun words) known read is in
    rw begins (inl (frontend_spells known words known.begun refl none, plain))
keyword_spells line word Mode words known read begins is =
    let (none, plain) = plain_is (mode_fault words) known read is in
    rw begins (inl (mode_spells known words none, plain))
keyword_spells line word Options words known read begins is =
    let (none, plain) = plain_is (option_fault words) known read is in
    rw begins (inl (option_spells known words none, plain))
keyword_spells line word Ignored words known read begins is =
    let (none, plain) = plain_is None known read is in
    inl (begins known words, plain)
keyword_spells line word Acl words known read begins is =
    rw begins (inr (inl (acl_spells line words known read is)))
keyword_spells line word HttpRequest words known read begins is =
    rw begins (inr (inr (inl (request_spells line words known read is))))
keyword_spells line word Redirect words known read begins is =
    rw begins (inr (inr (inr (inl (redirect_line_spells line words known read is)))))
keyword_spells line word UseBackend words known read begins is =
    rw begins (inr (inr (inr (inr (inl (backend_spells line words known read is))))))
keyword_spells line word DefaultBackend words known read begins is =
    rw begins (inr (inr (inr (inr (inr (fallback_spells line words known read is))))))

found_spells : (line : ℕ) (word : List ℕ) (words : List (List ℕ)) (known : Known)
    (read : Reading Statement) (keyword : Option Keyword) → entry_at keyword_table word ≡ keyword
    → keyword_statement line keyword words known ≡ Ok read
    → SpellStatement line known (word ∷ words) read
found_spells line word words known read None found is =
    absurd (let bad : Err unsupported ≡ Ok read = is in cc)
found_spells line word words known read (Some keyword) found is =
    keyword_spells line word keyword words known read
    (found_row Begins keyword_table word keyword keywords found) is

pub line_spells : (line : ℕ) (words : List (List ℕ)) (known : Known) (read : Reading Statement)
    → line_of line words known ≡ Ok read → SpellLine line known words read
unfolding line_of
line_spells line [] known read is =
    let same : record { value = statement.Plain; known = known } ≡ read = cc in sym same
line_spells line (word ∷ words) known read is =
    let (statement, statement_is, whole) =
    and_then_ok (keyword_statement line (entry_at keyword_table word) words known)
    (λ r. Ok (then_begun r)) read is in
    let same : then_begun statement ≡ read = cc in (
      statement,
      found_spells line word words known statement (entry_at keyword_table word) refl
          statement_is,
      sym same,
    )
