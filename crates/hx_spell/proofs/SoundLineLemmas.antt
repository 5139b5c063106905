-- After a line what is known is sound, where it was, and its statement is one of the syntax, which
-- names heads and references that are known.
use Rattle.std.proofs.Common.{◌≡◌, ℕ, Bool, true, false, cond, List, [], ◌∷◌, length, Option, None, Some, Ok, Err, sym, subst}
use Rattle.std.specs.Prelude.{IfOk, IfSome, OnErr, Result, nat_lt}
use Rattle.std.specs.List.{AllByRecursion, list_all}
use Rattle.std.specs.Option.{ok_or}
use Rattle.std.proofs.lemmas.Bool.{ltb-true}
use Rattle.std.proofs.lemmas.List.Elements.{All-from_recursion}
use Rattle.std.proofs.lemmas.List.Sums.{AllPass-from_list_all}
use Rattle.hx_words.specs.Calls.{step_of}
use Rattle.hx_ast.specs.Acls.{IsCond, is_name_byte}
use Rattle.hx_ast.specs.Statements.{IsProxyName, IsRule, IsStatement, is_redirect}
use Rattle.hx_ast.specs.declared.Action.{Action}
use Rattle.hx_ast.specs.declared.Rule.{Rule}
use Rattle.hx_ast.specs.declared.Statement.{Statement}
use Rattle.hx_ast.specs.declared.Statement.TheVariants as statement
use Rattle.hx_ast.specs.declared.AclUse.{AclUse}
use Rattle.hx_ast.specs.declared.Term.{Term}
use Rattle.hx_calls.specs.declared.fault.SpellFault.{SpellFault}
use Rattle.hx_spell.specs.Actions.{Taken, action_words, format_word, head_of_step, with_redirect}
use Rattle.hx_calls.specs.Codes.{bad_argument, bad_name, misplaced}
use Rattle.hx_spell.specs.ConditionRelation.{SpellCond, SpellConj, SpellTerm, SpellUse}
use Rattle.hx_spell.specs.ConditionRelation.SpellUse.{NamedUse, OwnUse}
use Rattle.hx_spell.specs.ConditionRelation.SpellCond.{LastConj, NextConj}
use Rattle.hx_spell.specs.ConditionRelation.SpellConj.{LastTerm, NextTerm}
use Rattle.hx_spell.specs.Conditions.{cond_of, is_acl_name, is_name}
use Rattle.hx_spell.specs.Declarations.{decl_of}
use Rattle.hx_spell.specs.Heads.{CondNames, ConjNames, RuleNames, StatementNames, UseNames}
use Rattle.hx_calls.specs.Known.{Known, ReadsAs, Reading}
use Rattle.hx_spell.specs.Lines.{Keyword, When, acl_after_name, acl_of, backend_of, fallback_named, keyword_statement, keyword_table, line_of, mode_fault, option_fault, placed_frontend_fault, plain_unless, polarity_table, redirect_of, rule_of, rule_reading, rule_statement, when_of, is_empty}
use Rattle.hx_spell.specs.Lines.Keyword.{Acl, DefaultBackend, Frontend, HttpRequest, Ignored, Mode, Options, Redirect, UseBackend}
use Rattle.hx_calls.specs.Sound.{IsSound}
use Rattle.hx_calls.specs.Tables.{entry_at}
use Rattle.hx_spell.proofs.ConditionLemmas.{cond_gives, cond_law}
use Rattle.hx_spell.proofs.ConditionWordLemmas.{name_is}
use Rattle.hx_spell.proofs.HeadLemmas.{conj_later, use_later}
use Rattle.hx_calls.proofs.ResultLemmas.{both, given_value}
use Rattle.hx_spell.proofs.SoundActionLemmas.{IsKnownAction, IsKnownName, IsKnownRedirect, Takes, action_reads, action_stays, format_reads, head_brings, redirect_reads}
use Rattle.hx_spell.proofs.SoundDeclLemmas.{IsKnownDecl, decl_brings, decl_grown}
use Rattle.hx_calls.proofs.SoundExprLemmas.{IsKnownFormat, format_stays}
use Rattle.hx_calls.proofs.SoundLemmas.{Brings, Grown, brings_by, brought, fallback_grown, grown_refl, grown_trans, name_grown, statement_grown, step_brings, tested_brings, then_brings}

-- ---- conditions

abbrev TermAfter : Known → Reading Term → Type 0
TermAfter before read = Grown before read.known × UseNames read.known.heads read.value.acl

use_after : (line : ℕ) (before : Known) (first : List ℕ) (others : List (List ℕ))
    (acl : Reading AclUse) → SpellUse line before first others acl
    → Grown before acl.known × UseNames acl.known.heads acl.value
use_after line before _ _ _ (NamedUse name named is_known) = (grown_refl before, tt)
use_after line before _ _ _ (OwnUse text inside decl unbroken spelled) =
    decl_grown line before text inside decl spelled

term_after : (line : ℕ) (before : Known) (words : List (List ℕ)) (read : Reading Term)
    → SpellTerm line before words read → TermAfter before read
term_after line before words read s =
    subst (λ (r : Reading Term). TermAfter before r) (sym s.is)
    (use_after line before s.first s.others s.acl s.spelled)

abbrev ConjAfter : Known → Reading (List Term) → Type 0
ConjAfter before read =
    Grown before read.known
    × AllByRecursion (λ term. UseNames read.known.heads term.acl) read.value

conj_after : (line : ℕ) (before : Known) (words : List (List ℕ)) (read : Reading (List Term))
    → SpellConj line before words read → ConjAfter before read
conj_after line _ _ _ (LastTerm before words read term) =
    let (grown, names) = term_after line before words read term in (grown, (names, tt))
conj_after line _ _ _ (NextTerm before words rest read others term more) =
    let (grown, names) = term_after line before words read term in
    let (later, all) = conj_after line read.known rest others more in (
      grown_trans before read.known others.known grown later,
      (
        use_later read.known.heads others.known.heads later.heads read.value.acl
            names,
        all,
      ),
    )

abbrev CondAfter : Known → Reading (List (List Term)) → Type 0
CondAfter before read =
    Grown before read.known × AllByRecursion (ConjNames read.known.heads) read.value

conj_names : (before : Known) (read : Reading (List Term)) → ConjAfter before read
    → ConjNames read.known.heads read.value
conj_names before read after =
    All-from_recursion (λ (term : Term). UseNames read.known.heads term.acl) read.value
    after.1

cond_after : (line : ℕ) (before : Known) (words : List (List ℕ))
    (read : Reading (List (List Term))) → SpellCond line before words read
    → CondAfter before read
cond_after line _ _ _ (LastConj before words read conj) =
    let after = conj_after line before words read conj in
    (after.0, (conj_names before read after, tt))
cond_after line _ _ _ (NextConj before words rest between read others conj or more) =
    let after = conj_after line before words read conj in
    let (later, all) = cond_after line read.known rest others more in (
      grown_trans before read.known others.known after.0 later,
      (
        conj_later read.known.heads others.known.heads later.heads read.value
            (conj_names before read after),
        all,
      ),
    )

-- a condition of the syntax, which names heads that are known
abbrev IsKnownCond : Known → List (List Term) → Type 0
IsKnownCond known cond = IsCond cond × CondNames known.heads cond

abbrev ReadsCond : Reading (List (List Term)) → Type 0
ReadsCond read = IsCond read.value

cond_brings : (line : ℕ) (words : List (List ℕ)) (known : Known)
    → Brings IsKnownCond known (cond_of line words known)
cond_brings line words known =
    brings_by IsKnownCond known (cond_of line words known)
    (λ read is.
    let (grown, all) = cond_after line known words read ((cond_law line words known read).0 is) in (
      grown,
      (
        given_value ReadsCond (cond_of line words known) read (cond_gives line words known) is,
        All-from_recursion (ConjNames read.known.heads) read.value all,
      ),
    ))

abbrev IsKnownWhen : Known → When → Type 0
IsKnownWhen known when = IfSome when.cond IsCond × IfSome when.cond (CondNames known.heads)

when_brings : (line : ℕ) (words : List (List ℕ)) (known : Known)
    → Brings IsKnownWhen known (when_of line words known)
when_brings line [] known = (grown_refl known, (tt, tt))
when_brings line (word ∷ words) known =
    step_brings IsKnownWhen known (ok_or (entry_at polarity_table word) bad_argument) _
    (λ unless is. then_brings IsKnownCond IsKnownWhen known (cond_of line words known) _
    (cond_brings line words known) (λ cond grown such. (grown_refl cond.known, such)))

-- ---- rules

-- a rule of the syntax, which names heads and references that are known, with an action of which
-- something more holds
abbrev IsKnownRule : (Action → Type 0) → Known → Rule → Type 0
IsKnownRule P known rule =
    IsRule rule × RuleNames known.heads (length known.references) rule × P rule.action

rule_brings : (P : Action → Type 0) (line : ℕ) (act : Action) (words : List (List ℕ))
    (known : Known) → IsKnownAction known act → P act
    → Brings (IsKnownRule P) known (rule_reading line act words known)
rule_brings P line act words known such more =
    then_brings IsKnownWhen (IsKnownRule P) known (when_of line words known) _
    (when_brings line words known)
    (λ when grown cond. let (allowed, names) = action_stays known when.known grown act such in (
      grown_refl when.known,
      (
        record { action = allowed; cond = cond.0 },
        record { action = names; cond = cond.1 },
        more,
      ),
    ))

-- a statement of the syntax, which names heads and references that are known
abbrev IsKnownStatement : Known → Statement → Type 0
IsKnownStatement known said =
    IsStatement said × StatementNames known.heads (length known.references) said

abbrev MakesStatement : (Action → Type 0) → (Rule → Statement) → Type 0
MakesStatement P make =
    (known : Known) (rule : Rule) → IsKnownRule P known rule → IsKnownStatement known (make rule)

rule_statement_brings : (P : Action → Type 0) (line : ℕ) (make : Rule → Statement)
    (act : Reading (Taken Action)) → MakesStatement P make → IsKnownAction act.known act.value.item
    → P act.value.item → Brings IsKnownStatement act.known (rule_statement line make act)
rule_statement_brings P line make act makes such more =
    then_brings (IsKnownRule P) IsKnownStatement act.known
    (rule_reading line act.value.item act.value.words act.known) _
    (rule_brings P line act.value.item act.value.words act.known such more)
    (λ rule grown is. (grown_refl rule.known, makes rule.known rule.value is))

abbrev Anything : Action → Type 0
Anything act = Unit {0}

rule_of_brings : (line : ℕ) (words : List (List ℕ)) (known : Known)
    → Brings IsKnownStatement known (rule_of line words known)
rule_of_brings line [] known = tt
rule_of_brings line (word ∷ words) known =
    then_brings IsKnownName IsKnownStatement known (head_of_step line (step_of None word) known) _
    (head_brings line (step_of None word) known)
    (λ head grown name. then_brings (Takes IsKnownAction) IsKnownStatement head.known
    (action_words line head.value words head.known) _
    (action_reads line head.value words head.known name)
    (λ act more such. rule_statement_brings Anything line statement.Rule act
    (λ k rule is. (is.0, is.1)) such tt))

redirect_brings : (line : ℕ) (words : List (List ℕ)) (known : Known)
    → Brings IsKnownStatement known (redirect_of line words known)
redirect_brings line words known =
    then_brings (Takes IsKnownRedirect) IsKnownStatement known (with_redirect line words known) _
    (redirect_reads line words known)
    (λ act grown such. rule_statement_brings (λ a. is_redirect a ≡ true) line statement.Redirect act
    (λ k rule is. ((is.0, is.2), is.1)) such.0 such.1)

-- ---- other statements

backend_brings : (line : ℕ) (words : List (List ℕ)) (known : Known)
    → Brings IsKnownStatement known (backend_of line words known)
backend_brings line words known =
    then_brings (Takes IsKnownFormat) IsKnownStatement known (format_word line words known) _
    (format_reads line words known)
    (λ format grown such. then_brings IsKnownWhen IsKnownStatement format.known
    (when_of line format.value.words format.known) _
    (when_brings line format.value.words format.known)
    (λ when more cond.
    let (allowed, names) = format_stays format.known when.known more format.value.item such in
    (grown_refl when.known, ((allowed, cond.0), (names, cond.1)))))

proxy_name : (name : List ℕ) → is_name name ≡ true → IsProxyName name
proxy_name name is =
    let (some, all) = both (nat_lt 0 (length name)) (list_all is_name_byte name) is in
    record {
      some = ltb-true 0 (length name) some;
      bytes = AllPass-from_list_all is_name_byte name all;
    }

named_brings : (line : ℕ) (words : List (List ℕ)) (known : Known)
    → Brings IsKnownStatement known (fallback_named line words known)
named_brings line [] known = tt
named_brings line (name ∷ words) known =
    tested_brings IsKnownStatement known (is_name name) _ bad_name
    (λ named. tested_brings IsKnownStatement known (is_empty words) _ bad_argument
    (λ alone. (fallback_grown known, (proxy_name name named, tt))))

fallback_brings : (b : Bool) (line : ℕ) (words : List (List ℕ)) (known : Known)
    → Brings IsKnownStatement known (cond b (Err misplaced) (fallback_named line words known))
fallback_brings true line words known = tt
fallback_brings false line words known = named_brings line words known

after_name_brings : (line : ℕ) (name : List ℕ) (words : List (List ℕ)) (known : Known)
    → is_acl_name name ≡ true → Brings IsKnownStatement known (acl_after_name line name words known)
after_name_brings line name [] known named = tt
after_name_brings line name (text ∷ words) known named =
    then_brings IsKnownDecl IsKnownStatement known (decl_of line text words known) _
    (decl_brings line text words known)
    (λ decl grown such. (name_grown name decl.known, ((name_is name named, such.0), such.1)))

acl_brings : (line : ℕ) (words : List (List ℕ)) (known : Known)
    → Brings IsKnownStatement known (acl_of line words known)
acl_brings line [] known = tt
acl_brings line (name ∷ words) known =
    tested_brings IsKnownStatement known (is_acl_name name) _ bad_name
    (λ named. after_name_brings line name words known named)

plain_brings : (fault : Option SpellFault) (known : Known)
    → Brings IsKnownStatement known (plain_unless fault known)
plain_brings None known = (grown_refl known, (tt, tt))
plain_brings (Some fault) known = tt

-- ---- lines

keyword_brings : (line : ℕ) (keyword : Option Keyword) (words : List (List ℕ)) (known : Known)
    → Brings IsKnownStatement known (keyword_statement line keyword words known)
keyword_brings line None words known = tt
keyword_brings line (Some Frontend) words known =
    plain_brings (placed_frontend_fault known.begun words) known
keyword_brings line (Some Mode) words known = plain_brings (mode_fault words) known
keyword_brings line (Some Options) words known = plain_brings (option_fault words) known
keyword_brings line (Some Ignored) words known = plain_brings None known
keyword_brings line (Some Acl) words known = acl_brings line words known
keyword_brings line (Some HttpRequest) words known = rule_of_brings line words known
keyword_brings line (Some Redirect) words known = redirect_brings line words known
keyword_brings line (Some UseBackend) words known = backend_brings line words known
keyword_brings line (Some DefaultBackend) words known =
    fallback_brings known.fallback line words known

-- after a line what is known is sound, where it was, and its statement names what is known
line_brings : (line : ℕ) (words : List (List ℕ)) (known : Known)
    → Brings IsKnownStatement known (line_of line words known)
unfolding line_of
line_brings line [] known = (grown_refl known, (tt, tt))
line_brings line (word ∷ words) known =
    then_brings IsKnownStatement IsKnownStatement known
    (keyword_statement line (entry_at keyword_table word) words known) _
    (keyword_brings line (entry_at keyword_table word) words known)
    (λ read grown such. (statement_grown read.known, such))

-- ---- what a call answers where it reads words

-- what a call answers, and what is known after it
abbrev AnswerAfter : Known → Known → Statement → Type 0
AnswerAfter before after said = Grown before after × IsKnownStatement after said

answer_after : (line : ℕ) (words : List (List ℕ)) (before after : Known) (said : Statement)
    → ReadsAs (Ok said) after (line_of line words before) → AnswerAfter before after said
answer_after line words before after said is =
    brought IsKnownStatement before (line_of line words before)
    (record { value = said; known = after }) (line_brings line words before) is

pub answer_allowed : (line : ℕ) (words : List (List ℕ)) (before after : Known)
    (answer : Result Statement SpellFault) → ReadsAs answer after (line_of line words before)
    → IfOk answer IsStatement
answer_allowed line words before after (Ok said) is =
    (answer_after line words before after said is).1.0
answer_allowed line words before after (Err fault) is = tt

pub answer_heads : (line : ℕ) (words : List (List ℕ)) (before after : Known)
    (answer : Result Statement SpellFault) → ReadsAs answer after (line_of line words before)
    → IfOk answer (StatementNames after.heads (length after.references))
answer_heads line words before after (Ok said) is =
    (answer_after line words before after said is).1.1
answer_heads line words before after (Err fault) is = tt

-- what was known before is kept, so what is known after it has grown
pub answer_grown : (line : ℕ) (words : List (List ℕ)) (before after : Known)
    (answer : Result Statement SpellFault) → ReadsAs answer after (line_of line words before)
    → OnErr answer (after ≡ before) → Grown before after
answer_grown line words before after (Ok said) is kept =
    (answer_after line words before after said is).0
answer_grown line words before after (Err fault) is kept =
    subst (λ (known : Known). Grown before known) (sym kept) (grown_refl before)

-- after a line that is read what is known is sound, where it was
pub read_sound : (line : ℕ) (words : List (List ℕ)) (before after : Known) (said : Statement)
    → ReadsAs (Ok said) after (line_of line words before) → IsSound before → IsSound after
read_sound line words before after said is sound =
    (answer_after line words before after said is).0.sound sound
