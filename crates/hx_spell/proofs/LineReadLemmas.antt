-- Words that spell a statement are read as it.
use Rattle.std.proofs.Common.{◌≡◌, ℕ, Bool, true, false, List, [], ◌∷◌, ◌++◌, None, Some, Ok, refl, sym, ap, inl, inr}
use Rattle.std.specs.Option.{ok_or}
use Rattle.std.specs.Prelude.{codes, if◌then◌else◌}
use Rattle.hx_words.specs.Calls.{step_of}
use Rattle.hx_ast.specs.declared.Action.{Action}
use Rattle.hx_ast.specs.declared.Rule.{Rule}
use Rattle.hx_ast.specs.declared.Statement.{Statement}
use Rattle.hx_ast.specs.declared.Statement.TheVariants as statement
use Rattle.hx_spell.specs.Actions.{action_words, format_word, head_of_step, taken, with_redirect}
use Rattle.hx_base.specs.Results.{◌>>=◌}
use Rattle.hx_calls.specs.Codes.{bad_argument}
use Rattle.hx_spell.specs.ConditionRelation.{SpellWhen}
use Rattle.hx_spell.specs.ConditionRelation.SpellWhen.{Always, Conditionally}
use Rattle.hx_spell.specs.Conditions.{cond_of}
use Rattle.hx_spell.specs.Declarations.{decl_of}
use Rattle.hx_calls.specs.Known.{Known, Reading}
use Rattle.hx_spell.specs.Lines.{When, acl_statement, keyword_statement, keyword_table, line_of, polarity_table, rule_of, rule_reading, rule_statement, then_begun, when_of, when_reading}
use Rattle.hx_spell.specs.ActionRelation.{SpellAction, SpellRedirect}
use Rattle.hx_spell.specs.Relation.{SpellAcl, SpellBackend, SpellFallback, SpellLine, SpellPlain, SpellRule, SpellStatement}
use Rattle.hx_spell.specs.Relation.SpellPlain.{FrontendLine, ModeLine, OptionLine, BindLine, DescriptionLine, LogLine, LogFormatLine, MaxconnLine, TimeoutLine}
use Rattle.hx_calls.specs.Tables.{entry_at}
use Rattle.hx_spell.proofs.ActionReadLemmas.{NoOption, ReadsAction, action_reads, format_word_read, redirect_reads}
use Rattle.hx_spell.proofs.ConditionLemmas.{cond_law}
use Rattle.hx_spell.proofs.ConditionWordLemmas.{name_reads}
use Rattle.hx_spell.proofs.DeclarationLemmas.{decl_law}
use Rattle.hx_spell.proofs.LineSteps.{backend_when, made, rule_when}
use Rattle.hx_calls.proofs.ResultLemmas.{then_ok}

-- what is read of a line with words
abbrev Reads : ℕ → Known → List (List ℕ) → Reading Statement → Type 0
Reads line known [] read = ⊥
Reads line known (word ∷ words) read =
    keyword_statement line (entry_at keyword_table word) words known ≡ Ok read

plain_reads : (line : ℕ) (known : Known) (words : List (List ℕ)) → SpellPlain known words
    → Reads line known words (record { value = statement.Plain; known = known })
unfolding keyword_table
plain_reads line known words (FrontendLine name first named) = rw (first, named) refl
plain_reads line known words ModeLine = refl
plain_reads line known words (OptionLine name others plain) = rw plain refl
plain_reads line known words (BindLine others) = refl
plain_reads line known words (DescriptionLine others) = refl
plain_reads line known words (LogLine others) = refl
plain_reads line known words (LogFormatLine others) = refl
plain_reads line known words (MaxconnLine others) = refl
plain_reads line known words (TimeoutLine others) = refl

-- ---- ACLs

acl_reads : (line : ℕ) (known : Known) (words : List (List ℕ)) (read : Reading Statement)
    → SpellAcl line known words read → Reads line known words read
unfolding keyword_table
acl_reads line known words read s =
    rw (s.words_are, name_reads s.name s.named)
    (then_ok (decl_of line s.text s.others known) (λ decl. Ok (acl_statement line s.name decl))
    s.decl read ((decl_law line s.text s.others known s.decl).1 s.spelled) (ap Ok (sym s.is)))

-- ---- rules

-- the words of a rule of `http-request`, and of a redirect that is a statement of its own
abbrev pub SpellHttpRequest : ℕ → Known → List (List ℕ) → Reading Statement → Type 0
SpellHttpRequest line before words read =
    SpellRule line before words read (codes "http-request") statement.Rule SpellAction

abbrev pub SpellRedirectLine : ℕ → Known → List (List ℕ) → Reading Statement → Type 0
SpellRedirectLine line before words read =
    SpellRule line before words read (codes "redirect") statement.Redirect SpellRedirect

abbrev pub polarity_text : Bool → List ℕ
polarity_text unless = if unless then codes "unless" else codes "if"

polarity_row : (unless : Bool) → entry_at polarity_table (polarity_text unless) ≡ Some unless
unfolding polarity_table
polarity_row true = refl
polarity_row false = refl

when_reads : (line : ℕ) (known : Known) (words : List (List ℕ)) (when : Reading When)
    → SpellWhen line known words when → when_of line words known ≡ Ok when
when_reads line known _ _ Always = refl
when_reads line known _ _ (Conditionally unless words cond spelled) =
    let when = when_reading unless (Some cond.value) cond.known in
    then_ok (ok_or (entry_at polarity_table (polarity_text unless)) bad_argument)
    (λ turned. cond_of line words known
    >>= (λ cond. Ok (when_reading turned (Some cond.value) cond.known))) unless when
    (ap (λ o. ok_or o bad_argument) (polarity_row unless))
    (then_ok (cond_of line words known)
    (λ cond. Ok (when_reading unless (Some cond.value) cond.known)) cond when
    ((cond_law line words known cond).1 spelled) refl)

-- the words of a condition are no options of an action
when_begins : (line : ℕ) (known : Known) (words : List (List ℕ)) (when : Reading When)
    → SpellWhen line known words when → NoOption words
when_begins line known _ _ Always = record { status = tt; code = tt; drops = tt }
when_begins line known _ _ (Conditionally true words cond spelled) =
    record { status = refl; code = refl; drops = refl }
when_begins line known _ _ (Conditionally false words cond spelled) =
    record { status = refl; code = refl; drops = refl }

rule_reads : (line : ℕ) (make : Rule → Statement) (action : Reading Action)
    (others : List (List ℕ)) (when : Reading When) → SpellWhen line action.known others when
    → rule_statement line make (taken action.value others action.known)
    ≡ Ok (made make (rule_when line action.value when))
rule_reads line make action others when spelled =
    let rule = rule_when line action.value when in
    then_ok (rule_reading line action.value others action.known) (λ rule. Ok (made make rule)) rule
    (made make rule)
    (then_ok (when_of line others action.known) (λ when. Ok (rule_when line action.value when)) when
    rule (when_reads line action.known others when spelled) refl) refl

words_read : (line : ℕ) (known : Known) (words others : List (List ℕ)) (action : Reading Action)
    (read : Reading Statement) → ReadsAction line known words action others
    → rule_statement line statement.Rule (taken action.value others action.known) ≡ Ok read
    → rule_of line (words ++ others) known ≡ Ok read
words_read line known [] others action read reads is = absurd reads
words_read line known (word ∷ words) others action read (head, head_is, words_are) is =
    then_ok (head_of_step line (step_of None word) known)
    (λ head. action_words line head.value (words ++ others) head.known
    >>= (λ act. rule_statement line statement.Rule act)) head read head_is
    (then_ok (action_words line head.value (words ++ others) head.known)
    (λ act. rule_statement line statement.Rule act) (taken action.value others action.known) read
    words_are is)

request_reads : (line : ℕ) (known : Known) (words : List (List ℕ)) (read : Reading Statement)
    → SpellHttpRequest line known words read → Reads line known words read
unfolding keyword_table
request_reads line known words read s =
    rw (s.words_are, s.is)
    (words_read line known s.action_words s.others s.action
    (made statement.Rule (rule_when line s.action.value s.when))
    (action_reads line known s.action_words s.action s.spelled s.others
    (when_begins line s.action.known s.others s.when s.with_cond))
    (rule_reads line statement.Rule s.action s.others s.when s.with_cond))

redirect_line_reads : (line : ℕ) (known : Known) (words : List (List ℕ))
    (read : Reading Statement) → SpellRedirectLine line known words read
    → Reads line known words read
unfolding keyword_table
redirect_line_reads line known words read s =
    rw (s.words_are, s.is)
    (then_ok (with_redirect line (s.action_words ++ s.others) known)
    (λ act. rule_statement line statement.Redirect act)
    (taken s.action.value s.others s.action.known)
    (made statement.Redirect (rule_when line s.action.value s.when))
    (redirect_reads line known s.action_words s.action s.spelled s.others
    (when_begins line s.action.known s.others s.when s.with_cond))
    (rule_reads line statement.Redirect s.action s.others s.when s.with_cond))

-- ---- backends

backend_reads : (line : ℕ) (known : Known) (words : List (List ℕ)) (read : Reading Statement)
    → SpellBackend line known words read → Reads line known words read
unfolding keyword_table
backend_reads line known words read s =
    let format = taken s.format.value s.others s.format.known in
    let whole = backend_when line format s.when in
    rw (s.words_are, s.is)
    (then_ok (format_word line (s.text ∷ s.others) known)
    (λ format. when_of line format.value.words format.known
    >>= (λ when. Ok (backend_when line format when))) format whole
    (format_word_read line s.text s.others known s.format s.written)
    (then_ok (when_of line s.others s.format.known) (λ when. Ok (backend_when line format when))
    s.when whole (when_reads line s.format.known s.others s.when s.with_cond) refl))

fallback_reads : (line : ℕ) (known : Known) (words : List (List ℕ)) (read : Reading Statement)
    → SpellFallback line known words read → Reads line known words read
unfolding keyword_table
fallback_reads line known words read s = rw (s.words_are, s.is, s.first, s.named) refl

-- ---- all statements

statement_reads : (line : ℕ) (known : Known) (words : List (List ℕ)) (read : Reading Statement)
    → SpellStatement line known words read → Reads line known words read
statement_reads line known words read (inl (plain, is)) = rw is (plain_reads line known words plain)
statement_reads line known words read (inr (inl acl)) = acl_reads line known words read acl
statement_reads line known words read (inr (inr (inl request))) =
    request_reads line known words read request
statement_reads line known words read (inr (inr (inr (inl redirect)))) =
    redirect_line_reads line known words read redirect
statement_reads line known words read (inr (inr (inr (inr (inl names))))) =
    backend_reads line known words read names
statement_reads line known words read (inr (inr (inr (inr (inr fallback))))) =
    fallback_reads line known words read fallback

pub line_reads : (line : ℕ) (words : List (List ℕ)) (known : Known) (read : Reading Statement)
    → SpellLine line known words read → line_of line words known ≡ Ok read
unfolding line_of
line_reads line [] known read is = ap Ok (sym is)
line_reads line (word ∷ words) known read (statement, spelled, is) =
    then_ok (keyword_statement line (entry_at keyword_table word) words known)
    (λ r. Ok (then_begun r)) statement read
    (statement_reads line known (word ∷ words) statement spelled) (ap Ok (sym is))
