-- Lines are read as they are spelled, and others are refused by a code.
use Rattle.std.proofs.Common.{◌≡◌, ℕ, Bool, true, false, List, [], ◌∷◌, Option, None, Some, Ok, Err}
use Rattle.std.specs.Prelude.{◌↔◌, ◌≢◌, IfErr, IfOk, Result, codes, if◌then◌else◌}
use Rattle.std.specs.List.{list_any}
use Rattle.std.specs.Option.{ok_or}
use Rattle.std.specs.Str.{bytes_eq}
use Rattle.hx_words.specs.Calls.{step_of}
use Rattle.hx_ast.specs.Acls.{IsCond, IsDecl}
use Rattle.hx_ast.specs.declared.Action.{Action}
use Rattle.hx_ast.specs.declared.Decl.{Decl}
use Rattle.hx_ast.specs.declared.Rule.{Rule}
use Rattle.hx_ast.specs.declared.Statement.{Statement}
use Rattle.hx_ast.specs.declared.Statement.TheVariants as statement
use Rattle.hx_ast.specs.declared.Term.{Term}
use Rattle.hx_calls.specs.declared.fault.SpellFault.{SpellFault}
use Rattle.hx_calls.specs.declared.fault.SpellFault.TheVariants as spell
use Rattle.hx_spell.specs.Actions.{Taken, action_words, format_word, head_of_step, with_redirect}
use Rattle.hx_calls.specs.Codes.{HasLineCode, bad_argument, bad_name, unsupported}
use Rattle.hx_spell.specs.Conditions.{cond_of, is_acl_name, is_name}
use Rattle.hx_spell.specs.Declarations.{decl_of}
use Rattle.hx_calls.specs.Known.{Known, Reading, ReadsAs}
use Rattle.hx_spell.specs.Lines.{Keyword, acl_after_name, acl_of, backend_of, fallback_named, frontend_fault, keyword_statement, keyword_table, line_of, mode_fault, option_fault, placed_frontend_fault, plain_options, plain_unless, polarity_table, redirect_of, rule_of, rule_reading, rule_statement, when_of}
use Rattle.hx_spell.specs.Lines.Keyword.{Frontend, Mode, Options, Ignored, Acl, HttpRequest, Redirect, UseBackend, DefaultBackend}
use Rattle.hx_spell.specs.Relation.{SpellLine}
use Rattle.hx_calls.specs.Tables.{entry_at}
use Rattle.hx_spell.proofs.ActionCodeLemmas.{format_word_coded, head_coded, redirect_coded, words_coded}
use Rattle.hx_spell.proofs.ConditionLemmas.{cond_gives, decl_gives}
use Rattle.hx_spell.proofs.LineReadLemmas.{line_reads}
use Rattle.hx_spell.proofs.LineSpellLemmas.{line_spells}
use Rattle.hx_calls.proofs.ResultLemmas.{IsCoded, IsLineCode, found_coded, gives_coded, has_line_code, never_without_memory, tested_coded, then_coded}

-- words are read as the statement that they spell, and as no other
pub line_law : (line : ℕ) (words : List (List ℕ)) (before : Known) (read : Reading Statement)
    → (line_of line words before ≡ Ok read) ↔ SpellLine line before words read
line_law line words before read =
    (line_spells line words before read, line_reads line words before read)

-- ---- what is no statement is refused by a code

-- a fault, if there is one, is a code of a line
abbrev IsCode : Option SpellFault → Type 0
IsCode None = Unit {0}
IsCode (Some (spell.Code n)) = IsLineCode n
IsCode (Some spell.NoMemory) = ⊥

code_if : (b : Bool) (fault other : Option SpellFault) → IsCode fault → IsCode other
    → IsCode (if b then fault else other)
code_if true fault other is also = is
code_if false fault other is also = also

plain_coded : (fault : Option SpellFault) (known : Known) → IsCode fault
    → IsCoded (plain_unless fault known)
plain_coded None known is = tt
plain_coded (Some (spell.Code n)) known is = is
plain_coded (Some spell.NoMemory) known is = absurd is

frontend_code : (words : List (List ℕ)) → IsCode (frontend_fault words)
frontend_code [] = tt
frontend_code (name ∷ []) = code_if (is_name name) None (Some bad_name) tt tt
frontend_code (name ∷ next ∷ more) = code_if (is_name name) (Some bad_argument) (Some bad_name) tt tt

placed_code : (begun : Bool) (words : List (List ℕ)) → IsCode (placed_frontend_fault begun words)
placed_code true words = tt
placed_code false words = frontend_code words

mode_code : (words : List (List ℕ)) → IsCode (mode_fault words)
mode_code [] = tt
mode_code (word ∷ []) = code_if (bytes_eq word (codes "http")) None (Some bad_argument) tt tt
mode_code (word ∷ next ∷ more) = tt

option_code : (words : List (List ℕ)) → IsCode (option_fault words)
option_code [] = tt
option_code (name ∷ words) =
    code_if (list_any (bytes_eq name) plain_options) None (Some unsupported) tt tt

after_name_coded : (line : ℕ) (name : List ℕ) (words : List (List ℕ)) (known : Known)
    → IsCoded (acl_after_name line name words known)
after_name_coded line name [] known = tt
after_name_coded line name (text ∷ words) known =
    then_coded (decl_of line text words known) _
    (gives_coded (λ (read : Reading Decl). IsDecl read.value) (decl_of line text words known)
    (decl_gives line text words known)) (λ decl. tt)

acl_coded : (line : ℕ) (words : List (List ℕ)) (known : Known)
    → IsCoded (acl_of line words known)
acl_coded line [] known = tt
acl_coded line (name ∷ words) known =
    tested_coded (is_acl_name name) _ _ (after_name_coded line name words known) tt

when_coded : (line : ℕ) (words : List (List ℕ)) (known : Known) → IsCoded (when_of line words known)
when_coded line [] known = tt
when_coded line (word ∷ words) known =
    then_coded (ok_or (entry_at polarity_table word) bad_argument) _
    (found_coded (entry_at polarity_table word) 10 tt)
    (λ unless. then_coded (cond_of line words known) _
    (gives_coded (λ (read : Reading (List (List Term))). IsCond read.value)
    (cond_of line words known) (cond_gives line words known)) (λ cond. tt))

rule_coded : (line : ℕ) (make : Rule → Statement) (act : Reading (Taken Action))
    → IsCoded (rule_statement line make act)
rule_coded line make act =
    then_coded (rule_reading line act.value.item act.value.words act.known) _
    (then_coded (when_of line act.value.words act.known) _
    (when_coded line act.value.words act.known) (λ when. tt)) (λ rule. tt)

request_coded : (line : ℕ) (words : List (List ℕ)) (known : Known)
    → IsCoded (rule_of line words known)
request_coded line [] known = tt
request_coded line (word ∷ words) known =
    then_coded (head_of_step line (step_of None word) known) _ (head_coded line word known)
    (λ head. then_coded (action_words line head.value words head.known) _
    (words_coded line head.value words head.known) (λ act. rule_coded line statement.Rule act))

redirect_line_coded : (line : ℕ) (words : List (List ℕ)) (known : Known)
    → IsCoded (redirect_of line words known)
redirect_line_coded line words known =
    then_coded (with_redirect line words known) _ (redirect_coded line words known)
    (λ act. rule_coded line statement.Redirect act)

backend_coded : (line : ℕ) (words : List (List ℕ)) (known : Known)
    → IsCoded (backend_of line words known)
backend_coded line words known =
    then_coded (format_word line words known) _ (format_word_coded line words known)
    (λ format. then_coded (when_of line format.value.words format.known) _
    (when_coded line format.value.words format.known) (λ when. tt))

named_coded : (line : ℕ) (words : List (List ℕ)) (known : Known)
    → IsCoded (fallback_named line words known)
named_coded line [] known = tt
named_coded line (name ∷ []) known = tested_coded (is_name name) _ _ tt tt
named_coded line (name ∷ next ∷ more) known = tested_coded (is_name name) _ _ tt tt

keyword_coded : (line : ℕ) (keyword : Option Keyword) (words : List (List ℕ)) (known : Known)
    → IsCoded (keyword_statement line keyword words known)
keyword_coded line None words known = tt
keyword_coded line (Some Frontend) words known =
    plain_coded (placed_frontend_fault known.begun words) known (placed_code known.begun words)
keyword_coded line (Some Mode) words known = plain_coded (mode_fault words) known (mode_code words)
keyword_coded line (Some Options) words known =
    plain_coded (option_fault words) known (option_code words)
keyword_coded line (Some Ignored) words known = tt
keyword_coded line (Some Acl) words known = acl_coded line words known
keyword_coded line (Some HttpRequest) words known = request_coded line words known
keyword_coded line (Some Redirect) words known = redirect_line_coded line words known
keyword_coded line (Some UseBackend) words known = backend_coded line words known
keyword_coded line (Some DefaultBackend) words known =
    tested_coded known.fallback _ _ tt (named_coded line words known)

-- words are read as a statement, or refused by a code
line_coded : (line : ℕ) (words : List (List ℕ)) (known : Known)
    → IsCoded (line_of line words known)
unfolding line_of
line_coded line [] known = tt
line_coded line (word ∷ words) known =
    then_coded (keyword_statement line (entry_at keyword_table word) words known) _
    (keyword_coded line (entry_at keyword_table word) words known) (λ r. tt)

pub line_never_lacks : (line : ℕ) (words : List (List ℕ)) (known : Known)
    → line_of line words known ≢ Err spell.NoMemory
line_never_lacks line words known =
    never_without_memory (λ (read : Reading Statement). Unit {0}) (line_of line words known)
    (line_coded line words known)

pub line_has_code : (line : ℕ) (words : List (List ℕ)) (known : Known) (fault : SpellFault)
    → line_of line words known ≡ Err fault → HasLineCode fault
line_has_code line words known fault is =
    has_line_code (λ (read : Reading Statement). Unit {0}) (line_of line words known) fault
    (line_coded line words known) is

-- ---- what a call answers where it reads words

pub answer_spelled : (line : ℕ) (words : List (List ℕ)) (before after : Known)
    (answer : Result Statement SpellFault) → ReadsAs answer after (line_of line words before)
    → IfOk answer
    (λ statement. SpellLine line before words (record { value = statement; known = after }))
answer_spelled line words before after (Ok statement) is =
    (line_law line words before (record { value = statement; known = after })).0 is
answer_spelled line words before after (Err fault) is = tt

spells_nothing : (line : ℕ) (words : List (List ℕ)) (before : Known) (fault : SpellFault)
    → line_of line words before ≡ Err fault
    → (read : Reading Statement) → ¬ SpellLine line before words read
spells_nothing line words before fault is read spelling =
    let found : line_of line words before ≡ Ok read =
    (line_law line words before read).1 spelling in
    let never : ⊥ = cc in never

pub answer_nothing : (line : ℕ) (words : List (List ℕ)) (before after : Known)
    (answer : Result Statement SpellFault) → ReadsAs answer after (line_of line words before)
    → IfErr answer (λ fault. fault ≢ spell.NoMemory
    → (read : Reading Statement) → ¬ SpellLine line before words read)
answer_nothing line words before after (Ok statement) is = tt
answer_nothing line words before after (Err fault) is =
    λ coded. spells_nothing line words before fault (is coded)

pub answer_code : (line : ℕ) (words : List (List ℕ)) (before after : Known)
    (answer : Result Statement SpellFault) → ReadsAs answer after (line_of line words before)
    → IfErr answer (λ fault. fault ≢ spell.NoMemory → HasLineCode fault)
answer_code line words before after (Ok statement) is = tt
answer_code line words before after (Err fault) is =
    λ coded. line_has_code line words before fault (is coded)
