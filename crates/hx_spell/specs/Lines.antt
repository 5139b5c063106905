-- What the words of a line say: a statement, or the code of what is wrong with them first from the
-- left (HAProxy configuration manual 2.4, sections 4.1, 4.2, 7.1 and 7.2).
use Rattle.std.specs.Prelude.{ℕ, Bool, true, false, List, [], ◌∷◌, codes, Option, Some, None, Result, Ok, Err, if◌then◌else◌}
use Rattle.std.specs.List.{list_any}
use Rattle.std.specs.Option.{ok_or}
use Rattle.std.specs.Str.{bytes_eq}
use Rattle.hx_words.specs.Calls.{step_of}
use Rattle.hx_ast.specs.declared.Action.{Action}
use Rattle.hx_ast.specs.declared.Decl.{Decl}
use Rattle.hx_ast.specs.declared.Part.{Part}
use Rattle.hx_ast.specs.declared.Rule.{Rule}
use Rattle.hx_ast.specs.declared.Statement.{Statement}
use Rattle.hx_ast.specs.declared.Statement.TheVariants as statement
use Rattle.hx_ast.specs.declared.Term.{Term}
use Rattle.hx_calls.specs.declared.fault.SpellFault.{SpellFault}
use Rattle.hx_spell.specs.Actions.{Taken, action_words, format_word, head_of_step, with_redirect}
use Rattle.hx_base.specs.Results.{◌>>=◌}
use Rattle.hx_calls.specs.Codes.{bad_argument, bad_name, misplaced, unsupported}
use Rattle.hx_spell.specs.Conditions.{cond_of, is_acl_name, is_name}
use Rattle.hx_spell.specs.Declarations.{decl_of}
use Rattle.hx_calls.specs.Known.{Known, Reading, after_statement, with_fallback, with_name, reading}
use Rattle.hx_calls.specs.Tables.{Table, entry_at}

-- ---- statements without a part in the rules

-- a line with a fault, or one that brings nothing
abbrev pub plain_unless : Option SpellFault → Known → Result (Reading Statement) SpellFault
plain_unless None known = Ok (reading statement.Plain known)
plain_unless (Some fault) known = Err fault

-- the one name of a frontend
abbrev pub frontend_fault : List (List ℕ) → Option SpellFault
frontend_fault [] = Some bad_argument
frontend_fault (name ∷ []) = if is_name name then None else Some bad_name
frontend_fault (name ∷ more) = if is_name name then Some bad_argument else Some bad_name

-- `frontend` begins a configuration, or is missing
abbrev pub placed_frontend_fault : Bool → List (List ℕ) → Option SpellFault
placed_frontend_fault begun words = if begun then Some misplaced else frontend_fault words

-- the one mode
abbrev pub mode_fault : List (List ℕ) → Option SpellFault
mode_fault (word ∷ []) = if bytes_eq word (codes "http") then None else Some bad_argument
mode_fault words = Some bad_argument

-- the options that change no rule
unfoldable pub plain_options : List (List ℕ)
plain_options =
    codes "dontlognull" ∷ codes "http-keep-alive" ∷ codes "http-server-close" ∷ codes "httplog"
    ∷ []

abbrev pub option_fault : List (List ℕ) → Option SpellFault
option_fault [] = Some bad_argument
option_fault (name ∷ words) =
    if list_any (bytes_eq name) plain_options then None else Some unsupported

-- ---- ACLs

abbrev pub acl_statement : ℕ → List ℕ → Reading Decl → Reading Statement
acl_statement line name decl =
    reading (statement.Acl line name decl.value) (with_name name decl.known)

-- what follows the name of an ACL
abbrev pub acl_after_name : ℕ → List ℕ → List (List ℕ) → Known
    → Result (Reading Statement) SpellFault
acl_after_name line name [] known = Err bad_argument
acl_after_name line name (text ∷ words) known =
    decl_of line text words known >>= (λ decl. Ok (acl_statement line name decl))

abbrev pub acl_of : ℕ → List (List ℕ) → Known → Result (Reading Statement) SpellFault
acl_of line [] known = Err bad_argument
acl_of line (name ∷ words) known =
    if is_acl_name name then acl_after_name line name words known else Err bad_name

-- ---- rules

-- the words that a condition follows, with whether they turn it round
unfoldable pub polarity_table : Table Bool
polarity_table = (codes "if", false) ∷ (codes "unless", true) ∷ []

-- whether a condition is turned round, and the condition, if there is one
pub record When : Type 0 where
  pub unless : Bool
  pub cond : Option (List (List Term))

abbrev pub when_reading : Bool → Option (List (List Term)) → Known → Reading When
when_reading unless cond known = reading (record { unless = unless; cond = cond }) known

-- the last words of a rule: none, or a condition
abbrev pub when_of : ℕ → List (List ℕ) → Known → Result (Reading When) SpellFault
when_of line [] known = Ok (when_reading false None known)
when_of line (word ∷ words) known = do
  unless ← ok_or (entry_at polarity_table word) bad_argument
  cond ← cond_of line words known
  Ok (when_reading unless (Some cond.value) cond.known)

-- the rule of an action and the words after it
abbrev pub rule_reading : ℕ → Action → List (List ℕ) → Known → Result (Reading Rule) SpellFault
rule_reading line act words known =
    when_of line words known
    >>= (λ when. Ok (reading (record {
      line = line;
      action = act;
      unless = when.value.unless;
      cond = when.value.cond;
    }) when.known))

abbrev pub rule_statement : ℕ → (Rule → Statement) → Reading (Taken Action)
    → Result (Reading Statement) SpellFault
rule_statement line make act =
    rule_reading line act.value.item act.value.words act.known
    >>= (λ rule. Ok (reading (make rule.value) rule.known))

-- the rule of the words after `http-request`
abbrev pub rule_of : ℕ → List (List ℕ) → Known → Result (Reading Statement) SpellFault
rule_of line [] known = Err bad_argument
rule_of line (word ∷ words) known = do
  head ← head_of_step line (step_of None word) known
  act ← action_words line head.value words head.known
  rule_statement line statement.Rule act

-- the rule of the words after `redirect`
abbrev pub redirect_of : ℕ → List (List ℕ) → Known → Result (Reading Statement) SpellFault
redirect_of line words known =
    with_redirect line words known >>= (λ act. rule_statement line statement.Redirect act)

-- ---- backends

abbrev pub backend : ℕ → List Part → When → Statement
backend line format when = statement.Backend line format when.unless when.cond

-- the words after `use_backend`
abbrev pub backend_of : ℕ → List (List ℕ) → Known → Result (Reading Statement) SpellFault
backend_of line words known = do
  format ← format_word line words known
  when ← when_of line format.value.words format.known
  Ok (reading (backend line format.value.item when.value) when.known)

abbrev pub is_empty : {A : Type 0} → List A → Bool
is_empty [] = true
is_empty (x ∷ xs) = false

-- the one name of a backend
abbrev pub fallback_named : ℕ → List (List ℕ) → Known → Result (Reading Statement) SpellFault
fallback_named line [] known = Err bad_argument
fallback_named line (name ∷ words) known =
    if is_name name
    then (if is_empty words
    then Ok (reading (statement.Fallback line name) (with_fallback known))
    else Err bad_argument)
    else Err bad_name

-- the words after `default_backend`, which stands once at most
abbrev pub fallback_of : ℕ → List (List ℕ) → Known → Result (Reading Statement) SpellFault
fallback_of line words known =
    if known.fallback then Err misplaced else fallback_named line words known

-- ---- all statements

pub data Keyword : Type 0 where
  Frontend : Keyword
  Mode : Keyword
  Options : Keyword
  Ignored : Keyword
  Acl : Keyword
  HttpRequest : Keyword
  Redirect : Keyword
  UseBackend : Keyword
  DefaultBackend : Keyword

unfoldable pub keyword_table : Table Keyword
keyword_table =
    (codes "frontend", Frontend)
    ∷ (codes "mode", Mode)
    ∷ (codes "option", Options)
    ∷ (codes "bind", Ignored)
    ∷ (codes "description", Ignored)
    ∷ (codes "log", Ignored)
    ∷ (codes "log-format", Ignored)
    ∷ (codes "maxconn", Ignored)
    ∷ (codes "timeout", Ignored)
    ∷ (codes "acl", Acl)
    ∷ (codes "http-request", HttpRequest)
    ∷ (codes "redirect", Redirect)
    ∷ (codes "use_backend", UseBackend)
    ∷ (codes "default_backend", DefaultBackend)
    ∷ []

-- the statement of a first word and those after it
abbrev pub keyword_statement : ℕ → Option Keyword → List (List ℕ) → Known
    → Result (Reading Statement) SpellFault
keyword_statement line None words known = Err unsupported
keyword_statement line (Some Frontend) words known =
    plain_unless (placed_frontend_fault known.begun words) known
keyword_statement line (Some Mode) words known = plain_unless (mode_fault words) known
keyword_statement line (Some Options) words known = plain_unless (option_fault words) known
keyword_statement line (Some Ignored) words known = plain_unless None known
keyword_statement line (Some Acl) words known = acl_of line words known
keyword_statement line (Some HttpRequest) words known = rule_of line words known
keyword_statement line (Some Redirect) words known = redirect_of line words known
keyword_statement line (Some UseBackend) words known = backend_of line words known
keyword_statement line (Some DefaultBackend) words known = fallback_of line words known

abbrev pub then_begun : Reading Statement → Reading Statement
then_begun r = reading r.value (after_statement r.known)

-- The statement of the words of a line with this number, after the lines before it, or the code of
-- its first fault. A line without words is no statement.
unfoldable pub line_of : ℕ → List (List ℕ) → Known → Result (Reading Statement) SpellFault
line_of line [] known = Ok (reading statement.Plain known)
line_of line (word ∷ words) known =
    keyword_statement line (entry_at keyword_table word) words known
    >>= (λ r. Ok (then_begun r))
