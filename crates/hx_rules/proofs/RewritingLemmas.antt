-- Rules none of which rewrites the head leave it as it was.
use Rattle.std.proofs.Common.{◌≡◌, Bool, true, false, ◌||◌, List, [], ◌∷◌, ◌++◌, Result, Ok, Err, refl, ap, sym, ◌∙◌}
use Rattle.std.specs.Prelude.{IfOk, OnErr, if◌then◌else◌}
use Rattle.std.specs.List.{list_any}
use Rattle.std.proofs.lemmas.Bool.{false≢true}
use Rattle.std.proofs.lemmas.List.Folds.{list_any-append}
use Rattle.hx_acl.specs.Holds.{Acls}
use Rattle.hx_ast.specs.declared.action.Action.{Action}
use Rattle.hx_ast.specs.declared.action.Action.TheVariants as action
use Rattle.hx_ast.specs.declared.statement.Rule.{Rule}
use Rattle.hx_fetch.specs.declared.world.Conn.{Conn}
use Rattle.hx_http.specs.Parts.{Parts}
use Rattle.hx_sample.specs.declared.tables.TableFault.{TableFault}
use Rattle.hx_rules.specs.declared.action.BuiltAction.{BuiltAction}
use Rattle.hx_rules.specs.declared.action.BuiltAction.TheVariants as built
use Rattle.hx_rules.specs.declared.action.Rewrite.{Rewrite}
use Rattle.hx_rules.specs.declared.action.Rewrite.TheVariants as rewrite
use Rattle.hx_rules.specs.declared.action.TableChange.{TableChange}
use Rattle.hx_rules.specs.declared.action.TableChange.TheVariants as change
use Rattle.hx_rules.specs.declared.deciding.Decided.{Decided}
use Rattle.hx_rules.specs.declared.verdict.Verdict.{Verdict}
use Rattle.hx_rules.specs.Failures.{is_taken_in, StandsAt}
use Rattle.hx_rules.specs.ProgramView.{action_of_built, action_of_change, action_of_rewrite}
use Rattle.hx_rules.specs.Programs.{Rules}
use Rattle.hx_rules.specs.Rewriting.{is_rewrite, may_rewrite}
use Rattle.hx_rules.specs.RewriteView.{is_kept_rewrite}
use Rattle.hx_rules.specs.State.{in_state, State, TableView}
use Rattle.hx_rules.specs.Verdicts.{action_effect, after_rules, Effect, Ends, evaluation, Goes, rules_effect, Stops, then_rules, verdict_at}

-- ---- what the code keeps as a rewrite is one

rewrite_is : (asked : Rewrite) → is_rewrite (action_of_rewrite asked) ≡ true
rewrite_is (rewrite.SetHeader name format) = refl
rewrite_is (rewrite.AddHeader name format) = refl
rewrite_is (rewrite.DelHeader name) = refl
rewrite_is (rewrite.ReplaceHeader name pattern format) = refl
rewrite_is (rewrite.ReplaceValue name pattern format) = refl
rewrite_is (rewrite.SetMethod format) = refl
rewrite_is (rewrite.SetUri format) = refl
rewrite_is (rewrite.SetPath format) = refl
rewrite_is (rewrite.SetQuery format) = refl

change_is : (asked : TableChange) → is_rewrite (action_of_change asked) ≡ false
change_is (change.AddAcl table key) = refl
change_is (change.DelAcl table key) = refl
change_is (change.DelMap table key) = refl
change_is (change.SetMap table key value) = refl

pub kept_is_rewrite : (does : BuiltAction) → is_kept_rewrite does ≡ is_rewrite (action_of_built does)
kept_is_rewrite built.Allow = refl
kept_is_rewrite (built.Deny status) = refl
kept_is_rewrite (built.Rewrite asked) = sym (rewrite_is asked)
kept_is_rewrite (built.SetVar name expr) = refl
kept_is_rewrite (built.UnsetVar name) = refl
kept_is_rewrite (built.Change asked) = sym (change_is asked)
kept_is_rewrite (built.Redirect asked) = refl
kept_is_rewrite (built.StrictMode on) = refl

-- ---- one rule more

or_false : (b : Bool) → (b || false) ≡ b
or_false true = refl
or_false false = refl

abbrev pub rewrites : Rule → Bool
rewrites rule = is_rewrite rule.action

pub rewrites_more : (rules : List Rule) (rule : Rule) (before here : Bool) → before ≡ list_any rewrites rules → here ≡ is_rewrite rule.action → (before || here) ≡ list_any rewrites (rules ++ rule ∷ [])
rewrites_more rules rule before here all one =
    ap (λ b. b || here) all
    ∙ ap (λ b. list_any rewrites rules || b) (one ∙ sym (or_false (is_rewrite rule.action)))
    ∙ sym (list_any-append rewrites rules (rule ∷ []))

-- ---- what an action leaves

abbrev message_after : {S : Type 0} → Effect S → Parts
message_after (Goes state) = state.message
message_after (Stops state) = state.message
message_after (Ends given state) = state.message

action_keeps : {S : Type 0} (view : TableView S) (conn : Conn) (does : Action) (state : State S) → is_rewrite does ≡ false → message_after (action_effect view conn does state) ≡ state.message
action_keeps view conn action.Allow state none = refl
action_keeps view conn (action.Deny status) state none = refl
action_keeps view conn (action.SetVar name expr) state none = refl
action_keeps view conn (action.UnsetVar name) state none = refl
action_keeps view conn (action.AddAcl table key) state none = refl
action_keeps view conn (action.DelAcl table key) state none = refl
action_keeps view conn (action.DelMap table key) state none = refl
action_keeps view conn (action.SetMap table key value) state none = refl
action_keeps view conn (action.Redirect kind format status drop_query) state none = refl
action_keeps view conn (action.StrictMode on) state none = refl
action_keeps view conn rewrite state none = absurd (false≢true (sym none))

-- ---- what rules leave

neither : (a b : Bool) → (a || b) ≡ false → (a ≡ false) × (b ≡ false)
neither true b none = absurd (false≢true (sym none))
neither false b none = (refl, none)

then_keeps : {S : Type 0} (rest : State S → Effect S) (first : Parts) → ((state : State S) → state.message ≡ first → message_after (rest state) ≡ first) → (effect : Effect S) → message_after effect ≡ first → message_after (then_rules rest effect) ≡ first
then_keeps rest first keeps (Goes state) is = keeps state is
then_keeps rest first keeps (Stops state) is = is
then_keeps rest first keeps (Ends given state) is = is

if_keeps : {S : Type 0} (taken : Bool) (done passed : Effect S) (first : Parts) → message_after done ≡ first → message_after passed ≡ first → message_after (if taken then done else passed) ≡ first
if_keeps true done passed first here there = here
if_keeps false done passed first here there = there

rules_keep : {S : Type 0} (view : TableView S) (conn : Conn) (acls : Acls) (rules : List Rule) (state : State S) → list_any rewrites rules ≡ false → message_after (rules_effect view conn acls rules state) ≡ state.message
rules_keep view conn acls [] state none = refl
rules_keep view conn acls (rule ∷ rules) state none =
    let each = neither (is_rewrite rule.action) (list_any rewrites rules) none in
    if_keeps (is_taken_in view conn acls state rule.unless rule.cond)
    (then_rules (rules_effect view conn acls rules) (action_effect view conn rule.action state))
    (rules_effect view conn acls rules state) state.message
    (then_keeps (rules_effect view conn acls rules) state.message
    (λ next is. rules_keep view conn acls rules next each.1 ∙ is)
    (action_effect view conn rule.action state) (action_keeps view conn rule.action state each.0))
    (rules_keep view conn acls rules state each.1)

-- ---- what an evaluation leaves

after_keeps : {S : Type 0} (later : State S → Verdict) (effect : Effect S) → (after_rules later effect).state.message ≡ message_after effect
after_keeps later (Goes state) = refl
after_keeps later (Stops state) = refl
after_keeps later (Ends given state) = refl

evaluation_keeps : {S : Type 0} (view : TableView S) (conn : Conn) (program : Rules) (origin : State S) → may_rewrite program ≡ false → (evaluation view conn program origin).state.message ≡ origin.message
evaluation_keeps view conn program origin none =
    after_keeps (λ after. in_state verdict_at view conn after program) (rules_effect view conn program.acls program.rules origin)
    ∙ rules_keep view conn program.acls program.rules origin none

stands_keep : {S : Type 0} (view : TableView S) (conn : Conn) (program : Rules) (origin final : State S) → StandsAt view conn program origin final.message final.vars final.tables → may_rewrite program ≡ false → final.message ≡ origin.message
stands_keep view conn program origin final stands none =
    let done = stands.reaches.done in
    let some = neither (list_any rewrites done) (list_any rewrites stands.reaches.left)
    (sym (list_any-append rewrites done stands.reaches.left) ∙ ap (list_any rewrites) (sym stands.reaches.rules) ∙ none) in
    sym stands.message_is
    ∙ sym (ap message_after stands.reaches.effect)
    ∙ rules_keep view conn program.acls done origin some.0

-- whatever comes of the rules
pub head_stays : {S : Type 0} (view : TableView S) (conn : Conn) (program : Rules) (origin final : State S) (result : Result Decided TableFault)
    → IfOk result (λ decided. evaluation view conn program origin ≡ record { verdict = decided.verdict; state = final })
    → OnErr result (StandsAt view conn program origin final.message final.vars final.tables)
    → may_rewrite program ≡ false → final.message ≡ origin.message
head_stays view conn program origin final (Ok decided) ok err none =
    sym (ap (λ made. made.state.message) ok) ∙ evaluation_keeps view conn program origin none
head_stays view conn program origin final (Err fault) ok err none =
    stands_keep view conn program origin final err none
