-- What a statement names, a program with it has: heads as those see them who look up, and lists.
use Rattle.std.proofs.Common.{◌≡◌, ℕ, List, [], ◌∷◌, ◌++◌, map, Option, None, Some, option_map, arith, sym, subst}
use Rattle.std.proofs.lemmas.List.{length-map}
use Rattle.std.specs.Prelude.{IfSome, slice_get}
use Rattle.std.specs.List.{All}
use Rattle.std.proofs.lemmas.List.Elements.{All-append, All-cons, All-head, All-nil, All-tail, All-weaker}
use Rattle.std.proofs.lemmas.Option.{slice_get-map}
use Rattle.hx_acl.specs.Holds.{HasAclHeads, HasCondHeads}
use Rattle.hx_acl.specs.Tests.{HasTestHeads}
use Rattle.hx_ast.specs.declared.AclUse.{AclUse}
use Rattle.hx_ast.specs.declared.AclUse.TheVariants.{Named, Own}
use Rattle.hx_ast.specs.declared.Action.{Action}
use Rattle.hx_ast.specs.declared.Action.TheVariants as action
use Rattle.hx_ast.specs.declared.Conv.{Conv}
use Rattle.hx_ast.specs.declared.Conv.TheVariants as conv
use Rattle.hx_ast.specs.declared.Decl.{Decl}
use Rattle.hx_ast.specs.declared.Part.{Part}
use Rattle.hx_ast.specs.declared.Part.TheVariants as part
use Rattle.hx_ast.specs.declared.Rule.{Rule}
use Rattle.hx_ast.specs.declared.Statement.{Statement}
use Rattle.hx_ast.specs.declared.Statement.TheVariants as statement
use Rattle.hx_ast.specs.declared.Term.{Term}
use Rattle.hx_expr.specs.Values.{HasTableHead, HasTableHeads}
use Rattle.hx_expr.specs.Values.{IsHeadBy as IsTableBy}
use Rattle.hx_rules.specs.Building.{backend_rule, with_statement}
use Rattle.hx_rules.specs.Programs.{Rules}
use Rattle.hx_rules.specs.Tables.{ChangesOneOf, HasActionHeads, HasBackendHeads, HasFormatHeads, HasHeads, HasLists, HasPartHeads, HasRuleHeads, HasWhenHeads}
use Rattle.hx_sample.specs.Tables.{TableHead}
use Rattle.hx_calls.specs.ExpressionHeads.{FormatNames, IsHeadBy, NamesHead, PartNames}
use Rattle.hx_spell.specs.Heads.{ActionNames, CondNames, ConjNames, DeclNames, RuleNames, StatementNames, UseNames}
use Rattle.hx_calls.specs.declared.HeadSpec.{HeadSpec}
use Rattle.hx_text.specs.declared.By.{By}
use Rattle.hx_filling.specs.References.{table_head}

-- ---- expressions

found_by : (by : By) (found : Option HeadSpec) → IfSome found (λ h. h.by ≡ by)
    → IfSome (option_map table_head found) (λ h. h.by ≡ by)
found_by by None is = is
found_by by (Some h) is = is

table_by : (heads : List HeadSpec) (by : By) (h : ℕ) → IsHeadBy heads by h
    → IsTableBy (map table_head heads) h by
table_by heads by h (within, is) = record {
  head = let size = length-map heads table_head in omega (arith, within, size);
  by = subst (λ (found : Option TableHead). IfSome found (λ t. t.by ≡ by))
      (sym (slice_get-map table_head heads h)) (found_by by (slice_get heads h) is);
}

head_of_map : (heads : List HeadSpec) (c : Conv) → NamesHead heads c
    → HasTableHead (map table_head heads) c
head_of_map heads (conv.Map head by out default) names = table_by heads by head names
head_of_map heads _ names = tt

heads_of_maps : (heads : List HeadSpec) (convs : List Conv) → All (NamesHead heads) convs
    → HasTableHeads (map table_head heads) convs
heads_of_maps heads [] names = tt
heads_of_maps heads (c ∷ convs) names = (
  head_of_map heads c (All-head (NamesHead heads) c convs names),
  heads_of_maps heads convs (All-tail (NamesHead heads) c convs names),
)

-- ---- ACLs and conditions

heads_of_decl : (heads : List HeadSpec) (decl : Decl) → DeclNames heads decl
    → HasTestHeads (map table_head heads) decl
heads_of_decl heads decl names = record {
  maps = heads_of_maps heads decl.expr.convs names.maps;
  patterns = All-weaker (IsHeadBy heads decl.by)
      (λ (h : ℕ). IsTableBy (map table_head heads) h decl.by) (table_by heads decl.by) decl.heads
      names.searched;
}

heads_of_use : (heads : List HeadSpec) (acl : AclUse) → UseNames heads acl
    → HasAclHeads (map table_head heads) acl
heads_of_use heads (Named name) names = tt
heads_of_use heads (Own decl) names = heads_of_decl heads decl names

abbrev pub HasTermHeads : List TableHead → Term → Type 0
HasTermHeads heads term = HasAclHeads heads term.acl

heads_of_conj : (heads : List HeadSpec) (conj : List Term) → ConjNames heads conj
    → All (HasTermHeads (map table_head heads)) conj
heads_of_conj heads conj names =
    All-weaker (λ (term : Term). UseNames heads term.acl) (HasTermHeads (map table_head heads))
    (λ term n. heads_of_use heads term.acl n) conj names

heads_of_cond : (heads : List HeadSpec) (cond : List (List Term)) → CondNames heads cond
    → HasCondHeads (map table_head heads) cond
heads_of_cond heads cond names =
    All-weaker (ConjNames heads) (All (HasTermHeads (map table_head heads))) (heads_of_conj heads)
    cond names

heads_of_when : (heads : List HeadSpec) (cond : Option (List (List Term)))
    → IfSome cond (CondNames heads) → HasWhenHeads (map table_head heads) cond
heads_of_when heads None names = tt
heads_of_when heads (Some cond) names = heads_of_cond heads cond names

-- ---- formats and actions

heads_of_part : (heads : List HeadSpec) (p : Part) → PartNames heads p
    → HasPartHeads (map table_head heads) p
heads_of_part heads (part.Text bytes) names = tt
heads_of_part heads (part.Value expr) names = heads_of_maps heads expr.convs names

heads_of_format : (heads : List HeadSpec) (format : List Part) → FormatNames heads format
    → HasFormatHeads (map table_head heads) format
heads_of_format heads format names =
    All-weaker (PartNames heads) (HasPartHeads (map table_head heads)) (heads_of_part heads) format
    names

heads_of_action : (heads : List HeadSpec) (count : ℕ) (does : Action)
    → ActionNames heads count does → HasActionHeads (map table_head heads) does
heads_of_action heads count action.Allow names = tt
heads_of_action heads count (action.Deny status) names = tt
heads_of_action heads count (action.SetHeader name format) names =
    heads_of_format heads format names
heads_of_action heads count (action.AddHeader name format) names =
    heads_of_format heads format names
heads_of_action heads count (action.DelHeader name) names = tt
heads_of_action heads count (action.ReplaceHeader name pattern format) names =
    heads_of_format heads format names
heads_of_action heads count (action.ReplaceValue name pattern format) names =
    heads_of_format heads format names
heads_of_action heads count (action.SetMethod format) names = heads_of_format heads format names
heads_of_action heads count (action.SetUri format) names = heads_of_format heads format names
heads_of_action heads count (action.SetPath format) names = heads_of_format heads format names
heads_of_action heads count (action.SetQuery format) names = heads_of_format heads format names
heads_of_action heads count (action.SetVar name expr) names =
    heads_of_maps heads expr.convs names
heads_of_action heads count (action.UnsetVar name) names = tt
heads_of_action heads count (action.AddAcl table key) names = heads_of_format heads key names.1
heads_of_action heads count (action.DelAcl table key) names = heads_of_format heads key names.1
heads_of_action heads count (action.DelMap table key) names = heads_of_format heads key names.1
heads_of_action heads count (action.SetMap table key value) (within, keys, values) =
    (heads_of_format heads key keys, heads_of_format heads value values)
heads_of_action heads count (action.Redirect kind format status drops) names =
    heads_of_format heads format names
heads_of_action heads count (action.StrictMode on) names = tt

lists_of_action : (heads : List HeadSpec) (count : ℕ) (does : Action)
    → ActionNames heads count does → ChangesOneOf count does
lists_of_action heads count (action.AddAcl table key) names = names.0
lists_of_action heads count (action.DelAcl table key) names = names.0
lists_of_action heads count (action.DelMap table key) names = names.0
lists_of_action heads count (action.SetMap table key value) names = names.0
lists_of_action heads count _ names = tt

-- ---- statements

heads_of_rule : (heads : List HeadSpec) (count : ℕ) (rule : Rule) → RuleNames heads count rule
    → HasRuleHeads (map table_head heads) rule
heads_of_rule heads count rule names = record {
  action = heads_of_action heads count rule.action names.action;
  cond = heads_of_when heads rule.cond names.cond;
}

abbrev pub HasDeclaredHeads : List TableHead → List ℕ × Decl → Type 0
HasDeclaredHeads heads declared = HasTestHeads heads declared.1

-- a property of each item of a list is one of a list with one item more
all_more : {A : Type 0} (P : A → Type 0) (xs : List A) (x : A) → All P xs → P x
    → All P (xs ++ x ∷ [])
all_more P xs x all is = All-append P xs (x ∷ []) all (All-cons P x [] is (All-nil P))

-- a program with a statement has the heads that the statement names
pub statement_heads : (heads : List HeadSpec) (count : ℕ) (said : Statement) (program : Rules)
    → StatementNames heads count said → HasHeads (map table_head heads) program
    → HasHeads (map table_head heads) (with_statement said program)
statement_heads heads count statement.Plain program names has = has
statement_heads heads count (statement.Acl line name decl) program names has = record {
  acls = all_more (HasDeclaredHeads (map table_head heads)) program.acls (name, decl)
      has.acls (heads_of_decl heads decl names);
  rules = has.rules;
  redirects = has.redirects;
  backends = has.backends;
}
statement_heads heads count (statement.Rule rule) program names has = record {
  acls = has.acls;
  rules = all_more (HasRuleHeads (map table_head heads)) program.rules rule has.rules
      (heads_of_rule heads count rule names);
  redirects = has.redirects;
  backends = has.backends;
}
statement_heads heads count (statement.Redirect rule) program names has = record {
  acls = has.acls;
  rules = has.rules;
  redirects = all_more (HasRuleHeads (map table_head heads)) program.redirects rule
      has.redirects (heads_of_rule heads count rule names);
  backends = has.backends;
}
statement_heads heads count (statement.Backend line format unless cond) program names has = record {
  acls = has.acls;
  rules = has.rules;
  redirects = has.redirects;
  backends = all_more (HasBackendHeads (map table_head heads)) program.backends
      (backend_rule line format unless cond) has.backends
      (record {
        format = heads_of_format heads format names.0;
        cond = heads_of_when heads cond names.1;
      });
}
statement_heads heads count (statement.Fallback line name) program names has = record {
  acls = has.acls;
  rules = has.rules;
  redirects = has.redirects;
  backends = has.backends;
}

abbrev pub ChangesListOf : ℕ → Rule → Type 0
ChangesListOf count rule = ChangesOneOf count rule.action

-- and none but the lists that the statement changes
pub statement_lists : (heads : List HeadSpec) (count : ℕ) (said : Statement) (program : Rules)
    → StatementNames heads count said → HasLists count program
    → HasLists count (with_statement said program)
statement_lists heads count (statement.Rule rule) program names has =
    all_more (ChangesListOf count) program.rules rule has
    (lists_of_action heads count rule.action names.action)
statement_lists heads count statement.Plain program names has = has
statement_lists heads count (statement.Acl line name decl) program names has = has
statement_lists heads count (statement.Redirect rule) program names has = has
statement_lists heads count (statement.Backend line format unless cond) program names has = has
statement_lists heads count (statement.Fallback line name) program names has = has
