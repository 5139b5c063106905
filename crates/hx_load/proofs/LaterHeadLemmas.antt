-- Where a program names heads and lists that are known, these are known when more are.
use Rattle.std.proofs.Common.{◌≡◌, ℕ, ◌<◌, ◌≤◌, zero, suc, List, [], ◌∷◌, ◌++◌, length, Option, None, Some, arith, refl, subst, length-append}
use Rattle.std.specs.Prelude.{IfSome, slice_get}
use Rattle.std.specs.List.{All}
use Rattle.std.proofs.lemmas.List.Elements.{All-weaker}
use Rattle.hx_acl.specs.Holds.{HasAclHeads, HasAclsHeads}
use Rattle.hx_acl.specs.Tests.{HasTestHeads}
use Rattle.hx_ast.specs.declared.AclUse.{AclUse}
use Rattle.hx_ast.specs.declared.AclUse.TheVariants.{Named, Own}
use Rattle.hx_ast.specs.declared.Action.{Action}
use Rattle.hx_ast.specs.declared.Action.TheVariants as action
use Rattle.hx_ast.specs.declared.Conv.{Conv}
use Rattle.hx_ast.specs.declared.Conv.TheVariants as conv
use Rattle.hx_ast.specs.declared.Decl.{Decl}
use Rattle.hx_ast.specs.declared.Part.{Part}
use Rattle.hx_ast.specs.declared.Part.TheVariants as part
use Rattle.hx_ast.specs.declared.Rule.{Rule}
use Rattle.hx_ast.specs.declared.Term.{Term}
use Rattle.hx_expr.specs.Values.{HasTableHead, HasTableHeads}
use Rattle.hx_expr.specs.Values.{IsHeadBy as IsTableBy}
use Rattle.hx_rules.specs.Programs.{BackendRule, Rules}
use Rattle.hx_rules.specs.Tables.{ChangesOneOf, HasActionHeads, HasBackendHeads, HasFormatHeads, HasHeads, HasLists, HasPartHeads, HasRuleHeads, HasWhenHeads}
use Rattle.hx_sample.specs.Tables.{TableHead}
use Rattle.hx_text.specs.declared.By.{By}
use Rattle.hx_load.proofs.BuiltHeadLemmas.{ChangesListOf, HasDeclaredHeads, HasTermHeads}

-- ---- expressions

left_at : {X : Type 0} (xs ys : List X) (i : ℕ) → i < length xs
    → slice_get xs i ≡ slice_get (xs ++ ys) i
left_at [] ys i within = absurd (omega (arith, within))
left_at (x ∷ xs) ys zero within = refl
left_at (x ∷ xs) ys (suc i) within = left_at xs ys i (omega (arith, within))

later_by : (heads others : List TableHead) (by : By) (h : ℕ) → IsTableBy heads h by
    → IsTableBy (heads ++ others) h by
later_by heads others by h is = record {
  head = let size = length-append heads others in let within = is.head in omega (arith, within, size);
  by = subst (λ (found : Option TableHead). IfSome found (λ t. t.by ≡ by))
      (left_at heads others h is.head) is.by;
}

later_map : (heads others : List TableHead) (c : Conv) → HasTableHead heads c
    → HasTableHead (heads ++ others) c
later_map heads others (conv.Map head by out default) is = later_by heads others by head is
later_map heads others _ is = tt

later_maps : (heads others : List TableHead) (convs : List Conv) → HasTableHeads heads convs
    → HasTableHeads (heads ++ others) convs
later_maps heads others [] are = tt
later_maps heads others (c ∷ convs) (is, are) =
    (later_map heads others c is, later_maps heads others convs are)

-- ---- ACLs and conditions

later_decl : (heads others : List TableHead) (decl : Decl) → HasTestHeads heads decl
    → HasTestHeads (heads ++ others) decl
later_decl heads others decl has = record {
  maps = later_maps heads others decl.expr.convs has.maps;
  patterns = All-weaker (λ (h : ℕ). IsTableBy heads h decl.by)
      (λ (h : ℕ). IsTableBy (heads ++ others) h decl.by) (later_by heads others decl.by) decl.heads
      has.patterns;
}

later_acls : (heads others : List TableHead) (acls : List (List ℕ × Decl))
    → HasAclsHeads heads acls → HasAclsHeads (heads ++ others) acls
later_acls heads others =
    All-weaker (HasDeclaredHeads heads) (HasDeclaredHeads (heads ++ others))
    (λ declared has. later_decl heads others declared.1 has)

later_acl : (heads others : List TableHead) (acl : AclUse) → HasAclHeads heads acl
    → HasAclHeads (heads ++ others) acl
later_acl heads others (Named name) has = tt
later_acl heads others (Own decl) has = later_decl heads others decl has

later_conj : (heads others : List TableHead) (conj : List Term)
    → All (HasTermHeads heads) conj → All (HasTermHeads (heads ++ others)) conj
later_conj heads others =
    All-weaker (HasTermHeads heads) (HasTermHeads (heads ++ others))
    (λ term has. later_acl heads others term.acl has)

later_when : (heads others : List TableHead) (cond : Option (List (List Term)))
    → HasWhenHeads heads cond → HasWhenHeads (heads ++ others) cond
later_when heads others None has = tt
later_when heads others (Some cond) has =
    All-weaker (All (HasTermHeads heads)) (All (HasTermHeads (heads ++ others)))
    (later_conj heads others) cond has

-- ---- formats and actions

later_part : (heads others : List TableHead) (p : Part) → HasPartHeads heads p
    → HasPartHeads (heads ++ others) p
later_part heads others (part.Text bytes) has = tt
later_part heads others (part.Value expr) has = later_maps heads others expr.convs has

later_format : (heads others : List TableHead) (format : List Part)
    → HasFormatHeads heads format → HasFormatHeads (heads ++ others) format
later_format heads others =
    All-weaker (HasPartHeads heads) (HasPartHeads (heads ++ others)) (later_part heads others)

later_action : (heads others : List TableHead) (does : Action) → HasActionHeads heads does
    → HasActionHeads (heads ++ others) does
later_action heads others (action.SetHeader name format) has =
    later_format heads others format has
later_action heads others (action.AddHeader name format) has =
    later_format heads others format has
later_action heads others (action.ReplaceHeader name pattern format) has =
    later_format heads others format has
later_action heads others (action.ReplaceValue name pattern format) has =
    later_format heads others format has
later_action heads others (action.SetMethod format) has = later_format heads others format has
later_action heads others (action.SetUri format) has = later_format heads others format has
later_action heads others (action.SetPath format) has = later_format heads others format has
later_action heads others (action.SetQuery format) has = later_format heads others format has
later_action heads others (action.SetVar name expr) has = later_maps heads others expr.convs has
later_action heads others (action.AddAcl table key) has = later_format heads others key has
later_action heads others (action.DelAcl table key) has = later_format heads others key has
later_action heads others (action.DelMap table key) has = later_format heads others key has
later_action heads others (action.SetMap table key value) (of_key, of_value) =
    (later_format heads others key of_key, later_format heads others value of_value)
later_action heads others (action.Redirect kind format status drop_query) has =
    later_format heads others format has
later_action heads others _ has = tt

-- ---- programs

later_rule : (heads others : List TableHead) (rule : Rule) → HasRuleHeads heads rule
    → HasRuleHeads (heads ++ others) rule
later_rule heads others rule has = record {
  action = later_action heads others rule.action has.action;
  cond = later_when heads others rule.cond has.cond;
}

later_rules : (heads others : List TableHead) (rules : List Rule)
    → All (HasRuleHeads heads) rules → All (HasRuleHeads (heads ++ others)) rules
later_rules heads others =
    All-weaker (HasRuleHeads heads) (HasRuleHeads (heads ++ others)) (later_rule heads others)

later_backend : (heads others : List TableHead) (rule : BackendRule) → HasBackendHeads heads rule
    → HasBackendHeads (heads ++ others) rule
later_backend heads others rule has = record {
  format = later_format heads others rule.format has.format;
  cond = later_when heads others rule.cond has.cond;
}

pub later_heads : (heads others : List TableHead) (program : Rules) → HasHeads heads program
    → HasHeads (heads ++ others) program
later_heads heads others program has = record {
  acls = later_acls heads others program.acls has.acls;
  rules = later_rules heads others program.rules has.rules;
  redirects = later_rules heads others program.redirects has.redirects;
  backends = All-weaker (HasBackendHeads heads) (HasBackendHeads (heads ++ others))
      (later_backend heads others) program.backends has.backends;
}

later_list : (fewer more : ℕ) (does : Action) → fewer ≤ more → ChangesOneOf fewer does
    → ChangesOneOf more does
later_list fewer more (action.AddAcl table key) at_least within = omega (arith, at_least, within)
later_list fewer more (action.DelAcl table key) at_least within = omega (arith, at_least, within)
later_list fewer more (action.DelMap table key) at_least within = omega (arith, at_least, within)
later_list fewer more (action.SetMap table key value) at_least within =
    omega (arith, at_least, within)
later_list fewer more _ at_least within = tt

pub later_lists : (fewer more : ℕ) (program : Rules) → fewer ≤ more → HasLists fewer program
    → HasLists more program
later_lists fewer more program at_least =
    All-weaker (ChangesListOf fewer) (ChangesListOf more)
    (λ rule within. later_list fewer more rule.action at_least within) program.rules
