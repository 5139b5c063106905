-- The heads and the lists that the rules of a configuration name are known, line after line.
use Rattle.std.proofs.Common.{◌≡◌, ℕ, ◌≤◌, List, ◌++◌, drop, map, length, Result, Ok, Err, sym, ap, ◌∙◌, subst, take-append-drop}
use Rattle.std.proofs.lemmas.List.{map-append}
use Rattle.std.specs.Prelude.{OnOk}
use Rattle.std.proofs.lemmas.List.Elements.{All-nil}
use Rattle.hx_ast.specs.declared.Statement.{Statement}
use Rattle.hx_rules.specs.Building.{with_statement}
use Rattle.hx_rules.specs.Programs.{Rules, no_rules}
use Rattle.hx_rules.specs.Tables.{HasBackendHeads, HasHeads, HasRuleHeads}
use Rattle.hx_sample.specs.Tables.{TableHead}
use Rattle.hx_spell.specs.Heads.{StatementNames}
use Rattle.hx_calls.specs.Known.{BeginsWith, Known}
use Rattle.hx_calls.specs.declared.HeadSpec.{HeadSpec}
use Rattle.hx_filling.specs.References.{table_head}
use Rattle.hx_load.specs.LineReading.{KeepsNames, NamesOnly}
use Rattle.hx_load.proofs.BuiltHeadLemmas.{ChangesListOf, HasDeclaredHeads, statement_heads, statement_lists}
use Rattle.hx_load.proofs.LaterHeadLemmas.{later_heads, later_lists}

-- no rules name any
pub names_none : (heads : List HeadSpec) (count : ℕ) → NamesOnly heads count no_rules
names_none heads count = record {
  of_heads = record {
    acls = All-nil (HasDeclaredHeads (map table_head heads));
    rules = All-nil (HasRuleHeads (map table_head heads));
    redirects = All-nil (HasRuleHeads (map table_head heads));
    backends = All-nil (HasBackendHeads (map table_head heads));
  };
  of_lists = All-nil (ChangesListOf count);
}

-- ---- where more is known

longer : (before after : List HeadSpec) → BeginsWith before after
    → map table_head before ++ map table_head (drop (length before) after) ≡ map table_head after
longer before after begins =
    sym (map-append table_head before (drop (length before) after))
    ∙ ap (λ (l : List HeadSpec). map table_head (l ++ drop (length before) after)) (sym begins)
    ∙ ap (map table_head) (take-append-drop (length before) after)

names_later : (before after : List HeadSpec) (fewer more : ℕ) (program : Rules)
    → BeginsWith before after → fewer ≤ more → NamesOnly before fewer program
    → NamesOnly after more program
names_later before after fewer more program begins at_least names = record {
  of_heads = subst (λ (l : List TableHead). HasHeads l program) (longer before after begins)
      (later_heads (map table_head before) (map table_head (drop (length before) after)) program
      names.of_heads);
  of_lists = later_lists fewer more program at_least names.of_lists;
}

-- ---- lines

-- a statement that names heads and lists which are known after it
keep_names : (before after : Known) (program new_program : Rules) (said : Statement)
    → BeginsWith before.heads after.heads
    → length before.references ≤ length after.references
    → StatementNames after.heads (length after.references) said
    → new_program ≡ with_statement said program
    → KeepsNames before after program new_program
keep_names before after program new_program said begins grows names is had =
    let later = names_later before.heads after.heads (length before.references)
    (length after.references) program begins grows had in
    subst (NamesOnly after.heads (length after.references)) (sym is)
    (record {
      of_heads = statement_heads after.heads (length after.references) said program names
          later.of_heads;
      of_lists = statement_lists after.heads (length after.references) said program names
          later.of_lists;
    })

-- the same, where the statement is taken in
pub keep_taken : {T E : Type 0} (result : Result T E) (before after : Known)
    (program new_program : Rules) (said : Statement) → BeginsWith before.heads after.heads
    → length before.references ≤ length after.references
    → StatementNames after.heads (length after.references) said
    → OnOk result (new_program ≡ with_statement said program)
    → OnOk result (KeepsNames before after program new_program)
keep_taken (Ok x) before after program new_program said begins grows names is =
    keep_names before after program new_program said begins grows names is
keep_taken (Err e) before after program new_program said begins grows names is = tt
