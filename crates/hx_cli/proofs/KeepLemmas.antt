-- Commands keep the heads, and the number of references.
use Rattle.std.proofs.Common.{◌≡◌, ℕ, Bool, List, [], ◌∷◌, length, ap, refl}
use Rattle.std.specs.Prelude.{slice_get, slice_set, Option, None, Some, Result, Ok, Err, OnErr, OnOk}
use Rattle.std.specs.Option.{option_map_or}
use Rattle.std.proofs.lemmas.List.{length-set}
use Rattle.hx_sample.specs.declared.tables.TableFault.{TableFault}
use Rattle.hx_refs.specs.Additions.{Pair}
use Rattle.hx_refs.specs.Naming.{resolution}
use Rattle.hx_refs.specs.References.{changed_at, Reference, References, RefsState}
use Rattle.hx_refs.specs.declared.fault.RefFault.{RefFault}
use Rattle.hx_refs.specs.declared.side.Side.TheVariants as side
use Rattle.hx_cli.specs.declared.command.Command.{Command}
use Rattle.hx_cli.specs.declared.command.Command.TheVariants.{ShowAll, Show, Get, Add, AddMany, Del, Set, Clear, Prepare, Commit}
use Rattle.hx_cli.specs.Commands.{command_of}
use Rattle.hx_cli.specs.Effects.{adding, addition_effect, command_effect, looking, on_resolved, unless, Effect}
use Rattle.hx_cli.specs.Payloads.{command_line, outside_line, OpenPayloads}

pub record Keeps (old new : References) : Type 0 where
  pub heads : new.heads ≡ old.heads
  pub lists : length new.references ≡ length old.references

same_length : {A : Type 0} (xs : List A) (r : ℕ) (change : A → A) (found : Option A)
    → length (option_map_or (λ x. slice_set xs r (change x)) found xs) ≡ length xs
same_length xs r change None = refl
same_length xs r change (Some x) = length-set xs r (change x)

-- a change of one reference
change_keeps : (refs : References) (r : ℕ) (change : Reference → Reference)
    → Keeps refs (record refs { references = changed_at r change refs.references })
change_keeps refs r change = record {
  heads = refl;
  lists = same_length refs.references r change (slice_get refs.references r);
}

same_keeps : (refs : References) → Keeps refs refs
same_keeps refs = record { heads = refl; lists = refl }

done_keeps : (refs : References) (fault : Option RefFault) (effect : Effect) → Keeps refs effect.refs
    → Keeps refs (unless refs fault effect).refs
done_keeps refs None effect kept = kept
done_keeps refs (Some refusal) effect kept = same_keeps refs

resolved_keeps : (refs : References) (effect : ℕ → Effect) (answer : Result ℕ RefFault)
    → ((r : ℕ) → Keeps refs (effect r).refs) → Keeps refs (on_resolved refs effect answer).refs
resolved_keeps refs effect (Ok r) kept = kept r
resolved_keeps refs effect (Err refusal) kept = same_keeps refs

addition_keeps : (is_map : Bool) (ver : Option ℕ) (name : List ℕ) (pairs : List Pair) (refs : References)
    → Keeps refs (addition_effect is_map ver name pairs refs).refs
addition_keeps is_map ver name pairs refs =
    resolved_keeps refs _ (resolution refs name (adding is_map)) (λ r. done_keeps refs _ _ (change_keeps refs r _))

command_keeps : (command : Command) (refs : References) → Keeps refs (command_effect command refs).refs
command_keeps (ShowAll is_map) refs = same_keeps refs
command_keeps (Show is_map ver name) refs =
    resolved_keeps refs _ (resolution refs name (looking is_map)) (λ r. same_keeps refs)
command_keeps (Get is_map name text) refs =
    resolved_keeps refs _ (resolution refs name (looking is_map)) (λ r. same_keeps refs)
command_keeps (Add is_map ver name key v) refs =
    addition_keeps is_map ver name (record { key = key; value = v } ∷ []) refs
command_keeps (AddMany is_map ver name) refs = same_keeps refs
command_keeps (Del is_map ver name key) refs =
    resolved_keeps refs _ (resolution refs name (looking is_map)) (λ r. done_keeps refs _ _ (change_keeps refs r _))
command_keeps (Set ver name key v) refs =
    resolved_keeps refs _ (resolution refs name side.Map) (λ r. done_keeps refs _ _ (change_keeps refs r _))
command_keeps (Clear is_map ver name) refs =
    resolved_keeps refs _ (resolution refs name (looking is_map)) (λ r. change_keeps refs r _)
command_keeps (Prepare is_map name) refs =
    resolved_keeps refs _ (resolution refs name (adding is_map)) (λ r. done_keeps refs _ _ (change_keeps refs r _))
command_keeps (Commit is_map ver name) refs =
    resolved_keeps refs _ (resolution refs name (adding is_map)) (λ r. done_keeps refs _ _ (change_keeps refs r _))

line_keeps : (session : ℕ) (found : Option Command) (payloads : OpenPayloads) (refs : References)
    → Keeps refs (command_line session found payloads refs).refs
line_keeps session None payloads refs = same_keeps refs
line_keeps session (Some (AddMany is_map ver name)) payloads refs = same_keeps refs
line_keeps session (Some command) payloads refs = command_keeps command refs

outside_keeps : (session : ℕ) (words : List (List ℕ)) (payloads : OpenPayloads) (refs : References)
    → Keeps refs (outside_line session words payloads refs).refs
outside_keeps session [] payloads refs = same_keeps refs
outside_keeps session (word ∷ words) payloads refs = line_keeps session (command_of (word ∷ words)) payloads refs

-- whatever is answered
answered_keeps : {A : Type 0} (answer : Result A TableFault) (old new after : References) → Keeps old after
    → OnOk answer (new ≡ after) → OnErr answer (new ≡ old) → Keeps old new
answered_keeps (Ok a) old new after kept is stays = rw is kept
answered_keeps (Err fault) old new after kept is stays = rw stays (same_keeps old)

content_stays : {A : Type 0} (answer : Result A TableFault) (old new : RefsState) → OnErr answer (new ≡ old)
    → OnErr answer (new.content ≡ old.content)
content_stays (Ok a) old new stays = tt
content_stays (Err fault) old new stays = ap (λ state. state.content) stays

pub outside_answered : {A : Type 0} (answer : Result A TableFault) (session : ℕ) (words : List (List ℕ)) (payloads : OpenPayloads)
    (old new : RefsState) → OnOk answer (new.content ≡ (outside_line session words payloads old.content).refs)
    → OnErr answer (new ≡ old) → Keeps old.content new.content
outside_answered answer session words payloads old new is stays =
    answered_keeps answer old.content new.content (outside_line session words payloads old.content).refs
    (outside_keeps session words payloads old.content) is (content_stays answer old new stays)
