-- Commands, and a version that isn't searched: those that name it change nothing else, and the
-- others do and answer the same as if nothing was added to it.
use Rattle.std.proofs.Common.{◌≡◌, ◌≢◌, ℕ, ◌==◌, Bool, true, false, List, [], ◌∷◌, map, length, refl, ap, sym, subst, ◌∙◌}
use Rattle.std.specs.Prelude.{Option, None, Some, is_some, IfSome, ◌&&◌, not, option_and_then, slice_get, unwrap_or, Result, Ok, Err}
use Rattle.std.specs.List.{list_any}
use Rattle.std.specs.Option.{option_map_or, option_or}
use Rattle.std.proofs.lemmas.Bool.{and_parts, eq-eqb, eqb-false, eqb-true, false≢true}
use Rattle.hx_base.specs.Bytes.{is_given}
use Rattle.hx_sample.specs.Cast.{cast_of}
use Rattle.hx_sample.specs.Changes.{with_value, without_chosen}
use Rattle.hx_sample.specs.Find.{Entry}
use Rattle.hx_sample.specs.Keys.{kind_by}
use Rattle.hx_sample.specs.Tables.{found_at, TableHead}
use Rattle.hx_sample.specs.declared.sample.Value.TheVariants as value
use Rattle.hx_refs.specs.Additions.{addition_fault, after_addition, demands_on, pairs_fault, with_pairs, Demands, Pair}
use Rattle.hx_refs.specs.Changes.{after_change_of_value, after_clearing, after_commit, after_deletion, after_preparation, commit_fault, deletion_fault, fault_at, fault_unless, preparation_fault, prepared_version, value_fault, with_current_version, with_entries, with_new_version, with_version}
use Rattle.hx_refs.specs.Naming.{resolution}
use Rattle.hx_refs.specs.declared.limits.Limits.{Limits}
use Rattle.hx_refs.specs.Numbers.{IsAnotherVersion, IsNotSearched}
use Rattle.hx_refs.specs.VersionNumbers.{number_ahead}
use Rattle.hx_refs.specs.References.{entries_in, refuses_value, searched_lists, version_entries, version_of, version_place, with_reference, Reference, References, Version}
use Rattle.hx_refs.specs.Uses.{uses_in_order, uses_of}
use Rattle.hx_refs.specs.Rows.{changed_entries}
use Rattle.hx_refs.specs.Versions.{with_new_entries}
use Rattle.hx_refs.specs.declared.fault.RefFault.{RefFault}
use Rattle.hx_refs.specs.declared.fault.RefFault.TheVariants.{BadVersion, KeyNotFound, BadValue}
use Rattle.hx_refs.specs.declared.side.Side.{Side}
use Rattle.hx_refs.specs.declared.side.Side.TheVariants as side
use Rattle.hx_cli.specs.declared.command.Command.{Command}
use Rattle.hx_cli.specs.declared.command.Command.TheVariants.{ShowAll, Show, Get, Add, AddMany, Del, Set, Clear, Prepare, Commit}
use Rattle.hx_cli.specs.Effects.{adding, addition_effect, code_of, command_effect, done, is_meant, looking, on_reference, on_resolved, refused, told_uses, unless, Effect}
use Rattle.hx_cli.specs.Replies.{entry_text, prepared_text, use_text, ReplyParts}
use Rattle.hx_cli.specs.Unseen.{is_commit_of, is_on_version, names_reference, names_version, reply_without_count, with_empty_version, without_additions}
use Rattle.hx_cli.proofs.CountLemmas.{told_alike}
use Rattle.hx_cli.proofs.UnseenReferenceLemmas.{always, change_along, changes_alike, commit_along, commit_keeps_names, empty_follows, entries_are, follows_change, hidden_change, hidden_follows, if_some, new_along, new_keeps_names, place_named, read_alike, resolved_alike, resolved_is, searched_alike, stays, version_is, version_keeps_names, Follows, GoesAlong, IsAlong, KeepsNames}

-- what an effect is as if nothing was added to the version
pub record EffectAlong (r v : ℕ) (refs : References) (effect along : Effect) : Type 0 where
  pub reply : along.reply ≡ effect.reply
  pub refs_are : along.refs ≡ with_empty_version r v effect.refs
  pub follows : Follows r v refs effect.refs

-- ---- what is told and what is refused

abbrev replied : ℕ → List (List ℕ) → ReplyParts
replied code lines = record { code = code; lines = lines }

shown_along : (r v : ℕ) (refs : References) (lines other : List (List ℕ)) → IsNotSearched refs r v → other ≡ lines
    → EffectAlong r v refs (done lines refs) (done other (with_empty_version r v refs))
shown_along r v refs lines other apart same =
    record { reply = ap (replied 0) same; refs_are = refl; follows = stays refs r v apart }

refused_along : (r v : ℕ) (refs : References) (code : ℕ) → IsNotSearched refs r v
    → EffectAlong r v refs (refused code refs) (refused code (with_empty_version r v refs))
refused_along r v refs code apart = record { reply = refl; refs_are = refl; follows = stays refs r v apart }

done_along : (r v : ℕ) (refs : References) (lines other : List (List ℕ)) (at : ℕ) (change : Reference → Reference)
    → IsNotSearched refs r v → other ≡ lines → IsAlong r v refs at change
    → EffectAlong r v refs (done lines (with_reference at change refs)) (done other (with_reference at change (with_empty_version r v refs)))
done_along r v refs lines other at change apart same along = record {
  reply = ap (replied 0) same;
  refs_are = changes_alike refs r v at change along;
  follows = follows_change refs r v at change apart along;
}

unless_along : (r v : ℕ) (refs : References) (fault other : Option RefFault) (effect along : Effect) → IsNotSearched refs r v
    → other ≡ fault → (fault ≡ None → EffectAlong r v refs effect along)
    → EffectAlong r v refs (unless refs fault effect) (unless (with_empty_version r v refs) other along)
unless_along r v refs fault other effect along apart same fine =
    subst
    (λ (o : Option RefFault). EffectAlong r v refs (unless refs fault effect) (unless (with_empty_version r v refs) o along))
    (sym same) (go fault fine)
  where
    go : (f : Option RefFault) → (f ≡ None → EffectAlong r v refs effect along)
        → EffectAlong r v refs (unless refs f effect) (unless (with_empty_version r v refs) f along)
    go None fine = fine refl
    go (Some f) fine = refused_along r v refs (code_of f) apart

reference_along : (r v : ℕ) (refs : References) (name : List ℕ) (wanted : Side) (effect along : ℕ → Effect) → IsNotSearched refs r v
    → ((at : ℕ) → (at ≡ r → names_reference refs r name ≡ true) → EffectAlong r v refs (effect at) (along at))
    → EffectAlong r v refs (on_reference refs name wanted effect) (on_reference (with_empty_version r v refs) name wanted along)
reference_along r v refs name wanted effect along apart each =
    subst
    (λ (answer : Result ℕ RefFault). EffectAlong r v refs (on_reference refs name wanted effect) (on_resolved (with_empty_version r v refs) along answer))
    (sym (resolved_alike refs r v name wanted))
    (go (resolution refs name wanted) refl)
  where
    go : (answer : Result ℕ RefFault) → resolution refs name wanted ≡ answer
        → EffectAlong r v refs (on_resolved refs effect answer) (on_resolved (with_empty_version r v refs) along answer)
    go (Ok at) is =
        each at
        (λ here. eq-eqb (place_named refs name) r (resolved_is refs name wanted at is ∙ here))
    go (Err fault) is = refused_along r v refs (code_of fault) apart

-- ---- what is told

-- another version is named
not_given : (given named : Bool) → (given && named) ≡ false → named ≡ true → given ≡ false
not_given true named other here = sym here ∙ other
not_given false named other here = refl

other_version : (refs : References) (r v : ℕ) (ver : Option ℕ) (name : List ℕ) → names_version refs r v ver name ≡ false
    → names_reference refs r name ≡ true → is_given ver v ≡ false
other_version refs r v ver name other here = not_given (is_given ver v) (names_reference refs r name) other here

pub entries_alike : (r v : ℕ) (refs : References) (at : ℕ) (ver : Option ℕ) → IsNotSearched refs r v
    → (at ≡ r → is_given ver v ≡ false) → entries_in (with_empty_version r v refs) at ver ≡ entries_in refs at ver
entries_alike r v refs at ver apart other =
    read_alike (λ reference. version_entries reference ver) [] refs r v at
    (λ here. if_some (slice_get refs.references r) (λ x off. entries_are refs.limits ver v x (other here) off) apart)

use_lines : Bool → List TableHead → List (List Entry) → ℕ → List ℕ → List (List ℕ)
use_lines is_map heads lists at text =
    map (λ u. use_text is_map u.by u.ci (option_and_then (λ x. found_at heads lists u.head x) (cast_of (value.Str text) (kind_by u.by))))
    (uses_in_order (uses_of heads at))

use_lines_are : (is_map : Bool) (refs : References) (at : ℕ) (text : List ℕ)
    → told_uses is_map refs at text ≡ use_lines is_map refs.heads (searched_lists refs) at text
unfolding told_uses use_lines
use_lines_are is_map refs at text = refl

uses_alike : (r v : ℕ) (refs : References) (is_map : Bool) (at : ℕ) (text : List ℕ) → IsNotSearched refs r v
    → told_uses is_map (with_empty_version r v refs) at text ≡ told_uses is_map refs at text
uses_alike r v refs is_map at text apart =
    use_lines_are is_map (with_empty_version r v refs) at text
    ∙ ap (λ lists. use_lines is_map refs.heads lists at text) (searched_alike refs r v apart)
    ∙ sym (use_lines_are is_map refs at text)

-- ---- additions

pub pairs_along : (limits : Limits) (ver : Option ℕ) (pairs : List Pair) (v : ℕ) (old : Reference) → is_given ver v ≡ false
    → IsAnotherVersion limits v old → GoesAlong limits v (with_pairs ver pairs) old
pairs_along limits ver pairs v old other apart =
    let goes = change_along limits ver (with_new_entries (unwrap_or ver old.curr) pairs) v old other apart in
    record { apart = goes.apart; same = goes.same }

pairs_keep_names : (ver : Option ℕ) (pairs : List Pair) → KeepsNames (with_pairs ver pairs)
pairs_keep_names ver pairs = record {
  number = λ old. (version_keeps_names ver (with_new_entries (unwrap_or ver old.curr) pairs)).number old;
  file = λ old. (version_keeps_names ver (with_new_entries (unwrap_or ver old.curr) pairs)).file old;
}

pub addition_is_along : (r v : ℕ) (refs : References) (at : ℕ) (ver : Option ℕ) (pairs : List Pair) → IsNotSearched refs r v
    → (at ≡ r → is_given ver v ≡ false) → IsAlong r v refs at (with_pairs ver pairs)
addition_is_along r v refs at ver pairs apart other = record {
  keeps = pairs_keep_names ver pairs;
  here = λ here. if_some (slice_get refs.references r) (λ x off. pairs_along refs.limits ver pairs v x (other here) off) apart;
}

version_fault : Demands → List Pair → Option Version → Option RefFault
version_fault demands pairs found =
    option_map_or (λ version. pairs_fault demands (length version.entries) version.serial pairs) found (Some BadVersion)

addition_fault_is : (refs : References) (at : ℕ) (ver : Option ℕ) (pairs : List Pair)
    → addition_fault refs at ver pairs
    ≡ option_map_or (λ reference. version_fault (demands_on refs at reference) pairs (version_of reference ver)) (slice_get refs.references at) None
unfolding version_fault
addition_fault_is refs at ver pairs = refl

pub addition_fault_alike : (r v : ℕ) (refs : References) (at : ℕ) (ver : Option ℕ) (pairs : List Pair) → IsNotSearched refs r v
    → (at ≡ r → is_given ver v ≡ false)
    → addition_fault (with_empty_version r v refs) at ver pairs ≡ addition_fault refs at ver pairs
addition_fault_alike r v refs at ver pairs apart other =
    addition_fault_is (with_empty_version r v refs) at ver pairs
    ∙ read_alike (λ reference. version_fault (demands_on refs at reference) pairs (version_of reference ver)) None refs r v at
    (λ here.
    if_some (slice_get refs.references r)
    (λ x off. ap (λ (found : Option Version). version_fault (demands_on refs at x) pairs found) (version_is refs.limits ver v x (other here) off))
    apart)
    ∙ sym (addition_fault_is refs at ver pairs)

pub addition_along : (r v : ℕ) (refs : References) (is_map : Bool) (ver : Option ℕ) (name : List ℕ) (pairs : List Pair)
    → IsNotSearched refs r v → names_version refs r v ver name ≡ false
    → EffectAlong r v refs (addition_effect is_map ver name pairs refs) (addition_effect is_map ver name pairs (with_empty_version r v refs))
addition_along r v refs is_map ver name pairs apart other =
    reference_along r v refs name (adding is_map)
    (λ at. unless refs (addition_fault refs at ver pairs) (done [] (after_addition refs at ver pairs)))
    (λ at.
    let empty = with_empty_version r v refs in
    unless empty (addition_fault empty at ver pairs) (done [] (after_addition empty at ver pairs)))
    apart
    (λ at here.
    let off = λ (same : at ≡ r). other_version refs r v ver name other (here same) in
    unless_along r v refs (addition_fault refs at ver pairs) (addition_fault (with_empty_version r v refs) at ver pairs)
    (done [] (after_addition refs at ver pairs)) (done [] (after_addition (with_empty_version r v refs) at ver pairs)) apart
    (addition_fault_alike r v refs at ver pairs apart off)
    (λ none. done_along r v refs [] [] at (with_pairs ver pairs) apart refl (addition_is_along r v refs at ver pairs apart off)))

-- ---- changes of the entries of a version

pub entries_is_along : (r v : ℕ) (refs : References) (at : ℕ) (ver : Option ℕ) (change : List Entry → List Entry) → IsNotSearched refs r v
    → (at ≡ r → is_given ver v ≡ false) → IsAlong r v refs at (with_entries ver change)
entries_is_along r v refs at ver change apart other = record {
  keeps = version_keeps_names ver (changed_entries change);
  here = λ here. if_some (slice_get refs.references r) (λ x off. change_along refs.limits ver (changed_entries change) v x (other here) off) apart;
}

place_is : (ver : Option ℕ) (v : ℕ) (x : Reference) → version_place (without_additions v x) ver ≡ version_place x ver
place_is None v x = refl
place_is (Some n) v x = refl

deletion_is : (limits : Limits) (ver : Option ℕ) (test : Entry → Bool) (v : ℕ) (x : Reference) → is_given ver v ≡ false
    → IsAnotherVersion limits v x
    → deletion_fault ver test (without_additions v x) ≡ deletion_fault ver test x
deletion_is limits ver test v x other off =
    ap (λ (place : Option ℕ). option_or (fault_unless (is_some place) BadVersion) (fault_unless (list_any test (version_entries (without_additions v x) ver)) KeyNotFound))
    (place_is ver v x)
    ∙ ap (λ (entries : List Entry). option_or (fault_unless (is_some (version_place x ver)) BadVersion) (fault_unless (list_any test entries) KeyNotFound))
    (entries_are limits ver v x other off)

pub deletion_fault_alike : (r v : ℕ) (refs : References) (at : ℕ) (ver : Option ℕ) (test : Entry → Bool) → IsNotSearched refs r v
    → (at ≡ r → is_given ver v ≡ false)
    → fault_at (with_empty_version r v refs) at (deletion_fault ver test) ≡ fault_at refs at (deletion_fault ver test)
deletion_fault_alike r v refs at ver test apart other =
    read_alike (deletion_fault ver test) None refs r v at
    (λ here. if_some (slice_get refs.references r) (λ x off. deletion_is refs.limits ver test v x (other here) off) apart)

pub value_fault_alike : (r v : ℕ) (refs : References) (at : ℕ) (ver : Option ℕ) (test : Entry → Bool) (text : List ℕ) → IsNotSearched refs r v
    → (at ≡ r → is_given ver v ≡ false)
    → fault_at (with_empty_version r v refs) at (value_fault ver test text) ≡ fault_at refs at (value_fault ver test text)
value_fault_alike r v refs at ver test text apart other =
    read_alike (value_fault ver test text) None refs r v at
    (λ here.
    if_some (slice_get refs.references r)
    (λ x off.
    ap (λ (fault : Option RefFault). option_or fault (fault_unless (not (refuses_value x.outputs text)) BadValue))
    (deletion_is refs.limits ver test v x (other here) off))
    apart)

deletion_along : (r v : ℕ) (refs : References) (name : List ℕ) (wanted : Side) (ver : Option ℕ) (test : Entry → Bool) → IsNotSearched refs r v
    → names_version refs r v ver name ≡ false
    → EffectAlong r v refs
    (on_reference refs name wanted
    (λ at. unless refs (fault_at refs at (deletion_fault ver test)) (done [] (after_deletion refs at ver test))))
    (on_reference (with_empty_version r v refs) name wanted
    (λ at.
    unless (with_empty_version r v refs) (fault_at (with_empty_version r v refs) at (deletion_fault ver test))
    (done [] (after_deletion (with_empty_version r v refs) at ver test))))
deletion_along r v refs name wanted ver test apart other =
    reference_along r v refs name wanted _ _ apart
    (λ at here.
    let off = λ (same : at ≡ r). other_version refs r v ver name other (here same) in
    unless_along r v refs _ _ _ _ apart (deletion_fault_alike r v refs at ver test apart off)
    (λ none.
    done_along r v refs [] [] at (with_entries ver (without_chosen test)) apart refl
    (entries_is_along r v refs at ver (without_chosen test) apart off)))

value_along : (r v : ℕ) (refs : References) (name : List ℕ) (wanted : Side) (ver : Option ℕ) (test : Entry → Bool) (text : List ℕ)
    → IsNotSearched refs r v → names_version refs r v ver name ≡ false
    → EffectAlong r v refs
    (on_reference refs name wanted
    (λ at. unless refs (fault_at refs at (value_fault ver test text)) (done [] (after_change_of_value refs at ver test text))))
    (on_reference (with_empty_version r v refs) name wanted
    (λ at.
    unless (with_empty_version r v refs) (fault_at (with_empty_version r v refs) at (value_fault ver test text))
    (done [] (after_change_of_value (with_empty_version r v refs) at ver test text))))
value_along r v refs name wanted ver test text apart other =
    reference_along r v refs name wanted _ _ apart
    (λ at here.
    let off = λ (same : at ≡ r). other_version refs r v ver name other (here same) in
    unless_along r v refs _ _ _ _ apart (value_fault_alike r v refs at ver test text apart off)
    (λ none.
    done_along r v refs [] [] at (with_entries ver (map (with_value test text))) apart refl
    (entries_is_along r v refs at ver (map (with_value test text)) apart off)))

-- ---- versions

preparation_is_along : (r v : ℕ) (refs : References) (at : ℕ) → IsNotSearched refs r v
    → fault_at refs at (preparation_fault refs.limits) ≡ None → IsAlong r v refs at with_new_version
preparation_is_along r v refs at apart none = record {
  keeps = new_keeps_names;
  here = λ here. go (slice_get refs.references r) apart (rw here at none);
}
  where
    go : (found : Option Reference) → IfSome found (IsAnotherVersion refs.limits v)
        → option_map_or (preparation_fault refs.limits) found None ≡ None → IfSome found (GoesAlong refs.limits v with_new_version)
    go None off none = tt
    go (Some x) off none = new_along refs.limits v x off none

commit_is_along : (r v : ℕ) (refs : References) (at ver : ℕ) → IsNotSearched refs r v → (at ≡ r → ver ≢ v)
    → fault_at refs at (commit_fault ver) ≡ None → IsAlong r v refs at (with_current_version ver)
commit_is_along r v refs at ver apart other none = record {
  keeps = commit_keeps_names ver;
  here = λ here. go (slice_get refs.references r) apart (other here) (rw here at none);
}
  where
    go : (found : Option Reference) → IfSome found (IsAnotherVersion refs.limits v) → ver ≢ v
        → option_map_or (commit_fault ver) found None ≡ None → IfSome found (GoesAlong refs.limits v (with_current_version ver))
    go None off other none = tt
    go (Some x) off other none = commit_along refs.limits ver v x other off none

-- ---- commands that don't name the version

-- what a command does, and how it is answered, as if nothing was added to the version
pub record CommandAlong (r v : ℕ) (refs : References) (command : Command) : Type 0 where
  pub reply :
      reply_without_count (with_empty_version r v refs) r command (command_effect command (with_empty_version r v refs)).reply
      ≡ reply_without_count refs r command (command_effect command refs).reply
  pub refs_are :
      (command_effect command (with_empty_version r v refs)).refs ≡ with_empty_version r v (command_effect command refs).refs
  pub follows : Follows r v refs (command_effect command refs).refs

shown_all_along : (r v : ℕ) (refs : References) (is_map : Bool) → IsNotSearched refs r v → CommandAlong r v refs (ShowAll is_map)
shown_all_along r v refs is_map apart = record {
  reply = ap (replied 0) (told_alike is_map refs r v (empty_follows refs r v apart).number);
  refs_are = refl;
  follows = stays refs r v apart;
}

pub command_along : (r v : ℕ) (refs : References) (command : Command) → IsNotSearched refs r v → is_on_version refs r v command ≡ false
    → CommandAlong r v refs command
command_along r v refs (ShowAll is_map) apart other = shown_all_along r v refs is_map apart
command_along r v refs (Show is_map ver name) apart other =
    let along =
    reference_along r v refs name (looking is_map) (λ at. done (map (entry_text is_map) (entries_in refs at ver)) refs)
    (λ at. done (map (entry_text is_map) (entries_in (with_empty_version r v refs) at ver)) (with_empty_version r v refs)) apart
    (λ at here.
    shown_along r v refs (map (entry_text is_map) (entries_in refs at ver)) (map (entry_text is_map) (entries_in (with_empty_version r v refs) at ver)) apart
    (ap (map (entry_text is_map)) (entries_alike r v refs at ver apart (λ same. other_version refs r v ver name other (here same))))) in
    record { reply = along.reply; refs_are = along.refs_are; follows = along.follows }
command_along r v refs (Get is_map name text) apart other =
    let along =
    reference_along r v refs name (looking is_map) (λ at. done (told_uses is_map refs at text) refs)
    (λ at. done (told_uses is_map (with_empty_version r v refs) at text) (with_empty_version r v refs)) apart
    (λ at here.
    shown_along r v refs (told_uses is_map refs at text) (told_uses is_map (with_empty_version r v refs) at text) apart
    (uses_alike r v refs is_map at text apart)) in
    record { reply = along.reply; refs_are = along.refs_are; follows = along.follows }
command_along r v refs (Add is_map ver name key text) apart other =
    let along = addition_along r v refs is_map ver name (record { key = key; value = text } ∷ []) apart other in
    record { reply = along.reply; refs_are = along.refs_are; follows = along.follows }
command_along r v refs (AddMany is_map ver name) apart other =
    record { reply = refl; refs_are = refl; follows = stays refs r v apart }
command_along r v refs (Del is_map ver name key) apart other =
    let along = deletion_along r v refs name (looking is_map) ver (is_meant key) apart other in
    record { reply = along.reply; refs_are = along.refs_are; follows = along.follows }
command_along r v refs (Set ver name key text) apart other =
    let along = value_along r v refs name side.Map ver (is_meant key) text apart other in
    record { reply = along.reply; refs_are = along.refs_are; follows = along.follows }
command_along r v refs (Clear is_map ver name) apart other =
    let along =
    reference_along r v refs name (looking is_map) (λ at. done [] (after_clearing refs at ver))
    (λ at. done [] (after_clearing (with_empty_version r v refs) at ver)) apart
    (λ at here.
    done_along r v refs [] [] at (with_entries ver (λ _. [])) apart refl
    (entries_is_along r v refs at ver (λ _. []) apart (λ same. other_version refs r v ver name other (here same)))) in
    record { reply = along.reply; refs_are = along.refs_are; follows = along.follows }
command_along r v refs (Prepare is_map name) apart other =
    let along =
    reference_along r v refs name (adding is_map)
    (λ at. unless refs (fault_at refs at (preparation_fault refs.limits)) (done (prepared_text (prepared_version refs at) ∷ []) (after_preparation refs at)))
    (λ at.
    let empty = with_empty_version r v refs in
    unless empty (fault_at empty at (preparation_fault empty.limits)) (done (prepared_text (prepared_version empty at) ∷ []) (after_preparation empty at)))
    apart
    (λ at here.
    unless_along r v refs _ _ _ _ apart
    (read_alike (preparation_fault refs.limits) None refs r v at (λ same. always (slice_get refs.references r) (λ x. refl)))
    (λ none.
    done_along r v refs (prepared_text (prepared_version refs at) ∷ []) (prepared_text (prepared_version (with_empty_version r v refs) at) ∷ []) at with_new_version apart
    (ap (λ (n : ℕ). prepared_text n ∷ []) (read_alike (λ old. number_ahead old.next 1) 0 refs r v at (λ same. always (slice_get refs.references r) (λ x. refl))))
    (preparation_is_along r v refs at apart none))) in
    record { reply = along.reply; refs_are = along.refs_are; follows = along.follows }
command_along r v refs (Commit is_map ver name) apart other =
    let along =
    reference_along r v refs name (adding is_map)
    (λ at. unless refs (fault_at refs at (commit_fault ver)) (done [] (after_commit refs at ver)))
    (λ at.
    let empty = with_empty_version r v refs in
    unless empty (fault_at empty at (commit_fault ver)) (done [] (after_commit empty at ver)))
    apart
    (λ at here.
    unless_along r v refs _ _ _ _ apart
    (read_alike (commit_fault ver) None refs r v at (λ same. always (slice_get refs.references r) (λ x. refl)))
    (λ none.
    done_along r v refs [] [] at (with_current_version ver) apart refl
    (commit_is_along r v refs at ver apart
    (λ same is. eqb-false v ver (other_version refs r v (Some ver) name other (here same)) (sym is)) none))) in
    record { reply = along.reply; refs_are = along.refs_are; follows = along.follows }

-- ---- commands that name the version

-- nothing is changed but the version
pub record IsHidden (r v : ℕ) (old new : References) : Type 0 where
  pub empty : with_empty_version r v new ≡ with_empty_version r v old
  pub follows : Follows r v old new

same_hidden : (r v : ℕ) (refs : References) → IsNotSearched refs r v → IsHidden r v refs refs
same_hidden r v refs apart = record { empty = refl; follows = stays refs r v apart }

changed_hidden : (r v : ℕ) (refs : References) (change : Version → Version) → IsNotSearched refs r v
    → IsHidden r v refs (with_reference r (with_version (Some v) change) refs)
changed_hidden r v refs change apart =
    record { empty = hidden_change refs r v change; follows = hidden_follows refs r v change apart }

given_is : (ver : Option ℕ) (v : ℕ) → is_given ver v ≡ true → ver ≡ Some v
given_is None v given = absurd (false≢true given)
given_is (Some n) v given = ap (λ (m : ℕ). Some m) (sym (eqb-true v n given))

-- a command on the reference at a position, which its word names
resolved_hidden : (r v : ℕ) (refs : References) (name : List ℕ) (wanted : Side) (effect : ℕ → Effect) → IsNotSearched refs r v
    → names_reference refs r name ≡ true → IsHidden r v refs (effect r).refs → IsHidden r v refs (on_reference refs name wanted effect).refs
resolved_hidden r v refs name wanted effect apart named hidden = go (resolution refs name wanted) refl
  where
    go : (answer : Result ℕ RefFault) → resolution refs name wanted ≡ answer → IsHidden r v refs (on_resolved refs effect answer).refs
    go (Ok at) is =
        let here : r ≡ at =
        sym (eqb-true (place_named refs name) r named) ∙ resolved_is refs name wanted at is in
        subst (λ (n : ℕ). IsHidden r v refs (effect n).refs) here hidden
    go (Err fault) is = same_hidden r v refs apart

unless_hidden : (r v : ℕ) (refs : References) (fault : Option RefFault) (effect : Effect) → IsNotSearched refs r v
    → IsHidden r v refs effect.refs → IsHidden r v refs (unless refs fault effect).refs
unless_hidden r v refs None effect apart hidden = hidden
unless_hidden r v refs (Some fault) effect apart hidden = same_hidden r v refs apart

pub addition_hidden : (r v : ℕ) (refs : References) (is_map : Bool) (ver : Option ℕ) (name : List ℕ) (pairs : List Pair)
    → IsNotSearched refs r v → names_version refs r v ver name ≡ true
    → IsHidden r v refs (addition_effect is_map ver name pairs refs).refs
addition_hidden r v refs is_map ver name pairs apart here =
    let parts = and_parts (is_given ver v) (names_reference refs r name) here in
    subst (λ (given : Option ℕ). IsHidden r v refs (addition_effect is_map given name pairs refs).refs)
    (sym (given_is ver v parts.0))
    (resolved_hidden r v refs name (adding is_map)
    (λ at. unless refs (addition_fault refs at (Some v) pairs) (done [] (after_addition refs at (Some v) pairs))) apart parts.1
    (unless_hidden r v refs (addition_fault refs r (Some v) pairs) (done [] (after_addition refs r (Some v) pairs)) apart
    (changed_hidden r v refs (with_new_entries v pairs) apart)))

clearing_hidden : (r v : ℕ) (refs : References) (is_map : Bool) (ver : Option ℕ) (name : List ℕ) → IsNotSearched refs r v
    → names_version refs r v ver name ≡ true → IsHidden r v refs (command_effect (Clear is_map ver name) refs).refs
clearing_hidden r v refs is_map ver name apart here =
    let parts = and_parts (is_given ver v) (names_reference refs r name) here in
    subst (λ (given : Option ℕ). IsHidden r v refs (command_effect (Clear is_map given name) refs).refs)
    (sym (given_is ver v parts.0))
    (resolved_hidden r v refs name (looking is_map) (λ at. done [] (after_clearing refs at (Some v))) apart parts.1
    (changed_hidden r v refs (changed_entries (λ _. [])) apart))

deletion_hidden : (r v : ℕ) (refs : References) (is_map : Bool) (ver : Option ℕ) (name key : List ℕ) → IsNotSearched refs r v
    → names_version refs r v ver name ≡ true → IsHidden r v refs (command_effect (Del is_map ver name key) refs).refs
deletion_hidden r v refs is_map ver name key apart here =
    let parts = and_parts (is_given ver v) (names_reference refs r name) here in
    let test = is_meant key in
    subst (λ (given : Option ℕ). IsHidden r v refs (command_effect (Del is_map given name key) refs).refs)
    (sym (given_is ver v parts.0))
    (resolved_hidden r v refs name (looking is_map)
    (λ at. unless refs (fault_at refs at (deletion_fault (Some v) test)) (done [] (after_deletion refs at (Some v) test))) apart parts.1
    (unless_hidden r v refs (fault_at refs r (deletion_fault (Some v) test)) (done [] (after_deletion refs r (Some v) test)) apart
    (changed_hidden r v refs (changed_entries (without_chosen test)) apart)))

value_hidden : (r v : ℕ) (refs : References) (ver : Option ℕ) (name key text : List ℕ) → IsNotSearched refs r v
    → names_version refs r v ver name ≡ true → IsHidden r v refs (command_effect (Set ver name key text) refs).refs
value_hidden r v refs ver name key text apart here =
    let parts = and_parts (is_given ver v) (names_reference refs r name) here in
    let test = is_meant key in
    subst (λ (given : Option ℕ). IsHidden r v refs (command_effect (Set given name key text) refs).refs)
    (sym (given_is ver v parts.0))
    (resolved_hidden r v refs name side.Map
    (λ at. unless refs (fault_at refs at (value_fault (Some v) test text)) (done [] (after_change_of_value refs at (Some v) test text))) apart parts.1
    (unless_hidden r v refs (fault_at refs r (value_fault (Some v) test text)) (done [] (after_change_of_value refs r (Some v) test text)) apart
    (changed_hidden r v refs (changed_entries (map (with_value test text))) apart)))

-- a command that isn't done changes nothing
undone : (refs : References) (fault : ℕ → Option RefFault) (after : ℕ → References) (answer : Result ℕ RefFault)
    → ((on_resolved refs (λ at. unless refs (fault at) (done [] (after at))) answer).reply.code == 0) ≡ false
    → (on_resolved refs (λ at. unless refs (fault at) (done [] (after at))) answer).refs ≡ refs
undone refs fault after (Ok at) refused = go (fault at) refused
  where
    go : (f : Option RefFault) → ((unless refs f (done [] (after at))).reply.code == 0) ≡ false
        → (unless refs f (done [] (after at))).refs ≡ refs
    go None refused = absurd (false≢true (sym refused))
    go (Some f) refused = refl
undone refs fault after (Err f) refused = refl

commit_hidden : (r v : ℕ) (refs : References) (is_map : Bool) (ver : ℕ) (name : List ℕ) → IsNotSearched refs r v
    → ((command_effect (Commit is_map ver name) refs).reply.code == 0) ≡ false
    → IsHidden r v refs (command_effect (Commit is_map ver name) refs).refs
commit_hidden r v refs is_map ver name apart refused =
    subst (λ (new : References). IsHidden r v refs new)
    (sym (undone refs (λ at. fault_at refs at (commit_fault ver)) (λ at. after_commit refs at ver) (resolution refs name (adding is_map)) refused))
    (same_hidden r v refs apart)

shown_hidden : (r v : ℕ) (refs : References) (name : List ℕ) (wanted : Side) (lines : ℕ → List (List ℕ)) → IsNotSearched refs r v
    → IsHidden r v refs (on_reference refs name wanted (λ at. done (lines at) refs)).refs
shown_hidden r v refs name wanted lines apart = go (resolution refs name wanted)
  where
    go : (answer : Result ℕ RefFault) → IsHidden r v refs (on_resolved refs (λ at. done (lines at) refs) answer).refs
    go (Ok at) = same_hidden r v refs apart
    go (Err fault) = same_hidden r v refs apart

never : {P : Type 0} → false ≡ true → P
never is = absurd (false≢true is)

-- a command that names the version, and isn't a commit of it that is done
pub command_hidden : (r v : ℕ) (refs : References) (command : Command) → IsNotSearched refs r v → is_on_version refs r v command ≡ true
    → (is_commit_of refs r v command && ((command_effect command refs).reply.code == 0)) ≡ false
    → IsHidden r v refs (command_effect command refs).refs
command_hidden r v refs (ShowAll is_map) apart here undone = never here
command_hidden r v refs (Show is_map ver name) apart here undone =
    shown_hidden r v refs name (looking is_map) (λ at. map (entry_text is_map) (entries_in refs at ver)) apart
command_hidden r v refs (Get is_map name text) apart here undone = never here
command_hidden r v refs (Add is_map ver name key text) apart here undone =
    addition_hidden r v refs is_map ver name (record { key = key; value = text } ∷ []) apart here
command_hidden r v refs (AddMany is_map ver name) apart here undone = same_hidden r v refs apart
command_hidden r v refs (Del is_map ver name key) apart here undone = deletion_hidden r v refs is_map ver name key apart here
command_hidden r v refs (Set ver name key text) apart here undone = value_hidden r v refs ver name key text apart here
command_hidden r v refs (Clear is_map ver name) apart here undone = clearing_hidden r v refs is_map ver name apart here
command_hidden r v refs (Prepare is_map name) apart here undone = never here
command_hidden r v refs (Commit is_map ver name) apart here undone =
    commit_hidden r v refs is_map ver name apart
    (not_given ((command_effect (Commit is_map ver name) refs).reply.code == 0) (names_version refs r v (Some ver) name)
    (swapped (names_version refs r v (Some ver) name) ((command_effect (Commit is_map ver name) refs).reply.code == 0) undone) here)
  where
    swapped : (a b : Bool) → (a && b) ≡ false → (b && a) ≡ false
    swapped true true is = is
    swapped true false is = refl
    swapped false true is = refl
    swapped false false is = refl
