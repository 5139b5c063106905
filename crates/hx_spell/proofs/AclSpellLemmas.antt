-- Values are searched as the relation says, and what follows the flags of an ACL is read as the
-- patterns that it spells.
use Rattle.std.proofs.Common.{◌≡◌, ◌↔◌, ℕ, ◌==◌, ◌&&◌, Bool, true, false, cond, List, [], ◌∷◌, length, Option, None, Some, Ok, Err, refl, sym, ◌∙◌, ap, subst}
use Rattle.std.specs.Prelude.{Result, is_none, is_some}
use Rattle.std.specs.Option.{option_map_or}
use Rattle.std.proofs.lemmas.Bool.{eqb-true}
use Rattle.std.proofs.lemmas.List.{nil_from_length}
use Rattle.hx_base.specs.Results.{◌>>=◌}
use Rattle.hx_text.specs.declared.By.{By}
use Rattle.hx_text.specs.declared.Kind.{Kind}
use Rattle.hx_text.specs.declared.Kind.TheVariants as kind
use Rattle.hx_ast.specs.declared.Decl.{Decl}
use Rattle.hx_ast.specs.declared.Expr.{Expr}
use Rattle.hx_ast.specs.Acls.{takes_patterns}
use Rattle.hx_ast.specs.Types.{expr_kind}
use Rattle.hx_calls.specs.declared.fault.SpellFault.{SpellFault}
use Rattle.hx_spell.specs.AclRelation.{IsOwnWay, IsSearched, HaveHeads, SpellPatterns}
use Rattle.hx_spell.specs.AclRelation.IsOwnWay.{Booleans, Integers, Addresses, Strings, MethodNames}
use Rattle.hx_spell.specs.AclRelation.HaveHeads.{FilesAlone, FilesAndPatterns}
use Rattle.hx_spell.specs.AclRelation.SpellPatterns.{NoPatterns, Patterns}
use Rattle.hx_calls.specs.Codes.{bad_argument}
use Rattle.hx_spell.specs.Declarations.{Way, decl_by, decl_reading, file_heads, has_no_patterns, heads_of_keys, ignores_case, pattern_decl, way_by, way_of, way_of_kind, with_last_head, words_head}
use Rattle.hx_spell.specs.Flags.{Flags, Searched}
use Rattle.hx_calls.specs.Known.{Reading, reading, reference_form, with_reference}
use Rattle.hx_spell.specs.Patterns.{Keys, keys_of}
use Rattle.hx_calls.proofs.CallMeaningLemmas.{added_reference, reference_added}
use Rattle.hx_spell.proofs.FlagLemmas.{after_flags}
use Rattle.hx_spell.proofs.PatternSpellLemmas.{all_keys, keys_law}
use Rattle.hx_calls.proofs.ResultLemmas.{and_then_ok, both, then_ok}

-- ---- how values are searched

abbrev given_value : {A : Type 0} → A → Result A SpellFault
given_value x = Ok x

same_value : {A : Type 0} (x y : A) → given_value x ≡ Ok y → x ≡ y
same_value x y is = cc

own_way : (k : Kind) (way : Way) → way_of_kind k ≡ Ok way → IsOwnWay k way
own_way kind.Bool way is = subst (IsOwnWay kind.Bool) (same_value _ way is) Booleans
own_way kind.Int way is = subst (IsOwnWay kind.Int) (same_value _ way is) Integers
own_way kind.Ip way is = subst (IsOwnWay kind.Ip) (same_value _ way is) Addresses
own_way kind.Str way is = subst (IsOwnWay kind.Str) (same_value _ way is) Strings
own_way kind.Method way is = subst (IsOwnWay kind.Method) (same_value _ way is) MethodNames
own_way kind.Bin way is = absurd (let no : ⊥ = cc in no)
own_way kind.Any way is = absurd (let no : ⊥ = cc in no)

way_owned : (k : Kind) (way : Way) → IsOwnWay k way → way_of_kind k ≡ Ok way
way_owned _ _ Booleans = refl
way_owned _ _ Integers = refl
way_owned _ _ Addresses = refl
way_owned _ _ Strings = refl
way_owned _ _ MethodNames = refl

-- The way is the one in which the values are searched.
pub way_law : (expr : Expr) (by : Option By) (way : Way)
    → (way_of expr by ≡ Ok way) ↔ IsSearched expr by way
way_law expr (Some by) way =
    (λ is. sym (same_value (way_by by false) way is), λ is. ap (λ w. Ok w) (sym is))
way_law expr None way = (own_way (expr_kind expr) way, way_owned (expr_kind expr) way)

-- ---- what is searched

no_fault : {A : Type 0} (fault : Option SpellFault) (r : Result A SpellFault) (y : A)
    → option_map_or Err fault r ≡ Ok y → (fault ≡ None) × (r ≡ Ok y)
no_fault None r y is = (refl, is)
no_fault (Some fault) r y is = absurd (let no : ⊥ = cc in no)

not_given : (given : Option ℕ) (x y : Reading (List ℕ))
    → cond (is_some given) (Err bad_argument) (Ok x) ≡ Ok y → (given ≡ None) × (x ≡ y)
not_given None x y is = (refl, same_value x y is)
not_given (Some n) x y is = absurd (let no : ⊥ = cc in no)

keys_searched : (line : ℕ) (way : Way) (flags : Flags) (keys : List (List ℕ))
    (fault : Option SpellFault) (files heads : Reading (List ℕ))
    → heads_of_keys line way flags keys fault files ≡ Ok heads
    → (fault ≡ None) × HaveHeads line way flags files keys heads
keys_searched line way flags [] fault files heads is =
    let (none, found) =
    no_fault fault (cond (is_some flags.given) (Err bad_argument) (Ok files)) heads is in
    let (free, same) = not_given flags.given files heads found in
    (none, subst (HaveHeads line way flags files []) same (FilesAlone free))
keys_searched line way flags (key ∷ keys) fault files heads is =
    let form = reference_form None flags.given false line (key ∷ keys) in
    let (place, added, after) =
    and_then_ok (with_reference form files.known)
    (λ place. option_map_or Err fault
    (Ok (with_last_head files (words_head way flags.ci place)))) heads is in
    let last = with_last_head files (words_head way flags.ci place) in
    let (none, found) = no_fault fault (Ok last) heads after in (
      none,
      subst (HaveHeads line way flags files (key ∷ keys)) (same_value last heads found)
          (FilesAndPatterns key keys place (reference_added form files.known place added)),
    )

searched_keys : (line : ℕ) (way : Way) (flags : Flags) (keys : List (List ℕ))
    (files heads : Reading (List ℕ)) → HaveHeads line way flags files keys heads
    → heads_of_keys line way flags keys None files ≡ Ok heads
searched_keys line way flags _ files _ (FilesAlone free) = rw free refl
searched_keys line way flags _ files _ (FilesAndPatterns key keys place added) =
    let form = reference_form None flags.given false line (key ∷ keys) in
    then_ok (with_reference form files.known)
    (λ place. Ok (with_last_head files (words_head way flags.ci place))) place
    (with_last_head files (words_head way flags.ci place))
    (added_reference form files.known place added) refl

-- ---- patterns that are read are spelled

whole_keys : (keys : Keys) → keys.fault ≡ None → keys ≡ all_keys keys.keys
whole_keys keys none = ap (λ f. record { keys = keys.keys; fault = f }) none

with_patterns : (line : ℕ) (expr : Expr) (way : Way) (flags : Reading Flags)
    (words : List (List ℕ)) (read : Reading Decl) → takes_patterns way.by ≡ true
    → pattern_decl line expr way (after_flags flags words).value flags.known ≡ Ok read
    → SpellPatterns line expr way flags words read
with_patterns line expr way flags words read takes is =
    let keys = keys_of way.by words in
    let files = file_heads way flags.value.files flags.known in
    let ci = ignores_case way flags.value.ci in
    let (heads, found, made) =
    and_then_ok (heads_of_keys line way flags.value keys.keys keys.fault files)
    (λ heads. Ok (decl_reading expr way ci keys.keys heads)) read is in
    let (none, searched) =
    keys_searched line way flags.value keys.keys keys.fault files heads found in
    subst (SpellPatterns line expr way flags words)
    (same_value (decl_reading expr way ci keys.keys heads) read made)
    (Patterns words keys.keys heads takes
    ((keys_law way.by words keys.keys).0 (whole_keys keys none)) searched)

not_some : (given : Option ℕ) → is_none given ≡ true → given ≡ None
not_some None is = refl
not_some (Some n) is = absurd (let no : ⊥ = cc in no)

nothing_left : (files : List Searched) (words : List (List ℕ)) (given : Option ℕ)
    → (length files == 0 && length words == 0 && is_none given) ≡ true
    → (files ≡ []) × (words ≡ []) × (given ≡ None)
nothing_left files words given is =
    let (no_files_or_words, no_number) =
    both (length files == 0 && length words == 0) (is_none given) is in
    let (no_files, no_words) = both (length files == 0) (length words == 0) no_files_or_words in (
      nil_from_length files (eqb-true (length files) 0 no_files),
      nil_from_length words (eqb-true (length words) 0 no_words),
      not_some given no_number,
    )

passed : (b : Bool) (x y : Reading Decl) → cond b (Ok x) (Err bad_argument) ≡ Ok y
    → (b ≡ true) × (x ≡ y)
passed true x y is = (refl, same_value x y is)
passed false x y is = absurd (let no : ⊥ = cc in no)

without_patterns : (line : ℕ) (expr : Expr) (way : Way) (flags : Reading Flags)
    (words : List (List ℕ)) (read : Reading Decl) → takes_patterns way.by ≡ false
    → cond (has_no_patterns (after_flags flags words).value)
    (Ok (decl_reading expr way false [] (reading [] flags.known))) (Err bad_argument) ≡ Ok read
    → SpellPatterns line expr way flags words read
without_patterns line expr way flags words read takes is =
    let bare = decl_reading expr way false [] (reading [] flags.known) in
    let (nothing, same) =
    passed (has_no_patterns (after_flags flags words).value) bare read is in
    let (files, no_words, given) = nothing_left flags.value.files words flags.value.given nothing in
    subst (λ (w : List (List ℕ)). SpellPatterns line expr way flags w read) (sym no_words)
    (subst (SpellPatterns line expr way flags []) same (NoPatterns takes files given))

patterns_spelled : (line : ℕ) (expr : Expr) (way : Way) (flags : Reading Flags)
    (words : List (List ℕ)) (read : Reading Decl) (takes : Bool) → takes_patterns way.by ≡ takes
    → cond takes (pattern_decl line expr way (after_flags flags words).value flags.known)
    (cond (has_no_patterns (after_flags flags words).value)
    (Ok (decl_reading expr way false [] (reading [] flags.known))) (Err bad_argument)) ≡ Ok read
    → SpellPatterns line expr way flags words read
patterns_spelled line expr way flags words read true takes is =
    with_patterns line expr way flags words read takes is
patterns_spelled line expr way flags words read false takes is =
    without_patterns line expr way flags words read takes is

-- ---- patterns that are spelled are read

patterns_read : (line : ℕ) (expr : Expr) (way : Way) (flags : Reading Flags)
    (words : List (List ℕ)) (read : Reading Decl) → SpellPatterns line expr way flags words read
    → decl_by line expr (after_flags flags words).value flags.known way ≡ Ok read
patterns_read line expr way flags _ _ (NoPatterns takes files given) =
    rw (takes, files, given) refl
patterns_read line expr way flags _ _ (Patterns words keys heads takes spelled searched) =
    let files = file_heads way flags.value.files flags.known in
    let ci = ignores_case way flags.value.ci in
    let after = after_flags flags words in
    let empty = decl_reading expr way false [] (reading [] flags.known) in
    let bare : Result (Reading Decl) SpellFault =
    cond (has_no_patterns after.value) (Ok empty) (Err bad_argument) in
    ap (λ b. cond b (pattern_decl line expr way after.value flags.known) bare) takes
    ∙ (ap (λ (k : Keys). heads_of_keys line way flags.value k.keys k.fault files
    >>= (λ heads. Ok (decl_reading expr way ci k.keys heads)))
    ((keys_law way.by words keys).1 spelled)
    ∙ then_ok (heads_of_keys line way flags.value keys None files)
    (λ heads. Ok (decl_reading expr way ci keys heads)) heads
    (decl_reading expr way ci keys heads)
    (searched_keys line way flags.value keys files heads searched) refl)

-- What follows the flags is read as the patterns that it spells, and as no others.
pub patterns_law : (line : ℕ) (expr : Expr) (way : Way) (flags : Reading Flags)
    (words : List (List ℕ)) (read : Reading Decl)
    → (decl_by line expr (after_flags flags words).value flags.known way ≡ Ok read)
    ↔ SpellPatterns line expr way flags words read
patterns_law line expr way flags words read = (
  patterns_spelled line expr way flags words read (takes_patterns way.by) refl,
  patterns_read line expr way flags words read,
)
