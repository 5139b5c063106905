-- What is known grows, and stays sound: references have files of their own, and heads are of one
-- kind each and of references that are known.
use Rattle.std.proofs.Common.{◌≡◌, ℕ, ◌+◌, ◌<◌, ◌≤◌, Bool, true, false, cond, List, [], ◌∷◌, ◌++◌, length, get_or, Option, None, Some, Ok, Err, arith, refl, sym, ap, subst, length-append}
use Rattle.std.specs.Prelude.{Result, nat_lt, position}
use Rattle.std.specs.List.{All}
use Rattle.std.proofs.Math.Seq.{get_or-append_seam}
use Rattle.std.proofs.lemmas.Bool.{ltb-true}
use Rattle.std.proofs.lemmas.List.Elements.{All-nil, All-push, All-weaker}
use Rattle.std.proofs.lemmas.List.Quantifiers.{position-Some}
use Rattle.std.proofs.lemmas.Option.{slice_get-get_or}
use Rattle.hx_text.specs.declared.By.{By}
use Rattle.hx_calls.specs.declared.fault.SpellFault.{SpellFault}
use Rattle.hx_calls.specs.declared.table_specs.HeadSpec.{HeadSpec}
use Rattle.hx_calls.specs.declared.table_specs.MapOutput.{MapOutput}
use Rattle.hx_base.specs.Results.{◌>>=◌}
use Rattle.hx_calls.specs.Codes.{file_kind, too_many_references}
use Rattle.hx_calls.specs.ExpressionHeads.{IsHeadBy}
use Rattle.hx_calls.specs.Known.{BeginsWith, Known, Reading, ReferenceForm, after_statement, has_columns, is_head, is_of_file, most_references, nothing_known, reading, reference_form, with_acl, with_fallback, with_file, with_head, with_name, with_named, with_named_file, with_output, with_reference}
use Rattle.hx_calls.specs.Sound.{IsReference, IsSound}
use Rattle.hx_calls.specs.TableSpecs.{IsHeadOf}
use Rattle.hx_calls.proofs.DistinctLemmas.{HasOtherFile, distinct_added, none_found, own_added, same_head}
use Rattle.hx_calls.proofs.KnownLemmas.{begins_append, begins_refl, begins_trans, file_or_new, head_or_new}

-- nothing is forgotten, and what was sound is so
pub record Grown (before after : Known) : Type 0 where
  pub references : length before.references ≤ length after.references
  pub heads : BeginsWith before.heads after.heads
  pub sound : IsSound before → IsSound after

pub grown_refl : (known : Known) → Grown known known
grown_refl known = record {
  references = omega arith;
  heads = begins_refl known.heads;
  sound = λ s. s;
}

pub grown_trans : (a b c : Known) → Grown a b → Grown b c → Grown a c
grown_trans a b c first second = record {
  references = omega (arith, first.references, second.references);
  heads = begins_trans a.heads b.heads c.heads first.heads second.heads;
  sound = λ s. second.sound (first.sound s);
}

-- What is known has grown, and what is read is such then. Where nothing is read, nothing is said.
abbrev pub Brings : {A : Type 0} → (Known → A → Type 0) → Known → Result (Reading A) SpellFault
    → Type 0
Brings P before (Ok read) = Grown before read.known × P read.known read.value
Brings P before (Err fault) = Unit {0}

pub later_brings : {A : Type 0} (P : Known → A → Type 0) (before between : Known)
    (r : Result (Reading A) SpellFault) → Grown before between → Brings P between r
    → Brings P before r
later_brings P before between (Ok read) grown (more, such) =
    (grown_trans before between read.known grown more, such)
later_brings P before between (Err fault) grown none = tt

-- a step by which what is known grows, and then another
pub then_brings : {A B : Type 0} (P : Known → A → Type 0) (Q : Known → B → Type 0) (before : Known)
    (r : Result (Reading A) SpellFault) (f : Reading A → Result (Reading B) SpellFault)
    → Brings P before r
    → ((read : Reading A) → Grown before read.known → P read.known read.value
    → Brings Q read.known (f read))
    → Brings Q before (r >>= f)
then_brings P Q before (Ok read) f (grown, such) after =
    later_brings Q before read.known (f read) grown (after read grown such)
then_brings P Q before (Err fault) f none after = tt

-- a step that brings nothing, and then another
pub step_brings : {A B : Type 0} (Q : Known → B → Type 0) (before : Known) (r : Result A SpellFault)
    (f : A → Result (Reading B) SpellFault) → ((x : A) → r ≡ Ok x → Brings Q before (f x))
    → Brings Q before (r >>= f)
step_brings Q before (Ok x) f after = after x refl
step_brings Q before (Err fault) f after = tt

-- what is read where a test passes, and else
pub either_brings : {A : Type 0} (P : Known → A → Type 0) (before : Known) (b : Bool)
    (r other : Result (Reading A) SpellFault) → (b ≡ true → Brings P before r)
    → (b ≡ false → Brings P before other) → Brings P before (cond b r other)
either_brings P before true r other first second = first refl
either_brings P before false r other first second = second refl

-- what is read where a test passes alone
pub tested_brings : {A : Type 0} (P : Known → A → Type 0) (before : Known) (b : Bool)
    (r : Result (Reading A) SpellFault) (fault : SpellFault) → (b ≡ true → Brings P before r)
    → Brings P before (cond b r (Err fault))
tested_brings P before true r fault such = such refl
tested_brings P before false r fault such = tt

pub weaker_brings : {A : Type 0} (P Q : Known → A → Type 0) (before : Known)
    (r : Result (Reading A) SpellFault) → ((known : Known) (x : A) → P known x → Q known x)
    → Brings P before r → Brings Q before r
weaker_brings P Q before (Ok read) weaker (grown, such) = (grown, weaker read.known read.value such)
weaker_brings P Q before (Err fault) weaker none = tt

-- of what is read the same holds
pub brought : {A : Type 0} (P : Known → A → Type 0) (before : Known)
    (r : Result (Reading A) SpellFault) (read : Reading A) → Brings P before r → r ≡ Ok read
    → Grown before read.known × P read.known read.value
brought {A} P before (Ok found) read such is =
    let same : found ≡ read = cc in
    subst (λ (x : Reading A). Grown before x.known × P x.known x.value) same such
brought P before (Err fault) read such is = absurd (let no : ⊥ = cc in no)

pub brings_by : {A : Type 0} (P : Known → A → Type 0) (before : Known)
    (r : Result (Reading A) SpellFault)
    → ((read : Reading A) → r ≡ Ok read → Grown before read.known × P read.known read.value)
    → Brings P before r
brings_by P before (Ok read) such = such read refl
brings_by P before (Err fault) such = tt

pub nothing_sound : IsSound nothing_known
nothing_sound = record {
  few = omega arith;
  files = tt;
  heads = All-nil (IsHeadOf 0);
  distinct = tt;
}

-- ---- references

-- a position of a reference is read
abbrev pub ReadsReference : Known → Reading ℕ → Type 0
ReadsReference before read = Grown before read.known × IsReference read.known read.value

heads_more : (n m : ℕ) → n ≤ m → (heads : List HeadSpec) → All (IsHeadOf n) heads
    → All (IsHeadOf m) heads
heads_more n m least = All-weaker (IsHeadOf n) (IsHeadOf m) (λ head of. record {
  table = omega (arith, least, of.table);
  patterns = of.patterns;
  case = of.case;
})

added_grown : (form : ReferenceForm) (known : Known)
    → nat_lt (length known.references) most_references ≡ true → HasOtherFile form known.references
    → Brings IsReference known (Ok (record {
      value = length known.references;
      known = record known { references = known.references ++ form ∷ [] };
    }))
added_grown form known few other =
    let n = length known.references in
    let m = length (known.references ++ form ∷ []) in
    let more : m ≡ n + 1 = length-append known.references (form ∷ []) in
    let least : n ≤ m = omega (arith, more) in
    let below : n < most_references = ltb-true n most_references few in (
      record {
        references = least;
        heads = begins_refl known.heads;
        sound = λ s. record {
          few = omega (arith, more, below);
          files = own_added known.references form other s.files;
          heads = heads_more n m least known.heads s.heads;
          distinct = s.distinct;
        };
      },
      omega (arith, more),
    )

-- one more reference has a position
pub reference_brings : (form : ReferenceForm) (known : Known) → HasOtherFile form known.references
    → Brings IsReference known (with_reference form known)
reference_brings form known other =
    tested_brings IsReference known (nat_lt (length known.references) most_references) _
    too_many_references (λ few. added_grown form known few other)

found_brings : (form : ReferenceForm) (known : Known) (place : Option ℕ)
    → ((p : ℕ) → place ≡ Some p → IsReference known p)
    → (place ≡ None → HasOtherFile form known.references)
    → Brings IsReference known (file_or_new form known place)
found_brings form known None below other = reference_brings form known (other refl)
found_brings form known (Some place) below other =
    tested_brings IsReference known (has_columns known place form.two_column) _ file_kind
    (λ there. (grown_refl known, below place refl))

-- the reference of a file has a position
pub file_brings : (line : ℕ) (name : List ℕ) (two : Bool) (known : Known)
    → Brings IsReference known (with_file line name two known)
file_brings line name two known =
    let form = reference_form (Some name) None two line [] in
    found_brings form known (position (is_of_file name) known.references)
    (λ p at. (position-Some (is_of_file name) known.references p form at).0)
    (none_found (is_of_file name) known.references)

-- ---- heads, and what references are used for

-- a head that can be: it searches a reference that is known, by a method that takes patterns
abbrev pub IsKnownHead : Known → HeadSpec → Type 0
IsKnownHead known head = IsHeadOf (length known.references) head

-- the number of a head with this method is read
abbrev pub ReadsHead : By → Known → Reading ℕ → Type 0
ReadsHead by before read =
    Grown before read.known × IsHeadBy read.known.heads by read.value

there_by : (heads : List HeadSpec) (head : HeadSpec) (n : ℕ)
    → position (is_head head) heads ≡ Some n → IsHeadBy heads head.by n
there_by heads head n at =
    let (within, passes, before) = position-Some (is_head head) heads n head at in (
      within,
      rw (slice_get-get_or heads n head within) (
          ap (λ (h : HeadSpec). h.by) (same_head head (get_or heads n head) passes)),
    )

last_by : (heads : List HeadSpec) (head : HeadSpec)
    → IsHeadBy (heads ++ head ∷ []) head.by (length heads)
last_by heads head =
    let more : length (heads ++ head ∷ []) ≡ length heads + 1 = length-append heads (head ∷ []) in
    let within : length heads < length (heads ++ head ∷ []) = omega (arith, more) in (
      within,
      rw (slice_get-get_or (heads ++ head ∷ []) (length heads) head within) (
          ap (λ (h : HeadSpec). h.by) (get_or-append_seam heads head [] head)),
    )

searched_grown : (head : HeadSpec) (known : Known) (number : Option ℕ)
    → ((n : ℕ) → number ≡ Some n → IsHeadBy known.heads head.by n)
    → (number ≡ None → All (λ other. is_head head other ≡ false) known.heads)
    → IsKnownHead known head → ReadsHead head.by known (head_or_new head known number)
searched_grown head known (Some n) there none is = (grown_refl known, there n refl)
searched_grown head known None there none is = (
  record {
    references = omega arith;
    heads = begins_append known.heads (head ∷ []);
    sound = λ s. record {
      few = s.few;
      files = s.files;
      heads = All-push (IsHeadOf (length known.references)) known.heads head s.heads is;
      distinct = distinct_added known.heads head (none refl) s.distinct;
    };
  },
  last_by known.heads head,
)

pub head_grown : (head : HeadSpec) (known : Known) → IsKnownHead known head
    → ReadsHead head.by known (with_head head known)
head_grown head known is =
    searched_grown head known (position (is_head head) known.heads)
    (there_by known.heads head) (none_found (is_head head) known.heads) is

-- references, heads and what was sound stay
kept_grown : (before after : Known) → after.references ≡ before.references
    → after.heads ≡ before.heads → Grown before after
kept_grown before after references heads = record {
  references = rw references (omega arith);
  heads = subst (BeginsWith before.heads) (sym heads) (begins_refl before.heads);
  sound = λ s. record {
    few = rw references s.few;
    files = rw references s.files;
    heads = rw (references, heads) s.heads;
    distinct = rw heads s.distinct;
  };
}

pub output_grown : (output : MapOutput) (known : Known) → Grown known (with_output output known)
output_grown output known = kept_grown known (with_output output known) refl refl

pub acl_grown : (table : ℕ) (known : Known) → Grown known (with_acl table known)
acl_grown table known = kept_grown known (with_acl table known) refl refl

named_grown : (table : ℕ) (known : Known) → Grown known (with_named table known)
named_grown table known = kept_grown known (with_named table known) refl refl

-- the reference of a file that `-f` or a map converter names has a position
pub named_file_brings : (line : ℕ) (name : List ℕ) (two : Bool) (known : Known)
    → Brings IsReference known (with_named_file line name two known)
named_file_brings line name two known =
    then_brings IsReference IsReference known (with_file line name two known)
    (λ file. Ok (reading file.value (with_named file.value file.known)))
    (file_brings line name two known)
    (λ file grown there.
    let marked : Grown file.known (with_named file.value file.known) =
    named_grown file.value file.known in
    (marked, omega (arith, there, marked.references)))

pub name_grown : (name : List ℕ) (known : Known) → Grown known (with_name name known)
name_grown name known = kept_grown known (with_name name known) refl refl

pub statement_grown : (known : Known) → Grown known (after_statement known)
statement_grown known = kept_grown known (after_statement known) refl refl

pub fallback_grown : (known : Known) → Grown known (with_fallback known)
fallback_grown known = kept_grown known (with_fallback known) refl refl
