-- What a configuration's lines bring, up to a place: the references, how they are searched and what
-- for, and the names of ACLs. All stand in the order of their first appearance (HAProxy
-- configuration manual 2.4, sections 7.1, 7.2 and 7.3.1, `map`; management guide 2.4, section 9.3).
use Rattle.std.specs.Prelude.{◌≡◌, ◌≢◌, ℕ, ◌==◌, ◌&&◌, ◌||◌, take, Bool, true, false, nat_lt, List, [], ◌∷◌, ◌++◌, length, Option, None, Some, Result, Ok, Err, if◌then◌else◌, position, slice_get}
use Rattle.std.specs.Bool.{beq}
use Rattle.std.specs.List.{list_any}
use Rattle.std.specs.Option.{option_map_or}
use Rattle.std.specs.Str.{bytes_eq}
use Rattle.hx_text.specs.declared.Out.{Out}
use Rattle.hx_text.specs.declared.Out.TheVariants as output
use Rattle.hx_text.specs.Methods.{method_number}
use Rattle.hx_ast.specs.Predefined.{predefined_names}
use Rattle.hx_calls.specs.declared.fault.SpellFault.{SpellFault}
use Rattle.hx_calls.specs.declared.fault.SpellFault.TheVariants as spell
use Rattle.hx_calls.specs.declared.table_specs.HeadSpec.{HeadSpec}
use Rattle.hx_calls.specs.declared.table_specs.MapOutput.{MapOutput}
use Rattle.hx_calls.specs.declared.known.Lengths.{Lengths}
use Rattle.hx_base.specs.Results.{◌>>=◌}
use Rattle.hx_calls.specs.Codes.{file_kind, too_many_references}

-- A reference as a configuration brings it: a file of patterns or of pairs, or the inline patterns
-- of an ACL, which are no file. `line` is the line of its first appearance, and `given` the number
-- that `-u` gives it.
pub record ReferenceForm : Type 0 where
  pub file : Option (List ℕ)
  pub given : Option ℕ
  pub two_column : Bool
  pub line : ℕ
  pub words : List (List ℕ)

abbrev pub reference_form : Option (List ℕ) → Option ℕ → Bool → ℕ → List (List ℕ) → ReferenceForm
reference_form file given two line words =
    record { file = file; given = given; two_column = two; line = line; words = words }

-- The references; the heads; which references are read as which type, which ACLs search, and which
-- `-f` or a map converter names; the names of ACLs that are declared; whether there was a
-- statement, and whether there was `default_backend`.
pub record Known : Type 0 where
  pub references : List ReferenceForm
  pub heads : List HeadSpec
  pub outputs : List MapOutput
  pub acls : List ℕ
  pub named : List ℕ
  pub names : List (List ℕ)
  pub begun : Bool
  pub fallback : Bool

-- before the first line
abbrev pub nothing_known : Known
nothing_known = record {
  references = [];
  heads = [];
  outputs = [];
  acls = [];
  named = [];
  names = [];
  begun = false;
  fallback = false;
}

-- what is read, and what is known after it
pub record Reading (A : Type 0) : Type 0 where
  pub value : A
  pub known : Known

abbrev pub reading : {A : Type 0} → A → Known → Reading A
reading value known = record { value = value; known = known }

-- ---- which are the same

abbrev pub output_number : Out → ℕ
output_number output.Str = 0
output_number output.Int = 1
output_number output.Ip = 2

abbrev pub is_head : HeadSpec → HeadSpec → Bool
is_head head other =
    other.table == head.table && method_number other.by == method_number head.by
    && beq other.ci head.ci

abbrev pub is_output : MapOutput → MapOutput → Bool
is_output output other =
    other.table == output.table && output_number other.out == output_number output.out

-- an ACL of this name is declared on an earlier line, or predefined
abbrev pub is_known_acl : Known → List ℕ → Bool
is_known_acl known name =
    list_any (bytes_eq name) known.names || list_any (bytes_eq name) predefined_names

-- a reference of this file
abbrev pub is_of_file : List ℕ → ReferenceForm → Bool
is_of_file name form = option_map_or (bytes_eq name) form.file false

-- ---- what a use of a reference brings

-- the most references that a configuration may have
abbrev pub most_references : ℕ
most_references = 65536

-- one more reference
abbrev pub with_reference : ReferenceForm → Known → Result (Reading ℕ) SpellFault
with_reference form known =
    if nat_lt (length known.references) most_references
    then Ok (reading (length known.references)
    (record known { references = known.references ++ form ∷ [] }))
    else Err too_many_references

abbrev pub has_columns : Known → ℕ → Bool → Bool
has_columns known place two =
    option_map_or (λ form. beq form.two_column two) (slice_get known.references place) false

-- The position of the reference of a file, which is used on this line with one column or two. A
-- file has one reference, however often it is named; it may not be used both ways.
abbrev pub with_file : ℕ → List ℕ → Bool → Known → Result (Reading ℕ) SpellFault
with_file line name two known =
    option_map_or
    (λ place. if has_columns known place two then Ok (reading place known) else Err file_kind)
    (position (is_of_file name) known.references)
    (with_reference (reference_form (Some name) None two line []) known)

-- the number of a head, which is there or new
abbrev pub with_head : HeadSpec → Known → Reading ℕ
with_head head known =
    option_map_or (λ number. reading number known) (position (is_head head) known.heads)
    (reading (length known.heads) (record known { heads = known.heads ++ head ∷ [] }))

-- one item more at the end, unless it is there by this test
abbrev pub added_once : {A : Type 0} → (A → Bool) → A → List A → List A
added_once is item items = if list_any is items then items else items ++ item ∷ []

-- a reference whose values are read as a type
abbrev pub with_output : MapOutput → Known → Known
with_output output known =
    record known { outputs = added_once (is_output output) output known.outputs }

-- a reference that an ACL searches
abbrev pub with_acl : ℕ → Known → Known
with_acl table known = record known { acls = added_once (λ other. other == table) table known.acls }

-- a reference whose file `-f` or a map converter names
abbrev pub with_named : ℕ → Known → Known
with_named table known =
    record known { named = added_once (λ other. other == table) table known.named }

-- the position of the reference of a file that `-f` or a map converter names
abbrev pub with_named_file : ℕ → List ℕ → Bool → Known → Result (Reading ℕ) SpellFault
with_named_file line name two known = do
  file ← with_file line name two known
  Ok (reading file.value (with_named file.value file.known))

-- the name of an ACL that is declared
abbrev pub with_name : List ℕ → Known → Known
with_name name known = record known { names = known.names ++ name ∷ [] }

abbrev pub after_statement : Known → Known
after_statement known = record known { begun = true }

-- there was `default_backend`
abbrev pub with_fallback : Known → Known
with_fallback known = record known { fallback = true }

-- ---- reading

-- A call reads what is expected: the same value, with the same known after it, or the same code.
-- Where memory runs out, nothing is said.
abbrev pub ReadsAs :
    {A : Type 0} → Result A SpellFault → Known → Result (Reading A) SpellFault → Type 0
ReadsAs (Ok x) after expected = expected ≡ Ok (reading x after)
ReadsAs (Err fault) after expected = fault ≢ spell.NoMemory → expected ≡ Err fault

-- The same of a call that reads more: what is expected is a part of what it reads.
abbrev pub ReadsPart : {A B : Type 0} → (B → A) → Result B SpellFault → Known
    → Result (Reading A) SpellFault → Type 0
ReadsPart part (Ok x) after expected = expected ≡ Ok (reading (part x) after)
ReadsPart part (Err fault) after expected = fault ≢ spell.NoMemory → expected ≡ Err fault

-- the list begins with these items
abbrev pub BeginsWith : {A : Type 0} → List A → List A → Type 0
BeginsWith items list = take (length items) list ≡ items

-- references, heads and what they are used for are added after those that are known, and nothing
-- else changes
pub record Extends (before after : Known) : Type 0 where
  pub references : BeginsWith before.references after.references
  pub heads : BeginsWith before.heads after.heads
  pub outputs : BeginsWith before.outputs after.outputs
  pub acls : BeginsWith before.acls after.acls
  pub named : BeginsWith before.named after.named
  pub names : after.names ≡ before.names
  pub begun : after.begun ≡ before.begun
  pub fallback : after.fallback ≡ before.fallback

-- how much is known: what a line that is refused brought is forgotten by it
abbrev pub lengths_of : Known → Lengths
lengths_of known = record {
  references = length known.references;
  heads = length known.heads;
  outputs = length known.outputs;
  acls = length known.acls;
  named = length known.named;
}
