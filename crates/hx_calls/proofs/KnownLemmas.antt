-- What is known grows: references, heads and what they are used for are added at the end.
use Rattle.std.proofs.Common.{◌≡◌, ℕ, List, [], ◌∷◌, ◌++◌, Option, Ok, Err, length, drop, refl, sym, ◌∙◌, ap, subst, append_assoc}
use Rattle.std.specs.Prelude.{Result, if◌then◌else◌}
use Rattle.std.specs.Option.{option_map_or}
use Rattle.std.proofs.lemmas.List.{take-append-drop}
use Rattle.std.proofs.Math.Seq.{take-append_seam, take-length}
use Rattle.hx_calls.specs.declared.fault.SpellFault.{SpellFault}
use Rattle.hx_calls.specs.declared.table_specs.HeadSpec.{HeadSpec}
use Rattle.hx_calls.specs.Codes.{file_kind}
use Rattle.hx_calls.specs.Known.{Known, BeginsWith, Extends, Reading, ReferenceForm, has_columns, reading, with_reference}

-- ---- places that are found, or new ones

abbrev pub file_or_new : ReferenceForm → Known → Option ℕ → Result (Reading ℕ) SpellFault
file_or_new form known place =
    option_map_or
    (λ place. if has_columns known place form.two_column then Ok (reading place known)
    else Err file_kind)
    place (with_reference form known)

abbrev pub head_or_new : HeadSpec → Known → Option ℕ → Reading ℕ
head_or_new head known number =
    option_map_or (λ number. reading number known) number
    (reading (length known.heads) (record known { heads = known.heads ++ head ∷ [] }))

-- ---- lists

pub begins_refl : {A : Type 0} (xs : List A) → BeginsWith xs xs
begins_refl xs = take-length xs

pub begins_append : {A : Type 0} (xs more : List A) → BeginsWith xs (xs ++ more)
begins_append xs more = take-append_seam xs more

-- a list that begins with these items is they and the rest
pub begins_split : {A : Type 0} (xs ys : List A) → BeginsWith xs ys
    → ys ≡ xs ++ drop (length xs) ys
begins_split xs ys begins =
    sym (take-append-drop (length xs) ys) ∙ ap (λ l. l ++ drop (length xs) ys) begins

pub begins_trans : {A : Type 0} (xs ys zs : List A) → BeginsWith xs ys → BeginsWith ys zs
    → BeginsWith xs zs
begins_trans {A} xs ys zs first second =
    let left = drop (length xs) ys in
    let right = drop (length ys) zs in
    let whole : zs ≡ xs ++ (left ++ right) =
    begins_split ys zs second ∙ (ap (λ l. l ++ right) (begins_split xs ys first) ∙ append_assoc xs left right) in
    subst (λ (l : List A). BeginsWith xs l) (sym whole) (begins_append xs (left ++ right))

-- ---- what is known

pub extends_refl : (known : Known) → Extends known known
extends_refl known = record {
  references = begins_refl known.references;
  heads = begins_refl known.heads;
  outputs = begins_refl known.outputs;
  acls = begins_refl known.acls;
  named = begins_refl known.named;
  names = refl;
  begun = refl;
  fallback = refl;
}

pub extends_trans : (a b c : Known) → Extends a b → Extends b c → Extends a c
extends_trans a b c first second = record {
  references = begins_trans a.references b.references c.references first.references second.references;
  heads = begins_trans a.heads b.heads c.heads first.heads second.heads;
  outputs = begins_trans a.outputs b.outputs c.outputs first.outputs second.outputs;
  acls = begins_trans a.acls b.acls c.acls first.acls second.acls;
  named = begins_trans a.named b.named c.named first.named second.named;
  names = second.names ∙ first.names;
  begun = second.begun ∙ first.begun;
  fallback = second.fallback ∙ first.fallback;
}
