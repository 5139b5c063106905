-- Views of src/formats.rt: a format that is read up to a place.
use Rattle.std.specs.Prelude.{◌≡◌, ◌≢◌, ℕ, List, [], ◌∷◌, ◌++◌, Result, Ok, Err}
use Rattle.hx_ast.specs.declared.Part.{Part}
use Rattle.hx_ast.specs.declared.Part.TheVariants.{Text}
use Rattle.hx_calls.specs.declared.fault.SpellFault.{SpellFault}
use Rattle.hx_calls.specs.declared.fault.SpellFault.TheVariants as spell
use Rattle.hx_base.specs.Results.{◌>>=◌}
use Rattle.hx_calls.specs.Formats.{FormatReader, byte_before}
use Rattle.hx_calls.specs.Known.{Known, Reading, reading}

-- bytes that stand for themselves, as a part, if there are some
abbrev pub text_part : List ℕ → List Part
text_part [] = []
text_part (b ∷ bytes) = Text (b ∷ bytes) ∷ []

-- the parts with bytes before them that stand for themselves
abbrev pub bytes_before : List ℕ → List Part → List Part
bytes_before [] parts = parts
bytes_before (b ∷ bytes) parts = byte_before b (bytes_before bytes parts)

-- the parts that are read, the bytes after them, and the parts that follow
abbrev pub joined : List Part → List ℕ → Reading (List Part) → Reading (List Part)
joined parts text others = reading (parts ++ bytes_before text others.value) others.known

abbrev pub with_read : List Part → List ℕ → Result (Reading (List Part)) SpellFault
    → Result (Reading (List Part)) SpellFault
with_read parts text others = others >>= (λ read. Ok (joined parts text read))

-- A step reads from some parts and bytes to others, and leaves a rest: whatever reads on, what the
-- whole says after the old ones is what the rest says after the new ones. Or it has the code with
-- which the whole is refused. Where memory runs out, nothing is said.
abbrev pub ReadsOn : {R : Type 0} → (R → List ℕ) → Result R SpellFault → Known
    → (old_parts : List Part) (old_text : List ℕ) (new_parts : List Part) (new_text : List ℕ)
    → (FormatReader → Result (Reading (List Part)) SpellFault) → Type 0
ReadsOn left (Ok rest) after old_parts old_text new_parts new_text whole =
    (next : FormatReader)
    → with_read old_parts old_text (whole next)
    ≡ with_read new_parts new_text (next (left rest) after)
ReadsOn left (Err fault) after old_parts old_text new_parts new_text whole =
    fault ≢ spell.NoMemory → (next : FormatReader) → whole next ≡ Err fault
