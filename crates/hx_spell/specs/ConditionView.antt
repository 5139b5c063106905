-- What the steps of src/conditions.rt say of the words of a condition: for private contracts alone.
use Rattle.std.specs.Prelude.{◌≡◌, ◌≢◌, ℕ, Bool, List, [], codes, None, Some, Result, Ok, Err}
use Rattle.std.specs.Str.{bytes_eq}
use Rattle.hx_ast.specs.declared.Term.{Term}
use Rattle.hx_spell.specs.declared.conditions.Gathered.{Gathered}
use Rattle.hx_calls.specs.declared.fault.SpellFault.{SpellFault}
use Rattle.hx_calls.specs.declared.fault.SpellFault.TheVariants as spell
use Rattle.hx_base.specs.Results.{◌>>=◌}
use Rattle.hx_calls.specs.Codes.{bad_condition}
use Rattle.hx_spell.specs.Conditions.{Terms, after_marks_word, cond_from, own_decl, with_marks}
use Rattle.hx_calls.specs.Known.{Known, Reading, reading}

-- the terms that are gathered, outside braces
abbrev pub terms_of : Gathered → Terms
terms_of g = record {
  before = g.before;
  conj = g.conj;
  marks = record { some = g.marked; negated = g.negated };
  inside = None;
}

-- so many marks more
abbrev pub marked : ℕ → Terms → Terms
marked n terms = record terms { marks = with_marks n terms.marks }

-- after an open brace
abbrev pub opened : Terms → Terms
opened terms = record terms { inside = Some [] }

abbrev pub is_closing : List ℕ → Bool
is_closing word = bytes_eq word (codes "}")

-- what is wrong with words after a brace that doesn't close
abbrev pub unclosed : ℕ → List (List ℕ) → Known → Result (Reading (List (List Term))) SpellFault
unclosed line words known = own_decl line words known >>= (λ decl. Err bad_condition)

-- the condition of what follows the marks of a word, of which there are so many, and further words
abbrev pub unmarked : ℕ → ℕ → List ℕ → List (List ℕ) → Terms → Known
    → Result (Reading (List (List Term))) SpellFault
unmarked line n word words terms known =
    after_marks_word n word terms known >>= (λ r. cond_from line words r.value r.known)

-- what is expected is this refusal, unless memory ran out
abbrev pub RefusedAs : {A : Type 0} → SpellFault → Result A SpellFault → Type 0
RefusedAs fault expected = fault ≢ spell.NoMemory → expected ≡ Err fault

-- a step comes to these terms, or is refused so
abbrev pub Becomes : {A : Type 0}
    → Result A SpellFault → Gathered → Known → Result (Reading Terms) SpellFault → Type 0
Becomes (Ok x) after known expected =
    expected ≡ Ok (reading (terms_of after) known)
Becomes (Err fault) after known expected = RefusedAs fault expected
