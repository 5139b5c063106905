-- The steps of reading the words of an action.
use Rattle.std.proofs.Common.{◌≡◌, ℕ, List, Option}
use Rattle.std.specs.Prelude.{Result, codes}
use Rattle.std.specs.Str.{bytes_eq}
use Rattle.hx_ast.specs.declared.Action.{Action}
use Rattle.hx_ast.specs.declared.Part.{Part}
use Rattle.hx_ast.specs.declared.RedirectKind.{RedirectKind}
use Rattle.hx_calls.specs.declared.fault.SpellFault.{SpellFault}
use Rattle.hx_spell.specs.Actions.{Taken, format_word, optional_word, redirect_status_of, redirect_taken, text_word, with_format, word_and_value}
use Rattle.hx_base.specs.Results.{◌>>=◌}
use Rattle.hx_calls.specs.Known.{Reading}

-- what is read after the name of a header, where a regular expression follows
abbrev pub after_header : ℕ → (List ℕ → List ℕ → List Part → Action) → Reading (Taken (List ℕ))
    → Result (Reading (Taken Action)) SpellFault
after_header line make name =
    text_word name.value.words name.known
    >>= (λ expression. with_format line (make name.value.item expression.value.item)
    expression.value.words expression.known)

-- ---- redirects

abbrev pub drop_query : List ℕ
drop_query = codes "drop-query"

abbrev pub IsCodeWord : List ℕ → Type 0
IsCodeWord word = word ≡ codes "code"

-- what is read after the status, after the format, and after the kind
abbrev pub after_status : RedirectKind → List Part → Reading (Taken (Option ℕ))
    → Result (Reading (Taken Action)) SpellFault
after_status kind format status =
    optional_word drop_query status.value.words status.known
    >>= (λ drops. redirect_taken kind format status.value.item drops)

abbrev pub after_format : RedirectKind → Reading (Taken (List Part))
    → Result (Reading (Taken Action)) SpellFault
after_format kind format =
    word_and_value (bytes_eq (codes "code")) redirect_status_of format.value.words format.known
    >>= (λ status. after_status kind format.value.item status)

abbrev pub after_kind : ℕ → Reading (Taken RedirectKind)
    → Result (Reading (Taken Action)) SpellFault
after_kind line kind =
    format_word line kind.value.words kind.known
    >>= (λ format. after_format kind.value.item format)
