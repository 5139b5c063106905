-- A text that writes an expression is read as it, up to its stop byte, and what follows is left.
use Rattle.std.proofs.Common.{◌≡◌, ◌↔◌, ℕ, List, [], ◌∷◌, ◌++◌, Option, None, Ok, Err, refl, sym, ◌∙◌, ap, subst, append-nil}
use Rattle.std.specs.Prelude.{Result}
use Rattle.hx_words.specs.CallForm.{CallForm}
use Rattle.hx_words.specs.Calls.{Step, steps_of, calls_of_steps}
use Rattle.hx_words.specs.Calls.Step.{Last, More, Faulty}
use Rattle.hx_words.specs.Spelling.{SpellsCalls}
use Rattle.hx_ast.specs.declared.Conv.{Conv}
use Rattle.hx_ast.specs.declared.Expr.{Expr}
use Rattle.hx_ast.specs.declared.Fetch.{Fetch}
use Rattle.hx_calls.specs.declared.fault.SpellFault.{SpellFault}
use Rattle.hx_base.specs.Results.{◌>>=◌}
use Rattle.hx_calls.specs.Codes.{unsupported}
use Rattle.hx_calls.specs.Criteria.{convs_after, expr_of, expr_of_steps, expr_reading}
use Rattle.hx_calls.specs.Expressions.{fetch_call}
use Rattle.hx_calls.specs.ExpressionRelation.{WritesExpr}
use Rattle.hx_calls.specs.Formats.{rest_after}
use Rattle.hx_calls.specs.Known.{Known, Reading}
use Rattle.hx_calls.proofs.CallMeaningLemmas.{fetch_read, fetch_writes}
use Rattle.hx_calls.proofs.CallTextLemmas.{IsReading, is_reading, longer_is, read_as, read_spelled, same_calls, same_rest, spelled_read}
use Rattle.hx_calls.proofs.CriterionLemmas.{Called, convs_by_calls, convs_called, convs_of_calls, convs_read, convs_written, longer_called}
use Rattle.hx_calls.proofs.ResultLemmas.{and_then_ok, then_ok}

-- ---- the expression of calls

abbrev with_convs :
    Result (Reading (List Conv)) SpellFault → Fetch → Result (Reading Expr) SpellFault
with_convs convs fetch = convs >>= (λ c. Ok (expr_reading fetch c))

abbrev expr_of_calls : ℕ → List CallForm → Known → Result (Reading Expr) SpellFault
expr_of_calls line [] known = Err unsupported
expr_of_calls line (call ∷ calls) known =
    fetch_call call >>= with_convs (convs_of_calls line calls known)

expr_by_calls : (line : ℕ) (steps : List Step) (calls : List CallForm) (rest : List ℕ)
    (known : Known) → IsReading steps → calls_of_steps steps ≡ read_as calls rest
    → expr_of_steps line steps known ≡ expr_of_calls line calls known
expr_by_calls line [] calls rest known reading is =
    ap (λ c. expr_of_calls line c known) (same_calls [] calls [] rest is)
expr_by_calls line (Last call left ∷ steps) calls rest known reading is =
    ap (λ s. fetch_call call >>= with_convs (convs_after line s known)) reading
    ∙ ap (λ c. expr_of_calls line c known) (same_calls (call ∷ []) calls left rest is)
expr_by_calls line (More call left ∷ steps) calls rest known reading is =
    let (more, found, all) = longer_is call (calls_of_steps steps) calls rest is in
    ap (λ r. fetch_call call >>= with_convs r)
    (convs_by_calls line steps more rest known reading found)
    ∙ ap (λ c. expr_of_calls line c known) all
expr_by_calls line (Faulty name fault ∷ steps) calls rest known reading is =
    absurd (let no : ⊥ = cc in no)

expr_of_text : (stop : Option ℕ) (line : ℕ) (text : List ℕ) (known : Known)
    (calls : List CallForm) (rest : List ℕ)
    → calls_of_steps (steps_of stop text) ≡ read_as calls rest
    → expr_of stop line text known ≡ expr_of_calls line calls known
unfolding expr_of
expr_of_text stop line text known calls rest are =
    expr_by_calls line (steps_of stop text) calls rest known (is_reading stop text) are

-- what is left after the calls
rest_is : (steps : List Step) (calls : List CallForm) (rest : List ℕ)
    → calls_of_steps steps ≡ read_as calls rest → rest_after steps ≡ rest
rest_is [] calls rest is = same_rest [] calls [] rest is
rest_is (Last call left ∷ steps) calls rest is = same_rest (call ∷ []) calls left rest is
rest_is (More call left ∷ steps) calls rest is =
    let (more, found, all) = longer_is call (calls_of_steps steps) calls rest is in
    rest_is steps more rest found
rest_is (Faulty name fault ∷ steps) calls rest is = absurd (let no : ⊥ = cc in no)

-- ---- an expression that is read is written

steps_called : (line : ℕ) (steps : List Step) (known : Known) (read : Reading Expr)
    → expr_of_steps line steps known ≡ Ok read → Called steps
steps_called line [] known read is = ([], ([], refl))
steps_called line (Last call rest ∷ steps) known read is = (call ∷ [], (rest, refl))
steps_called line (More call rest ∷ steps) known read is =
    let (fetch, fetched, after) =
    and_then_ok (fetch_call call) (with_convs (convs_after line steps known)) read
    is in
    let (convs, converted, whole) =
    and_then_ok (convs_after line steps known) (λ c. Ok (expr_reading fetch c)) read after in
    longer_called call rest steps (convs_called line steps known convs converted)
steps_called line (Faulty name fault ∷ steps) known read is = absurd (let no : ⊥ = cc in no)

text_called : (stop : Option ℕ) (line : ℕ) (text : List ℕ) (before : Known) (read : Reading Expr)
    → expr_of stop line text before ≡ Ok read → Called (steps_of stop text)
unfolding expr_of
text_called stop line text before read is = steps_called line (steps_of stop text) before read is

written : (stop : Option ℕ) (line : ℕ) (text : List ℕ) (before : Known) (calls : List CallForm)
    (read : Reading Expr) → SpellsCalls stop calls text
    → expr_of_calls line calls before ≡ Ok read → WritesExpr stop line before text read
written stop line text before [] read spelled is = absurd (let no : ⊥ = cc in no)
written stop line text before (first ∷ others) read spelled is =
    let (fetch, fetched, after) =
    and_then_ok (fetch_call first) (with_convs (convs_of_calls line others before))
    read is in
    let (convs, converted, whole) =
    and_then_ok (convs_of_calls line others before) (λ c. Ok (expr_reading fetch c)) read after in
    record {
      first = first;
      others = others;
      spelled = spelled;
      fetch = fetch;
      fetched = fetch_writes first fetch fetched;
      convs = convs;
      converted = convs_written line others before convs converted;
      is = cc;
    }

-- an expression before what is left of a text
pub record WritesBefore (stop : Option ℕ) (line : ℕ) (before : Known) (text : List ℕ)
    (read : Reading Expr) (rest : List ℕ) : Type 0 where
  pub inside : List ℕ
  pub written : WritesExpr stop line before inside read
  pub whole : text ≡ inside ++ rest
  pub to_end : stop ≡ None → rest ≡ []

pub expr_writes : (stop : Option ℕ) (line : ℕ) (text : List ℕ) (before : Known)
    (read : Reading Expr) → expr_of stop line text before ≡ Ok read
    → WritesBefore stop line before text read (rest_after (steps_of stop text))
expr_writes stop line text before read is =
    let (calls, (rest, are)) = text_called stop line text before read is in
    let s = read_spelled stop text calls rest are in
    let left : rest_after (steps_of stop text) ≡ rest = rest_is (steps_of stop text) calls rest are in
    subst (λ (r : List ℕ). WritesBefore stop line before text read r) (sym left) (record {
      inside = s.prefix;
      written = written stop line s.prefix before calls read s.spelled
          (sym (expr_of_text stop line text before calls rest are) ∙ is);
      whole = s.whole;
      to_end = s.to_end;
    })

-- ---- an expression that is written is read

calls_read : (stop : Option ℕ) (line : ℕ) (before : Known) (text : List ℕ) (read : Reading Expr)
    (w : WritesExpr stop line before text read)
    → expr_of_calls line (w.first ∷ w.others) before ≡ Ok read
calls_read stop line before text read w =
    then_ok (fetch_call w.first)
    (with_convs (convs_of_calls line w.others before)) w.fetch read
    (fetch_read w.first w.fetch w.fetched)
    (then_ok (convs_of_calls line w.others before) (λ c. Ok (expr_reading w.fetch c)) w.convs read
    (convs_read line w.others before w.convs w.converted) (ap (λ c. Ok c) (sym w.is)))

-- it is read before any rest, which is left
pub expr_read : (stop : Option ℕ) (line : ℕ) (before : Known) (text : List ℕ)
    (read : Reading Expr) → WritesExpr stop line before text read
    → (rest : List ℕ) → (stop ≡ None → rest ≡ [])
    → (expr_of stop line (text ++ rest) before ≡ Ok read)
    × (rest_after (steps_of stop (text ++ rest)) ≡ rest)
expr_read stop line before text read w rest to_end =
    let calls = w.first ∷ w.others in
    let are = spelled_read stop calls text w.spelled rest to_end in (
      expr_of_text stop line (text ++ rest) before calls rest are
          ∙ calls_read stop line before text read w,
      rest_is (steps_of stop (text ++ rest)) calls rest are,
    )

-- ---- a text without a stop byte

-- a text is read as the expression that it writes, and as no other
pub expr_law : (line : ℕ) (text : List ℕ) (before : Known) (read : Reading Expr)
    → (expr_of None line text before ≡ Ok read) ↔ WritesExpr None line before text read
expr_law line text before read = (λ is. whole_writes is, λ w. whole_read w)
  where
    whole_writes : expr_of None line text before ≡ Ok read → WritesExpr None line before text read
    whole_writes is =
        let w = expr_writes None line text before read is in
        let same : text ≡ w.inside =
        w.whole ∙ ap (λ r. w.inside ++ r) (w.to_end refl) ∙ append-nil w.inside in
        subst (λ (t : List ℕ). WritesExpr None line before t read) (sym same) w.written

    whole_read : WritesExpr None line before text read → expr_of None line text before ≡ Ok read
    whole_read w =
        subst (λ (t : List ℕ). expr_of None line t before ≡ Ok read) (append-nil text)
        (expr_read None line before text read w [] (λ none. refl)).0
