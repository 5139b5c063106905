-- The first line that is refused is so whatever follows it.
use Rattle.std.proofs.Common.{◌≡◌, ◌+◌, ℕ, List, [], ◌∷◌, ◌++◌, length, take, drop, sym, ap, ◌∙◌, append_assoc, arith}
use Rattle.std.proofs.Math.Seq.{take-append-add}
use Rattle.std.proofs.lemmas.List.{take-append-drop}
use Rattle.hx_calls.specs.Known.{Known}
use Rattle.hx_load.specs.Configuration.{IsFirstRefused, Refusal}
use Rattle.hx_words.specs.Variable.{Env}

pub refused_again : (env : Env) (lines other : List (List ℕ)) (known : Known) (refusal : Refusal)
    → IsFirstRefused env 1 lines known refusal → take refusal.line other ≡ take refusal.line lines
    → IsFirstRefused env 1 other known refusal
refused_again env lines other known refusal f same =
    let count : refusal.line ≡ length f.lines_before + 1 = omega (arith, f.number) in
    let n = length f.lines_before + 1 in
    let begins : take n lines ≡ f.lines_before ++ f.line ∷ [] =
    ap (λ (ls : List (List ℕ)). take n ls) f.lines_are
    ∙ take-append-add f.lines_before (f.line ∷ f.lines_after) 1 in
    let there : take n other ≡ f.lines_before ++ f.line ∷ [] = (rw count at same) ∙ begins in
    record {
      lines_before = f.lines_before;
      line = f.line;
      lines_after = drop n other;
      lines_are =
          sym (take-append-drop n other) ∙ ap (λ (ls : List (List ℕ)). ls ++ drop n other) there
          ∙ append_assoc f.lines_before (f.line ∷ []) (drop n other);
      read = f.read;
      accepted = f.accepted;
      number = f.number;
      refused = f.refused;
    }
