use Rattle.std.proofs.Common.{◌≡◌, ℕ, Err, ap, subst}
use Rattle.hx_base.specs.Pairs.{pairs_of}
use Rattle.hx_filling.specs.Refusals.{bad_pattern}
use Rattle.hx_load.specs.Loads.{IsRefusedByLines}
use Rattle.hx_trace.proofs.statements.Explained.new.Goals as goal

-- the only code that lines may be refused with
pub returns-in-Err-Refused-clause-bad_pattern : goal.returns-in-Err-Refused-clause-bad_pattern
returns-in-Err-Refused-clause-bad_pattern g c =
    λ is.
    let env = pairs_of c.args.env.now in
    let config = c.args.config.now in
    let line : ℕ = c.in-Err-Refused.field-0-0 in
    let code : ℕ = c.in-Err-Refused.field-0-1 in
    let refused : IsRefusedByLines env config (record { line = line; code = code }) =
    c.in-Err-Refused.ensures.refused line code (ap Err c.in-Err-Refused.field-0-is) in
    let coded : code ≡ bad_pattern = c.requires (record { line = line; code = code }) refused in
    record {
      line = line;
      refused = subst (λ (n : ℕ). IsRefusedByLines env config (record { line = line; code = n })) coded
          refused;
    }
