-- Lines outside a payload.
use Rattle.std.proofs.Common.{◌≡◌, ◌≢◌, ℕ, List, [], ◌∷◌, refl}
use Rattle.std.specs.Prelude.{None}
use Rattle.hx_refs.specs.References.{References}
use Rattle.hx_cli.specs.Commands.{command_of}
use Rattle.hx_cli.specs.Effects.{refused}
use Rattle.hx_cli.specs.Payloads.{outside_line, replied, OpenPayloads}

-- words of no command
pub bad_line : (session : ℕ) (words : List (List ℕ)) (payloads : OpenPayloads) (refs : References) → words ≢ []
    → command_of words ≡ None
    → outside_line session words payloads refs ≡ replied payloads (refused 20 refs)
bad_line session [] payloads refs some none = absurd (some refl)
bad_line session (word ∷ words) payloads refs some none = rw none refl
