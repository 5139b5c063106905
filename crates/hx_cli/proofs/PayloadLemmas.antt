-- The payload of a session among those of all, which takes a line.
use Rattle.std.proofs.Common.{◌≡◌, ℕ, List, sym, ap, ◌∙◌, inl, inr}
use Rattle.std.specs.Prelude.{Option, None, Some}
use Rattle.std.specs.BTreeMap as tree
use Rattle.std.specs.BTreeMap.{BTreeMap, WritesThrough}
use Rattle.std.specs.Cmp.{nat_cmp_total}
use Rattle.std.specs.FinMap as finite
use Rattle.std.specs.FinMap.{from_entries, nat_cmp-IsAntisymmetric, same_map}
use Rattle.std.specs.Ordering.{nat_cmp}
use Rattle.hx_sample.proofs.MapLemmas.{answers_alike, inserted_apart, inserted_tied, seen_written, tied_or_apart}
use Rattle.hx_cli.specs.Payloads.{with_line, OpenPayloads, PayloadParts}

-- what is there is inserted again
same_inserted : (all : OpenPayloads) (session : ℕ) (payload : PayloadParts) → finite.get all session ≡ Some payload
    → finite.insert all session payload ≡ all
same_inserted all session payload there =
    same_map nat_cmp_total nat_cmp-IsAntisymmetric _ _ (λ q. elim (tied_or_apart (nat_cmp q session)) [
      | inl tied ↦
          inserted_tied nat_cmp_total all session payload q tied ∙ sym there
          ∙ ap (finite.get all) (sym (nat_cmp-IsAntisymmetric q session tied))
      | inr apart ↦ inserted_apart nat_cmp_total all session payload q apart
    ])

here : (m : BTreeMap ℕ PayloadParts) (all : OpenPayloads) (session : ℕ) (found : Option PayloadParts)
    → from_entries m.entries ≡ all → found ≡ tree.get nat_cmp m session → finite.get all session ≡ found
here m all session found seen is =
    ap (λ payloads. finite.get payloads session) (sym seen) ∙ answers_alike nat_cmp_total m session ∙ sym is

pub line_taken : (m n : BTreeMap ℕ PayloadParts) (all : OpenPayloads) (session : ℕ) (text : List ℕ) (old new : PayloadParts)
    → from_entries m.entries ≡ all → Some old ≡ tree.get nat_cmp m session
    → WritesThrough nat_cmp (nat_cmp session) m new n → new ≡ with_line text old
    → (payload : PayloadParts) → finite.get all session ≡ Some payload
    → from_entries n.entries ≡ finite.insert all session (with_line text payload)
line_taken m n all session text old new seen there written taken payload given =
    let found : Some old ≡ Some payload = sym (here m all session (Some old) seen there) ∙ given in
    let same : old ≡ payload = cc in
    seen_written nat_cmp_total nat_cmp-IsAntisymmetric m n session old new there written
    ∙ ap (λ payloads. finite.insert payloads session new) seen
    ∙ ap (λ p. finite.insert all session p) (taken ∙ ap (with_line text) same)

pub line_not_taken : (m n : BTreeMap ℕ PayloadParts) (all : OpenPayloads) (session : ℕ) (old new : PayloadParts)
    → from_entries m.entries ≡ all → Some old ≡ tree.get nat_cmp m session
    → WritesThrough nat_cmp (nat_cmp session) m new n → new ≡ old → from_entries n.entries ≡ all
line_not_taken m n all session old new seen there written same =
    seen_written nat_cmp_total nat_cmp-IsAntisymmetric m n session old new there written
    ∙ ap (λ payloads. finite.insert payloads session new) seen
    ∙ ap (λ p. finite.insert all session p) same
    ∙ same_inserted all session old (here m all session (Some old) seen there)

-- a session without a payload
pub none_taken : (m : BTreeMap ℕ PayloadParts) (all : OpenPayloads) (session : ℕ) (payload : PayloadParts)
    → from_entries m.entries ≡ all → None ≡ tree.get nat_cmp m session → finite.get all session ≡ Some payload → ⊥
none_taken m all session payload seen none given =
    let found : None ≡ Some payload = sym (here m all session None seen none) ∙ given in cc
