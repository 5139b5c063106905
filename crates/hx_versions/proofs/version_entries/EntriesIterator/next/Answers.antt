use Rattle.std.proofs.Common.{ℕ, ◌-◌, ◌∷◌, length, Option, sym, ap, ◌∙◌, arith}
use Rattle.hx_sample.specs.Find.{Entry}
use Rattle.hx_versions.specs.RestEntries.{rest_entries}
use Rattle.hx_versions.proofs.RestLemmas.{entries_after, rest_after, rest_none, rest_starts, start_live}
use Rattle.hx_versions.proofs.version_entries.EntriesIterator.next.Goals as goal

pub entry_in-stored-requires-clause-live : goal.entry_in-stored-requires-clause-live
entry_in-stored-requires-clause-live c =
    let s = c.self.inside in
    start_live s.entries.now c.in-Some.slot s.left (rest_starts s.entries.now s.next s.left c.in-Some.slot c.self.invariant c.in-Some.is)

pub overflow_sub-self : goal.overflow_sub-self
overflow_sub-self c =
    let s = c.self.inside in
    let a = rest_starts s.entries.now s.next s.left c.in-Some.slot c.self.invariant c.in-Some.is in
    omega (arith, a.count)

pub invariant_of-self : goal.invariant_of-self
invariant_of-self c =
    let s = c.self.inside in
    let a = rest_starts s.entries.now s.next s.left c.in-Some.slot c.self.invariant c.in-Some.is in
    rest_after s.entries.now c.in-Some.slot s.left a c.entry_in-stored.result.now c.entry_in-stored.ensures (s.left - 1) (omega (arith, a.count))

pub returns-in_default-clause-steps : goal.returns-in_default-clause-steps
returns-in_default-clause-steps c =
    let s = c.self.inside in
    let none = ap (λ (o : Option ℕ). rest_entries s.entries.now o s.left) c.in_default.is ∙ rest_none s.entries.now s.left in
    rw (← c.self.view_is) (none, none)

pub returns-clause-steps : goal.returns-clause-steps
returns-clause-steps c =
    let s = c.self.inside in
    let slot = c.in-Some.slot in
    let a = rest_starts s.entries.now s.next s.left slot c.self.invariant c.in-Some.is in
    let stored = c.entry_in-stored.result.now in
    let left = rest_entries s.entries.now stored.links.next (s.left - 1) in
    rw (← c.self.view_is) (ap (λ (o : Option ℕ). rest_entries s.entries.now o s.left) c.in-Some.is
    ∙ entries_after s.entries.now slot s.left a stored c.entry_in-stored.ensures (s.left - 1) (omega (arith, a.count))
    ∙ ap (λ (x : Entry). x ∷ left) (sym c.hit.ensures))

pub returns-clause-goes : goal.returns-clause-goes
returns-clause-goes c =
    let s = c.self.inside in
    let slot = c.in-Some.slot in
    let a = rest_starts s.entries.now s.next s.left slot c.self.invariant c.in-Some.is in
    let stored = c.entry_in-stored.result.now in
    let shorter = ap length (ap (λ (o : Option ℕ). rest_entries s.entries.now o s.left) c.in-Some.is ∙ entries_after s.entries.now slot s.left a stored c.entry_in-stored.ensures (s.left - 1) (omega (arith, a.count))) in
    rw (← c.self.view_is) (record {
      on = λ finite. (tt, tt, omega (arith, shorter));
      keeps = tt;
      rests = λ finite. tt;
    })
