use Rattle.std.proofs.Common.{ℕ, List, ap, ◌∙◌}
use Rattle.std.specs.Str.{bytes_eq}
use Rattle.hx_diff.specs.Verdicts.{Row, with_request}
use Rattle.hx_diff.specs.declared.rows.Count.{Count}
use Rattle.hx_diff.proofs.VerdictLemmas.{count_of, inserted, keys_inserted, keys_written, written}
use Rattle.hx_diff.proofs.rows.Rows.count_verdicts.Goals as goal

pub invariant_of-self-in-Some : goal.invariant_of-self-in-Some
invariant_of-self-in-Some c =
    let w : Count = record { count = c.saturating_add.result; first = c.in-Some.count.now.first } in
    keys_written (λ k. bytes_eq c.as_slice.result.now k.items) c.self.inside.counts.entries (c.get_mut.follows.lender w).entries w
    (c.get_mut.follows.holds w).0 c.self.invariant

pub invariant_of-self-in-None : goal.invariant_of-self-in-None
invariant_of-self-in-None c =
    keys_inserted c.args.number c.args.old.now c.args.new.now c.requires c.insert.result c.self.inside.counts.entries c.get_mut.follows.lender-at-none.entries
    c.insert.new.self.entries c.in_ok-key-in-None.key (count_of 1 c.args.number) c.self.invariant (ap (λ m. m.entries) c.get_mut.follows.holds-at-none)
    (c.in_ok-key-in-None.ensures.items ∙ c.as_slice-in-None.ensures.value ∙ c.in_ok-set_key.ensures) c.insert.ensures.entries c.insert.ensures.err

pub returns-in-Some : goal.returns-in-Some
returns-in-Some c =
    let w : Count = record { count = c.saturating_add.result; first = c.in-Some.count.now.first } in
    written c.args.number c.args.old.now c.args.new.now c.requires c.as_slice.result.now c.self.inside.counts.entries (c.get_mut.follows.lender w).entries
    c.in-Some.count.now w (c.as_slice.ensures.value ∙ c.in_ok-set_key.ensures) c.self.invariant c.in-Some.ensures.value
    (ap (λ (n : ℕ). count_of n c.in-Some.count.now.first) c.saturating_add.ensures) (c.get_mut.follows.holds w).0
    ∙ ap (λ (rows : List Row). with_request c.args.number c.args.old.now c.args.new.now rows) c.self.view_is

pub returns-in_ok-insert-in-None : goal.returns-in_ok-insert-in-None
returns-in_ok-insert-in-None c =
    inserted c.args.number c.args.old.now c.args.new.now c.requires c.as_slice.result.now c.self.inside.counts.entries c.get_mut.follows.lender-at-none.entries
    c.insert.new.self.entries c.in_ok-key-in-None.key (c.as_slice.ensures.value ∙ c.in_ok-set_key.ensures) c.self.invariant c.in-None.ensures.value
    (ap (λ m. m.entries) c.get_mut.follows.holds-at-none)
    (c.in_ok-key-in-None.ensures.items ∙ c.as_slice-in-None.ensures.value ∙ c.in_ok-set_key.ensures) c.in_ok-insert-in-None.ensures.entries
    ∙ ap (λ (rows : List Row). with_request c.args.number c.args.old.now c.args.new.now rows) c.self.view_is
