use Rattle.std.proofs.Common.{◌≡◌, ◌+◌, ◌*◌, ◌++◌, rules, arith, ap, sym, ◌∙◌}
use Rattle.hx_gen.specs.Numbers.{next_number}
use Rattle.hx_gen.specs.Record.{new_entry}
use Rattle.hx_gen.proofs.NumberLemmas.{next_is}
use Rattle.hx_gen.proofs.TextLemmas.{one_text_more}
use Rattle.hx_gen.proofs.new_version.append_new_entries.Goals as goal

pub loop-before-preserved : goal.loop-before-preserved
loop-before-preserved c =
    let n = c.args.size in
    let before = c.loop-before.before in
    let appended : c.extend_from_slice.new.self.items
    ≡ c.loop-before.text.items ++ new_entry n (before + 1) = search rules in record {
      number = c.next_number-x.ensures.value ∙ (ap next_number c.loop-before.invariant.number
          ∙ sym (next_is n (2 * n + before) (2 * n + (before + 1)) (omega arith)));
      within = c.next_number-x.ensures.within;
      items = appended ∙ one_text_more (new_entry n) before c.args.text.now.items
          c.loop-before.text.items c.loop-before.invariant.items;
    }
