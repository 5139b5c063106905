use Rattle.std.proofs.Common.{◌||◌, ◌-◌, ◌+◌, ◌≡◌, length, take, sym, ap, ap₂, ◌∙◌, arith}
use Rattle.std.specs.List.{list_any}
use Rattle.std.proofs.lemmas.List.{take_rest}
use Rattle.hx_base.specs.Bytes.{is_bad_value_byte}
use Rattle.hx_text.proofs.ValueLemmas.{list_any-parts}
use Rattle.hx_text.proofs.values.has_bad_byte_in_ends.Goals as goal

pub returns : goal.returns
returns c =
    let bytes = c.args.value.now in
    let at = length bytes - c.args.size in
    let more = c.args.size - at in
    let whole : c.args.size ≡ at + more = omega (arith, c.requires.few, c.requires.enough) in
    ap₂ ◌||◌ (c.has_bad_byte.ensures ∙ ap (λ n. list_any is_bad_value_byte (take n bytes)) whole)
    (c.has_bad_byte-2.ensures ∙ ap (list_any is_bad_value_byte) (take_rest bytes at))
    ∙ sym (list_any-parts is_bad_value_byte bytes at more)
