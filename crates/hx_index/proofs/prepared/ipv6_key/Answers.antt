use Rattle.std.proofs.Common.{ap, ◌∙◌}
use Rattle.hx_ebtree.specs.Bits.{bits_of}
use Rattle.hx_index.proofs.FindingLemmas.{if_ok}
use Rattle.hx_index.proofs.prepared.ipv6_key.Goals as goal

pub returns : goal.returns
returns c =
    if_ok c.new.result _ _ (λ key e. e ∙ ap (λ bytes. bits_of bytes c.args.bits) (c.as_slice.ensures ∙ c.to_be_bytes.ensures)) c.new.ensures
