use Rattle.hx_sample.specs.Changes.{has_key}
use Rattle.hx_refs.proofs.TableLemmas.{deleted, same_content}
use Rattle.hx_refs.proofs.refs.Refs.delete_all.Goals as goal

pub returns : goal.returns
returns c =
    deleted c.del_key.result c.args.self.now.content c.del_key.new.self.content c.args.r (has_key c.args.key.now)
    c.del_key.ensures.answer c.del_key.ensures.ok
    (same_content c.del_key.result c.args.self.now c.del_key.new.self c.del_key.ensures.err)
