use Rattle.std.proofs.Common.{[]}
use Rattle.std.proofs.lemmas.List.Elements.{All-nil}
use Rattle.hx_pool.specs.Chain.{links_at}
use Rattle.hx_ebtree.specs.Node.{links_of}
use Rattle.hx_ebtree.specs.Tree.{leaves_of, forks_of}
use Rattle.hx_index.specs.declared.index.Index.{Index}
use Rattle.hx_index.specs.declared.part.Part.TheVariants.{Listed, Keyed, Wide}
use Rattle.hx_index.specs.Index.{HasNode, HoldsPart, IsOfUse}
use Rattle.hx_index.proofs.index.Index.new.Goals as goal

pub returns-clause-holds : goal.returns-clause-holds
returns-clause-holds c nodes =
    let index : Index = record { by = c.args.by; ci = c.args.ci; listed = c.new.result; keyed = c.new-2.result; wide = c.new-3.result } in
    record {
      parts = λ part. elim part as (λ p. HoldsPart nodes index p []) [
        | Listed ↦ c.new.ensures (links_at links_of nodes)
        | Keyed ↦ c.new-2.ensures (leaves_of nodes) (forks_of nodes)
        | Wide ↦ c.new-3.ensures (leaves_of nodes) (forks_of nodes)
      ];
      distinct = tt;
      found = All-nil (HasNode nodes);
      uses = All-nil (IsOfUse c.args.by c.args.ci);
    }
