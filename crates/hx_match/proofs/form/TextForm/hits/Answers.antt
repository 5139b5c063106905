use Rattle.hx_sample.specs.Keys.{folded}
use Rattle.hx_match.proofs.ComponentLemmas.{component_of_key}
use Rattle.hx_match.proofs.TextLemmas.{part_of_key}
use Rattle.hx_match.specs.declared.components.Delims.TheVariants.{Path, Domain}
use Rattle.hx_match.proofs.form.TextForm.hits.Goals as goal

pub returns-in-SubFolded : goal.returns-in-SubFolded
returns-in-SubFolded c =
    let read = rw c.in-SubFolded.is at c.requires in
    rw c.in-SubFolded.is
    (part_of_key c.args.ci c.args.key.now c.in-SubFolded.needle.bytes.items c.args.text.now c.has_part_folded.result
    c.has_part_folded.ensures read.0 read.1.is)

pub returns-in-Dir : goal.returns-in-Dir
returns-in-Dir c =
    let read = rw c.in-Dir.is at c.requires in
    rw c.in-Dir.is
    (component_of_key Path c.args.ci c.args.key.now c.in-Dir.part.bytes.items (folded c.args.ci c.args.text.now)
    c.has_component.result c.has_component.ensures read.is)

pub returns-in-Dom : goal.returns-in-Dom
returns-in-Dom c =
    let read = rw c.in-Dom.is at c.requires in
    rw c.in-Dom.is
    (component_of_key Domain c.args.ci c.args.key.now c.in-Dom.part.bytes.items (folded c.args.ci c.args.text.now)
    c.has_component-in-Dom.result c.has_component-in-Dom.ensures read.is)
