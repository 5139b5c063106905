use Rattle.std.proofs.Common.{[], length, subst, sym}
use Rattle.hx_rules.specs.Tables.{HasHeads, HasLists}
use Rattle.hx_cases_trace.proofs.LoadedLemmas.{program_is}
use Rattle.hx_cases_trace.proofs.loading.loaded_for.Goals as goal

pub returns-clause-heads : goal.returns-clause-heads
returns-clause-heads g c =
    subst (HasHeads c.in_ok-_program.refs.content.heads)
    (sym (program_is _ [] _ c.args.config.now c.args.prog.now _ _
    (λ files. c.loading.ensures.loads [] _ files c.args.config.now)
    (λ files references gives.
    (c.the_numbers_are_those_of_references.ensures [] _ files c.args.config.now c.args.prog.now _ references c.requires gives).0)
    c.in_ok-_program.ensures.loads))
    c.in_ok-_program.ensures.heads

pub returns-clause-lists : goal.returns-clause-lists
returns-clause-lists g c =
    subst (HasLists (length c.in_ok-_program.refs.content.references))
    (sym (program_is _ [] _ c.args.config.now c.args.prog.now _ _
    (λ files. c.loading.ensures.loads [] _ files c.args.config.now)
    (λ files references gives.
    (c.the_numbers_are_those_of_references.ensures [] _ files c.args.config.now c.args.prog.now _ references c.requires gives).0)
    c.in_ok-_program.ensures.loads))
    c.in_ok-_program.ensures.lists
