use Rattle.hx_refs.proofs.refs.Refs.are_numbered.Goals as goal

pub returns-clause-versions : goal.returns-clause-versions
returns-clause-versions c = rw (← c.self.view_is) c.are_numbered.ensures.versions

pub returns-clause-entries : goal.returns-clause-entries
returns-clause-entries c = rw (← c.self.view_is) c.are_numbered.ensures.entries
