-- How the code keeps the terms of conditions.
use Rattle.hx_ast.specs.declared.statement.AclUse.{AclUse}
use Rattle.hx_ast.specs.declared.statement.AclUse.TheVariants as acl
use Rattle.hx_acl.specs.declared.term.TermAcl.{TermAcl}
use Rattle.hx_acl.specs.declared.term.TermAcl.TheVariants.{Named, Own}

-- the ACL that was built
abbrev pub use_of : TermAcl → AclUse
use_of (Named name) = acl.Named name
use_of (Own test) = acl.Own test
