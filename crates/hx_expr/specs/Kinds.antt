-- What pins the tables of types: which values are of a type.
use Rattle.std.specs.Prelude.{◌≡◌, ⊤}
use Rattle.hx_sample.specs.Cast.{kind_of}
use Rattle.hx_sample.specs.declared.sample.Value.{Value}
use Rattle.hx_text.specs.declared.kinds.Kind.{Kind}
use Rattle.hx_text.specs.declared.kinds.Kind.TheVariants as kind

-- the value is of the type, where the type is known
abbrev pub HasKind : Kind → Value → Type 0
HasKind kind.Any v = ⊤
HasKind known v = kind_of v ≡ known
