-- What callers see of a node.
use Rattle.std.specs.Prelude.{◌≡◌, ℕ, Bool, List, refl}
use mathlib.Core.Path.{sym, ap, ◌∙◌}
use Rattle.hx_pool.specs.declared.links.Links.{Links}
use Rattle.hx_ebtree.specs.declared.node.Node.{Node}

module _ {V : Type 0} where
  abbrev pub key_of : Node V → List Bool
  key_of n = n.key

  abbrev pub entry_of : Node V → ℕ
  entry_of n = n.entry

  abbrev pub value_of : Node V → V
  value_of n = n.value

  abbrev pub links_of : Node V → Links
  links_of n = n.links

  -- two nodes that are equal but for their links
  abbrev pub IsSameNode : Node V → Node V → Type 0
  IsSameNode a b = b ≡ record a { links = b.links }

  pub same_self : (a : Node V) → IsSameNode a a
  same_self a = refl

  pub same_back : (a b : Node V) → IsSameNode a b → IsSameNode b a
  same_back a b e = sym (ap (λ (n : Node V). record n { links = a.links }) e)

  pub same_on : (a b c : Node V) → IsSameNode a b → IsSameNode b c → IsSameNode a c
  same_on a b c e f = f ∙ ap (λ (n : Node V). record n { links = c.links }) e
