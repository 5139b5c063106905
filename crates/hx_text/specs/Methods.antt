-- The match methods of patterns: their order, their names, and the types of the values that they
-- look at (HAProxy configuration manual 2.4, section 7.1).
use Rattle.std.specs.Prelude.{ℕ, List, [], ◌∷◌, ◌++◌, codes}
use Rattle.hx_text.specs.declared.kinds.By.{By}
use Rattle.hx_text.specs.declared.kinds.By.TheVariants as by
use Rattle.hx_text.specs.declared.kinds.Kind.{Kind}
use Rattle.hx_text.specs.declared.kinds.Kind.TheVariants as kind

-- the methods that take patterns, in the order in which uses are told
abbrev pub pattern_methods : List By
pattern_methods =
    by.Int ∷ by.Ip ∷ by.Bin ∷ by.Len ∷ by.Str ∷ by.Beg ∷ by.End ∷ by.Sub ∷ by.Dir ∷ by.Dom ∷ by.Reg
    ∷ []

-- all methods, in their order
abbrev pub methods : List By
methods = pattern_methods ++ by.Found ∷ by.Bool ∷ []

-- the table of methods: the place among all, the name, and the kind of the values that it looks at
abbrev pub method_row : By → ℕ × List ℕ × Kind
method_row by.Int = (0, codes "int", kind.Int)
method_row by.Ip = (1, codes "ip", kind.Ip)
method_row by.Bin = (2, codes "bin", kind.Bin)
method_row by.Len = (3, codes "len", kind.Str)
method_row by.Str = (4, codes "str", kind.Str)
method_row by.Beg = (5, codes "beg", kind.Str)
method_row by.End = (6, codes "end", kind.Str)
method_row by.Sub = (7, codes "sub", kind.Str)
method_row by.Dir = (8, codes "dir", kind.Str)
method_row by.Dom = (9, codes "dom", kind.Str)
method_row by.Reg = (10, codes "reg", kind.Str)
method_row by.Found = (11, codes "found", kind.Any)
method_row by.Bool = (12, codes "bool", kind.Bool)

-- the place of a method among all
abbrev pub method_number : By → ℕ
method_number method = (method_row method).0

abbrev pub method_name : By → List ℕ
method_name method = (method_row method).1

-- the kind of the values that a method looks at
abbrev pub kind_by : By → Kind
kind_by method = (method_row method).2
