-- How the code keeps a pattern that was read.
use Rattle.std.specs.Prelude.{◌≡◌, ℕ, Bool, true, false, List, Some, IsUtf8, ⊤}
use Rattle.std.specs.Result.{result_ok}
use Rattle.hex.specs.Hex.{decode_of}
use Rattle.hx_outside.specs.Makers.{ExpressionText}
use Rattle.hx_text.specs.declared.kinds.By.{By}
use Rattle.hx_text.specs.declared.kinds.By.TheVariants as by
use Rattle.hx_text.specs.declared.network.Net.{Net}
use Rattle.hx_text.specs.Network.{IsNet, net_of}
use Rattle.hx_sample.specs.Keys.{Range, folded, parts_domain, parts_path, range_of, trimmed}
use Rattle.hx_match.specs.Needles.{IsNeedle}
use Rattle.hx_match.specs.declared.components.Delims.{Delims}
use Rattle.hx_match.specs.declared.components.Delims.TheVariants.{Path, Domain}
use Rattle.hx_match.specs.declared.form.Form.{Form}
use Rattle.hx_match.specs.declared.form.Form.TheVariants as form
use Rattle.hx_match.specs.declared.form.TextForm.{TextForm}
use Rattle.hx_match.specs.declared.form.TextForm.TheVariants as compared
use Rattle.hx_match.specs.declared.ranges.Bounds.{Bounds}

-- the range between bounds
abbrev pub range_of_bounds : Bounds → Range
range_of_bounds bounds = (bounds.least, bounds.greatest)

-- the bytes that are delimiters
abbrev pub is_delim : Delims → ℕ → Bool
is_delim Path = parts_path
is_delim Domain = parts_domain

-- a network is that of its text
pub record IsNetwork (key : List ℕ) (net : Net) : Type 0 where
  pub is : net_of key ≡ Some net
  pub kept : IsNet net

-- an expression is that of its text
pub record IsKeyExpression (ci : Bool) (key : List ℕ) (re : ExpressionText) : Type 0 where
  pub utf8 : IsUtf8 key
  pub is : re ≡ record { text = key; ci = ci }

-- the method that compares bytes
abbrev pub by_of_text : TextForm → By
by_of_text compared.Str = by.Str
by_of_text compared.Beg = by.Beg
by_of_text compared.End = by.End
by_of_text (compared.Sub finder) = by.Sub
by_of_text (compared.SubFolded needle) = by.Sub
by_of_text (compared.Dir part) = by.Dir
by_of_text (compared.Dom part) = by.Dom

-- the method of a pattern
abbrev pub by_of : Form → By
by_of (form.Int bounds) = by.Int
by_of (form.Len bounds) = by.Len
by_of (form.Ip net) = by.Ip
by_of (form.Bin bytes) = by.Bin
by_of (form.Text read) = by_of_text read
by_of (form.Reg re) = by.Reg

-- what was read of a key whose bytes are compared
abbrev pub IsTextRead : Bool → List ℕ → TextForm → Type 0
IsTextRead ci key (compared.Sub finder) = (ci ≡ false) × (finder ≡ key)
IsTextRead ci key (compared.SubFolded needle) = (ci ≡ true) × IsNeedle (folded ci key) needle
IsTextRead ci key (compared.Dir part) = IsNeedle (folded ci (trimmed parts_path key)) part
IsTextRead ci key (compared.Dom part) = IsNeedle (folded ci (trimmed parts_domain key)) part
IsTextRead ci key _ = ⊤

-- what was read of the key
abbrev pub IsRead : Bool → List ℕ → Form → Type 0
IsRead ci key (form.Int bounds) = range_of key ≡ Some (range_of_bounds bounds)
IsRead ci key (form.Len bounds) = range_of key ≡ Some (range_of_bounds bounds)
IsRead ci key (form.Ip net) = IsNetwork key net
IsRead ci key (form.Bin bytes) = result_ok (decode_of key) ≡ Some bytes
IsRead ci key (form.Text read) = IsTextRead ci key read
IsRead ci key (form.Reg re) = IsKeyExpression ci key re
