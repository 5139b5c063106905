-- In which part of an index a pattern is kept, and under which key.
use Rattle.std.specs.Prelude.{◌≡◌, ℕ, ◌*◌, ◌^◌, ◌<◌, ◌≤◌, Bool, true, false, List, [], length, slice_index, Option, Some}
use Rattle.std.specs.Int.{w32, w128, to_be_bytes}
use Rattle.hx_text.specs.declared.kinds.By.{By}
use Rattle.hx_text.specs.declared.kinds.By.TheVariants as by
use Rattle.hx_text.specs.declared.address.Ip.TheVariants.{V4, V6}
use Rattle.hx_text.specs.declared.network.Net.{Net}
use Rattle.hx_text.specs.declared.network.Net.TheVariants.{Plain}
use Rattle.hx_text.specs.Network.{net_of}
use Rattle.hx_ebtree.specs.Bits.{bits_of}
use Rattle.hx_match.specs.Patterns.{PatternText}
use Rattle.hx_index.specs.declared.part.Part.{Part}
use Rattle.hx_index.specs.declared.part.Part.TheVariants.{Listed, Keyed, Wide}

-- the bits of a text
abbrev pub text_bits : List ℕ → List Bool
text_bits text = bits_of text (8 * length text)

-- the bits of the prefix of a network, of 32 or of 128 bits, the highest first; a mask has none
abbrev pub network_bits : Option Net → List Bool
network_bits (Some (Plain (V4 network) width)) = bits_of (to_be_bytes w32 network) width
network_bits (Some (Plain (V6 network) width)) = bits_of (to_be_bytes w128 network) width
network_bits _ = []

abbrev pub network_part : Option Net → Part
network_part (Some (Plain (V4 network) width)) = Keyed
network_part (Some (Plain (V6 network) width)) = Wide
network_part _ = Listed

-- Texts that are compared with their case, whole or from their beginning, are in a tree, under
-- their own bits. So are the prefixes of networks, each family in a tree of its own. All other
-- patterns are listed.
abbrev pub part_by : By → Bool → List ℕ → Part
part_by by.Str false text = Keyed
part_by by.Beg false text = Keyed
part_by by.Ip ci text = network_part (net_of text)
part_by _ ci text = Listed

abbrev pub key_by : By → Bool → List ℕ → List Bool
key_by by.Str false text = text_bits text
key_by by.Beg false text = text_bits text
key_by by.Ip ci text = network_bits (net_of text)
key_by _ ci text = []

abbrev pub pattern_part : PatternText → Part
pattern_part pattern = part_by pattern.by pattern.ci pattern.text

abbrev pub pattern_key : PatternText → List Bool
pattern_key pattern = key_by pattern.by pattern.ci pattern.text

abbrev pub is_same_part : Part → Part → Bool
is_same_part Listed Listed = true
is_same_part Keyed Keyed = true
is_same_part Wide Wide = true
is_same_part _ _ = false

-- a text of bytes, not so long that its bits can't be counted
pub record IsKeyText (text : List ℕ) : Type 0 where
  pub bytes : (i : ℕ) → slice_index text i < 256
  pub short : length text ≤ 2 ^ 60

-- the key is that of the pattern, whose text can be one
pub record IsPrepared (key : List Bool) (pattern : PatternText) : Type 0 where
  pub is : key ≡ pattern_key pattern
  pub text : IsKeyText pattern.text
