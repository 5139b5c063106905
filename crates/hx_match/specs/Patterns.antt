-- Which texts are patterns of a match method, and why the others are none (HAProxy configuration
-- manual 2.4, section 7.1).
use Rattle.std.specs.Prelude.{◌≡◌, ℕ, int_lt, Bool, true, false, List, Option, None, Some, is_some, IsUtf8, Result, Err, ⊤, if◌then◌else◌}
use Rattle.std.specs.Result.{result_ok}
use Rattle.std.specs.Str.{is_utf8}
use Rattle.hex.specs.Hex.{decode_of}
use Rattle.hx_outside.specs.Expressions.{expression}
use Rattle.hx_outside.specs.Makers.{CountsLarge, ExpressionText, MakerState}
use Rattle.hx_outside.specs.declared.pattern_fault.PatFault.{PatFault}
use Rattle.hx_outside.specs.declared.pattern_fault.PatFault.TheVariants.{BadInt, BadRange, BadAddress, BadHex, BadRegex, TooLarge, NotUtf8, NoMemory}
use Rattle.hx_text.specs.declared.kinds.By.{By}
use Rattle.hx_text.specs.declared.kinds.By.TheVariants as by
use Rattle.hx_text.specs.declared.network.Net.{Net}
use Rattle.hx_text.specs.Network.{net_of}
use Rattle.hx_sample.specs.Keys.{Range, range_of}

-- a text that is a pattern of a method, and whether the case of letters is ignored
pub record PatternText : Type 0 where
  pub by : By
  pub ci : Bool
  pub text : List ℕ

-- the network that the text of a pattern writes, by the method that looks at addresses
abbrev pub pattern_network : By → List ℕ → Option Net
pattern_network by.Ip text = net_of text
pattern_network _ text = None

-- ---- why a text is no pattern

-- the fault where there is nothing, and none where there is something
abbrev pub fault_without : {A : Type 0} → PatFault → Option A → Option PatFault
fault_without fault found = if is_some found then None else Some fault

-- the fault of a range: there is none, or it ends before it begins
abbrev pub range_fault : Option Range → Option PatFault
range_fault None = Some BadInt
range_fault (Some (Some low, Some high)) = if int_lt high low then Some BadRange else None
range_fault _ = None

-- why the text is no pattern of the method, and none where it is one
abbrev pub text_fault : By → Bool → List ℕ → Option PatFault
text_fault by.Int ci text = range_fault (range_of text)
text_fault by.Len ci text = range_fault (range_of text)
text_fault by.Ip ci text = fault_without BadAddress (net_of text)
text_fault by.Bin ci text = fault_without BadHex (result_ok (decode_of text))
text_fault by.Reg ci text =
    if is_utf8 text then fault_without BadRegex (expression ci text) else Some NotUtf8
text_fault _ ci text = None

-- ---- what reading a pattern answers

-- the text is handed to a maker of regular expressions
abbrev pub AsksMaker : By → List ℕ → Type 0
AsksMaker method text = (method ≡ by.Reg) × IsUtf8 text

-- Whether a fault may come where a text is read that has this fault of its own, or none: its own;
-- that it is too large, where a maker is asked; out of memory.
abbrev pub MayCome : Option PatFault → Type 0 → PatFault → Type 0
MayCome own Asked TooLarge = Asked
MayCome own Asked NoMemory = ⊤
MayCome own Asked fault = own ≡ Some fault

-- what a maker of regular expressions knows before and after the text `asked` was read
abbrev pub PatternCountsLarge :
    {T : Type 0} → Result T PatFault → ExpressionText → MakerState → MakerState → Type 0
PatternCountsLarge (Err TooLarge) asked before now =
    CountsLarge true (λ text. text ≡ asked) before now
PatternCountsLarge _ asked before now = CountsLarge false (λ text. text ≡ asked) before now
