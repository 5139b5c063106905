-- The arguments of a call: the forms that they may have, what a text of each form stands for, and
-- which texts write that (HAProxy configuration manual 2.4, sections 7.3.1 to 7.3.6). An argument
-- that is given is never taken for one that is missing, also where it is the empty text.
use Rattle.std.specs.Prelude.{◌≡◌, ◌≢◌, ◌⊎◌, ℕ, suc, ◌<◌, ◌≤◌, ℤ, pos, Bool, true, false, ◌==◌, List, [], ◌∷◌, ◌++◌, length, codes, slice_get, Option, None, Some, IsTrue, ⊤}
use Rattle.std.specs.List.{list_all, list_any}
use Rattle.std.specs.Result.{result_ok}
use Rattle.hex.specs.Hex.{decode_of}
use Rattle.httparse.specs.Grammar.{IsToken}
use Rattle.hx_base.specs.Bytes.{ascii}
use Rattle.hx_text.specs.declared.Ip.{Ip}
use Rattle.hx_text.specs.declared.Ip.TheVariants.{V4}
use Rattle.hx_text.specs.declared.Out.{Out}
use Rattle.hx_text.specs.declared.Scope.{Scope}
use Rattle.hx_text.specs.declared.Scope.TheVariants.{Proc, Sess, Txn, Req, Res}
use Rattle.hx_text.specs.declared.VarName.{VarName}
use Rattle.hx_text.specs.Address.{ip_of}
use Rattle.hx_text.specs.Network.{mask_of, width_of}
use Rattle.hx_text.specs.Number.{int_of}
use Rattle.hx_ast.specs.declared.Val.{Val}
use Rattle.hx_ast.specs.declared.Val.TheVariants as val
use Rattle.hx_ast.specs.Convs.{IsNotNegative, IsReadableAs, is_digest_length}
use Rattle.hx_ast.specs.Fetches.{IsIpv4, IsIpv6}
use Rattle.hx_ast.specs.Names.{IsVariable}

-- ---- forms

pub data Form : Type 0 where
  -- any text
  Text : Form
  -- the name of a header
  HeaderName : Form
  -- the name of a variable, with its scope
  Variable : Form
  -- the same, or nothing, which is no variable
  VariableOrNothing : Form
  -- a number of 64 bits and a sign; zeros may lead, as in the integers of a request
  Integer : Form
  -- the number of an occurrence or of a component: any but 0
  Index : Form
  -- a count or an offset, which isn't negative
  Amount : Form
  -- a number, or else a variable
  Operand : Form
  -- `true` or `1`, `false` or `0`
  Boolean : Form
  -- the letters `g` and `i`, in any order and number: whether each is there
  Letters : Form
  -- one byte alone
  Byte : Form
  -- one byte or more
  Delimiters : Form
  -- pairs of hexadecimal digits, which write bytes
  Hexadecimal : Form
  -- an address of one family
  Ipv4Address : Form
  Ipv6Address : Form
  -- a mask of 32 bits: how many of the first are set, or else a mask in dotted decimal
  Ipv4Mask : Form
  -- how many bits, at most so many; no zero leads
  Width : ℕ → Form
  -- the length of a digest of SHA-2 in bits; no zero leads
  DigestLength : Form
  -- a text that can be read as a map's value of this type
  ValueOfMap : Out → Form

-- what a text of this form stands for
abbrev pub Argument : Form → Type 0
Argument Text = List ℕ
Argument HeaderName = List ℕ
Argument Variable = VarName
Argument VariableOrNothing = Option VarName
Argument Integer = ℤ
Argument Index = ℤ
Argument Amount = ℤ
Argument Operand = Val
Argument Boolean = Bool
Argument Letters = Bool × Bool
Argument Byte = ℕ
Argument Delimiters = List ℕ
Argument Hexadecimal = List ℕ
Argument Ipv4Address = Ip
Argument Ipv6Address = Ip
Argument Ipv4Mask = ℕ
Argument (Width most) = ℕ
Argument DigestLength = ℕ
Argument (ValueOfMap out) = List ℕ

-- ---- the texts that write an argument

abbrev pub scope_text : Scope → List ℕ
scope_text Proc = codes "proc"
scope_text Sess = codes "sess"
scope_text Txn = codes "txn"
scope_text Req = codes "req"
scope_text Res = codes "res"

-- a scope, a dot and a name
pub record WritesVariable (text : List ℕ) (variable : VarName) : Type 0 where
  pub text_is : text ≡ scope_text variable.scope ++ ascii "." ∷ variable.name
  pub named : IsVariable variable

abbrev pub WritesVariableOrNothing : List ℕ → Option VarName → Type 0
WritesVariableOrNothing text None = text ≡ []
WritesVariableOrNothing text (Some variable) = WritesVariable text variable

abbrev pub WritesOperand : List ℕ → Val → Type 0
WritesOperand text (val.Number n) = int_of text ≡ Some n
WritesOperand text (val.Var variable) = (int_of text ≡ None) × WritesVariable text variable

abbrev pub WritesBoolean : List ℕ → Bool → Type 0
WritesBoolean text true = (text ≡ codes "true") ⊎ (text ≡ codes "1")
WritesBoolean text false = (text ≡ codes "false") ⊎ (text ≡ codes "0")

abbrev pub is_among : List ℕ → ℕ → Bool
is_among bytes b = list_any (λ a. a == b) bytes

abbrev pub WritesLetters : List ℕ → Bool × Bool → Type 0
WritesLetters text found =
    (list_all (is_among (codes "gi")) text ≡ true)
    × (found.0 ≡ list_any (is_among (codes "g")) text)
    × (found.1 ≡ list_any (is_among (codes "i")) text)

abbrev pub WritesMask : List ℕ → ℕ → Type 0
WritesMask text mask =
    ((bits : ℕ) × (width_of 32 text ≡ Some bits) × (mask ≡ mask_of bits))
    ⊎ ((width_of 32 text ≡ None) × (ip_of text ≡ Some (V4 mask)))

-- the text is of this form, and stands for this
abbrev pub Writes : (form : Form) → List ℕ → Argument form → Type 0
Writes Text text given = given ≡ text
Writes HeaderName text name = (name ≡ text) × IsToken text
Writes Variable text variable = WritesVariable text variable
Writes VariableOrNothing text variable = WritesVariableOrNothing text variable
Writes Integer text n = int_of text ≡ Some n
Writes Index text n = (int_of text ≡ Some n) × (n ≢ pos 0)
Writes Amount text n = (int_of text ≡ Some n) × IsNotNegative n
Writes Operand text operand = WritesOperand text operand
Writes Boolean text b = WritesBoolean text b
Writes Letters text found = WritesLetters text found
Writes Byte text b = text ≡ b ∷ []
Writes Delimiters text bytes = (bytes ≡ text) × (0 < length text)
Writes Hexadecimal text bytes = result_ok (decode_of text) ≡ Some bytes
Writes Ipv4Address text ip = (ip_of text ≡ Some ip) × IsIpv4 ip
Writes Ipv6Address text ip = (ip_of text ≡ Some ip) × IsIpv6 ip
Writes Ipv4Mask text mask = WritesMask text mask
Writes (Width most) text n = width_of most text ≡ Some n
Writes DigestLength text n = (width_of 512 text ≡ Some n) × IsTrue (is_digest_length n)
Writes (ValueOfMap out) text value = (value ≡ text) × IsReadableAs out text

-- ---- the parameters of a call

-- an argument that has to be given, or one that may be missing
pub data Parameter : Type 0 where
  Required : Form → Parameter
  Optional : Form → Parameter

-- what is given for a parameter
abbrev pub Given : Parameter → Type 0
Given (Required form) = Argument form
Given (Optional form) = Option (Argument form)

-- the same of each of them, from the left
abbrev pub AllGiven : List Parameter → Type 0
AllGiven [] = Unit {0}
AllGiven (parameter ∷ parameters) = Given parameter × AllGiven parameters

-- the argument for a parameter, if there is one, writes what is given for it
abbrev pub WritesParameter : (parameter : Parameter) → Option (List ℕ) → Given parameter → Type 0
WritesParameter (Required form) None given = ⊥
WritesParameter (Required form) (Some text) given = Writes form text given
WritesParameter (Optional form) None given = given ≡ None
WritesParameter (Optional form) (Some text) None = ⊥
WritesParameter (Optional form) (Some text) (Some given) = Writes form text given

-- the same of the arguments from a position on
abbrev pub WriteFrom : (parameters : List Parameter) → ℕ → List (List ℕ) → AllGiven parameters
    → Type 0
WriteFrom [] i texts given = ⊤
WriteFrom (parameter ∷ parameters) i texts given =
    WritesParameter parameter (slice_get texts i) given.0
    × WriteFrom parameters (suc i) texts given.1

-- the arguments write what is given for all parameters: there are no more of them, and each is
-- written by the argument at its position
pub record WriteAll (parameters : List Parameter) (texts : List (List ℕ))
    (given : AllGiven parameters) : Type 0 where
  pub count : length texts ≤ length parameters
  pub each : WriteFrom parameters 0 texts given

-- ---- what a name stands for

-- what makes something of what is given for these parameters
abbrev pub Makes : List Parameter → Type 0 → Type 0
Makes [] A = A
Makes (parameter ∷ parameters) A = Given parameter → Makes parameters A

abbrev pub applied : {A : Type 0} → (parameters : List Parameter) → Makes parameters A
    → AllGiven parameters → A
applied [] make given = make
applied (parameter ∷ parameters) make given = applied parameters (make given.0) given.1

-- a row of a table: its names, its parameters, and what is made of what is given for them
pub record Row (A : Type 0) : Type 0 where
  pub names : List (List ℕ)
  pub parameters : List Parameter
  pub make : Makes parameters A

abbrev pub row : {A : Type 0} → List (List ℕ) → (parameters : List Parameter)
    → Makes parameters A → Row A
row names parameters make = record { names = names; parameters = parameters; make = make }

-- the arguments write what a row makes of them
pub record WritesRow {A : Type 0} (row : Row A) (texts : List (List ℕ)) (made : A) : Type 0 where
  pub given : AllGiven row.parameters
  pub written : WriteAll row.parameters texts given
  pub is : made ≡ applied row.parameters row.make given
