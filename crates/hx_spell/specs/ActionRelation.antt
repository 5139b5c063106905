-- Actions, and the words that spell them (HAProxy configuration manual 2.4, section 4.2).
use Rattle.std.specs.Prelude.{◌≡◌, ◌⊎◌, ℕ, Bool, true, false, List, [], ◌∷◌, ◌++◌, codes, Option, None, Some, if◌then◌else◌}
use Rattle.httparse.specs.Grammar.{IsToken}
use Rattle.hx_text.specs.declared.VarName.{VarName}
use Rattle.hx_words.specs.Spelling.{SpellsCall}
use Rattle.hx_ast.specs.declared.Action.{Action}
use Rattle.hx_ast.specs.declared.Action.TheVariants as action
use Rattle.hx_ast.specs.declared.Expr.{Expr}
use Rattle.hx_ast.specs.declared.Part.{Part}
use Rattle.hx_ast.specs.declared.RedirectKind.{RedirectKind}
use Rattle.hx_ast.specs.declared.RedirectKind.TheVariants as kind
use Rattle.hx_spell.specs.Actions.{redirect_status_of, status_of}
use Rattle.hx_calls.specs.ExpressionRelation.{HasPosition, WritesExpr}
use Rattle.hx_calls.specs.FormatRelation.{WritesFormat}
use Rattle.hx_calls.specs.Forms.{WritesVariable}
use Rattle.hx_calls.specs.Known.{Known, Reading, reading}

-- ---- parts

-- a word is the name of an action, perhaps with empty parentheses
abbrev pub IsName : List ℕ → List ℕ → Type 0
IsName name word = SpellsCall None (record { name = name; args = [] }) word

-- a word is the name of an action with one argument in parentheses
abbrev pub IsCall : List ℕ → List ℕ → List ℕ → Type 0
IsCall name arg word = SpellsCall None (record { name = name; args = arg ∷ [] }) word

abbrev pub IsStatusWord : List ℕ → Type 0
IsStatusWord word = (word ≡ codes "status") ⊎ (word ≡ codes "deny_status")

-- a number that may be there: none, or a word and the number
abbrev pub SpellNumber : (List ℕ → Type 0) → (List ℕ → Option ℕ) → Option ℕ → List (List ℕ) → Type 0
SpellNumber IsWord read None words = words ≡ []
SpellNumber IsWord read (Some n) words =
    (word : List ℕ) × (text : List ℕ) × (words ≡ word ∷ text ∷ []) × IsWord word
    × (read text ≡ Some n)

abbrev pub kind_text : RedirectKind → List ℕ
kind_text kind.Location = codes "location"
kind_text kind.Prefix = codes "prefix"
kind_text kind.Scheme = codes "scheme"

-- the words of a redirect after its name
pub record SpellRedirect (line : ℕ) (before : Known) (words : List (List ℕ)) (read : Reading Action)
    : Type 0 where
  pub kind : RedirectKind
  pub text : List ℕ
  pub format : Reading (List Part)
  pub written : WritesFormat line before text format
  pub status : Option ℕ
  pub status_words : List (List ℕ)
  pub with_status : SpellNumber (λ word. word ≡ codes "code") redirect_status_of status status_words
  pub drops : Bool
  pub words_are : words
      ≡ (kind_text kind ∷ text ∷ status_words) ++ (if drops then codes "drop-query" ∷ [] else [])
  pub is : read ≡ reading (action.Redirect kind format.value status drops) format.known

-- ---- actions by what they take

-- actions that take a format, by their names
pub data TakesFormat : List ℕ → (List Part → Action) → Type 0 where
  SetMethod : TakesFormat (codes "set-method") action.SetMethod
  SetUri : TakesFormat (codes "set-uri") action.SetUri
  SetPath : TakesFormat (codes "set-path") action.SetPath
  SetQuery : TakesFormat (codes "set-query") action.SetQuery

-- actions that take the name of a header and a format
pub data TakesHeaderFormat : List ℕ → (List ℕ → List Part → Action) → Type 0 where
  SetHeader : TakesHeaderFormat (codes "set-header") action.SetHeader
  AddHeader : TakesHeaderFormat (codes "add-header") action.AddHeader

-- actions that take the name of a header, a regular expression, and a format
pub data TakesReplacement : List ℕ → (List ℕ → List ℕ → List Part → Action) → Type 0 where
  ReplaceHeader : TakesReplacement (codes "replace-header") action.ReplaceHeader
  ReplaceValue : TakesReplacement (codes "replace-value") action.ReplaceValue

-- actions that take a file, with two columns or with one, and a format
pub data TakesFileFormat : List ℕ → Bool → (ℕ → List Part → Action) → Type 0 where
  AddAcl : TakesFileFormat (codes "add-acl") false action.AddAcl
  DelAcl : TakesFileFormat (codes "del-acl") false action.DelAcl
  DelMap : TakesFileFormat (codes "del-map") true action.DelMap

-- ---- actions

-- the words of an action, the word of its name first
pub data SpellAction (line : ℕ) (before : Known) : List (List ℕ) → Reading Action → Type 0 where
  AllowWords : (word : List ℕ) → IsName (codes "allow") word
      → SpellAction line before (word ∷ []) (reading action.Allow before)
  DenyWords : (word : List ℕ) (status : Option ℕ) (words : List (List ℕ))
      → IsName (codes "deny") word → SpellNumber IsStatusWord status_of status words
      → SpellAction line before (word ∷ words) (reading (action.Deny status) before)
  FormatWords : (name word text : List ℕ) (make : List Part → Action) (format : Reading (List Part))
      → TakesFormat name make → IsName name word
      → WritesFormat line before text format
      → SpellAction line before (word ∷ text ∷ []) (reading (make format.value) format.known)
  HeaderFormatWords : (name word header text : List ℕ) (make : List ℕ → List Part → Action)
      (format : Reading (List Part))
      → TakesHeaderFormat name make → IsName name word
      → IsToken header → WritesFormat line before text format
      → SpellAction line before (word ∷ header ∷ text ∷ [])
      (reading (make header format.value) format.known)
  DelHeaderWords : (word header : List ℕ) → IsName (codes "del-header") word → IsToken header
      → SpellAction line before (word ∷ header ∷ []) (reading (action.DelHeader header) before)
  ReplacementWords : (name word header expression text : List ℕ)
      (make : List ℕ → List ℕ → List Part → Action) (format : Reading (List Part))
      → TakesReplacement name make → IsName name word
      → IsToken header → WritesFormat line before text format
      → SpellAction line before (word ∷ header ∷ expression ∷ text ∷ [])
      (reading (make header expression format.value) format.known)
  SetVarWords : (arg word text : List ℕ) (variable : VarName) (expr : Reading Expr)
      → IsCall (codes "set-var") arg word → WritesVariable arg variable
      → WritesExpr None line before text expr
      → SpellAction line before (word ∷ text ∷ [])
      (reading (action.SetVar variable expr.value) expr.known)
  UnsetVarWords : (arg word : List ℕ) (variable : VarName)
      → IsCall (codes "unset-var") arg word → WritesVariable arg variable
      → SpellAction line before (word ∷ []) (reading (action.UnsetVar variable) before)
  FileFormatWords : (name arg word text : List ℕ) (two : Bool) (make : ℕ → List Part → Action)
      (file : Reading ℕ) (format : Reading (List Part))
      → TakesFileFormat name two make → IsCall name arg word
      → HasPosition line arg two before file → WritesFormat line file.known text format
      → SpellAction line before (word ∷ text ∷ [])
      (reading (make file.value format.value) format.known)
  SetMapWords : (arg word key_text value_text : List ℕ) (file : Reading ℕ)
      (key value : Reading (List Part))
      → IsCall (codes "set-map") arg word → HasPosition line arg true before file
      → WritesFormat line file.known key_text key → WritesFormat line key.known value_text value
      → SpellAction line before (word ∷ key_text ∷ value_text ∷ [])
      (reading (action.SetMap file.value key.value value.value) value.known)
  RedirectWords : (word : List ℕ) (words : List (List ℕ)) (read : Reading Action)
      → IsName (codes "redirect") word → SpellRedirect line before words read
      → SpellAction line before (word ∷ words) read
  StrictModeWords : (word : List ℕ) (on : Bool)
      → IsName (codes "strict-mode") word
      → SpellAction line before (word ∷ (if on then codes "on" else codes "off") ∷ [])
      (reading (action.StrictMode on) before)
