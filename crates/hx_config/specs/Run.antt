-- What a run of hxconfig writes, and its status.
use Rattle.std.specs.Prelude.{◌≡◌, ℕ, Bool, true, false, not, ◌==◌, length, List, [], ◌∷◌, Contains, IfSome, Option, None, Some, option_map}
use Rattle.std.specs.Io.KnownBytes.{Appends}
use Rattle.std.specs.declared.alloc.Global.{Global}
use Rattle.std.specs.declared.vec.Vec.{Vec}
use Rattle.hx_base.specs.Pairs.{NamedBytes, pairs_of, value_at}
use Rattle.hx_program.specs.Machine.{texts_of}
use Rattle.hx_outside.specs.Prefixes.{AppendsPrefix}
use Rattle.hx_words.specs.Variable.{Env}
use Rattle.hx_lint.specs.Report.{lint_text}
use Rattle.hx_config.specs.Command.{Question, Request, WhatTakesTraffic, ConfigurationOf, WhatToTell, command_of}
use Rattle.hx_config.specs.Configuration.{selection_of, configuration_text, notes_text}
use Rattle.hx_config.specs.Fates.{Selection}
use Rattle.hx_config.specs.Frontends.{frontends_text}
use Rattle.hx_config.specs.Lines.{Line, lines_of}

-- What a run is given: the environment, what the files hold, where that is known, and the command.
pub record Setting : Type 0 where
  pub env : Env
  pub held : Option NamedBytes
  pub request : Request

abbrev pub setting : List (Vec ℕ Global × Vec ℕ Global) → Option NamedBytes → Request → Setting
setting env held request = record { env = pairs_of env; held = held; request = request }

-- the setting of a run with these words; none where they are no command
abbrev pub setting_of : List (Vec ℕ Global) → List (Vec ℕ Global × Vec ℕ Global)
    → Option NamedBytes → Option Setting
setting_of words env held =
    option_map (λ request. setting env held request) (command_of (texts_of words))

-- What comes of a file: a text on standard output, which may say that something is amiss, and notes
-- on standard error; or nothing, since it has no frontend of the name, or isn't there.
pub data Outcome : Type 0 where
  Written : (text notes : List ℕ) (amiss : Bool) → Outcome
  NoFrontend : Outcome
  NoFile : Outcome

abbrev pub configuration_outcome : (file : List ℕ) → List Line → Option Selection → Outcome
configuration_outcome file lines None = NoFrontend
configuration_outcome file lines (Some chosen) =
    Written (configuration_text chosen lines) (notes_text file chosen lines) false

-- something is told of a file
abbrev pub is_amiss : List ℕ → Bool
is_amiss told = not (length told == 0)

-- the answer to a question over the file of this name and content, under an environment
abbrev pub outcome_by : Question → Env → (file content : List ℕ) → Outcome
outcome_by WhatTakesTraffic env file content =
    Written (frontends_text (lines_of env content)) [] false
outcome_by (ConfigurationOf name tls) env file content =
    configuration_outcome file (lines_of env content) (selection_of name tls (lines_of env content))
outcome_by WhatToTell env file content =
    Written (lint_text env content) [] (is_amiss (lint_text env content))

-- the outcome of a request over a file with this content, if it is there, under an environment
unfoldable pub outcome_of : Env → Request → Option (List ℕ) → Outcome
outcome_of env request None = NoFile
outcome_of env request (Some content) =
    outcome_by request.question env request.file content

abbrev pub text_of : Outcome → List ℕ
text_of (Written text notes amiss) = text
text_of _ = []

abbrev pub notes_of : Outcome → List ℕ
notes_of (Written text notes amiss) = notes
notes_of _ = []

abbrev pub written_status : (amiss : Bool) → ℕ
written_status false = 0
written_status true = 1

abbrev pub status_of : Outcome → Option ℕ
status_of (Written text notes amiss) = Some (written_status amiss)
status_of NoFrontend = Some 3
status_of NoFile = None

-- the file of a setting has this content, as far as what the files hold is known
abbrev pub HasContent : Setting → Option (List ℕ) → Type 0
HasContent s content = IfSome s.held (λ held. content ≡ value_at held s.request.file)

-- this is the outcome of the file of a setting, as far as what the files hold is known
pub record HasOutcome (s : Setting) (outcome : Outcome) : Type 0 where
  pub content : Option (List ℕ)
  pub of_file : HasContent s content
  pub is : outcome ≡ outcome_of s.env s.request content

-- What a run does: what it writes is a prefix of the outcome's text, and of its notes. Where its
-- status is 0, 1 or 3 it writes the whole, and the status is the outcome's.
pub record Ran (s : Setting) (old new notes_old notes_new : Option (List ℕ)) (status : ℕ)
    : Type 0 where
  pub outcome : Outcome
  pub of_setting : HasOutcome s outcome
  pub text : AppendsPrefix old new (text_of outcome)
  pub notes : AppendsPrefix notes_old notes_new (notes_of outcome)
  pub whole : Contains (0 ∷ 1 ∷ 3 ∷ []) status
      → (status_of outcome ≡ Some status) × Appends old new (text_of outcome)
      × Appends notes_old notes_new (notes_of outcome)

-- the status is that of the outcome of what the files hold
pub record HasStatus (s : Setting) (status : ℕ) : Type 0 where
  pub outcome : Outcome
  pub of_setting : HasOutcome s outcome
  pub is : status_of outcome ≡ Some status
