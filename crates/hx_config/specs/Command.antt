-- The commands of hxconfig.
use Rattle.std.specs.Prelude.{ℕ, List, [], ◌∷◌, codes, ◌&&◌, Option, None, Some, is_some, if◌then◌else◌}
use Rattle.std.specs.Option.{option_copied}
use Rattle.std.specs.Str.{bytes_eq}
use Rattle.hx_text.specs.Number.{number_up_to}
use Rattle.hx_config.specs.declared.command.Command.{Command}
use Rattle.hx_config.specs.declared.command.Task.{Task}
use Rattle.hx_config.specs.declared.command.Task.TheVariants as task

-- what is asked of a file
pub data Question : Type 0 where
  -- what takes traffic in it
  WhatTakesTraffic : Question
  -- the configuration of the frontend of this name, where TLS comes in at this port, as digits
  ConfigurationOf : (name : List ℕ) (tls : Option (List ℕ)) → Question
  -- what there is to tell of it, which is a configuration of hxeval
  WhatToTell : Question

-- a command: its question, and the name of the file
pub record Request : Type 0 where
  pub question : Question
  pub file : List ℕ

-- the command of these words: `frontends FILE`, `lint FILE`, `frontend NAME FILE`, or
-- `frontend NAME FILE --tls PORT`, where PORT is a number to 65535
abbrev pub command_of : List (List ℕ) → Option Request
command_of (word ∷ file ∷ []) =
    if bytes_eq word (codes "frontends")
    then Some (record { question = WhatTakesTraffic; file = file }) else
    (if bytes_eq word (codes "lint")
    then Some (record { question = WhatToTell; file = file }) else None)
command_of (word ∷ name ∷ file ∷ []) =
    if bytes_eq word (codes "frontend")
    then Some (record { question = ConfigurationOf name None; file = file }) else None
command_of (word ∷ name ∷ file ∷ option ∷ port ∷ []) =
    if bytes_eq word (codes "frontend")
    && (bytes_eq option (codes "--tls") && is_some (number_up_to 65535 port))
    then Some (record { question = ConfigurationOf name (Some port); file = file }) else None
command_of _ = None

-- ---- a command as the code keeps it

abbrev pub question_of : Task → Question
question_of task.Frontends = WhatTakesTraffic
question_of (task.Frontend name tls) = ConfigurationOf name.now (option_copied tls)
question_of task.Lint = WhatToTell

abbrev pub request_of : Command → Request
request_of command =
    record { question = question_of command.task; file = command.file.now }
