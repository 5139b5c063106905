-- The record of a generated input, event by event.
use Rattle.std.specs.Prelude.{ℕ, ◌+◌, ◌*◌, ◌/◌, ◌%◌, ◌==◌, List, [], ◌∷◌, ◌++◌, codes, length, if◌then◌else◌}
use Rattle.std.specs.Fmt.{decimal}
use Rattle.std.specs.List.{concat}
use Rattle.hx_gen.specs.Files.{address_text, entry_text}
use Rattle.hx_gen.specs.Numbers.{for_each_to, random_number}

-- ---- single events

-- a connection opens, from the address that a number gives
unfoldable pub open_event : ℕ → ℕ → List ℕ
open_event k y =
    codes "conn " ++ (decimal k ++ (codes " " ++ (address_text y ++ codes " 1000 192.0.2.1 80\n")))

abbrev pub head_text : ℕ → List ℕ
head_text path = codes "GET /" ++ (decimal path ++ codes "/q HTTP/1.1\r\nhost: h\r\n\r\n")

-- a request on it, for what is below a path
unfoldable pub request_event : ℕ → ℕ → List ℕ
request_event k path =
    codes "req " ++ (decimal k ++ (codes " " ++ (decimal (length (head_text path))
    ++ (codes "\n" ++ (head_text path ++ codes "\n")))))

-- it is closed
unfoldable pub close_event : ℕ → List ℕ
close_event k = codes "close " ++ (decimal k ++ codes "\n")

-- a line of the management socket
abbrev pub command_event : List ℕ → List ℕ
command_event line = codes "cli 1 " ++ (line ++ codes "\n")

-- the entries of a path are deleted
unfoldable pub deletion : ℕ → List ℕ
deletion path = command_event (codes "del map paths.map /" ++ decimal path)

-- an entry is added
unfoldable pub addition : ℕ → ℕ → List ℕ
addition path k = command_event (codes "add map paths.map " ++ entry_text path k)

-- what goes before the entries of a new version
unfoldable pub preparation : List (List ℕ)
preparation =
    command_event (codes "prepare map paths.map")
    ∷ command_event (codes "add map @1 paths.map <<") ∷ []

-- one of its entries
unfoldable pub new_entry : ℕ → ℕ → List ℕ
new_entry n j = command_event (entry_text (random_number n (2 * n + j) % n) j)

-- what follows the last one: an empty line, which ends the payload, and then the commit
unfoldable pub commitment : List (List ℕ)
commitment = codes "cli 1\n" ∷ command_event (codes "commit map @1 paths.map") ∷ []

-- ---- all events

-- a request on a connection of its own
abbrev pub visit : ℕ → ℕ → List (List ℕ)
visit n k =
    let y = random_number n (n + k) in
    open_event k y ∷ request_event k (y % (2 * n)) ∷ close_event k ∷ []

-- after each hundredth request another entry takes the place of those of a path
abbrev pub replacement : ℕ → ℕ → List (List ℕ)
replacement n k =
    let path = random_number n (n + k) % n in
    if k % 100 == 0 then deletion path ∷ addition path k ∷ [] else []

-- after the request in the middle a new version takes the place of the whole map
abbrev pub new_version : ℕ → ℕ → List (List ℕ)
new_version n k =
    if k == n / 2 then preparation ++ (for_each_to n (λ j. new_entry n j ∷ []) ++ commitment)
    else []

-- the events of the request with this number, and those that follow it
unfoldable pub step_events : ℕ → ℕ → List (List ℕ)
step_events n k = visit n k ++ (replacement n k ++ new_version n k)

abbrev pub record_events : ℕ → List (List ℕ)
record_events n = for_each_to n (step_events n)

abbrev pub record_text : ℕ → List ℕ
record_text n = concat (record_events n)
