-- The files of a generated input: its configuration, and those that this one names.
use Rattle.std.specs.Prelude.{ℕ, ◌+◌, ◌/◌, ◌%◌, ◌^◌, List, [], ◌∷◌, ◌++◌, codes}
use Rattle.std.specs.Fmt.{decimal}
use Rattle.hx_base.specs.Pairs.{NamedBytes}
use Rattle.hx_gen.specs.Numbers.{for_each_to, random_number}

-- the name of the configuration
abbrev pub config_name : List ℕ
config_name = codes "gen.cfg"

abbrev pub config_text : List ℕ
config_text =
    codes "http-request deny if { src -f deny.lst }\n"
    ++ (codes "http-request set-var(txn.b) path,map_beg(paths.map,none)\n"
    ++ (codes "use_backend %[var(txn.b)] if { var(txn.b) -m str -f live.lst }\n"
    ++ codes "default_backend rest\n"))

-- the address in 10.0.0.0/8 whose last three bytes are the lowest 24 bits of a number
abbrev pub address_text : ℕ → List ℕ
address_text x =
    codes "10." ++ (decimal (x / 2 ^ 16 % 256)
    ++ (codes "." ++ (decimal (x / 2 ^ 8 % 256) ++ (codes "." ++ decimal (x % 256)))))

-- an entry of the map: a path, and the one of 16 backends that a number chooses
abbrev pub entry_text : ℕ → ℕ → List ℕ
entry_text path k = codes "/" ++ (decimal path ++ (codes " b" ++ decimal (k % 16)))

unfoldable pub entry_line : ℕ → ℕ → List ℕ
entry_line n k = entry_text (random_number n k % n) k ++ codes "\n"

-- `paths.map`
abbrev pub paths_text : ℕ → List ℕ
paths_text n = for_each_to n (entry_line n)

-- a network, of 24 to 32 bits
unfoldable pub network_line : ℕ → ℕ → List ℕ
network_line n k =
    address_text (random_number n k) ++ (codes "/" ++ (decimal (24 + k % 9) ++ codes "\n"))

-- `deny.lst`
abbrev pub networks_text : ℕ → List ℕ
networks_text n = for_each_to n (network_line n)

-- `live.lst`: half of the backends
abbrev pub live_text : List ℕ
live_text = codes "b0\nb1\nb2\nb3\nb4\nb5\nb6\nb7\n"

-- all of them by their names
abbrev pub files_of : ℕ → NamedBytes
files_of n =
    (config_name, config_text) ∷ (codes "paths.map", paths_text n)
    ∷ (codes "deny.lst", networks_text n) ∷ (codes "live.lst", live_text) ∷ []
