-- The options by which a proxy adds an address to the head of a request, as rules (HAProxy
-- configuration manual 2.6, section 4.2: `option forwardfor`, `option originalto`).
use Rattle.std.specs.Prelude.{ℕ, ◌==◌, Bool, true, false, ◌&&◌, List, [], ◌∷◌, ◌++◌, codes, length, map, Option, None, Some, is_some, option_and_then, option_map, unwrap_or, if◌then◌else◌}
use Rattle.std.specs.Option.{option_map_or}
use Rattle.std.specs.Str.{bytes_eq}
use Rattle.hx_base.specs.Pairs.{entry_at}
use Rattle.hx_config.specs.Options.{after_options, value_of}
use Rattle.hx_config.specs.declared.addresses.TheConstants.{FETCHES, HEADERS, ADDRESS_OPTIONS}

-- the header that each of these options adds, and the fetch of the address
abbrev pub headers : List (List ℕ × List ℕ)
headers = map (λ row. (row.0.now, row.1.now)) HEADERS

abbrev pub fetches : List (List ℕ × List ℕ)
fetches = map (λ row. (row.0.now, row.1.now)) FETCHES

abbrev pub address_options : List (List ℕ × List ℕ)
address_options = map (λ row. (row.0.now, row.1.now)) ADDRESS_OPTIONS

abbrev pub address_value : List ℕ → List (List ℕ) → Option (List ℕ)
address_value name words = value_of address_options name words

-- the header is there; the address is in this network
abbrev pub found_test : List ℕ → List (List ℕ)
found_test header =
    codes "{" ∷ (codes "req.hdr(" ++ header ++ codes ")") ∷ codes "-m" ∷ codes "found" ∷ codes "}" ∷ []

abbrev pub network_test : (fetch network : List ℕ) → List (List ℕ)
network_test fetch network = codes "{" ∷ fetch ∷ network ∷ codes "}" ∷ []

-- the condition of the rule that adds the header: not where it is there already, with `if-none`,
-- and not from an address of `except`
abbrev pub address_condition : Bool → (header fetch : List ℕ) → Option (List ℕ) → List (List ℕ)
address_condition false header fetch None = []
address_condition true header fetch None = codes "unless" ∷ found_test header
address_condition false header fetch (Some network) = codes "unless" ∷ network_test fetch network
address_condition true header fetch (Some network) =
    codes "unless" ∷ found_test header ++ codes "or" ∷ network_test fetch network

-- the rule of such an option with these words after its name
abbrev pub address_rule : (header fetch : List ℕ) → List (List ℕ) → List (List ℕ)
address_rule header fetch words =
    let name = unwrap_or (address_value (codes "header") words) header in
    codes "http-request" ∷ codes "add-header" ∷ name ∷ (codes "%[" ++ fetch ++ codes "]")
    ∷ address_condition (is_some (address_value (codes "if-none") words)) name fetch
    (address_value (codes "except") words)

-- the words are options of them, and no others
abbrev pub are_address_options : List (List ℕ) → Bool
are_address_options words =
    option_map_or (λ rest. length rest == 0) (after_options address_options 0 words) false

-- the rule of a line, where it is such an option
abbrev pub address_words : List (List ℕ) → Option (List (List ℕ))
address_words (keyword ∷ option ∷ words) =
    if bytes_eq keyword (codes "option") && are_address_options words
    then option_and_then (λ header. option_map (λ fetch. address_rule header fetch words)
    (entry_at fetches option)) (entry_at headers option)
    else None
address_words _ = None
