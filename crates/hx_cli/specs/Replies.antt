-- The replies to commands, and their lines (HAProxy management guide 2.4, section 9.3, `show acl`,
-- `show map`, `get acl`, `get map`, `prepare acl`).
use Rattle.std.specs.Prelude.{ℕ, Bool, List, [], ◌++◌, codes, unwrap_or, Option, if◌then◌else◌}
use Rattle.std.specs.Fmt.{decimal}
use Rattle.std.specs.Int.{to_be_bytes, w64}
use Rattle.std.specs.Option.{option_map_or}
use Rattle.hex.specs.Hex.{encode_lower}
use Rattle.hx_text.specs.declared.kinds.By.{By}
use Rattle.hx_text.specs.Methods.{method_name}
use Rattle.hx_sample.specs.Find.{Entry}
use Rattle.hx_refs.specs.declared.info.RefInfo.{RefInfo}

-- a reply: its code, 0 where the command was done, and its lines
pub record ReplyParts : Type 0 where
  pub code : ℕ
  pub lines : List (List ℕ)

-- ---- entries

-- the number of an entry, as `0x` and sixteen hex digits
abbrev pub number_text : ℕ → List ℕ
number_text number = codes "0x" ++ encode_lower (to_be_bytes w64 number)

-- an entry: its number, its key, and in a map its value; a list of patterns has no values
unfoldable pub entry_text : Bool → Entry → List ℕ
entry_text is_map entry =
    number_text entry.number ++ codes " " ++ entry.key
    ++ (if is_map then codes " " ++ entry.value else [])

-- ---- uses

-- a use: its method, whether it ignores case, and the entry that it finds
unfoldable pub use_text : Bool → By → Bool → Option Entry → List ℕ
use_text is_map method ci found =
    method_name method ++ codes " " ++ (if ci then codes "ci" else codes "cs") ++ codes " "
    ++ option_map_or (entry_text is_map) found (codes "none")

-- ---- references

-- a reference: its number, its file, its versions, and how many entries they have together
unfoldable pub reference_line : (id curr next count : ℕ) → Option (List ℕ) → List ℕ
reference_line id curr next count file =
    decimal id ++ codes " (" ++ unwrap_or file [] ++ codes ") curr_ver=" ++ decimal curr
    ++ codes " next_ver=" ++ decimal next ++ codes " entry_cnt=" ++ decimal count

-- the same of what is told of a reference
abbrev pub reference_text : RefInfo → Option (List ℕ) → List ℕ
reference_text info file = reference_line info.id info.curr info.next info.count file

-- the line that tells which version was prepared
unfoldable pub prepared_text : ℕ → List ℕ
prepared_text version = codes "New version created: " ++ decimal version
