-- Texts as the code keeps them.
use Rattle.std.specs.Prelude.{ℕ, ◌≤◌, List, take, ⊤}
use Rattle.hx_versions.specs.declared.kept_text.TextBytes.{TextBytes}
use Rattle.hx_versions.specs.declared.kept_text.TextBytes.TheVariants as kept

abbrev pub text_bytes : TextBytes → List ℕ
text_bytes (kept.InPlace len bytes) = take len bytes
text_bytes (kept.Apart octets) = octets

-- a text in place fits it
abbrev pub HasRoom : TextBytes → Type 0
HasRoom (kept.InPlace len bytes) = len ≤ 30
HasRoom (kept.Apart octets) = ⊤
