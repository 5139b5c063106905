-- Which expression a text is, by what the library says of the texts that it takes and refuses.
use Rattle.std.proofs.Common.{◌≡◌, ◌≢◌, ◌⊎◌, inl, inr, ℕ, ◌≤◌, ◌<◌, ◌∙◌, ap, subst₂, refl, false, Bool, Option, Some, None, List, length, IsSome, IsSomeAnd, IfSome, chars, is_some}
use Rattle.std.proofs.lemmas.Bool.{le-leb, lt-leb}
use Rattle.regex.specs.Bytes.{regex_pattern, regex_source, regex_config, IsReadFromSource}
use Rattle.regex.specs.Failures.{IsPattern}
use Rattle.regex.specs.Names.{names_of}
use Rattle.regex.specs.Patterns.{Re, Config, SameCaptures, default_config, Reads, Refuses}
use Rattle.regex.specs.Views.{builder_source, builder_config, builder_flags, with_flags}
use Rattle.regex.specs.declared.builder.RegexBuilder.{RegexBuilder}
use Rattle.regex.specs.declared.bytes.regex.Regex.{Regex}
use Rattle.regex_syntax.specs.Brackets.{Nested}
use Rattle.regex_syntax.specs.Grammar.{Names, group_count, read}
use Rattle.regex_syntax.specs.declared.error.ErrorKind.{ErrorKind}
use Rattle.regex_syntax.specs.declared.error.ErrorKind.TheVariants.{OutOfMemory, NestLimitExceeded}
use Rattle.hx_outside.specs.Expressions.{config_of, within_bound, expression, IsExpression}

-- the builder is to make the expression of this text, and reads it by these options
pub record IsBuilderOf (ci : Bool) (text : List ℕ) (builder : RegexBuilder) : Type 0 where
  pub source : builder_source builder ≡ text
  pub config : record (builder_config builder) { utf8 = false } ≡ config_of ci

-- a builder of the text with the library's own options but for the case of letters
pub builder_with_case : (ci : Bool) (text : List ℕ) (plain cased : RegexBuilder)
    → builder_source plain ≡ text → builder_config plain ≡ default_config
    → cased ≡ with_flags plain (record (builder_flags plain) { case_insensitive = ci })
    → IsBuilderOf ci text cased
builder_with_case ci text plain cased source config is = record {
  source = ap builder_source is ∙ source;
  config =
      ap (λ (b : RegexBuilder). record (builder_config b) { utf8 = false }) is
      ∙ ap (λ (c : Config).
      record c { flags = record (c.flags) { case_insensitive = ci }; utf8 = false }) config;
}

-- what was read is within the bound on nesting, and matches the same
pub bound_met : (o : Option (Nested Re × Names)) (made : Re) (names : Names) (count : ℕ)
    → IsSomeAnd o (λ (re, found).
    (re.depth ≤ 250) × SameCaptures made re.value × (names ≡ found) × (count ≤ length names))
    → (e : Re) × (within_bound o ≡ Some e) × SameCaptures made e
bound_met None made names count h = absurd h
bound_met (Some found) made names count h =
    (found.0.value, rw (le-leb _ _ h.0) refl, h.1)

-- what is refused for another cause than memory is no expression within the bound
pub bound_missed : (o : Option (Nested Re × Names)) (kind : ErrorKind) → kind ≢ OutOfMemory
    → (kind ≡ OutOfMemory)
    ⊎ ((o ≡ None) ⊎ ((kind ≡ NestLimitExceeded) × IfSome o (λ (re, _). 250 < re.depth)))
    → within_bound o ≡ None
bound_missed o kind other (inl h) = absurd (other h)
bound_missed o kind other (inr (inl h)) = ap within_bound h
bound_missed None kind other (inr (inr h)) = refl
bound_missed (Some found) kind other (inr (inr h)) = rw (lt-leb _ _ h.1) refl

-- what a builder made of the text is the expression that it is
pub made_expression : (ci : Bool) (text : List ℕ) (b : RegexBuilder) (made : Regex)
    → IsBuilderOf ci text b → regex_source made ≡ builder_source b
    → regex_config made ≡ record (builder_config b) { utf8 = false }
    → IsReadFromSource made
    → IsExpression ci text made
unfolding Reads
made_expression ci text b made builder source config read_from =
    let names = names_of made.pattern.names.items in
    let hir = made.pattern.program.hir in
    let reads : Reads (config_of ci) text hir names =
    subst₂ (λ c t. Reads c t hir names)
    (config ∙ builder.config) (source ∙ builder.source) read_from in
    let found =
    bound_met (read (config_of ci) (chars text)) (regex_pattern made) names
    (group_count (regex_pattern made)) reads in
    record { pattern = found.0; is = found.1; same = found.2 }

-- a text that the library reads is an expression
pub pattern_expression : (ci : Bool) (text : List ℕ) (b : RegexBuilder)
    → IsBuilderOf ci text b
    → IsPattern (record (builder_config b) { utf8 = false }) (builder_source b)
    → IsSome (expression ci text)
unfolding Reads
pattern_expression ci text b builder (hir, names, h) =
    let reads : Reads (config_of ci) text hir names =
    subst₂ (λ c t. Reads c t hir names) builder.config builder.source h in
    let found = bound_met (read (config_of ci) (chars text)) _ names _ reads in
    ap is_some found.1

-- a text that the library refuses for another cause than memory is none
pub refused_expression : (ci : Bool) (text : List ℕ) (b : RegexBuilder) (kind : ErrorKind)
    → IsBuilderOf ci text b → kind ≢ OutOfMemory
    → Refuses (record (builder_config b) { utf8 = false }) (builder_source b) kind
    → expression ci text ≡ None
unfolding Refuses
refused_expression ci text b kind builder other h =
    let refuses : Refuses (config_of ci) text kind =
    subst₂ (λ c t. Refuses c t kind) builder.config builder.source h in
    bound_missed (read (config_of ci) (chars text)) kind other refuses
